use Rattle.std.proofs.Common.{◌≡◌}
use Rattle.pin_words.specs.Cells.{Begun}
use Rattle.pin_rule.specs.Calls.{SamePass, Rests}
use Rattle.pin_rule.proofs.fill_steps.fill_frame.Given as goal

abbrev pub invariant-loop-i : goal.invariant-loop-i
invariant-loop-i g l = (l.seat.table_id ≡ l.fn.seat.table_id) × (l.seat.id ≡ l.fn.seat.id) × SamePass l.fn.seat.me.0 l.seat.me.0 × Rests l.seat.me l.words.key × Begun l.fn.seat.me.0 l.slot l.values l.i l.seat.me.0
