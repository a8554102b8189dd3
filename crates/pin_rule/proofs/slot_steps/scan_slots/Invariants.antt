use Rattle.std.proofs.Common.{◌≡◌, Some}
use Rattle.pin_words.specs.Cells.{HasScanned}
use Rattle.pin_rule.specs.Plans.{plan_of}
use Rattle.pin_rule.specs.Calls.{SamePass, Rests}
use Rattle.pin_rule.proofs.slot_steps.scan_slots.Given as goal

abbrev pub invariant-loop-slot : goal.invariant-loop-slot
invariant-loop-slot g l = (l.seat.table_id ≡ l.fn.seat.table_id) × (l.seat.id ≡ l.fn.seat.id) × SamePass l.fn.seat.me.0 l.seat.me.0 × Rests l.seat.me l.words.key
    × HasScanned (plan_of g.S.Store.contents (Some l.words.key)) l.fn.seat.me.0 l.slot l.seat.me.0
