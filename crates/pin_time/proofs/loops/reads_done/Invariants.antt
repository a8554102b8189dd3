use Rattle.std.proofs.Common.{◌≡◌, ◌<◌, false, None}
use Rattle.pin_rule.specs.Calls.{view, IsPassOf}
use Rattle.pin_rule.specs.Trying.{SameRoster, IsUsing}
use Rattle.pin_time.proofs.loops.reads_done.Given as goal

abbrev pub invariant-loop-round : goal.invariant-loop-round
invariant-loop-round l = IsPassOf l.pins l.pass × SameRoster (view l.fn.pass) (view l.pass)
    × (l.handle.cell ≡ l.cell) × (l.handle.slot < 2) × (l.handle.marked ≡ false) × IsUsing l.handle.cell l.handle.slot false (view l.pass) × ((view l.pass).lane ≡ None)
