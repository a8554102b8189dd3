use Rattle.std.proofs.Common.{◌≡◌}
use Rattle.pin_rule.specs.Calls.{view, IsPassOf}
use Rattle.pin_rule.specs.Trying.{SameRoster, HasLane}
use Rattle.pin_time.specs.Timed.{IsFilling}
use Rattle.pin_time.proofs.Shown.{shown}
use Rattle.pin_time.proofs.fills.fills_done.Given as goal

abbrev pub invariant-loop-round : goal.invariant-loop-round
invariant-loop-round l = IsPassOf l.pins l.pass × SameRoster (view l.fn.pass) (view l.pass)
    × (l.slot.slot ≡ l.fn.slot.slot) × IsFilling l.claim.cell l.fn.slot.slot l.slot.filled (view l.pass) × HasLane shown l.claim.cell l.lane (view l.pass)
