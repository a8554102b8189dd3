use Rattle.std.proofs.Common.{◌≡◌, [], None}
use Rattle.pin_rule.specs.Calls.{IsPassOf, view, plan_at}
use Rattle.pin_rule.specs.Going.{Goes}
use Rattle.pin_rule.specs.Hands.{Hands}
use Rattle.live_cells.proofs.lanes.take_lane.Given as goal

abbrev pub invariant-loop : goal.invariant-loop
invariant-loop g l = record {
  pass : IsPassOf l.pins l.pass;
  hands : Hands (view l.fn.pass).claims (view l.fn.pass).slots (view l.fn.pass).leaving None (view l.pass);
  pins : (view l.pass).pins ≡ (view l.fn.pass).pins;
  went : Goes (plan_at g.S.Store.contents l.pins) (view l.fn.pass) [] (view l.pass);
}
