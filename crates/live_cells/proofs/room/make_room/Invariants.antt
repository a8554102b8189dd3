use Rattle.std.proofs.Common.{◌≡◌, [], None}
use Rattle.turn_cell.specs.Turn.{IsPassOf}
use Rattle.pin_rule.specs.Calls.{plan_at}
use Rattle.pin_rule.specs.Going.{Goes}
use Rattle.pin_rule.specs.Hands.{Hands}
use Rattle.live_cells.specs.Actors.{doing, IsActorOf}
use Rattle.live_cells.specs.Steps.{StaysInStep}
use Rattle.live_cells.proofs.room.make_room.Given as goal

abbrev pub invariant-loop : goal.invariant-loop
invariant-loop g l = record {
  actor : IsActorOf l.pins l.actor;
  asks : IsPassOf l.turn l.asks;
  step : StaysInStep l.fn.asks l.asks;
  hands : Hands (doing l.fn.actor).claims [] [] None (doing l.actor);
  pins : (doing l.actor).pins ≡ (doing l.fn.actor).pins;
  went : Goes (plan_at g.S.Store.contents l.pins) (doing l.fn.actor) [] (doing l.actor);
}
