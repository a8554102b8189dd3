use Rattle.std.proofs.Common.{◌≡◌, ℕ, [], None}
use Rattle.pin_rule.specs.Calls.{plan_at}
use Rattle.pin_rule.specs.Going.{Goes}
use Rattle.pin_rule.specs.Hands.{Hands}
use Rattle.live_cells.specs.Actors.{doing, IsActorOf}
use Rattle.call_events.specs.Pieces.{misses}
use Rattle.live_cells.proofs.reach.reach.Given as goal

abbrev pub invariant-loop : goal.invariant-loop
invariant-loop g l = record {
  actor : IsActorOf l.pins l.actor;
  free : Hands [] [] [] None (doing l.actor);
  pins : (doing l.actor).pins ≡ (doing l.fn.actor).pins;
  went : (n : ℕ) × Goes (plan_at g.S.Store.contents l.pins) (doing l.fn.actor) (misses (doing l.fn.actor).number l.cell n) (doing l.actor);
}
