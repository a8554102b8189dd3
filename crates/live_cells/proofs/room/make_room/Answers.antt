use Rattle.std.proofs.Common.{refl, ◌∙◌}
use Rattle.pin_rule.specs.Calls.{plan_at}
use Rattle.pin_rule.proofs.Goings.{goes_on, goes_still}
use Rattle.live_cells.specs.Actors.{doing}
use Rattle.live_cells.proofs.Answering.{map_ok, map_if_err}
use Rattle.live_cells.proofs.Rooming.{room_since, kept_since}
use Rattle.live_cells.proofs.Turning.{hands_since}
use Rattle.live_cells.proofs.room.make_room.Goals as goal

pub loop-init : goal.loop-init
loop-init g c = record { actor = c.requires.actor; asks = c.requires.asks; step = record { number = refl; drawn = refl; ended = refl }; hands = c.requires.hands; pins = refl; went = goes_still (plan_at g.S.Store.contents c.args.pins.now) (doing c.args.actor.now) }

pub loop-preserved : goal.loop-preserved
loop-preserved g c = let i = c.loop.invariant in let s = c.try_room.ensures.step in record {
  actor = c.try_room.ensures.actor;
  asks = c.try_room.ensures.asks;
  step = record { number = s.number ∙ i.step.number; drawn = s.drawn ∙ i.step.drawn; ended = s.ended ∙ i.step.ended };
  hands = hands_since (doing c.args.actor.now) (doing c.loop.actor) i.hands.claims_are c.in_default.ensures.none.0;
  pins = c.try_room.ensures.pins ∙ i.pins;
  went = goes_on (plan_at g.S.Store.contents c.args.pins.now) (doing c.args.actor.now) (doing c.loop.actor) (doing c.try_room.new.actor) _ _ i.went c.in_default.ensures.none.1;
}

pub returns-in-Some-try_room-clause-made : goal.returns-in-Some-try_room-clause-made
returns-in-Some-try_room-clause-made g c = map_ok c.in-Some-try_room.room (λ h. room_since (plan_at g.S.Store.contents c.args.pins.now) (doing c.args.actor.now) (doing c.loop.actor) (doing c.try_room.new.actor) c.loop.invariant.went h) c.in-Some-try_room.ensures.made

pub returns-in-Some-try_room-clause-kept_out : goal.returns-in-Some-try_room-clause-kept_out
returns-in-Some-try_room-clause-kept_out g c = map_if_err c.in-Some-try_room.room (λ e h. (hands_since (doing c.args.actor.now) (doing c.loop.actor) c.loop.invariant.hands.claims_are h.0, kept_since (plan_at g.S.Store.contents c.args.pins.now) (doing c.args.actor.now) (doing c.loop.actor) (doing c.try_room.new.actor) e c.loop.invariant.went h.1)) c.in-Some-try_room.ensures.kept_out
