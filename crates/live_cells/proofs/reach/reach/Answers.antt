use Rattle.std.proofs.Common.{refl, ◌∙◌, suc, [], ◌∷◌}
use Rattle.arr_history.specs.declared.event.Event.TheVariants.{Pin, Miss, Claim}
use Rattle.pin_rule.specs.Calls.{plan_at}
use Rattle.live_cells.specs.Actors.{doing}
use Rattle.live_cells.proofs.Answering.{map_ok, map_err}
use Rattle.pin_rule.proofs.Goings.{goes_still, goes_by}
use Rattle.live_cells.proofs.Goings.{goes_as}
use Rattle.live_cells.proofs.Missing.{missed_more, missed_once}
use Rattle.live_cells.proofs.reach.reach.Goals as goal

pub loop-init : goal.loop-init
loop-init g c = record { actor = c.requires.actor; free = c.requires.free; pins = refl; went = (0, goes_still (plan_at g.S.Store.contents c.args.pins.now) (doing c.args.actor.now)) }

pub returns-in-Some-try_reach-clause-hit : goal.returns-in-Some-try_reach-clause-hit
returns-in-Some-try_reach-clause-hit g c = let i = c.loop.invariant in map_ok c.in-Some-try_reach.reached (λ h. (h.0, (i.went.0, goes_by (plan_at g.S.Store.contents c.args.pins.now) (λ k. Pin k c.args.cell ∷ []) (doing c.args.actor.now) (doing c.loop.actor) (doing c.try_reach.new.actor) _ i.went.1 h.1))) c.in-Some-try_reach.ensures.hit

pub returns-in-Some-try_reach-clause-took : goal.returns-in-Some-try_reach-clause-took
returns-in-Some-try_reach-clause-took g c = let i = c.loop.invariant in let p = plan_at g.S.Store.contents c.args.pins.now in map_err c.in-Some-try_reach.reached
    (λ h. (
      i.went.0,
      goes_as p (doing c.args.actor.now) (doing c.try_reach.new.actor) _ _ (missed_more (doing c.args.actor.now).number c.args.cell i.went.0 (Claim (doing c.args.actor.now).number c.args.cell ∷ []))
          (goes_by p (λ k. Miss k c.args.cell ∷ Claim k c.args.cell ∷ []) (doing c.args.actor.now) (doing c.loop.actor) (doing c.try_reach.new.actor) _ i.went.1 h),
    )) c.in-Some-try_reach.ensures.took

pub loop-preserved : goal.loop-preserved
loop-preserved g c = let i = c.loop.invariant in let p = plan_at g.S.Store.contents c.args.pins.now in let m = c.in_default.ensures.missed in record {
  actor = c.try_reach.ensures.actor;
  free = m.0;
  pins = m.1 ∙ i.pins;
  went = (
    suc i.went.0,
    goes_as p (doing c.args.actor.now) (doing c.try_reach.new.actor) _ _ (missed_once (doing c.args.actor.now).number c.args.cell i.went.0)
        (goes_by p (λ k. Miss k c.args.cell ∷ []) (doing c.args.actor.now) (doing c.loop.actor) (doing c.try_reach.new.actor) _ i.went.1 m.2),
  );
}
