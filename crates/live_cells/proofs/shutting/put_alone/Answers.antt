use Rattle.std.proofs.Common.{◌∙◌, [], ◌∷◌, ap, subst}
use Rattle.arr_history.specs.declared.event.Event.TheVariants.{Gone, Back}
use Rattle.pin_words.specs.declared.doing.Doing.{Doing}
use Rattle.pin_rule.specs.Calls.{view, plan_at}
use Rattle.pin_rule.specs.Going.{Goes}
use Rattle.pin_rule.proofs.Goings.{goes_by}
use Rattle.live_cells.proofs.Answering.{map_ok, map_err}
use Rattle.live_cells.proofs.Laning.{took_hands}
use Rattle.live_cells.proofs.Turning.{claims_as}
use Rattle.live_cells.proofs.shutting.put_alone.Goals as goal

pub returns-clause-gone : goal.returns-clause-gone
returns-clause-gone g c = let p = plan_at g.S.Store.contents c.args.pins.now in let t = took_hands _ _ _ _ _ _ _ c.in-Ok.ensures.took in map_ok c.put_out.result
    (λ h. (
      claims_as (view c.try_lane.new.pass) [] (t.claims_are ∙ (ap (λ (d : Doing _ _). d.claims) c.copy_frame.ensures.same ∙ c.requires.hands.claims_are)) h.0,
      goes_by p (λ k. Gone k c.args.leaving.cell c.args.leaving.marked ∷ []) (view c.args.pass.now) (view c.try_lane.new.pass) (view c.put_out.new.pass) _ (subst (λ (d : Doing _ _). Goes p d [] (view c.try_lane.new.pass)) c.copy_frame.ensures.same c.try_lane.ensures.went) h.1,
    )) c.put_out.ensures.gone

pub returns-clause-back : goal.returns-clause-back
returns-clause-back g c = let p = plan_at g.S.Store.contents c.args.pins.now in let t = took_hands _ _ _ _ _ _ _ c.in-Ok.ensures.took in map_err c.put_out.result
    (λ h. (
      claims_as (view c.try_lane.new.pass) [] (t.claims_are ∙ (ap (λ (d : Doing _ _). d.claims) c.copy_frame.ensures.same ∙ c.requires.hands.claims_are)) h.0,
      goes_by p (λ k. Back k c.args.leaving.cell ∷ []) (view c.args.pass.now) (view c.try_lane.new.pass) (view c.put_out.new.pass) _ (subst (λ (d : Doing _ _). Goes p d [] (view c.try_lane.new.pass)) c.copy_frame.ensures.same c.try_lane.ensures.went) h.1,
    )) c.put_out.ensures.back
