use Rattle.std.proofs.Common.{refl, ap, ◌∙◌, [], ◌∷◌}
use Rattle.arr_history.specs.declared.event.Event.TheVariants.{Mark, Write}
use Rattle.pin_rule.specs.Calls.{view, plan_at}
use Rattle.pin_rule.specs.Going.{Goes}
use Rattle.pin_rule.proofs.Goings.{adds_goes, goes_by}
use Rattle.live_cells.specs.Actors.{doing}
use Rattle.live_cells.proofs.Acting.{acts_uncounted}
use Rattle.live_cells.proofs.Handing.{free_still, still_in_step, still_joined}
use Rattle.live_cells.proofs.cells.Cells.write.Goals as goal

pub returns-clause-pass : goal.returns-clause-pass
returns-clause-pass g c = let q = c.requires.pass in let p = plan_at g.S.Store.contents c.args.self.now.pins in let d = doing c.args.pass.now.actor in let m = c.mark.ensures.done in let w = c.write.ensures.done in
    let went : Goes p d (Mark d.number c.args.h.now.cell ∷ Write d.number c.mark.new.h.cell c.args.at c.args.value ∷ []) (view c.write.new.pass) =
    goes_by p (λ k. Write k c.mark.new.h.cell c.args.at c.args.value ∷ []) d (view c.mark.new.pass) (view c.write.new.pass) _
    (adds_goes p d _ (view c.mark.new.pass) _ m (record { number = refl; ended = refl; drawn = refl; tries = ([], refl); rises = refl }))
    (adds_goes p (view c.mark.new.pass) _ (view c.write.new.pass) _ w (record { number = refl; ended = refl; drawn = refl; tries = ([], refl); rises = refl })) in record {
      actor = acts_uncounted p c.args.self.now.pins c.args.pass.now.actor _ _ q.actor c.write.ensures.pass went (record { hits = refl; misses = refl; loads = refl; evictions = refl; writebacks = refl }) refl;
      joined = still_joined p c.args.pass.now.asks c.args.pass.now.asks d (view c.write.new.pass) _ went c.args.pass.now.joined q.joined;
      free = free_still d (view c.write.new.pass) (ap (λ x. x.claims) w.is ∙ ap (λ x. x.claims) m.is) (ap (λ x. x.slots) w.is ∙ ap (λ x. x.slots) m.is) (ap (λ x. x.leaving) w.is ∙ ap (λ x. x.leaving) m.is) (ap (λ x. x.lane) w.is ∙ ap (λ x. x.lane) m.is) q.free;
      frame = q.frame;
      block = q.block;
      asks = q.asks;
      step = still_in_step p c.args.pass.now.asks c.args.pass.now.asks d (view c.write.new.pass) _ went (record { number = refl; drawn = refl; ended = refl }) q.step;
    }
