use Rattle.std.proofs.Common.{refl, ap, [], ◌∷◌}
use Rattle.arr_history.specs.declared.event.Event.TheVariants.{Read}
use Rattle.pin_rule.specs.Calls.{view, plan_at}
use Rattle.pin_rule.specs.Going.{Goes}
use Rattle.pin_rule.proofs.Goings.{adds_goes}
use Rattle.live_cells.specs.Actors.{doing}
use Rattle.live_cells.proofs.Acting.{acts_uncounted}
use Rattle.live_cells.proofs.Handing.{free_still, still_in_step, still_joined}
use Rattle.live_cells.proofs.cells.Cells.read.Goals as goal

pub returns-clause-pass : goal.returns-clause-pass
returns-clause-pass g c = let q = c.requires.pass in let p = plan_at g.S.Store.contents c.args.self.now.pins in let d = doing c.args.pass.now.actor in let r = c.read.ensures.done in
    let went : Goes p d (Read d.number c.args.h.now.cell c.args.at c.read.result ∷ []) (view c.read.new.pass) = adds_goes p d _ (view c.read.new.pass) _ r (record { number = refl; ended = refl; drawn = refl; tries = ([], refl); rises = refl }) in record {
      actor = acts_uncounted p c.args.self.now.pins c.args.pass.now.actor _ _ q.actor c.read.ensures.pass went (record { hits = refl; misses = refl; loads = refl; evictions = refl; writebacks = refl }) refl;
      joined = still_joined p c.args.pass.now.asks c.args.pass.now.asks d (view c.read.new.pass) _ went c.args.pass.now.joined q.joined;
      free = free_still d (view c.read.new.pass) (ap (λ x. x.claims) r.is) (ap (λ x. x.slots) r.is) (ap (λ x. x.leaving) r.is) (ap (λ x. x.lane) r.is) q.free;
      frame = q.frame;
      block = q.block;
      asks = q.asks;
      step = still_in_step p c.args.pass.now.asks c.args.pass.now.asks d (view c.read.new.pass) _ went (record { number = refl; drawn = refl; ended = refl }) q.step;
    }
