use Rattle.std.proofs.Common.{ℕ, ◌<◌, sym, subst}
use Rattle.cell_store.specs.Faults.{Rose}
use Rattle.pin_words.specs.declared.lane.Taken.{Taken}
use Rattle.pin_words.specs.Account.{rise}
use Rattle.pin_rule.specs.Calls.{view, plan_at}
use Rattle.live_cells.proofs.Laning.{gives_goes, gives_raised, lane_inside, same_taken}
use Rattle.live_cells.proofs.lanes.give_lane.Goals as goal

pub returns-clause-went : goal.returns-clause-went
returns-clause-went g c = let k = c.give_lane.ensures.done in gives_goes (plan_at g.S.Store.contents c.args.pins.now) (view c.args.pass.now) _ k.0 c.args.lane.store (lane_inside _ _ _ _ k.2 c.requires.pass.3 c.requires.lane) k.3

pub returns-clause-raised : goal.returns-clause-raised
returns-clause-raised g c = λ o is rose. let k = c.give_lane.ensures.done in
    subst (λ (l : ℕ). rise l (view c.args.pass.now) < rise l (view c.give_lane.new.pass)) (sym k.2)
    (gives_raised (plan_at g.S.Store.contents c.args.pins.now) (view c.args.pass.now) (view c.give_lane.new.pass) k.0 c.args.lane.store (lane_inside _ _ _ _ k.2 c.requires.pass.3 c.requires.lane) k.3
    (subst (λ (q : Taken _). Rose (g.S.Store.contents q.store).faults (g.S.Store.contents c.args.lane.store).faults) (same_taken o k.0 (view c.args.pass.now).lane is k.1) rose))
