use Rattle.std.proofs.Common.{sym, subst}
use Rattle.pin_rule.specs.Parts.{OwnLane}
use Rattle.pin_rule.specs.Calls.{view, plan_at, MayReturn, IsReturned}
use Rattle.pin_rule.proofs.pins.Pins.give_lane.Goals as goal

pub put_lane-requires-clause-rule : goal.put_lane-requires-clause-rule
put_lane-requires-clause-rule g c = subst (λ (l : OwnLane _). MayReturn (plan_at g.S.Store.contents c.args.self.now) (view c.args.pass.now) l) (sym c.lane.view_is) c.requires.fits

pub returns-clause-done : goal.returns-clause-done
returns-clause-done g c = subst (λ (l : OwnLane _). IsReturned (plan_at g.S.Store.contents c.args.self.now) (view c.args.pass.now) l c.put_lane.new.seat.me.0) c.lane.view_is c.put_lane.ensures.given
