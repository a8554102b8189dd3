use Rattle.std.proofs.Common.{rules, refl, ◌∙◌}
use Rattle.pin_rule.specs.Calls.{view, plan_at}
use Rattle.pin_rule.proofs.Goings.{goes_still, goes_on}
use Rattle.live_cells.proofs.lanes.take_lane.Goals as goal

pub loop-init : goal.loop-init
loop-init g c = record { pass = c.requires.pass; hands = record { claims_are = refl; slots_are = refl; leaving_are = refl; lane_is = c.requires.bare }; pins = refl; went = goes_still (plan_at g.S.Store.contents c.args.pins.now) (view c.args.pass.now) }

pub returns-in-Ok-clause-went : goal.returns-in-Ok-clause-went
returns-in-Ok-clause-went g c = goes_on (plan_at g.S.Store.contents c.args.pins.now) (view c.args.pass.now) (view c.loop.pass) (view c.try_lane.new.pass) _ _ c.loop.invariant.went c.try_lane.ensures.went

pub loop-preserved : goal.loop-preserved
loop-preserved g c = let i = c.loop.invariant in record {
  pass = c.try_lane.ensures.pass;
  hands = search rules;
  pins = c.try_lane.ensures.pins ∙ i.pins;
  went = goes_on (plan_at g.S.Store.contents c.args.pins.now) (view c.args.pass.now) (view c.loop.pass) (view c.try_lane.new.pass) _ _ i.went c.try_lane.ensures.went;
}
