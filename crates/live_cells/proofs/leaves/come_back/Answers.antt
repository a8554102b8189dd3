use Rattle.std.proofs.Common.{◌<◌, ◌∙◌, ℕ, List, subst}
use Rattle.pin_words.specs.Account.{rise}
use Rattle.pin_rule.specs.Calls.{view, plan_at}
use Rattle.pin_rule.proofs.Goings.{goes_end}
use Rattle.live_cells.proofs.leaves.come_back.Goals as goal

pub give_lane-requires-clause-fits : goal.give_lane-requires-clause-fits
give_lane-requires-clause-fits g c = c.requires.home (view c.back.new.pass) c.back.ensures.done

pub returns-clause-back : goal.returns-clause-back
returns-clause-back g c = goes_end (plan_at g.S.Store.contents c.args.pins.now) (view c.args.pass.now) (view c.back.new.pass) (view c.give_lane.new.pass) _ c.back.ensures.back c.give_lane.ensures.went

pub returns-clause-raised : goal.returns-clause-raised
returns-clause-raised g c = λ o is rose. subst (λ (xs : List ℕ). Rattle.std.specs.Prelude.slice_index_or xs c.args.lane.lane 0 < rise c.args.lane.lane (view c.give_lane.new.pass)) c.back.ensures.rises (c.give_lane.ensures.raised o (c.back.ensures.hands.lane_is ∙ is) rose)
