use Rattle.std.proofs.Common.{rules, sym, refl, ◌∙◌, Option, Some, subst}
use Rattle.pin_rule.specs.Plans.{plan_of}
use Rattle.pin_rule.proofs.Resting.{made_plan, rests_as, number_as}
use Rattle.std.proofs.Common.{◌<◌}
use Rattle.pin_words.specs.Layout.{frame_at}
use Rattle.pin_rule.proofs.Fills.{stores_as}
use Rattle.pin_rule.proofs.fill_steps.store_number.Goals as goal

pub store-requires : goal.store-requires
store-requires g c = let plan = plan_of g.S.Store.contents in let p = plan (Some c.args.words.now.key) in (search rules, search rules, stores_as p plan refl (made_plan g.S.Store.contents c.args.words.now.key c.requires.made) _ _ c.args.seat.now.me c.args.slot c.args.at c.args.value c.args.word c.requires.rests.0 c.requires.rests.1 c.requires.held.0 c.requires.held.1 c.requires.place.1 c.requires.place.0)

pub returns-clause-seat : goal.returns-clause-seat
returns-clause-seat g c = (search rules, search rules, number_as c.args.seat.now.me.0 c.store.new.seat.me.0 _ (c.store.ensures.2 c.args.slot c.args.at (subst (λ (m : Option _). c.args.at < (plan_of g.S.Store.contents m).frame) (sym c.requires.rests.0) c.requires.place.1) (c.requires.place.0 ∙ (λ i. frame_at (plan_of g.S.Store.contents (sym c.requires.rests.0 i)) c.args.slot c.args.at))).1 refl)

pub returns-clause-rests : goal.returns-clause-rests
returns-clause-rests g c = rests_as c.args.seat.now.me c.store.new.seat.me c.args.words.now.key _ c.requires.rests (c.store.ensures.2 c.args.slot c.args.at (subst (λ (m : Option _). c.args.at < (plan_of g.S.Store.contents m).frame) (sym c.requires.rests.0) c.requires.place.1) (c.requires.place.0 ∙ (λ i. frame_at (plan_of g.S.Store.contents (sym c.requires.rests.0 i)) c.args.slot c.args.at))).0 (c.store.ensures.2 c.args.slot c.args.at (subst (λ (m : Option _). c.args.at < (plan_of g.S.Store.contents m).frame) (sym c.requires.rests.0) c.requires.place.1) (c.requires.place.0 ∙ (λ i. frame_at (plan_of g.S.Store.contents (sym c.requires.rests.0 i)) c.args.slot c.args.at))).1 refl refl refl

pub returns-clause-done : goal.returns-clause-done
returns-clause-done g c = (c.store.ensures.2 c.args.slot c.args.at (subst (λ (m : Option _). c.args.at < (plan_of g.S.Store.contents m).frame) (sym c.requires.rests.0) c.requires.place.1) (c.requires.place.0 ∙ (λ i. frame_at (plan_of g.S.Store.contents (sym c.requires.rests.0 i)) c.args.slot c.args.at))).1
