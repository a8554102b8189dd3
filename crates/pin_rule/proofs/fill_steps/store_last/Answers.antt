use Rattle.std.proofs.Common.{rules, ap, sym, refl, ◌∙◌, ℕ, Option, Some, subst}
use mathlib.Core.Option.{none}
use Rattle.atomic_table.specs.Table.{step, Allows}
use Rattle.pin_words.specs.Rule.{Ruled}
use Rattle.pin_words.specs.Cells as cells
use Rattle.pin_rule.specs.Plans.{plan_of}
use Rattle.pin_rule.proofs.Resting.{made_plan, rests_as, number_as}
use Rattle.std.proofs.Common.{take, ◌<◌}
use Rattle.pin_words.specs.Layout.{frame_at}
use Rattle.pin_words.specs.Finding.{held_of}
use Rattle.pin_words.specs.Cells.{Begun, IsDue}
use Rattle.pin_rule.specs.Calls.{carried}
use Rattle.pin_rule.proofs.Fills.{fills_as}
use Rattle.pin_rule.proofs.fill_steps.store_last.Goals as goal

pub store-requires : goal.store-requires
store-requires g c = let plan = plan_of g.S.Store.contents in let p = plan (Some c.args.words.now.key) in let k = c.requires.lane in (
  search rules,
  search rules,
  subst (λ (b : ℕ). Allows (Ruled p) c.args.words.now.table_id.slots c.args.seat.now.id c.args.seat.now.me c.args.word (λ _. c.args.value) (λ _. cells.fills plan b (step c.args.words.now.table_id.slots c.args.word c.args.value 0 none) c.args.seat.now.me c.args.value)) (sym c.requires.picked)
      (fills_as p plan refl (made_plan g.S.Store.contents c.args.words.now.key c.requires.made) _ _ c.args.seat.now.me c.args.cell c.args.slot c.args.at c.args.value c.args.word k.0 c.requires.rests.0 c.requires.rests.1 c.requires.claim c.requires.held.0 c.requires.held.1 c.requires.place.1 c.requires.place.0 c.requires.place.2 c.requires.held.2 k.1 k.2 c.requires.fits k.3),
)

pub returns-clause-seat : goal.returns-clause-seat
returns-clause-seat g c = let k = c.requires.lane in (search rules, search rules, number_as c.args.seat.now.me.0 c.store.new.seat.me.0 _ (c.store.ensures.2 c.args.slot c.args.at k.0 (subst (λ (m : Option _). c.args.at < (plan_of g.S.Store.contents m).frame) (sym c.requires.rests.0) c.requires.place.1) (c.requires.place.0 ∙ (λ i. frame_at (plan_of g.S.Store.contents (sym c.requires.rests.0 i)) c.args.slot c.args.at)) k.1).1 refl)

pub returns-clause-rests : goal.returns-clause-rests
returns-clause-rests g c = let k = c.requires.lane in rests_as c.args.seat.now.me c.store.new.seat.me c.args.words.now.key _ c.requires.rests (c.store.ensures.2 c.args.slot c.args.at k.0 (subst (λ (m : Option _). c.args.at < (plan_of g.S.Store.contents m).frame) (sym c.requires.rests.0) c.requires.place.1) (c.requires.place.0 ∙ (λ i. frame_at (plan_of g.S.Store.contents (sym c.requires.rests.0 i)) c.args.slot c.args.at)) k.1).0 (c.store.ensures.2 c.args.slot c.args.at k.0 (subst (λ (m : Option _). c.args.at < (plan_of g.S.Store.contents m).frame) (sym c.requires.rests.0) c.requires.place.1) (c.requires.place.0 ∙ (λ i. frame_at (plan_of g.S.Store.contents (sym c.requires.rests.0 i)) c.args.slot c.args.at)) k.1).1 refl refl (ap carried (sym k.1))

pub returns-clause-done : goal.returns-clause-done
returns-clause-done g c = let k = c.requires.lane in (k.0, k.1, subst (λ (b : ℕ). cells.Fills c.args.seat.now.me.0 b c.args.slot (take c.args.at (held_of c.args.slot c.args.seat.now.me.0).words) c.args.value k.0 c.store.new.seat.me.0) c.requires.picked (c.store.ensures.2 c.args.slot c.args.at k.0 (subst (λ (m : Option _). c.args.at < (plan_of g.S.Store.contents m).frame) (sym c.requires.rests.0) c.requires.place.1) (c.requires.place.0 ∙ (λ i. frame_at (plan_of g.S.Store.contents (sym c.requires.rests.0 i)) c.args.slot c.args.at)) k.1).1)
