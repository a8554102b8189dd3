-- Each attributes file follows the ones before it.
use Rattle.std.proofs.Common.{◌≡◌, [], ◌∷◌, map, refl, rules, subst}
use Rattle.std.specs.Prelude.{IsErr}
use Rattle.demo_volume.specs.Puts.{Makes, attributes, coarse_attributes, fine_attributes, setup_attributes}
use Rattle.demo_volume.proofs.MakesLemmas.{HasMade, made_ends, made_last, made_more}
use Rattle.demo_volume.proofs.make.put_attributes.Goals as goal

pub returns-in_err-put_text-clause-made : goal.returns-in_err-put_text-clause-made
returns-in_err-put_text-clause-made g c =
    let same : c.put_text.result ≡ c.from_residual.result = search rules in
    let err : IsErr c.put_text.result = search rules in
    subst (λ r. Makes attributes (map g.S.Store.contents c.args.stores.now.items) (map g.S.Store.contents c.put_text.new.stores.items) r) same
    (made_ends [] (fine_attributes ∷ coarse_attributes ∷ []) setup_attributes _ _ _ c.put_text.result refl c.put_text.ensures.tried err)

pub returns-in_err-put_text-2-clause-made : goal.returns-in_err-put_text-2-clause-made
returns-in_err-put_text-2-clause-made g c =
    let same : c.put_text-2.result ≡ c.from_residual-in_err-put_text-2.result = search rules in
    let err : IsErr c.put_text-2.result = search rules in
    let first : HasMade (setup_attributes ∷ []) (map g.S.Store.contents c.args.stores.now.items) (map g.S.Store.contents c.put_text.new.stores.items) = made_more [] setup_attributes _ _ _ _ refl c.in_ok-put_text.ensures.tried in
    subst (λ r. Makes attributes (map g.S.Store.contents c.args.stores.now.items) (map g.S.Store.contents c.put_text-2.new.stores.items) r) same
    (made_ends (setup_attributes ∷ []) (coarse_attributes ∷ []) fine_attributes _ _ _ c.put_text-2.result first c.put_text-2.ensures.tried err)

pub returns-clause-made : goal.returns-clause-made
returns-clause-made g c =
    let first : HasMade (setup_attributes ∷ []) (map g.S.Store.contents c.args.stores.now.items) (map g.S.Store.contents c.put_text.new.stores.items) = made_more [] setup_attributes _ _ _ _ refl c.in_ok-put_text.ensures.tried in
    let second : HasMade (setup_attributes ∷ fine_attributes ∷ []) (map g.S.Store.contents c.args.stores.now.items) (map g.S.Store.contents c.put_text-2.new.stores.items) = made_more (setup_attributes ∷ []) fine_attributes _ _ _ _ first c.in_ok-put_text-2.ensures.tried in
    made_last (setup_attributes ∷ fine_attributes ∷ []) coarse_attributes _ _ _ c.put_text-3.result second c.put_text-3.ensures.tried
