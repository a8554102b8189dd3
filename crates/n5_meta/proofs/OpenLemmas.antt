-- Openings of a pyramid over stores that hold the same are alike.
use Rattle.std.proofs.Common.{◌≡◌, ℕ, ◌+◌, List, [], ◌∷◌, Ok, Err, refl, sym, subst}
use Rattle.cell_store.specs.Store.{Contents}
use Rattle.cell_store.specs.declared.store.Got.TheVariants as got
use Rattle.n5_meta.specs.declared.open_err.OpenErr.TheVariants as refused
use Rattle.n5_meta.specs.Asks.{AsksLevels, AsksNothing, AsksOnce, AsksPyramid, AsksThen, attr_by, pyramid_of, setup_by}
use Rattle.n5_meta.specs.Laws.{HoldAsOne, OpeningsAreAlike}
use Rattle.n5_meta.specs.Pyramid.{level_key, setup_key}
use Rattle.n5_meta.proofs.AlikeLemmas.{IsDecided, nothing_decided, once_decided, then_decided}

setup_wants : (found : List ℕ) → setup_by got.NoMemory found ≡ Err refused.Memory
unfolding setup_by
setup_wants found = refl

attr_wants : (level : ℕ) (found : List ℕ) → attr_by level got.NoMemory found ≡ Err refused.Memory
unfolding attr_by
attr_wants level found = refl

levels_decided : (root : List ℕ) (level : ℕ) (factors : List (List ℕ)) → IsDecided (AsksLevels root level factors)
levels_decided root level [] = nothing_decided (Ok [])
levels_decided root level (factor ∷ factors) =
    then_decided (AsksOnce (level_key root level) (attr_by level)) (λ attr. AsksThen (AsksLevels root (level + 1) factors) (λ others. AsksNothing (Ok (record { factor = factor; attr = attr } ∷ others))))
    (once_decided (level_key root level) (attr_by level) (attr_wants level))
    (λ attr. then_decided (AsksLevels root (level + 1) factors) (λ others. AsksNothing (Ok (record { factor = factor; attr = attr } ∷ others)))
    (levels_decided root (level + 1) factors) (λ others. nothing_decided (Ok (record { factor = factor; attr = attr } ∷ others))))

pyramid_decided : (root : List ℕ) → IsDecided (AsksPyramid root)
pyramid_decided root =
    then_decided (AsksOnce (setup_key root) setup_by) (λ factors. AsksThen (AsksLevels root 0 factors) (λ described. AsksNothing (pyramid_of described)))
    (once_decided (setup_key root) setup_by setup_wants)
    (λ factors. then_decided (AsksLevels root 0 factors) (λ described. AsksNothing (pyramid_of described)) (levels_decided root 0 factors) (λ described. nothing_decided (pyramid_of described)))

pub openings_alike : OpeningsAreAlike
openings_alike root a b c d k l m n r s held one other asked asked' wants wants' fail =
    let same = (pyramid_decided root).alike a b (c ∷ []) (d ∷ []) k l m n r s held one other asked asked' wants wants' fail in
    let left : same.a ≡ c = heads same.a c (sym same.left_is) in
    let right : same.b ≡ d = heads same.b d (sym same.right_is) in
    (same.answer, same.calls, same.rest, subst (λ (x : Contents). HoldAsOne x d) left (subst (λ (y : Contents). HoldAsOne same.a y) right same.held))
  where
    heads : (x y : Contents) → x ∷ [] ≡ y ∷ [] → x ≡ y
    heads x y e = cc
