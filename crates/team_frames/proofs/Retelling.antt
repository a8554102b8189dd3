-- What eyes did, told of the two passes that they looked by.
use Rattle.std.proofs.Common.{◌≡◌, subst}

-- a fact of cells, a viewer and two passes, each of which is another's
pub moved : {A B C D : Type 0} (P : A → B → C → D → Type 0) {a a' : A} {b b' : B} {c c' : C} {d d' : D} → a ≡ a' → b ≡ b' → c ≡ c' → d ≡ d' → P a b c d → P a' b' c' d'
moved P {a' = a'} {b} {b' = b'} {c} {c' = c'} {d} p q r s h = subst (P a' b' c') s (subst (λ x. P a' b' x d) r (subst (λ x. P a' x c d) q (subst (λ x. P x b c d) p h)))
