-- A relation of two lists, place by place.
use Rattle.std.proofs.Common.{◌≡◌, ℕ, ◌<◌, suc, List, [], ◌∷◌, length, get_or, subst, refl, arith}
use Rattle.std.specs.List.{AllZip}

pub zip_by_place : {A : Type 0} (R : A → A → Type 0) (xs ys : List A) → length ys ≡ length xs → ((i : ℕ) (d : A) → i < length xs → R (get_or xs i d) (get_or ys i d)) → AllZip R xs ys
zip_by_place {A} R [] [] len each = tt
zip_by_place {A} R [] (y ∷ ys) len each = absurd (let z : length {A = A} [] ≡ 0 = refl in omega arith)
zip_by_place {A} R (x ∷ xs) [] len each = absurd (let z : length {A = A} [] ≡ 0 = refl in omega arith)
zip_by_place {A} R (x ∷ xs) (y ∷ ys) len each = (each 0 x (omega arith), zip_by_place R xs ys (omega arith) (λ i d h. each (suc i) d (omega arith)))

-- a relation of the same
pub along : {A : Type 0} (R : A → A → Type 0) (a b x y : A) → a ≡ x → b ≡ y → R a b → R x y
along R a b x y e f h = subst (λ v. R x v) f (subst (λ u. R u b) e h)
