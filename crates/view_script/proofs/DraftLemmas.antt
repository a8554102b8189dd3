-- A change of the last element, and text as a test.
use Rattle.std.proofs.Common.{◌≡◌, ℕ, suc, ◌-◌, Bool, true, false, List, [], ◌∷◌, Some, length, slice_set, slice_get, refl, ap, sym, arith}
use Rattle.std.specs.Str.{IsUtf8, is_utf8}
use Rattle.std.proofs.lemmas.Str.{IsUtf8-from_is_utf8, is_utf8-from_IsUtf8}
use Rattle.view_script.specs.Meaning.{at_last}

pub text_passes : (bytes : List ℕ) → IsUtf8 bytes → true ≡ is_utf8 bytes
text_passes bytes text = sym (is_utf8-from_IsUtf8 bytes text)

pub no_text_fails : (bytes : List ℕ) → ¬ (IsUtf8 bytes) → false ≡ is_utf8 bytes
no_text_fails bytes other = go (is_utf8 bytes) refl
  where
    go : (text : Bool) → is_utf8 bytes ≡ text → false ≡ text
    go false e = refl
    go true e = absurd (other (IsUtf8-from_is_utf8 bytes e))

-- the last element is set to what the change makes of it
pub set_last : {X : Type 0} (change : X → X) (xs : List X) (x y : X) → slice_get xs (length xs - 1) ≡ Some x → y ≡ change x
    → slice_set xs (length xs - 1) y ≡ at_last change xs
set_last change [] x y is made = absurd (cc)
set_last change (a ∷ []) x y is made = let same : a ≡ x = cc in let changed : y ≡ change a = rw same made in ap (λ last. last ∷ []) changed
set_last change (a ∷ b ∷ xs) x y is made =
    let longer : suc (suc (length xs)) - 1 ≡ suc (length xs) = omega arith in
    let shorter : suc (length xs) - 1 ≡ length xs = omega arith in
    let there : slice_get (b ∷ xs) (length xs) ≡ Some x = rw longer at is in
    rw longer (ap (λ rest. a ∷ rest) (rw shorter at (set_last change (b ∷ xs) x y (rw shorter there) made)))

-- nothing is changed where there is no element
pub change_none : {X : Type 0} (change : X → X) (xs : List X) → length xs ≡ 0 → xs ≡ at_last change xs
change_none change [] none = refl
change_none change (x ∷ xs) none = absurd (omega arith)
