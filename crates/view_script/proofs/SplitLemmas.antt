-- What a list is where it is split at bytes that pass a test.
use Rattle.std.proofs.Common.{◌≡◌, ℕ, suc, ◌+◌, ◌≤◌, List, [], ◌∷◌, Bool, true, false, cond, not, length, refl, arith}
use Rattle.std.specs.List.{slice_split, position_or_len, onto_first}
use Rattle.std.proofs.lemmas.Grind.{common_steps}
use Rattle.std.proofs.lemmas.List.Sums.{prefix_len-le-length}
use Rattle.view_script.specs.Lines.{first_place}

-- the first place is that before which no byte passes
pub first_place-is : (p : ℕ → Bool) (xs : List ℕ) → first_place p xs ≡ position_or_len p xs
first_place-is p xs = let within : position_or_len p xs ≤ length xs = prefix_len-le-length (λ x. not (p x)) xs in
    grind (arith, common_steps)

-- a split has a first part
pub first_part : {X : Type 0} (p : X → Bool) (xs : List X) → (first : List X) × (parts : List (List X)) × (slice_split p xs ≡ first ∷ parts)
first_part p [] = ([], [], refl)
first_part {X} p (x ∷ xs) =
    elim (p x) as (λ passes. (first : List X) × (parts : List (List X)) × (cond passes ([] ∷ slice_split p xs) (onto_first x (slice_split p xs)) ≡ first ∷ parts)) [
      | true ↦ ([], slice_split p xs, refl)
      | false ↦ elim (slice_split p xs) as (λ all. (first : List X) × (parts : List (List X)) × (onto_first x all ≡ first ∷ parts)) [ [] ↦ (x ∷ [], [], refl) | part ∷ parts ↦ (x ∷ part, parts, refl) ]
    ]

-- a list in which nothing passes is its only part
pub only_part : {X : Type 0} (p : X → Bool) (xs : List X) → length xs ≤ position_or_len p xs → slice_split p xs ≡ xs ∷ []
only_part p [] h = refl
only_part p (x ∷ xs) h =
    (elim (p x) as (λ passes. suc (length xs) ≤ cond (not passes) (1 + position_or_len p xs) 0 → cond passes ([] ∷ slice_split p xs) (onto_first x (slice_split p xs)) ≡ (x ∷ xs) ∷ []) [
      | true ↦ λ h. absurd (omega arith)
      | false ↦ λ h. rw (only_part p xs (omega arith)) refl
    ]) h
