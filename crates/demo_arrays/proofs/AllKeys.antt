-- All keys of the demonstration: none begins as an edited key does, and equal ones have equal bytes.
use Rattle.std.proofs.Common.{◌≡◌, ◌∙◌, ℕ, ◌<◌, ◌≤◌, List, [], ◌∷◌, ◌++◌, slice_index, codes, refl, sym, ap, subst, arith}
use Rattle.std.specs.Prelude.{All}
use Rattle.std.proofs.lemmas.List.Elements.{All-append, All-cons, All-nil}
use Rattle.demo_volume.specs.Below.{each_below}
use Rattle.demo_volume.specs.Puts.{MadeKey, attributes, cell_key, cell_keys, coarse_attributes, fine_attributes, keys_of, setup_attributes}
use Rattle.demo_volume.specs.Voxels.{fine, means}
use Rattle.demo_arrays.proofs.ListLemmas.{each_length, each_place}
use Rattle.demo_arrays.proofs.KeyLemmas.{no_letter, one_cell}

-- an equal key has the bytes of this one
abbrev pub AgreesWith : MadeKey → MadeKey → Type 0
AgreesWith made other = other.key ≡ made.key → other.bytes ≡ made.bytes

each_all : (P : MadeKey → Type 0) (n : ℕ) (f : ℕ → MadeKey) → ((i : ℕ) → i < n → P (f i)) → All P (each_below n f)
each_all P n f p k d lt = let within : k < n = omega (arith, lt, each_length n f) in subst P (sym (each_place n k f d within)) (p k within)

module _ (number lanes : ℕ) where
  abbrev key_at : ℕ → MadeKey
  key_at = cell_key (fine number) (means (fine number)) lanes

  -- what holds of the attributes' keys, and of each cell's
  all_keys : (P : MadeKey → Type 0) → P setup_attributes → P fine_attributes → P coarse_attributes → ((cell : ℕ) → cell < 1152 → P (key_at cell)) → All P (keys_of number lanes)
  all_keys P setup first second cells =
      All-append P attributes (cell_keys (fine number) (means (fine number)) lanes)
      (All-cons P setup_attributes (fine_attributes ∷ coarse_attributes ∷ []) setup (All-cons P fine_attributes (coarse_attributes ∷ []) first (All-cons P coarse_attributes [] second (All-nil P))))
      (each_all P 1152 key_at cells)

  pub none_edited : (rest : List ℕ) → All (λ (m : MadeKey). m.key ≡ codes "cells/" ++ rest → ⊥) (keys_of number lanes)
  none_edited rest = all_keys (λ (m : MadeKey). m.key ≡ codes "cells/" ++ rest → ⊥) (λ e. begins e) (λ e. begins e) (λ e. begins e) (λ cell lt e. begins e)
    where
      begins : {key : List ℕ} → 100 ∷ key ≡ codes "cells/" ++ rest → ⊥
      begins e = let first : 100 ≡ 99 = ap (λ k. slice_index k 0) e in omega (arith, first)

  -- a letter where another key has a different one
  differ : (at a b : ℕ) (key other : List ℕ) → slice_index key at ≡ a → slice_index other at ≡ b → (a ≡ b → ⊥) → key ≡ other → ⊥
  differ at a b key other p q ne e = ne (sym p ∙ ap (λ k. slice_index k at) e ∙ q)

  letter : (cell : ℕ) (at : MadeKey) → cell < 1152 → 58 ≤ slice_index at.key 26 → (key_at cell).key ≡ at.key → ⊥
  letter cell at lt le e = omega (arith, no_letter cell lt, le, ap (λ k. slice_index k 26) e)

  -- equal keys have equal bytes
  of_attributes : (at : MadeKey) → 58 ≤ slice_index at.key 26 → AgreesWith at setup_attributes → AgreesWith at fine_attributes → AgreesWith at coarse_attributes → All (AgreesWith at) (keys_of number lanes)
  of_attributes at le p q r = all_keys (AgreesWith at) p q r (λ cell lt e. absurd (letter cell at lt le e))

  of_cell : (cell : ℕ) → cell < 1152 → All (AgreesWith (key_at cell)) (keys_of number lanes)
  of_cell cell lt = all_keys (AgreesWith (key_at cell))
      (λ e. absurd (letter cell setup_attributes lt (omega arith) (sym e))) (λ e. absurd (letter cell fine_attributes lt (omega arith) (sym e))) (λ e. absurd (letter cell coarse_attributes lt (omega arith) (sym e)))
      (λ other lt' e. ap (λ c. (key_at c).bytes) (one_cell other cell lt' lt e))

  pub agree : All (λ (m : MadeKey). All (AgreesWith m) (keys_of number lanes)) (keys_of number lanes)
  agree = all_keys (λ (m : MadeKey). All (AgreesWith m) (keys_of number lanes))
      (of_attributes setup_attributes (omega arith) (λ e. refl) (λ e. absurd (differ 26 97 110 _ _ refl refl (λ n. omega (arith, n)) e)) (λ e. absurd (differ 26 97 110 _ _ refl refl (λ n. omega (arith, n)) e)))
      (of_attributes fine_attributes (omega arith) (λ e. absurd (differ 26 110 97 _ _ refl refl (λ n. omega (arith, n)) e)) (λ e. refl) (λ e. absurd (differ 24 49 48 _ _ refl refl (λ n. omega (arith, n)) e)))
      (of_attributes coarse_attributes (omega arith) (λ e. absurd (differ 26 110 97 _ _ refl refl (λ n. omega (arith, n)) e)) (λ e. absurd (differ 24 48 49 _ _ refl refl (λ n. omega (arith, n)) e)) (λ e. refl))
      of_cell
