-- What stores hold once keys were put into them.
use Rattle.std.proofs.Common.{◌≡◌, ◌∙◌, ◌⊎◌, inl, inr, ℕ, ◌<◌, true, false, IsTrue, List, length, Option, Some, refl, sym, ap, subst}
use Rattle.std.specs.Prelude.{All}
use Rattle.std.specs.Str.{bytes_eq}
use Rattle.std.proofs.lemmas.Bool.{cases_Bool, cond-false, cond-true}
use Rattle.std.proofs.lemmas.List.Elements.{All-from_get_or}
use Rattle.std.proofs.lemmas.Slice.Eq.{bytes_eq-Decides}
use Rattle.cell_store.specs.Store.{Contents, Puts, held_of, put_in, untold}
use Rattle.cell_store.specs.declared.store.Put.TheVariants as put
use Rattle.store_calls.specs.Calls.{IsCalled}
use Rattle.store_calls.proofs.Holds.{same_or_not}
use Rattle.store_calls.proofs.Parts.{Changed, changed}
use Rattle.stood_arrays.specs.Opening.{store_in}
use Rattle.demo_volume.specs.Puts.{MadeKey, put_as}
use Rattle.demo_arrays.specs.Held.{IsMade}

-- the stores tell what they hold
abbrev pub AreTold : List Contents → Type 0
AreTold stores = All (λ (s : Contents). IsTrue s.told) stores

-- what a store holds under a key
abbrev pub held_at : List Contents → ℕ → List ℕ → Option (List ℕ)
held_at stores lane key = held_of (store_in stores lane) key

module _ (made : MadeKey) (old new : List Contents) (called : IsCalled (put_as put.Done made) old new) where
  change : Changed (λ (x y : Contents). Puts x y made.key made.bytes put.Done) made.lane old new
  change = changed (λ (x y : Contents). Puts x y made.key made.bytes put.Done) made.lane old new called

  pub put_lanes : length new ≡ length old
  put_lanes = change.lanes

  pub put_told : AreTold old → AreTold new
  put_told told = All-from_get_or (λ (s : Contents). IsTrue s.told) new (untold 0) (λ lane lt. subst IsTrue (sym (same lane)) (told lane (untold 0) (subst (λ n. lane < n) change.lanes lt)))
    where
      same : (lane : ℕ) → (store_in new lane).told ≡ (store_in old lane).told
      same lane = elim (same_or_not lane made.lane) [
        | inl e ↦ subst (λ l. (store_in new l).told ≡ (store_in old l).told) (sym e) change.here.told
        | inr ne ↦ ap (λ (s : Contents). s.told) (change.elsewhere lane ne)
      ]

  module _ (told : AreTold old) where
    leaves : (key : List ℕ) → held_at new made.lane key ≡ put_in (held_of (store_in old made.lane)) made.key made.bytes key
    leaves key = change.here.leaves (told made.lane (untold 0) change.inside) key

    -- its key holds its bytes
    pub put_here : IsMade new made
    put_here = leaves made.key ∙ cond-true (bytes_eq made.key made.key) (Some made.bytes) (held_at old made.lane made.key) ((bytes_eq-Decides made.key made.key).1 refl)

    -- every other key is as it was
    pub put_there : (lane : ℕ) (key : List ℕ) → (held_at new lane key ≡ held_at old lane key) ⊎ ((made.key ≡ key) × (held_at new lane key ≡ Some made.bytes))
    put_there lane key = elim (same_or_not lane made.lane) [
      | inl e ↦ subst (λ l. (held_at new l key ≡ held_at old l key) ⊎ ((made.key ≡ key) × (held_at new l key ≡ Some made.bytes))) (sym e) (by (cases_Bool (bytes_eq made.key key)))
      | inr ne ↦ inl (ap (λ (s : Contents). held_of s key) (change.elsewhere lane ne))
    ]
      where
        by : (bytes_eq made.key key ≡ true) ⊎ (bytes_eq made.key key ≡ false) → (held_at new made.lane key ≡ held_at old made.lane key) ⊎ ((made.key ≡ key) × (held_at new made.lane key ≡ Some made.bytes))
        by (inl t) = inr ((bytes_eq-Decides made.key key).0 t, leaves key ∙ cond-true (bytes_eq made.key key) (Some made.bytes) (held_at old made.lane key) t)
        by (inr f) = inl (leaves key ∙ cond-false (bytes_eq made.key key) (Some made.bytes) (held_at old made.lane key) f)
