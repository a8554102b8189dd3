-- A list with one item changed.
use Rattle.std.proofs.Common.{◌≡◌, ◌≢◌, ℕ, ◌<◌, ◌==◌, Bool, true, false, List, length, slice_index_or, slice_set, get_or-set_same, get_or-set_other, refl, sym, subst, arith}
use Rattle.std.proofs.lemmas.Bool.{eqb-true}
use Rattle.std.proofs.lemmas.Bool.Decides.{nat_tests}
use Rattle.arr_history.specs.State.{with_at}
use Rattle.arr_history.proofs.Sound.{at_cases}

-- each item is the changed one, or what it was
pub set_cases : {X : Type 0} (P : X → Type 0) (xs : List X) (i : ℕ) (v : X) (j : ℕ) (d : X) → i < length xs → (i ≡ j → P v) → ((i ≡ j → ⊥) → P (slice_index_or xs j d)) → P (slice_index_or (slice_set xs i v) j d)
set_cases {X} P xs i v j d lt p q = go (i == j) refl
  where
    go : (b : Bool) → (i == j) ≡ b → P (slice_index_or (slice_set xs i v) j d)
    go true e = let same = eqb-true i j e in subst (λ k. P (slice_index_or (slice_set xs i v) k d)) same (rw (get_or-set_same xs i v d lt) (p same))
    go false e = let ne : i ≢ j = grind (arith, nat_tests) in rw (get_or-set_other xs i j v d (λ e. ne (sym e))) (q ne)

-- what is read of the items is changed at one place
pub read_set : {X Y : Type 0} (f : X → Y) (xs : List X) (i : ℕ) (v : X) (j : ℕ) (d : X) → i < length xs → with_at (λ k. f (slice_index_or xs k d)) i (f v) j ≡ f (slice_index_or (slice_set xs i v) j d)
read_set f xs i v j d lt = at_cases (λ y. y ≡ f (slice_index_or (slice_set xs i v) j d)) (λ k. f (slice_index_or xs k d)) i (f v) j
    (λ e. set_cases (λ x. f v ≡ f x) xs i v j d lt (λ _. refl) (λ ne. absurd (ne e)))
    (λ ne. set_cases (λ x. f (slice_index_or xs j d) ≡ f x) xs i v j d lt (λ e. absurd (ne e)) (λ _. refl))
