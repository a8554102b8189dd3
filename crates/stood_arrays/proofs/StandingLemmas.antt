-- What an array that is held, or isn't, says of a cell; counts of a log that grew; and the count of a rise.
use Rattle.std.proofs.Common.{◌≡◌, ◌↔◌, ℕ, ◌+◌, ◌-◌, ◌^◌, ◌≤◌, cond, leb, Bool, true, false, true≢false, List, [], ◌++◌, Option, Some, None, refl, sym, arith}
use Rattle.std.specs.Prelude.{min, is_none, unwrap_or, slice_index}
use Rattle.std.specs.List.{count_by}
use Rattle.std.proofs.lemmas.Bool.Decides.{nat_tests}
use Rattle.std.proofs.lemmas.List.Sums.{sum_by-append}
use Rattle.cell_store.specs.Store.{Entry}
use Rattle.cell_store.specs.Faults.{Rose}
use Rattle.stood_arrays.specs.Counts.{rose}

pub held_array : (held : Option (List ℕ)) (below : ℕ → Type 0) → is_none held ≡ false → (values : List ℕ) × (held ≡ Some values) × ((i : ℕ) → below i → slice_index values i ≡ slice_index (unwrap_or held []) i)
held_array None below h = absurd (true≢false h)
held_array (Some values) below h = (values, refl, λ i _. refl)

pub held_none : (held : Option (List ℕ)) → is_none held ≡ true → held ≡ None
held_none None h = refl
held_none (Some values) h = absurd (true≢false (sym h))

pub count-append : (p : Entry → Bool) (xs ys : List Entry) → count_by p (xs ++ ys) ≡ count_by p xs + count_by p ys
count-append p xs ys = sum_by-append _ xs ys

pub rise_is_one : (before now : ℕ) → (rose before now ≡ 1) ↔ Rose before now
rise_is_one before now = (go (leb (min (before + 1) (2 ^ 64 - 1)) now) refl, back (leb (min (before + 1) (2 ^ 64 - 1)) now) refl)
  where
    go : (t : Bool) → leb (min (before + 1) (2 ^ 64 - 1)) now ≡ t → ◌≡◌ {A = ℕ} (cond t 1 0) 1 → min (before + 1) (2 ^ 64 - 1) ≤ now
    go true is _ = grind (arith, nat_tests)
    go false is one = absurd (omega (arith, one))

    back : (t : Bool) → leb (min (before + 1) (2 ^ 64 - 1)) now ≡ t → min (before + 1) (2 ^ 64 - 1) ≤ now → ◌≡◌ {A = ℕ} (cond t 1 0) 1
    back true is le = refl
    back false is le = absurd (grind (arith, nat_tests))
