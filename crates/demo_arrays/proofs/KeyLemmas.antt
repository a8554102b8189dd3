-- The keys of cells: what their bytes are, and that two cells have different ones.
use Rattle.std.proofs.Common.{◌≡◌, inl, inr, ℕ, zero, suc, ◌+◌, ◌%◌, ◌^◌, ◌<◌, ◌≤◌, List, [], ◌∷◌, ◌++◌, slice_index, codes, decimal, sym, subst, arith, lit<}
use Rattle.std.proofs.lemmas.Fmt.{decimal_by_steps, decimal_injective}
use Rattle.std.proofs.lemmas.List.{append_cancel_left}
use Rattle.cell_grid.specs.Pyramid.{grid_of}
use Rattle.cell_file.specs.Keys.{IsPlace, base_key, grid_text}
use Rattle.cell_file.proofs.PlaceLemmas.{one_cell_at}
use Rattle.cell_file.proofs.Strokes.{same_place}
use Rattle.demo_volume.specs.Levels.{key_names, levels}
use Rattle.demo_volume.proofs.SmallLemmas.{small_more}
use Rattle.demo_arrays.proofs.ListLemmas.{AllBelow, append_below}
use Rattle.demo_arrays.proofs.PlaceLemmas.{IsInGrid, placed}

-- the level of a cell is one of two, and its place is within a grid
lies : (cell : ℕ) → cell < 1152 → ((grid_of levels cell).0 ≤ 1) × IsPlace (grid_of levels cell).1
lies cell lt = let p = placed cell lt in subst (λ (g : ℕ × List ℕ). (g.0 ≤ 1) × IsPlace g.1) (sym p.place) (go p.level p.grid p.inside)
  where
    go : (level : ℕ) (grid : List ℕ) → IsInGrid level grid → (level ≤ 1) × IsPlace grid
    go level grid (inl (e, w)) = (omega (arith, e), record { x = omega (arith, w.x); y = omega (arith, w.y); z = omega (arith, w.z) })
    go level grid (inr (e, w)) = (omega (arith, e), record { x = omega (arith, w.x); y = omega (arith, w.y); z = omega (arith, w.z) })

-- no letter stands in the text of a number, nor in that of a place
number_below : (n : ℕ) → n < 2 ^ 64 → AllBelow 58 (decimal n)
number_below n lt = decimal_by_steps (λ _ ds. AllBelow 58 ds) one (λ m ds le p. small_more 58 ds (48 + m % 10) p (omega arith)) n lt
  where
    one : (m : ℕ) → m < 10 → AllBelow 58 ((48 + m) ∷ [])
    one m low zero = omega arith
    one m low (suc i) = lit< tt

stroke_below : (n : ℕ) → n ≤ 2 ^ 18 → AllBelow 58 (47 ∷ decimal n)
stroke_below n le zero = lit< tt
stroke_below n le (suc i) = number_below n (omega arith) i

place_below : (grid : List ℕ) → IsPlace grid → AllBelow 58 (grid_text grid)
place_below grid p =
    let x = 47 ∷ decimal (slice_index grid 0) in
    let y = 47 ∷ decimal (slice_index grid 1) in
    let z = 47 ∷ decimal (slice_index grid 2) in
    append_below 58 x (y ++ z) (stroke_below (slice_index grid 0) p.x) (append_below 58 y z (stroke_below (slice_index grid 1) p.y) (stroke_below (slice_index grid 2) p.z))

-- what stands in a cell's key where the attributes' keys have letters
pub no_letter : (cell : ℕ) → cell < 1152 → slice_index (base_key levels key_names cell) 26 < 58
no_letter cell lt =
    let there = lies cell lt in
    append_below 58 (decimal (grid_of levels cell).0) (grid_text (grid_of levels cell).1) (number_below (grid_of levels cell).0 (omega (arith, there.0))) (place_below (grid_of levels cell).1 there.1) 2

pub one_cell : (cell other : ℕ) → cell < 1152 → other < 1152 → base_key levels key_names cell ≡ base_key levels key_names other → cell ≡ other
one_cell cell other lt lt' e =
    let l = (grid_of levels cell).0 in
    let l' = (grid_of levels other).0 in
    let there = lies cell lt in
    let there' = lies other lt' in
    let same = same_place (codes "demo/setup0/timepoint0/s" ++ decimal l) (codes "demo/setup0/timepoint0/s" ++ decimal l') (grid_of levels cell).1 (grid_of levels other).1 there.1 there'.1 e in
    let level = decimal_injective l l' (omega (arith, there.0)) (omega (arith, there'.0)) (append_cancel_left (codes "demo/setup0/timepoint0/s") (decimal l) (decimal l') same.0) in
    one_cell_at levels cell other lt lt' level same.1 same.2 same.3
