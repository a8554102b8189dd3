-- What stores that hold the pyramid stand for, at each cell.
use Rattle.std.proofs.Common.{◌≡◌, ◌∙◌, ℕ, ◌+◌, ◌<◌, List, [], ◌∷◌, ◌++◌, length, slice_index_or, Some, None, subst, arith, codes, decimal}
use Rattle.std.proofs.lemmas.List.{get_or-append-add}
use Rattle.std.proofs.lemmas.List.Elements.{All-cons, All-nil}
use Rattle.std.specs.Prelude.{All}
use Rattle.cell_grid.specs.Pyramid.{grid_of, lane_of}
use Rattle.cell_store.specs.Store.{Contents, held_of}
use Rattle.cell_file.specs.Keys.{edited_key, grid_text}
use Rattle.cell_file.specs.Standing.{standing}
use Rattle.stood_arrays.specs.Opening.{stands_for, store_for, store_in}
use Rattle.demo_volume.specs.Below.{each_below}
use Rattle.demo_volume.specs.Cells.{cell_values}
use Rattle.demo_volume.specs.Levels.{key_names, levels}
use Rattle.demo_volume.specs.Puts.{MadeKey, attributes, cell_key, coarse_attributes, fine_attributes, keys_of, setup_attributes}
use Rattle.demo_volume.specs.Voxels.{fine, means}
use Rattle.demo_arrays.specs.Held.{HoldsDemo, IsMade}
use Rattle.demo_arrays.proofs.ListLemmas.{each_length, each_place}
use Rattle.demo_arrays.proofs.LevelLemmas.{are_levels}
use Rattle.demo_arrays.proofs.PlaceLemmas.{placed}
use Rattle.demo_arrays.proofs.ValueLemmas.{are_values}
use Rattle.demo_arrays.proofs.StandingLemmas.{stands}

-- what holds of each key holds of a cell's
key_there : (P : MadeKey → Type 0) (number lanes cell : ℕ) → All P (keys_of number lanes) → cell < 1152 → P (cell_key (fine number) (means (fine number)) lanes cell)
key_there P number lanes cell all lt =
    let f = cell_key (fine number) (means (fine number)) lanes in
    let place : slice_index_or (keys_of number lanes) (3 + cell) (f cell) ≡ f cell = get_or-append-add attributes (each_below 1152 f) cell (f cell) ∙ each_place 1152 cell f (f cell) lt in
    subst P place (all (3 + cell) (f cell) (omega (arith, lt, each_length 1152 f)))

module _ (number : ℕ) (stores : List Contents) (h : HoldsDemo number stores) where
  not_edited : (cell : ℕ) → held_of (store_for (length stores) stores cell) (edited_key levels cell) ≡ None
  not_edited cell = h.unedited (lane_of cell (length stores)) ((codes "s" ++ decimal (grid_of levels cell).0) ++ grid_text (grid_of levels cell).1)

  -- each cell's store stands for the cell's voxels
  pub stand : (cell : ℕ) → cell < 1152 → stands_for (standing levels key_names) (length stores) stores cell ≡ Some (cell_values (fine number) (means (fine number)) cell)
  stand cell lt =
      let p = placed cell lt in
      stands (held_of (store_for (length stores) stores cell)) cell (cell_values (fine number) (means (fine number)) cell) p (are_values (fine number) (means (fine number)) (are_levels number) cell p)
      (not_edited cell) (key_there (IsMade stores) number (length stores) cell h.made lt)

  -- the first three keys are those of the attributes
  pub attributes_held : All (λ (made : MadeKey). held_of (store_in stores 0) made.key ≡ Some made.bytes) attributes
  attributes_held =
      let P : MadeKey → Type 0 = λ (made : MadeKey). held_of (store_in stores 0) made.key ≡ Some made.bytes in
      All-cons P setup_attributes (fine_attributes ∷ coarse_attributes ∷ []) (at 0 setup_attributes (omega arith))
      (All-cons P fine_attributes (coarse_attributes ∷ []) (at 1 fine_attributes (omega arith)) (All-cons P coarse_attributes [] (at 2 coarse_attributes (omega arith)) (All-nil P)))
    where
      at : (k : ℕ) (d : MadeKey) → k < 3 → IsMade stores (slice_index_or (keys_of number (length stores)) k d)
      at k d lt = h.made k d (omega arith)
