-- A voxel of level 0 in the arrays that stores stand for is the one that the number decides.
use Rattle.std.proofs.Common.{◌≡◌, ◌∙◌, ℕ, ◌+◌, ◌*◌, ◌<◌, List, [], ◌∷◌, slice_index, sym, ap, subst, arith}
use Rattle.std.specs.Prelude.{unwrap_or}
use Rattle.std.proofs.lemmas.Option.{same_Some}
use Rattle.voxel_box.specs.Box.{IsWithin, number}
use Rattle.voxel_box.proofs.BoxLemmas.{number_below_volume, position_of-number}
use Rattle.cell_grid.specs.declared.level.Level.{Level}
use Rattle.cell_grid.specs.Grid.{IsVoxel}
use Rattle.cell_grid.specs.Pyramid.{grid_of}
use Rattle.cell_store.specs.Store.{Contents}
use Rattle.stood_arrays.specs.Pyramid.{start_by}
use Rattle.demo_volume.specs.Cells.{cell_values, start_of}
use Rattle.demo_volume.specs.Levels.{fine_level, key_names, levels}
use Rattle.demo_volume.specs.Voxels.{fine, means}
use Rattle.demo_arrays.specs.Drawn.{AreDrawn, drawn_at}
use Rattle.demo_arrays.specs.Held.{HoldsDemo}
use Rattle.demo_arrays.proofs.HeldLemmas.{stand}
use Rattle.demo_arrays.proofs.LevelLemmas.{are_levels}
use Rattle.demo_arrays.proofs.PlaceLemmas.{fine_place, fine_whole, sides}
use Rattle.demo_arrays.proofs.ValueLemmas.{voxel_there}

-- a voxel of a cell, by its place there
of_cell : (decided cell : ℕ) (grid inside : List ℕ) → grid_of levels cell ≡ (0, grid) → IsWithin grid (16 ∷ 16 ∷ 4 ∷ []) → IsWithin inside sides
    → slice_index (cell_values (fine decided) (means (fine decided)) cell) (number inside sides)
    ≡ drawn_at decided (slice_index grid 0 * 32 + slice_index inside 0) (slice_index grid 1 * 32 + slice_index inside 1) (slice_index grid 2 * 16 + slice_index inside 2)
of_cell decided cell grid inside place w v =
    let x = slice_index inside 0 in
    let y = slice_index inside 1 in
    let z = slice_index inside 2 in
    let from : number inside sides ≡ 1024 * z + (32 * y + x) = omega arith in
    let to : start_of 512 512 grid + 512 * (512 * z) + 512 * y + x ≡ slice_index grid 0 * 32 + x + 512 * (slice_index grid 1 * 32 + y + 512 * (slice_index grid 2 * 16 + z)) = omega arith in
    ap (slice_index (cell_values (fine decided) (means (fine decided)) cell)) from
    ∙ voxel_there (fine decided) (means (fine decided)) (are_levels decided) cell grid x y z place w v.x v.y v.z
    ∙ ap (slice_index (fine decided)) to

-- a voxel of a cell, by the voxel's place in the level
of_level : (decided x y z cell n at : ℕ) → cell ≡ n → IsVoxel fine_level.extent (x ∷ y ∷ z ∷ []) n at
    → (cell < 1024) × (slice_index (cell_values (fine decided) (means (fine decided)) cell) at ≡ drawn_at decided x y z)
of_level decided x y z cell n at same v =
    let is : cell ≡ number v.grid (16 ∷ 16 ∷ 4 ∷ []) = same ∙ v.cell_number in
    let lt : number v.grid (16 ∷ 16 ∷ 4 ∷ []) < 1024 = number_below_volume v.grid (16 ∷ 16 ∷ 4 ∷ []) v.in_grid in
    let place : grid_of levels cell ≡ (0, v.grid) = ap (grid_of levels) is ∙ fine_place (number v.grid (16 ∷ 16 ∷ 4 ∷ [])) lt ∙ ap (λ (g : List ℕ). (0, g)) (position_of-number v.grid (16 ∷ 16 ∷ 4 ∷ []) v.in_grid) in
    let whole = fine_whole v.grid v.in_grid in
    let inside : IsWithin v.inside sides = subst (λ (s : List ℕ). IsWithin v.inside s) whole v.in_cell in
    let at_is : at ≡ number v.inside sides = v.offset ∙ ap (λ (s : List ℕ). number v.inside s) whole in
    let to = ap (λ (p : List ℕ). slice_index p 0 + 512 * (slice_index p 1 + 512 * slice_index p 2)) v.position in (
      subst (λ k. k < 1024) (sym is) lt,
      ap (slice_index (cell_values (fine decided) (means (fine decided)) cell)) at_is ∙ of_cell decided cell v.grid v.inside place v.in_grid inside ∙ ap (slice_index (fine decided)) (sym to),
    )

pub are_drawn : (decided : ℕ) (stores : List Contents) → HoldsDemo decided stores → AreDrawn decided (start_by levels key_names stores).arrays
are_drawn decided stores h x y z cell at v =
    let same : fine_level ≡ v.shape = same_Some fine_level v.shape v.exists in
    let first : cell ≡ v.number = omega (arith, v.cell_number) in
    let here = of_level decided x y z cell v.number at first (subst (λ (s : Level). IsVoxel s.extent (x ∷ y ∷ z ∷ []) v.number at) (sym same) v.voxel) in
    ap (λ o. slice_index (unwrap_or o []) at) (stand decided stores h cell (omega (arith, here.0))) ∙ here.1
