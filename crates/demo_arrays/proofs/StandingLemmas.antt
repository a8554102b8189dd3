-- What a store stands for that holds a cell's block: the cell's voxels.
use Rattle.std.proofs.Common.{◌≡◌, ◌∙◌, ℕ, ◌+◌, ◌*◌, ◌≤◌, List, length, Option, Some, None, refl, ap, arith, lit<}
use Rattle.voxel_box.specs.Box.{AreWithin}
use Rattle.voxel_box.proofs.BoxLemmas.{volume_le}
use Rattle.cell_grid.specs.Pyramid.{full_of, sides_of}
use Rattle.n5_block.specs.Block.{IsGood, block}
use Rattle.n5_block.specs.Values.{values_in}
use Rattle.n5_block.proofs.Only.{sound_of_good}
use Rattle.n5_block.proofs.ValueLemmas.{values_given, written_good}
use Rattle.cell_file.specs.Keys.{base_key, edited_key}
use Rattle.cell_file.specs.Standing.{block_values, limit_of, standing}
use Rattle.cell_file.proofs.StandingLemmas.{by_base, values_short}
use Rattle.demo_volume.specs.Levels.{key_names, levels}
use Rattle.demo_arrays.proofs.PlaceLemmas.{IsPlaced, sides}
use Rattle.demo_arrays.proofs.ValueLemmas.{AreValues}

same_sides : AreWithin sides sides
same_sides = record { x = omega arith; y = omega arith; z = omega arith }

good : (values : List ℕ) → AreValues values → IsGood 2 sides sides (block 2 sides values) values
good values h = written_good 2 sides sides values same_sides h.count h.small

-- a whole block is as long as is allowed
short : (cell : ℕ) (values : List ℕ) → IsPlaced cell → AreValues values → length (block 2 sides values) ≤ limit_of levels cell
short cell values p h =
    let sound = sound_of_good 2 sides sides (block 2 sides values) values (lit< tt) (lit< tt) (lit< tt) (good values h) in
    let limit : limit_of levels cell ≡ 16 + 2 * 16384 = rw (p.width, p.full) refl in
    let at_most = volume_le _ sides sound.at_most in
    omega (arith, limit, sound.whole, at_most)

given : (cell : ℕ) (values : List ℕ) → IsPlaced cell → AreValues values → block_values levels cell (block 2 sides values) ≡ Some values
given cell values p h =
    ap (λ w. values_in w (sides_of levels cell) (full_of levels cell) (block 2 sides values)) p.width
    ∙ ap (λ s. values_in 2 s (full_of levels cell) (block 2 sides values)) p.cropped
    ∙ ap (λ s. values_in 2 sides s (block 2 sides values)) p.full
    ∙ values_given 2 sides sides (block 2 sides values) values (record { x = omega arith; y = omega arith; z = omega arith }) same_sides (omega arith) (good values h)

pub stands : (held : List ℕ → Option (List ℕ)) (cell : ℕ) (values : List ℕ) → IsPlaced cell → AreValues values
    → held (edited_key levels cell) ≡ None → held (base_key levels key_names cell) ≡ Some (block 2 sides values) → standing levels key_names held cell ≡ Some values
stands held cell values p h unedited made =
    (by_base levels key_names held cell (block 2 sides values) unedited made).0
    ∙ values_short levels cell (block 2 sides values) (short cell values p h) ∙ given cell values p h
