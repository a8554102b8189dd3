-- What holds of every block.
use Rattle.std.specs.Prelude.{◌≡◌, ◌↔◌, ℕ, ◌^◌, ◌<◌, ◌≤◌, List, [], ◌∷◌, length, slice_index, Some}
use Rattle.voxel_box.specs.BigEndian.{IsBytes}
use Rattle.voxel_box.specs.Box.{volume, AreWithin}
use Rattle.n5_block.specs.Block.{block, IsWidth, IsGood}
use Rattle.n5_block.specs.Values.{values_in}

-- The block of a cell's cropped sides and values is good for the cell, and gives the values back.
abbrev pub WrittenAreGood : Type 0
WrittenAreGood = (width : ℕ) (sides full values : List ℕ) → AreWithin sides full → length values ≡ volume sides → ((i : ℕ) → slice_index values i < 256 ^ width)
    → IsGood width sides full (block width sides values) values

-- Bytes are good for a cell and give it values exactly where `values_in` says so: one list of values for each list of bytes.
abbrev pub GoodHaveOneList : Type 0
GoodHaveOneList = (width : ℕ) (need full bytes values : List ℕ) → IsWidth width → IsBytes bytes
    → AreWithin (1 ∷ 1 ∷ 1 ∷ []) need → AreWithin need full → volume full ≤ 2 ^ 21
    → IsGood width need full bytes values ↔ (values_in width need full bytes ≡ Some values)
