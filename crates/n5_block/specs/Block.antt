-- A raw block: a mode, the number of axes and three sides, then the elements, all numbers high byte first.
use Rattle.std.specs.Prelude.{◌≡◌, ◌⊎◌, ℕ, ◌^◌, ◌<◌, List, ◌++◌, length, flat_map, slice_index}
use Rattle.voxel_box.specs.BigEndian.{big_endian}
use Rattle.voxel_box.specs.Box.{volume, number, IsWithin, AreWithin}

-- the mode 0, three axes, and the sides
abbrev pub head : List ℕ → List ℕ
head sides = big_endian 2 0 ++ (big_endian 2 3 ++ (big_endian 4 (slice_index sides 0) ++ (big_endian 4 (slice_index sides 1) ++ big_endian 4 (slice_index sides 2))))

-- the bytes of a block of these sides and elements
abbrev pub block : ℕ → List ℕ → List ℕ → List ℕ
block width sides elements = head sides ++ flat_map (big_endian width) elements

-- the widths of elements, in bytes
abbrev pub IsWidth : ℕ → Type 0
IsWidth width = (width ≡ 1) ⊎ ((width ≡ 2) ⊎ ((width ≡ 4) ⊎ (width ≡ 8)))

-- The bytes are a block that is good for a cell of these cropped and full sides, and give these values.
pub record IsGood (width : ℕ) (need full : List ℕ) (bytes values : List ℕ) : Type 0 where
  pub sides : List ℕ
  pub elements : List ℕ
  pub at_least : AreWithin need sides
  pub at_most : AreWithin sides full
  pub count : length elements ≡ volume sides
  pub small : (i : ℕ) → slice_index elements i < 256 ^ width
  pub spelling : bytes ≡ block width sides elements
  -- the values are the elements at the positions that are needed
  pub value_count : length values ≡ volume need
  pub taken : (at : List ℕ) → IsWithin at need → slice_index values (number at need) ≡ slice_index elements (number at sides)
