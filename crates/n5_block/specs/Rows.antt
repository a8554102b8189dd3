-- Elements in rows.
use Rattle.std.specs.Prelude.{◌≡◌, ℕ, ◌+◌, ◌*◌, ◌<◌, List, length, take, drop, slice_index}
use Rattle.voxel_box.specs.BigEndian.{value_of}

-- the element of a number among the bytes of elements
abbrev pub element_of : ℕ → List ℕ → ℕ → ℕ
element_of width bytes i = value_of (take width (drop (width * i) bytes))

-- these numbers are the elements of a row's bytes
abbrev pub AreElements : ℕ → List ℕ → List ℕ → Type 0
AreElements width row elements = (i : ℕ) → i < length elements → slice_index elements i ≡ element_of width row i

-- The rows before one of a cell are taken from a block's elements. The rows of a cell are numbered, y fastest.
abbrev pub AreRowsTaken : ℕ → List ℕ → List ℕ → List ℕ → List ℕ → ℕ → Type 0
AreRowsTaken width elements sides need out rows = (x y z : ℕ) → x < slice_index need 0 → y < slice_index need 1 → y + slice_index need 1 * z < rows
    → slice_index out (x + slice_index need 0 * (y + slice_index need 1 * z)) ≡ element_of width elements (x + slice_index sides 0 * (y + slice_index sides 1 * z))
