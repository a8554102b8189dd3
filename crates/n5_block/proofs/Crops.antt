-- Rows of a cell among the rows of a block.
use Rattle.std.proofs.Common.{◌≡◌, ◌∙◌, ℕ, ◌+◌, ◌-◌, ◌*◌, ◌/◌, ◌%◌, ◌<◌, ◌≤◌, List, length, take, drop, slice_index, refl, sym, ap, arith, inl, inr}
use Rattle.std.proofs.lemmas.Bool.{cases_lt}
use Rattle.std.proofs.lemmas.List.{drop-drop, drop-take, take-take}
use Rattle.std.proofs.lemmas.Nat.{mul-add-lt, div-mul-add, mod-mul-add}
use Rattle.std.proofs.Math.Nat.{mul-le-mul_left}
use Rattle.voxel_box.specs.BigEndian.{value_of}
use Rattle.voxel_box.specs.Box.{number, IsWithin}
use Rattle.n5_block.specs.Rows.{element_of, AreElements, AreRowsTaken}

-- a row of a box ends within the box
pub row_within : (x y z sx sy sz : ℕ) → x ≤ sx → y < sy → z < sz → sx * (y + sy * z) + x ≤ sx * sy * sz
row_within x y z sx sy sz lx ly lz =
    let rows = mul-add-lt z sy y sz lz ly in
    let next : y + sy * z + 1 ≤ sy * sz = omega (arith, rows) in
    let le = mul-le-mul_left sx next in
    omega (arith, le, lx)

-- a row that is one of the rows before another, or that one
row_cases : (y z y' z' ny : ℕ) → y < ny → y' < ny → y' + ny * z' ≡ y + ny * z → (y' ≡ y) × (z' ≡ z)
row_cases y z y' z' ny ly ly' e =
    let e' : z' * ny + y' ≡ z * ny + y = omega (arith, e) in
    (sym (mod-mul-add z' ny y' ly') ∙ ap (λ n. n % ny) e' ∙ mod-mul-add z ny y ly, sym (div-mul-add z' ny y' ly') ∙ ap (λ n. n / ny) e' ∙ div-mul-add z ny y ly)

-- the rows before one stay, and this one is taken
pub row_more : (width : ℕ) (elements sides need old new : List ℕ) (y z : ℕ) → y < slice_index need 1
    → AreRowsTaken width elements sides need old (y + slice_index need 1 * z)
    → ((i : ℕ) → i < slice_index need 0 * (y + slice_index need 1 * z) → slice_index new i ≡ slice_index old i)
    → ((x : ℕ) → x < slice_index need 0 → slice_index new (slice_index need 0 * (y + slice_index need 1 * z) + x) ≡ element_of width elements (slice_index sides 0 * (y + slice_index sides 1 * z) + x))
    → AreRowsTaken width elements sides need new (y + slice_index need 1 * z + 1)
row_more width elements sides need old new y z ly before same taken = λ x y' z' lx ly' below. elim (cases_lt (y' + slice_index need 1 * z') (y + slice_index need 1 * z)) [
  | inl earlier ↦
      let next : y' + slice_index need 1 * z' + 1 ≤ y + slice_index need 1 * z = omega arith in
      let le = mul-le-mul_left (slice_index need 0) next in
      same _ (omega (arith, le, lx)) ∙ before x y' z' lx ly' earlier
  | inr from ↦
      let is = row_cases y z y' z' (slice_index need 1) ly ly' (omega arith) in
      let to : x + slice_index need 0 * (y' + slice_index need 1 * z') ≡ slice_index need 0 * (y + slice_index need 1 * z) + x = rw (is.0, is.1) (omega arith) in
      let of : slice_index sides 0 * (y + slice_index sides 1 * z) + x ≡ x + slice_index sides 0 * (y' + slice_index sides 1 * z') = rw (is.0, is.1) (omega arith) in
      ap (slice_index new) to ∙ taken x lx ∙ ap (element_of width elements) of
]

-- an element of a part of the bytes
part_element : (width from count x : ℕ) (bytes : List ℕ) → x < count → width * (from + count) ≤ length bytes
    → element_of width (take (width * (from + count) - width * from) (drop (width * from) bytes)) x ≡ element_of width bytes (from + x)
part_element width from count x bytes lt le =
    let inner : width * x + width ≤ width * (from + count) - width * from = let more = mul-le-mul_left width (omega_le x count lt) in omega (arith, more) in
    let place : width * from + width * x ≡ width * (from + x) = omega arith in
    ap value_of (cut width (width * x) (width * (from + count) - width * from) (drop (width * from) bytes) inner
    ∙ ap (take width) (drop-drop (width * x) (width * from) bytes ∙ ap (λ n. drop n bytes) place))
  where
    omega_le : (x count : ℕ) → x < count → x + 1 ≤ count
    omega_le x count h = omega arith

    cut : (w a n : ℕ) (xs : List ℕ) → a + w ≤ n → take w (drop a (take n xs)) ≡ take w (drop a xs)
    cut w a n xs h = let e : n ≡ a + (n - a) = omega arith in ap (λ k. take w (drop a (take k xs))) e ∙ ap (take w) (drop-take a (n - a) xs) ∙ take-take w (n - a) (drop a xs) (omega arith)

-- the elements of a part are those of the bytes from a place on
pub part_taken : (width from count : ℕ) (bytes row : List ℕ) → length row ≡ count → width * (from + count) ≤ length bytes
    → AreElements width (take (width * (from + count) - width * from) (drop (width * from) bytes)) row
    → (x : ℕ) → x < count → slice_index row x ≡ element_of width bytes (from + x)
part_taken width from count bytes row len le are x lt = are x (omega (arith, len, lt)) ∙ part_element width from count x bytes lt le

-- the rows of all planes are the voxels of a cell
pub all_taken : (width : ℕ) (elements sides need out at : List ℕ) → AreRowsTaken width elements sides need out (slice_index need 1 * slice_index need 2) → IsWithin at need
    → slice_index out (number at need) ≡ element_of width elements (number at sides)
all_taken width elements sides need out at taken w =
    let rows = mul-add-lt (slice_index at 2) (slice_index need 1) (slice_index at 1) (slice_index need 2) w.z w.y in
    taken (slice_index at 0) (slice_index at 1) (slice_index at 2) w.x w.y (omega (arith, rows))

-- no row is taken at first
pub none_taken : (width : ℕ) (elements sides need out : List ℕ) → AreRowsTaken width elements sides need out (slice_index need 1 * 0)
none_taken width elements sides need out = λ x y z lx ly below. absurd (omega (arith, below))

-- a number in a box is the same in another of the same width and height
pub same_number : (at need sides : List ℕ) → slice_index need 0 ≡ slice_index sides 0 → slice_index need 1 ≡ slice_index sides 1 → number at need ≡ number at sides
same_number at need sides x y = rw (x, y) refl
