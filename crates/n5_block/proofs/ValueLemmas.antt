-- The values of a good block as a function of its bytes.
use Rattle.std.proofs.Common.{◌≡◌, ◌∙◌, ℕ, zero, suc, ◌+◌, ◌*◌, ◌^◌, ◌<◌, ◌≤◌, List, [], ◌∷◌, ◌++◌, length, take, drop, slice_index, Option, None, Some, refl, sym, ap, subst, arith}
use Rattle.std.specs.List.{flat_map}
use Rattle.std.proofs.lemmas.List.{drop-drop}
use Rattle.std.proofs.lemmas.List.FromFn.{length-map-range_with_len, get_or-map-range_with_len}
use Rattle.voxel_box.specs.BigEndian.{big_endian, value_of, IsBytes}
use Rattle.voxel_box.specs.Box.{volume, number, position_of, AreWithin}
use Rattle.voxel_box.proofs.BoxLemmas.{position_within, number-position_of, position_of-number, number_below_volume, within_larger}
use Rattle.n5_block.specs.declared.block_err.BlockErr.{BlockErr}
use Rattle.n5_block.specs.Block.{IsGood}
use Rattle.n5_block.specs.Rules.{sides_in, broken_block_rule}
use Rattle.n5_block.specs.Rows.{element_of}
use Rattle.n5_block.specs.Values.{needed_values, values_unless, values_in}
use Rattle.n5_block.specs.Laws.{WrittenAreGood, GoodHaveOneList}
use Rattle.n5_block.proofs.Good.{good}
use Rattle.n5_block.proofs.Only.{sound_of_good, unbroken, fields_of_good, number_in_front, rest_behind}
use Rattle.n5_block.proofs.Unbroken.{sound_of_unbroken}
use Rattle.n5_block.proofs.Sizes.{side_le}

-- lists of the same length with the same items are the same
same_items : (xs ys : List ℕ) → length xs ≡ length ys → ((i : ℕ) → i < length xs → slice_index xs i ≡ slice_index ys i) → xs ≡ ys
same_items [] [] len same = refl
same_items [] (y ∷ ys) len same = absurd (omega (arith, len))
same_items (x ∷ xs) [] len same = absurd (omega (arith, len))
same_items (x ∷ xs) (y ∷ ys) len same = let first : x ≡ y = same 0 (omega arith) in
    ap (λ z. z ∷ xs) first ∙ ap (λ zs. y ∷ zs) (same_items xs ys (omega (arith, len)) (λ i lt. same (suc i) (omega (arith, lt))))

-- the elements that a block's bytes give
element_in : (width i : ℕ) (elements : List ℕ) → i < length elements → ((k : ℕ) → slice_index elements k < 256 ^ width)
    → element_of width (flat_map (big_endian width) elements) i ≡ slice_index elements i
element_in width i [] lt small = absurd (omega (arith, lt))
element_in width zero (e ∷ elements) lt small =
    let none : width * 0 ≡ 0 = omega arith in
    ap (λ k. value_of (take width (drop k (flat_map (big_endian width) (e ∷ elements))))) none ∙ number_in_front width e (flat_map (big_endian width) elements) (small 0)
element_in width (suc i) (e ∷ elements) lt small =
    let far : width + width * i ≡ width * suc i = omega arith in
    let rest = flat_map (big_endian width) elements in
    ap (λ k. value_of (take width (drop k (big_endian width e ++ rest)))) (sym far)
    ∙ ap (λ bytes. value_of (take width bytes)) (sym (drop-drop (width * i) width (big_endian width e ++ rest)) ∙ ap (drop (width * i)) (rest_behind width e rest))
    ∙ element_in width i elements (omega (arith, lt)) (λ k. small (suc k))

-- a good block's values are those that the function gives
values_of_good : (width : ℕ) (need full bytes values : List ℕ) → slice_index full 0 < 2 ^ 32 → slice_index full 1 < 2 ^ 32 → slice_index full 2 < 2 ^ 32
    → IsGood width need full bytes values → values ≡ needed_values width need bytes
values_of_good width need full bytes values fx fy fz g =
    let fields = fields_of_good width need full bytes values fx fy fz g in
    same_items values (needed_values width need bytes) (g.value_count ∙ sym (length-map-range_with_len _ 0 (volume need)))
    (λ n lt.
    let lt' : n < volume need = omega (arith, lt, g.value_count) in
    let at = position_of n need in
    let inside = position_within n need lt' in
    let inside' = number_below_volume at g.sides (within_larger at need g.sides inside g.at_least) in
    ap (slice_index values) (sym (number-position_of n need)) ∙ g.taken at inside
    ∙ sym (element_in width (number at g.sides) g.elements (omega (arith, inside', g.count)) g.small)
    ∙ ap (λ rest. element_of width rest (number at g.sides)) (sym fields.rest)
    ∙ ap (element_of width (drop 16 bytes)) (numbers at g.sides (sides_in bytes) (sym fields.x) (sym fields.y))
    ∙ sym (get_or-map-range_with_len (λ m. element_of width (drop 16 bytes) (number (position_of m need) (sides_in bytes))) 0 (volume need) n n 0 lt' (omega arith)))
  where
    numbers : (at s t : List ℕ) → slice_index s 0 ≡ slice_index t 0 → slice_index s 1 ≡ slice_index t 1 → number at s ≡ number at t
    numbers at s t x y = rw (x, y) refl

some_of : (err : Option BlockErr) (values given : List ℕ) → values_unless err values ≡ Some given → (err ≡ None) × (values ≡ given)
some_of None values given e = (refl, cc)
some_of (Some err) values given e = absurd (cc)

-- the values that the function gives are those of a good block
good_of_values : (width : ℕ) (need full bytes values : List ℕ) → IsBytes bytes → values_in width need full bytes ≡ Some values → IsGood width need full bytes values
unfolding values_in
good_of_values width need full bytes values h e =
    let both = some_of (broken_block_rule width need full bytes) (needed_values width need bytes) values e in
    let sound = sound_of_unbroken width need full bytes both.0 in
    subst (IsGood width need full bytes) both.1 (good width need full bytes (needed_values width need bytes) h sound (length-map-range_with_len _ 0 (volume need))
    (λ at w. get_or-map-range_with_len (λ m. element_of width (drop 16 bytes) (number (position_of m need) (sides_in bytes))) 0 (volume need) (number at need) (number at need) 0 (number_below_volume at need w) (omega arith)
    ∙ ap (λ p. element_of width (drop 16 bytes) (number p (sides_in bytes))) (position_of-number at need w)))

-- sides of a small box fit 32 bits
pub small_sides : (need full : List ℕ) → AreWithin (1 ∷ 1 ∷ 1 ∷ []) need → AreWithin need full → volume full ≤ 2 ^ 21
    → (slice_index full 0 < 2 ^ 32) × (slice_index full 1 < 2 ^ 32) × (slice_index full 2 < 2 ^ 32)
small_sides need full some within small =
    let x = slice_index full 0 in
    let y = slice_index full 1 in
    let z = slice_index full 2 in
    let px : 1 ≤ x = omega (arith, some.x, within.x) in
    let py : 1 ≤ y = omega (arith, some.y, within.y) in
    let pz : 1 ≤ z = omega (arith, some.z, within.z) in
    (omega (arith, side_le x y z py pz, small), omega (arith, side_le y x z px pz, small), omega (arith, side_le z x y px py, small))

pub values_given : (width : ℕ) (need full bytes values : List ℕ) → AreWithin (1 ∷ 1 ∷ 1 ∷ []) need → AreWithin need full → volume full ≤ 2 ^ 21
    → IsGood width need full bytes values → values_in width need full bytes ≡ Some values
unfolding values_in
values_given width need full bytes values some within small good =
    let fits = small_sides need full some within small in
    let none = unbroken width need full bytes (sound_of_good width need full bytes values fits.0 fits.1 fits.2 good) in
    ap (λ err. values_unless err (needed_values width need bytes)) none ∙ ap Some (sym (values_of_good width need full bytes values fits.0 fits.1 fits.2 good))

-- where a rule is broken, no values are given
pub none_given : (width : ℕ) (need full bytes : List ℕ) (err : BlockErr) → Some err ≡ broken_block_rule width need full bytes → values_in width need full bytes ≡ None
unfolding values_in
none_given width need full bytes err is = ap (λ rule. values_unless rule (needed_values width need bytes)) (sym is)

pub one_list : GoodHaveOneList
one_list width need full bytes values w h some within small =
    (λ good. values_given width need full bytes values some within small good, λ e. good_of_values width need full bytes values h e)

pub written_good : WrittenAreGood
written_good width sides full values within count small = record {
  sides = sides;
  elements = values;
  at_least = record { x = omega arith; y = omega arith; z = omega arith };
  at_most = within;
  count = count;
  small = small;
  spelling = refl;
  value_count = count;
  taken = λ at w. refl;
}
