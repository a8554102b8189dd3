-- A row of elements that is read or written so far, and one element more.
use Rattle.std.proofs.Common.{◌≡◌, ◌∙◌, ℕ, ◌+◌, ◌-◌, ◌*◌, ◌/◌, ◌%◌, ◌^◌, ◌<◌, ◌≤◌, List, [], ◌∷◌, ◌++◌, length, take, drop, slice_index, slice_set, get_or-set_same, get_or-set_other, flat_map, sym, ap, subst, arith, inl, inr, append_assoc}
use Rattle.std.proofs.lemmas.Bool.{cases_lt}
use Rattle.std.proofs.lemmas.Grind.{common_steps}
use Rattle.std.proofs.lemmas.List.{take_more, take_more_set, take_all, flat_map_more, drop-drop}
use Rattle.std.proofs.Math.Nat.{div-one, mod-eq_of_lt, mul-le-mul_left}
use borrow.Rule.Slice.PartMut.{put_mid}
use Rattle.std.specs.Int.{bytes_high_first}
use Rattle.voxel_box.specs.BigEndian.{big_endian}
use Rattle.voxel_box.proofs.BigEndianLemmas.{length-big_endian}
use Rattle.n5_block.proofs.Numbers.{written}

-- one element more is read
pub read_more : (f : ℕ → ℕ) (out : List ℕ) (i x : ℕ) → i < length out → ((k : ℕ) → k < i → slice_index out k ≡ f k) → x ≡ f i
    → (k : ℕ) → k < i + 1 → slice_index (slice_set out i x) k ≡ f k
read_more f out i x lt so_far is k below = elim (cases_lt k i) [
  | inl before ↦ get_or-set_other out i k x 0 (λ (e : k ≡ i). omega (arith, e, before)) ∙ so_far k before
  | inr from ↦ let e : k ≡ i = omega arith in subst (λ n. slice_index (slice_set out i x) n ≡ f n) (sym e) (get_or-set_same out i x 0 lt ∙ is)
]

one_of : (n : ℕ) → n < 256 → big_endian 1 n ≡ n ∷ []
unfolding big_endian
one_of n small = let same : n / 256 ^ 0 % 256 ≡ n = ap (λ z. z % 256) (div-one n) ∙ mod-eq_of_lt {n = n} {m = 256} small in ap (λ z. z ∷ []) same

-- one element more is written behind those of the values so far
pub written_more : (w i n : ℕ) (out now values : List ℕ) → i < length values → take (w * i) out ≡ flat_map (big_endian w) (take i values)
    → take (w * i + w) now ≡ take (w * i) out ++ big_endian w n → n ≡ slice_index values i → take (w * (i + 1)) now ≡ flat_map (big_endian w) (take (i + 1) values)
written_more w i n out now values lt so_far step is =
    let place : w * (i + 1) ≡ w * i + w = omega arith in
    let behind = flat_map_more (big_endian w) [] (take i values) (slice_index values i) in
    ap (λ k. take k now) place ∙ step ∙ ap (λ front. front ++ big_endian w n) so_far ∙ ap (λ x. flat_map (big_endian w) (take i values) ++ big_endian w x) is
    ∙ behind ∙ ap (flat_map (big_endian w)) (sym (take_more values i 0 lt))

take_two : (a b : ℕ) (xs ys zs : List ℕ) → length xs ≡ a → length ys ≡ b → take (a + b) (xs ++ (ys ++ zs)) ≡ xs ++ ys
take_two a b xs ys zs len more = grind (arith, common_steps)

-- a number written at the front of a part
pub put_number : (w at k n : ℕ) (out part rest : List ℕ) → at ≤ length out → part ≡ bytes_high_first w n ++ rest → take (at + w) (put_mid at k out part) ≡ take at out ++ big_endian w n
put_number w at k n out part rest le is =
    rw (is, written w n, append_assoc) (take_two at w (take at out) (big_endian w n) _ (grind (arith, common_steps)) (length-big_endian w n))

-- one byte more is written
pub byte_more : (i n : ℕ) (out values : List ℕ) → i < length values → i < length out → take (1 * i) out ≡ flat_map (big_endian 1) (take i values)
    → n ≡ slice_index values i → n < 256 → take (1 * (i + 1)) (slice_set out i n) ≡ flat_map (big_endian 1) (take (i + 1) values)
byte_more i n out values lt room so_far is small =
    let place : 1 * i + 1 ≡ i + 1 = omega arith in
    let same : 1 * i ≡ i = omega arith in
    let byte : big_endian 1 n ≡ n ∷ [] = one_of n small in
    written_more 1 i n out (slice_set out i n) values lt so_far
    (ap (λ k. take k (slice_set out i n)) place ∙ take_more_set out i n room ∙ ap (λ k. take k out ++ n ∷ []) (sym same) ∙ ap (λ b. take (1 * i) out ++ b) (sym byte)) is

-- all bytes are written
pub all_written : (w i : ℕ) (out values : List ℕ) → length out ≡ w * length values → length values ≤ i → take (w * i) out ≡ flat_map (big_endian w) (take i values)
    → out ≡ flat_map (big_endian w) values
all_written w i out values len all so_far =
    let more = mul-le-mul_left w all in
    sym (take_all (w * i) out (omega (arith, len, more))) ∙ so_far ∙ ap (flat_map (big_endian w)) (take_all i values all)

-- the numbers of a part that was replaced, and those before it
pub put_inside : (to k x : ℕ) (out row : List ℕ) → to ≤ length out → x < length row → slice_index (put_mid to k out row) (to + x) ≡ slice_index row x
put_inside to k x out row le lt = grind (arith, common_steps)

pub put_before : (to k i : ℕ) (out row : List ℕ) → to ≤ length out → i < to → slice_index (put_mid to k out row) i ≡ slice_index out i
put_before to k i out row le lt = grind (arith, common_steps)

-- what is the same from a place on is the same from a later place on
pub same_later : (a b : ℕ) (xs ys : List ℕ) → a ≤ b → drop a xs ≡ drop a ys → drop b xs ≡ drop b ys
same_later a b xs ys le e =
    let far : a + (b - a) ≡ b = omega arith in
    sym (ap (λ k. drop k xs) far) ∙ sym (drop-drop (b - a) a xs) ∙ ap (drop (b - a)) e ∙ drop-drop (b - a) a ys ∙ ap (λ k. drop k ys) far
