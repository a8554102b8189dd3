-- A good block breaks no rule.
use Rattle.std.proofs.Common.{◌≡◌, ◌∙◌, ℕ, ◌+◌, ◌*◌, ◌^◌, ◌<◌, ◌≤◌, ◌==◌, nat_lt, not, cond, lit<, List, [], ◌∷◌, ◌++◌, length, take, drop, slice_index, flat_map, Option, None, refl, sym, ap, subst, arith, length-append}
use Rattle.std.specs.Option.{option_or}
use Rattle.std.proofs.lemmas.Bool.Decides.{nat_tests}
use Rattle.std.proofs.lemmas.List.{drop-drop}
use Rattle.std.proofs.Math.Seq.{take-append_seam, drop-append_seam}
use Rattle.voxel_box.specs.BigEndian.{big_endian, value_of}
use Rattle.voxel_box.specs.Box.{volume}
use Rattle.voxel_box.proofs.BigEndianLemmas.{length-big_endian, value_of-big_endian}
use Rattle.n5_block.specs.declared.block_err.BlockErr.{BlockErr}
use Rattle.n5_block.specs.Block.{block, IsGood}
use Rattle.n5_block.specs.Rules.{number_at, sides_in, side_outside, wrong_length, broken_block_rule}
use Rattle.n5_block.proofs.Good.{Sound, grouped}

-- a number at the front is read, and what follows it is the rest
pub number_in_front : (k n : ℕ) (rest : List ℕ) → n < 256 ^ k → value_of (take k (big_endian k n ++ rest)) ≡ n
number_in_front k n rest lt = ap value_of (subst (λ j. take j (big_endian k n ++ rest) ≡ big_endian k n) (length-big_endian k n) (take-append_seam (big_endian k n) rest)) ∙ value_of-big_endian k n lt

pub rest_behind : (k n : ℕ) (rest : List ℕ) → drop k (big_endian k n ++ rest) ≡ rest
rest_behind k n rest = subst (λ j. drop j (big_endian k n ++ rest) ≡ rest) (length-big_endian k n) (drop-append_seam (big_endian k n) rest)

-- what lies behind a number that begins at a place
on : (a k n : ℕ) (bytes rest : List ℕ) → drop a bytes ≡ big_endian k n ++ rest → drop (a + k) bytes ≡ rest
on a k n bytes rest e = sym (drop-drop k a bytes) ∙ ap (drop k) e ∙ rest_behind k n rest

at : (a k n : ℕ) (bytes rest : List ℕ) → n < 256 ^ k → drop a bytes ≡ big_endian k n ++ rest → number_at bytes a k ≡ n
at a k n bytes rest lt e = ap (λ l. value_of (take k l)) e ∙ number_in_front k n rest lt

length-elements : (width : ℕ) (elements : List ℕ) → length (flat_map (big_endian width) elements) ≡ width * length elements
length-elements width [] = omega arith
length-elements width (e ∷ elements) = length-append (big_endian width e) (flat_map (big_endian width) elements) ∙ omega (arith, length-big_endian width e, length-elements width elements)

-- one side that is within its bounds
inside : (axis low high side : ℕ) → low ≤ side → side ≤ high → side_outside axis low high side ≡ None
inside axis low high side p q = grind (arith, nat_tests)

fits : (len need : ℕ) → len ≡ need → wrong_length len need ≡ None
fits len need e = grind (arith, nat_tests)

none_or : {T : Type 0} (p q : Option T) → p ≡ None → q ≡ None → option_or p q ≡ None
none_or p q e h = rw (e, h) refl

pub unbroken : (width : ℕ) (need full bytes : List ℕ) → Sound width need full bytes → broken_block_rule width need full bytes ≡ None
unbroken width need full bytes s =
    let sides = none_or _ _ (inside 0 _ _ (number_at bytes 4 4) s.at_least.x s.at_most.x) (none_or _ _ (inside 1 _ _ (number_at bytes 8 4) s.at_least.y s.at_most.y)
    (none_or _ _ (inside 2 _ _ (number_at bytes 12 4) s.at_least.z s.at_most.z) (fits (length bytes) (16 + width * volume (sides_in bytes)) s.whole))) in
    first (length bytes) (number_at bytes 0 2) (number_at bytes 2 2) _ _ _ _ s.long s.mode s.axes sides
  where
    first : (len mode axes : ℕ) (a b c rest : Option BlockErr) → 16 ≤ len → mode ≡ 0 → axes ≡ 3 → rest ≡ None
        → cond (nat_lt len 16) a (cond (not (mode == 0)) b (cond (not (axes == 3)) c rest)) ≡ None
    first len mode axes a b c rest p q r e = grind (arith, nat_tests)

length-block : (width : ℕ) (sides elements : List ℕ) → length (block width sides elements) ≡ 16 + width * length elements
length-block width sides elements = simp (length-append, length-big_endian, length-elements) (omega arith)

-- what the bytes of a good block give
pub record Fields (bytes sides elements : List ℕ) (width : ℕ) : Type 0 where
  pub mode : number_at bytes 0 2 ≡ 0
  pub axes : number_at bytes 2 2 ≡ 3
  pub x : number_at bytes 4 4 ≡ slice_index sides 0
  pub y : number_at bytes 8 4 ≡ slice_index sides 1
  pub z : number_at bytes 12 4 ≡ slice_index sides 2
  pub rest : drop 16 bytes ≡ flat_map (big_endian width) elements

pub fields_of_good : (width : ℕ) (need full bytes values : List ℕ) → slice_index full 0 < 2 ^ 32 → slice_index full 1 < 2 ^ 32 → slice_index full 2 < 2 ^ 32
    → (good : IsGood width need full bytes values) → Fields bytes good.sides good.elements width
fields_of_good width need full bytes values fx fy fz good =
    let sx = slice_index good.sides 0 in
    let sy = slice_index good.sides 1 in
    let sz = slice_index good.sides 2 in
    let rest = flat_map (big_endian width) good.elements in
    let lx : sx < 256 ^ 4 = omega (arith, fx, good.at_most.x) in
    let ly : sy < 256 ^ 4 = omega (arith, fy, good.at_most.y) in
    let lz : sz < 256 ^ 4 = omega (arith, fz, good.at_most.z) in
    let from_z = big_endian 4 sz ++ rest in
    let from_y = big_endian 4 sy ++ from_z in
    let from_x = big_endian 4 sx ++ from_y in
    let from_axes = big_endian 2 3 ++ from_x in
    let spelled : bytes ≡ big_endian 2 0 ++ from_axes = good.spelling ∙ sym (grouped (big_endian 2 0) (big_endian 2 3) (big_endian 4 sx) (big_endian 4 sy) (big_endian 4 sz) rest) in
    let e2 : drop 2 bytes ≡ from_axes = on 0 2 0 bytes from_axes spelled in
    let e4 : drop 4 bytes ≡ from_x = on 2 2 3 bytes from_x e2 in
    let e8 : drop 8 bytes ≡ from_y = on 4 4 sx bytes from_y e4 in
    let e12 : drop 12 bytes ≡ from_z = on 8 4 sy bytes from_z e8 in
    record {
      mode = at 0 2 0 bytes from_axes (lit< tt) spelled;
      axes = at 2 2 3 bytes from_x (lit< tt) e2;
      x = at 4 4 sx bytes from_y lx e4;
      y = at 8 4 sy bytes from_z ly e8;
      z = at 12 4 sz bytes rest lz e12;
      rest = on 12 4 sz bytes rest e12;
    }

-- a good block is sound
pub sound_of_good : (width : ℕ) (need full bytes values : List ℕ) → slice_index full 0 < 2 ^ 32 → slice_index full 1 < 2 ^ 32 → slice_index full 2 < 2 ^ 32
    → IsGood width need full bytes values → Sound width need full bytes
sound_of_good width need full bytes values fx fy fz good =
    let fields = fields_of_good width need full bytes values fx fy fz good in
    let len = ap length good.spelling ∙ length-block width good.sides good.elements in
    let volumes : volume (sides_in bytes) ≡ volume good.sides = rw (fields.x, fields.y, fields.z) refl in
    record {
      long = omega (arith, len);
      mode = fields.mode;
      axes = fields.axes;
      at_least = record { x = rw fields.x good.at_least.x; y = rw fields.y good.at_least.y; z = rw fields.z good.at_least.z };
      at_most = record { x = rw fields.x good.at_most.x; y = rw fields.y good.at_most.y; z = rw fields.z good.at_most.z };
      whole = len ∙ ap (λ v. 16 + width * v) (good.count ∙ sym volumes);
    }
