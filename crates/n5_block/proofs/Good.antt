-- A block that breaks no rule is good, and its values are those that are copied.
use Rattle.std.proofs.Common.{◌≡◌, ◌∙◌, ℕ, ◌+◌, ◌*◌, ◌≤◌, List, ◌++◌, length, drop, slice_index, flat_map, sym, ap, arith, append_assoc, length-drop}
use Rattle.voxel_box.specs.BigEndian.{big_endian, IsBytes}
use Rattle.voxel_box.specs.Box.{volume, number, IsWithin, AreWithin}
use Rattle.voxel_box.proofs.BigEndianLemmas.{IsBytes-drop}
use Rattle.voxel_box.proofs.BoxLemmas.{number_below_volume, within_larger}
use Rattle.n5_block.specs.Block.{block, IsGood}
use Rattle.n5_block.specs.Rules.{number_at, sides_in}
use Rattle.n5_block.specs.Rows.{element_of}
use Rattle.n5_block.proofs.Elements.{spelled_at, elements, length-elements, spelled_elements, get_or-elements, elements_small}

-- what a block that breaks no rule has
pub record Sound (width : ℕ) (need full bytes : List ℕ) : Type 0 where
  pub long : 16 ≤ length bytes
  pub mode : number_at bytes 0 2 ≡ 0
  pub axes : number_at bytes 2 2 ≡ 3
  pub at_least : AreWithin need (sides_in bytes)
  pub at_most : AreWithin (sides_in bytes) full
  pub whole : length bytes ≡ 16 + width * volume (sides_in bytes)

-- a head of five numbers before the elements, grouped
pub grouped : (a b c d e f : List ℕ) → a ++ (b ++ (c ++ (d ++ (e ++ f)))) ≡ (a ++ (b ++ (c ++ (d ++ e)))) ++ f
grouped a b c d e f = sym (append_assoc a (b ++ (c ++ (d ++ e))) f ∙ ap (λ r. a ++ r) (append_assoc b (c ++ (d ++ e)) f
    ∙ ap (λ r. b ++ r) (append_assoc c (d ++ e) f ∙ ap (λ r. c ++ r) (append_assoc d e f))))

pub spelling : (width : ℕ) (need full bytes : List ℕ) → IsBytes bytes → Sound width need full bytes → bytes ≡ block width (sides_in bytes) (elements width (volume (sides_in bytes)) (drop 16 bytes))
spelling width need full bytes h s =
    let mode = spelled_at 2 0 bytes h (omega (arith, s.long)) in
    let axes = spelled_at 2 2 bytes h (omega (arith, s.long)) in
    let x = spelled_at 4 4 bytes h (omega (arith, s.long)) in
    let y = spelled_at 4 8 bytes h (omega (arith, s.long)) in
    let z = spelled_at 4 12 bytes h (omega (arith, s.long)) in
    let len : length (drop 16 bytes) ≡ volume (sides_in bytes) * width = omega (arith, length-drop 16 bytes, s.whole) in
    let rest = spelled_elements width (volume (sides_in bytes)) (drop 16 bytes) (IsBytes-drop 16 bytes h) len in
    let tail = flat_map (big_endian width) (elements width (volume (sides_in bytes)) (drop 16 bytes)) in
    let zs = z ∙ ap (λ r. big_endian 4 (number_at bytes 12 4) ++ r) (sym rest) in
    let ys = y ∙ ap (λ r. big_endian 4 (number_at bytes 8 4) ++ r) zs in
    let xs = x ∙ ap (λ r. big_endian 4 (number_at bytes 4 4) ++ r) ys in
    let axes_on = axes ∙ ap (λ r. big_endian 2 (number_at bytes 2 2) ++ r) xs in
    let all = mode ∙ ap (λ r. big_endian 2 (number_at bytes 0 2) ++ r) axes_on in
    all ∙ rw (s.mode, s.axes) (grouped (big_endian 2 0) (big_endian 2 3) (big_endian 4 (number_at bytes 4 4)) (big_endian 4 (number_at bytes 8 4)) (big_endian 4 (number_at bytes 12 4)) tail)

pub good : (width : ℕ) (need full bytes values : List ℕ) → IsBytes bytes → Sound width need full bytes → length values ≡ volume need
    → ((at : List ℕ) → IsWithin at need → slice_index values (number at need) ≡ element_of width (drop 16 bytes) (number at (sides_in bytes)))
    → IsGood width need full bytes values
good width need full bytes values h s count taken = record {
  sides = sides_in bytes;
  elements = elements width (volume (sides_in bytes)) (drop 16 bytes);
  at_least = s.at_least;
  at_most = s.at_most;
  count = length-elements width (volume (sides_in bytes)) (drop 16 bytes);
  small = λ i. elements_small width (volume (sides_in bytes)) i (drop 16 bytes) (IsBytes-drop 16 bytes h) (omega (arith, length-drop 16 bytes, s.whole));
  spelling = spelling width need full bytes h s;
  value_count = count;
  taken = λ at w.
      let inside = number_below_volume at (sides_in bytes) (within_larger at need (sides_in bytes) w s.at_least) in
      taken at w ∙ sym (get_or-elements width (volume (sides_in bytes)) (number at (sides_in bytes)) (drop 16 bytes) inside);
}
