-- The elements that the bytes of a block spell.
use Rattle.std.proofs.Common.{◌≡◌, ◌∙◌, ℕ, zero, suc, ◌+◌, ◌-◌, ◌*◌, ◌^◌, ◌<◌, ◌≤◌, List, [], ◌∷◌, ◌++◌, length, take, drop, get_or, slice_index, flat_map, refl, sym, ap, subst, arith}
use Rattle.std.proofs.lemmas.Grind.{common_steps}
use Rattle.std.proofs.lemmas.List.{take-append-drop, drop-drop}
use Rattle.voxel_box.specs.BigEndian.{big_endian, value_of, IsBytes}
use Rattle.voxel_box.proofs.BigEndianLemmas.{big_endian-value_of, value_bound, power_pos, IsBytes-drop, IsBytes-take}
use Rattle.n5_block.specs.Rules.{number_at}
use Rattle.n5_block.specs.Rows.{element_of}

-- bytes from a place on are those of a number, and the rest
pub spelled_at : (k a : ℕ) (bytes : List ℕ) → IsBytes bytes → a + k ≤ length bytes → drop a bytes ≡ big_endian k (number_at bytes a k) ++ drop (a + k) bytes
spelled_at k a bytes h le =
    let front = take k (drop a bytes) in
    let len : length front ≡ k = grind (arith, common_steps) in
    let spelled : big_endian k (value_of front) ≡ front = subst (λ n. big_endian n (value_of front) ≡ front) len (big_endian-value_of front (IsBytes-take k (drop a bytes) (IsBytes-drop a bytes h))) in
    sym (rw (spelled, ← drop-drop k a bytes) (take-append-drop k (drop a bytes)))

-- so many elements from the front of bytes
abbrev pub elements : ℕ → ℕ → List ℕ → List ℕ
elements width zero bytes = []
elements width (suc n) bytes = value_of (take width bytes) ∷ elements width n (drop width bytes)

pub length-elements : (width n : ℕ) (bytes : List ℕ) → length (elements width n bytes) ≡ n
length-elements width zero bytes = refl
length-elements width (suc n) bytes = ap suc (length-elements width n (drop width bytes))

pub spelled_elements : (width n : ℕ) (bytes : List ℕ) → IsBytes bytes → length bytes ≡ n * width → flat_map (big_endian width) (elements width n bytes) ≡ bytes
spelled_elements width zero bytes h e = grind (arith, common_steps)
spelled_elements width (suc n) bytes h e =
    let first = spelled_at width 0 bytes h (omega arith) in
    let len : length (drop width bytes) ≡ n * width = grind (arith, common_steps) in
    let rest = spelled_elements width n (drop width bytes) (IsBytes-drop width bytes h) len in
    let width_is : 0 + width ≡ width = omega arith in
    sym (first ∙ ap (λ r. big_endian width (value_of (take width bytes)) ++ r) (ap (λ w. drop w bytes) width_is ∙ sym rest))

pub get_or-elements : (width n i : ℕ) (bytes : List ℕ) → i < n → get_or (elements width n bytes) i 0 ≡ element_of width bytes i
get_or-elements width zero i bytes h = absurd (omega arith)
get_or-elements width (suc n) zero bytes h = let none : 0 ≡ width * 0 = omega arith in ap (λ z. value_of (take width (drop z bytes))) none
get_or-elements width (suc n) (suc i) bytes h = get_or-elements width n i (drop width bytes) (omega arith) ∙ (
    let far : width + width * i ≡ width * suc i = omega arith in
    ap (λ l. value_of (take width l)) (drop-drop (width * i) width bytes ∙ ap (λ z. drop z bytes) far))

pub elements_small : (width n i : ℕ) (bytes : List ℕ) → IsBytes bytes → n * width ≤ length bytes → slice_index (elements width n bytes) i < 256 ^ width
elements_small width zero i bytes h e = power_pos width
elements_small width (suc n) zero bytes h e =
    let len : length (take width bytes) ≡ width = grind (arith, common_steps) in
    subst (λ k. value_of (take width bytes) < 256 ^ k) len (value_bound (take width bytes) (IsBytes-take width bytes h))
elements_small width (suc n) (suc i) bytes h e = elements_small width n i (drop width bytes) (IsBytes-drop width bytes h) (let len : length (drop width bytes) ≡ length bytes - width = grind (arith, common_steps) in omega (arith, len))
