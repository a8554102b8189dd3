-- Numbers in bytes as byteorder reads and writes them are those of a block.
use Rattle.std.proofs.Common.{◌≡◌, ℕ, zero, suc, ◌+◌, ◌-◌, ◌*◌, ◌/◌, ◌%◌, ◌^◌, ◌<◌, ◌≤◌, List, [], ◌∷◌, length, take, drop, slice_index, refl, sym, ap, arith}
use Rattle.std.proofs.lemmas.Grind.{common_steps}
use Rattle.std.proofs.Math.Nat.{div-one}
use Rattle.std.specs.Int.{bytes_high_first}
use Rattle.byteorder.specs.Endian.{big_from, big_number}
use Rattle.voxel_box.specs.BigEndian.{big_endian, value_of}
use Rattle.voxel_box.proofs.BigEndianLemmas.{value_cons, value_nil}
use Rattle.n5_block.specs.Rows.{element_of}

-- a number from a place on
from_place : (i n : ℕ) (bytes : List ℕ) → i + n ≤ length bytes → big_from i n bytes ≡ value_of (take n (drop i bytes))
from_place i zero bytes le = sym value_nil
from_place i (suc n) bytes le =
    let cell : take (suc n) (drop i bytes) ≡ slice_index bytes i ∷ take n (drop (suc i) bytes) = grind (arith, common_steps) in
    let len : length (take n (drop (suc i) bytes)) ≡ n = grind (arith, common_steps) in
    rw (cell, value_cons, len, ← from_place (suc i) n bytes (omega arith)) refl

-- the number in the first bytes of a slice's rest
pub read_at : (n start : ℕ) (bytes : List ℕ) → start + n ≤ length bytes → big_number n (take (length bytes - start) (drop start bytes)) ≡ value_of (take n (drop start bytes))
read_at n start bytes le =
    let rest : take (length bytes - start) (drop start bytes) ≡ drop start bytes = grind (arith, common_steps) in
    rw rest (from_place 0 n (drop start bytes) (grind (arith, common_steps)))

-- the bytes of a number
pub written : (n x : ℕ) → bytes_high_first n x ≡ big_endian n x
unfolding big_endian
written zero x = refl
written (suc zero) x = ap (λ z. z % 256 ∷ []) (sym (div-one x))
written (suc (suc n)) x = ap (λ bytes. x / 256 ^ suc n % 256 ∷ bytes) (written (suc n) x)

-- an element of one byte
pub one_byte : (i : ℕ) (bytes : List ℕ) → i < length bytes → slice_index bytes i ≡ element_of 1 bytes i
one_byte i bytes lt =
    let place : 1 * i ≡ i = omega arith in
    let same : slice_index bytes (1 * i) ≡ slice_index bytes i = ap (slice_index bytes) place in
    let read : slice_index bytes (1 * i) * 256 ^ 0 + 0 ≡ element_of 1 bytes i = from_place (1 * i) 1 bytes (omega arith) in
    omega (arith, same, read)
