-- Numbers and the bytes that spell them, the high byte first.
use Rattle.std.specs.Prelude.{◌≡◌, ℕ, zero, suc, ◌+◌, ◌*◌, ◌/◌, ◌%◌, ◌^◌, ◌<◌, List, [], ◌∷◌, length, slice_index}

-- the low bytes of a number, so many of them
unfoldable pub big_endian : ℕ → ℕ → List ℕ
big_endian zero n = []
big_endian (suc k) n = n / 256 ^ k % 256 ∷ big_endian k n

-- the number that bytes spell
unfoldable pub value_of : List ℕ → ℕ
value_of [] = 0
value_of (b ∷ bytes) = b * 256 ^ length bytes + value_of bytes

-- a list of bytes
abbrev pub IsBytes : List ℕ → Type 0
IsBytes bytes = (i : ℕ) → slice_index bytes i < 256

-- So many bytes and the numbers that fit into them stand for each other, one to one.
pub record AreSpelled (width : ℕ) : Type 0 where
  pub byte_count : (n : ℕ) → length (big_endian width n) ≡ width
  pub are_bytes : (n : ℕ) → IsBytes (big_endian width n)
  pub same_number : (n : ℕ) → n < 256 ^ width → value_of (big_endian width n) ≡ n
  pub number_below : (bytes : List ℕ) → IsBytes bytes → length bytes ≡ width → value_of bytes < 256 ^ width
  pub same_bytes : (bytes : List ℕ) → IsBytes bytes → length bytes ≡ width → big_endian width (value_of bytes) ≡ bytes
