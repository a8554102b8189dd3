-- A journal: the bytes that tell what a key held before a put.
use Rattle.std.specs.Prelude.{◌≡◌, ℕ, ◌+◌, ◌%◌, ◌^◌, ◌<◌, List, ◌++◌, length, sum, Option, None, Some}
use Rattle.std.specs.Int.{bytes_high_first}

-- what a key held before a put
pub record Before : Type 0 where
  pub key : List ℕ
  -- the length of the key's file, where there was one
  pub len : Option ℕ
  -- the first bytes of the file: those that the put writes over
  pub front : List ℕ

-- a number in eight bytes, high byte first
abbrev pub word : ℕ → List ℕ
word n = bytes_high_first 8 n

-- the sum of bytes in 64 bits
abbrev pub byte_sum : List ℕ → ℕ
byte_sum bytes = sum bytes % 2 ^ 64

-- the length of the file, or 0
abbrev pub len_of : Option ℕ → ℕ
len_of None = 0
len_of (Some len) = len

-- whether there was a file: 1 where there was one, 2 where there was none
abbrev pub file_kind : Option ℕ → ℕ
file_kind None = 2
file_kind (Some len) = 1

-- The bytes of a journal and what follows: the lengths of the key and of the front, the length of the file, the sum of
-- key and front, whether there was a file, the key and the front.
abbrev pub journal : Before → List ℕ → List ℕ
journal b rest =
    word (length b.key) ++ (word (length b.front) ++ (word (len_of b.len) ++ (word ((byte_sum b.key + byte_sum b.front) % 2 ^ 64) ++ (word (file_kind b.len) ++ (b.key ++ (b.front ++ rest))))))

-- the bytes begin with the journal of this
pub record Tells (bytes : List ℕ) (b : Before) : Type 0 where
  pub rest : List ℕ
  -- the lengths have 64 bits
  pub key_fits : length b.key < 2 ^ 64
  pub front_fits : length b.front < 2 ^ 64
  pub len_fits : len_of b.len < 2 ^ 64
  pub spelled : bytes ≡ journal b rest
