-- The names that may stand for the root of a dataset.
use Rattle.std.specs.Prelude.{ℕ, ◌==◌, ◌&&◌, ◌||◌, List, [], ◌∷◌, Bool, true, false, not, length, nat_le, codes}
use Rattle.std.specs.List.{slice_split, list_all}
use Rattle.std.specs.Str.{bytes_eq}

-- a letter, a digit, `_`, `-` or `.`
abbrev pub is_name_byte : ℕ → Bool
is_name_byte b =
    (nat_le 97 b && nat_le b 122) || (nat_le 65 b && nat_le b 90) || (nat_le 48 b && nat_le b 57)
    || b == 95 || b == 45 || b == 46

abbrev pub is_empty : List ℕ → Bool
is_empty [] = true
is_empty (b ∷ bytes) = false

-- a part of a root name
abbrev pub is_part : List ℕ → Bool
is_part part = not (is_empty part) && list_all is_name_byte part && not (bytes_eq part (codes ".")) && not (bytes_eq part (codes ".."))

-- a root name: at most 200 bytes, one or more parts with `/` between them, each of at least one byte
abbrev pub is_root_name : List ℕ → Bool
is_root_name name = nat_le (length name) 200 && list_all is_part (slice_split (λ b. b == 47) name)
