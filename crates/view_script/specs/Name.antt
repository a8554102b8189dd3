-- Names of views.
use Rattle.std.specs.Prelude.{ℕ, ◌==◌, ◌&&◌, ◌||◌, Bool, List, length, nat_lt, nat_le}
use Rattle.std.specs.Char.{is_ascii_digit, is_ascii_lowercase}
use Rattle.std.specs.List.{list_all}

-- a lower-case letter, a digit or `_`
abbrev pub is_view_name_byte : ℕ → Bool
is_view_name_byte b = is_ascii_lowercase b || is_ascii_digit b || (b == 95)

-- 1 to 32 such bytes
abbrev pub is_view_name : List ℕ → Bool
is_view_name word = nat_lt 0 (length word) && nat_le (length word) 32 && list_all is_view_name_byte word
