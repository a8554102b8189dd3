-- The numbers of command words.
use Rattle.std.specs.Prelude.{ℕ, ◌&&◌, List, Bool, length, Option, Some, None, nat_lt, nat_le, if◌then◌else◌}
use Rattle.std.specs.Char.{is_ascii_digit}
use Rattle.std.specs.List.{list_all}
use Rattle.std.specs.Str.Parse.{digits_value}

-- 1 to `longest` digits
abbrev pub are_digits : ℕ → List ℕ → Bool
are_digits longest word = nat_lt 0 (length word) && nat_le (length word) longest && list_all is_ascii_digit word

-- the number that a word is, where it has 1 to `longest` digits and is at most `most`
abbrev pub number_in : ℕ → ℕ → List ℕ → Option ℕ
number_in longest most word = if are_digits longest word && nat_le (digits_value 10 word) most then Some (digits_value 10 word) else None
