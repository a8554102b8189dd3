-- What `parse` gives of digits is the number that they are.
use Rattle.std.proofs.Common.{◌≡◌, ℕ, ◌<◌, ◌≤◌, ◌^◌, List, true, length, arith, rules, Result, Ok, Err, inl, inr}
use Rattle.std.specs.Prelude.{◌-◌}
use Rattle.std.specs.Char.{is_ascii_digit}
use Rattle.std.specs.List.{list_all}
use Rattle.std.specs.Result.{result_ok, OkIff}
use Rattle.std.specs.Str.Parse.{ParsesUnsigned, digits_value}
use Rattle.std.proofs.lemmas.Bool.{cases_lt}
use Rattle.std.proofs.lemmas.Grind.{common_steps}
use Rattle.std.proofs.lemmas.Str.Parse.{IsNumeralModel, numerals_by_value, parse_digits}
use Rattle.command_words.specs.Number.{number_in}

own : IsNumeralModel (λ ds. list_all is_ascii_digit ds ≡ true) (digits_value 10)
own = numerals_by_value _ (search rules)

pub number_from_parse : {E : Type 0} (longest : ℕ) (word : List ℕ) (parsed : Result ℕ E) → ParsesUnsigned 64 10 word parsed → list_all is_ascii_digit word ≡ true
    → length word ≤ longest → result_ok parsed ≡ number_in longest (2 ^ 64 - 1) word
number_from_parse {E} longest word parsed reads digits short = go parsed (parse_digits own 64 word parsed reads digits)
  where
    go : (parsed : Result ℕ E) → OkIff parsed ((0 < length word) × (digits_value 10 word < 2 ^ 64)) (digits_value 10 word) → result_ok parsed ≡ number_in longest (2 ^ 64 - 1) word
    go (Ok n) h = let some = h.0.0 in let is = h.1 in grind (arith, common_steps, digits)
    go (Err e) h = elim (cases_lt 0 (length word)) [
      | inl some ↦ elim (cases_lt (digits_value 10 word) (2 ^ 64)) [
        | inl fits ↦ absurd (h (some, fits))
        | inr large ↦ grind (arith, common_steps, digits)
      ]
      | inr none ↦ grind (arith, common_steps, digits)
    ]
