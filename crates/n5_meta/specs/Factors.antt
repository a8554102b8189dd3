-- The factors of a setup, three for each level, or the first rule that they break.
use Rattle.std.specs.Prelude.{ℕ, ◌-◌, ◌^◌, List, [], ◌∷◌, Option, Some, option_map, option_and_then, Result, Ok}
use Rattle.std.specs.Option.{ok_or}
use Rattle.serde_json.specs.Data.{Data, Items, no_items, item}
use Rattle.serde_json.specs.Find.{as_array}
use Rattle.n5_meta.specs.declared.member.Member.TheVariants.{Factors}
use Rattle.n5_meta.specs.declared.meta_err.MetaErr.{MetaErr}
use Rattle.n5_meta.specs.declared.meta_err.MetaErr.TheVariants.{BadNumber}
use Rattle.n5_meta.specs.Rules.{◌>>=◌}
use Rattle.n5_meta.specs.Value.{object_in, array_member, numbers_up_to, three}

-- an array of whole numbers from 0 to 2^32 - 1
abbrev pub factor_row : Data → Option (List ℕ)
factor_row json = option_and_then (numbers_up_to (2 ^ 32 - 1)) (as_array json)

-- arrays of such numbers
abbrev pub rows_of : Items → Option (List (List ℕ))
rows_of no_items = Some []
rows_of (item first items) = option_and_then (λ row. option_map (λ rows. row ∷ rows) (rows_of items)) (factor_row first)

abbrev pub rows_or : Items → Result (List (List ℕ)) MetaErr
rows_or items = ok_or (rows_of items) (BadNumber Factors)

-- one number for each axis in each row
abbrev pub all_three : List (List ℕ) → Result (List (List ℕ)) MetaErr
all_three [] = Ok []
all_three (row ∷ rows) = do
  numbers ← three row
  others ← all_three rows
  Ok (numbers ∷ others)

-- the rules for an object, in order
unfoldable pub factors_of : Data → Result (List (List ℕ)) MetaErr
factors_of json = do
  items ← array_member Factors json
  rows ← rows_or items
  all_three rows

unfoldable pub factors_in : List ℕ → Result (List (List ℕ)) MetaErr
factors_in bytes = do
  json ← object_in bytes
  factors_of json
