-- The words of a view: its name, its level, its strategy and its map.
use Rattle.std.specs.Prelude.{ℕ, ◌^◌, ◌==◌, ℤ, pos, neg_ℤ, List, [], ◌∷◌, Option, Some, None, Result, Ok, Err, nat_le, if◌then◌else◌, codes}
use Rattle.std.specs.Str.{bytes_eq}
use Rattle.scale_pick.specs.declared.strategy.Strategy.{Strategy}
use Rattle.scale_pick.specs.declared.strategy.Strategy.TheVariants as strategy
use Rattle.whole_affine.specs.Affine.{Map}
use Rattle.view_script.specs.declared.script_error.ScriptKind.{ScriptKind}
use Rattle.view_script.specs.declared.script_error.ScriptKind.TheVariants.{UnknownWord, Limit}
use Rattle.view_script.specs.Name.{is_view_name}
use Rattle.view_script.specs.Number.{number_in}
use Rattle.view_script.specs.Reading.{Reading, ◌>>=◌, give, word_as, at_most, number_word, number_between}

abbrev pub name_in : List ℕ → Result (List ℕ) ScriptKind
name_in word = if is_view_name word then Ok word else Err Limit

-- a side of a picture
abbrev pub side : Reading ℕ
side = number_between 1 4096

-- a level, or the best one for the view's map
abbrev pub given_level : Option ℕ → Result (Option ℕ) ScriptKind
given_level None = Err UnknownWord
given_level (Some level) = if nat_le level 7 then Ok (Some level) else Err Limit

abbrev pub level_in : List ℕ → Result (Option ℕ) ScriptKind
level_in word = if bytes_eq word (codes "auto") then Ok None else given_level (number_in word)

-- a strategy, or none where the word is `budgeted`, behind which stands how many cells it may load
abbrev pub strategy_in : List ℕ → Result (Option Strategy) ScriptKind
strategy_in word =
    if bytes_eq word (codes "blocking") then Ok (Some strategy.Blocking) else
    if bytes_eq word (codes "volatile") then Ok (Some strategy.Volatile) else
    if bytes_eq word (codes "dontload") then Ok (Some strategy.DontLoad) else
    if bytes_eq word (codes "budgeted") then Ok None else Err UnknownWord

unfoldable pub budgeted : Reading Strategy
budgeted = do
  cells ← number_word (2 ^ 20)
  give (strategy.Budgeted cells)

abbrev pub or_budgeted : Option Strategy → Reading Strategy
or_budgeted (Some plain) = give plain
or_budgeted None = budgeted

unfoldable pub strategy_words : Reading Strategy
strategy_words = do
  plain ← word_as strategy_in
  or_budgeted plain

-- a matrix entry: a number of at most 2^31, before which one `-` may stand
abbrev pub signed : (ℕ → ℤ) → Result ℕ ScriptKind → Result ℤ ScriptKind
signed sign (Ok size) = Ok (sign size)
signed sign (Err kind) = Err kind

abbrev pub behind_minus : List ℕ → Option (List ℕ)
behind_minus [] = None
behind_minus (b ∷ word) = if b == 45 then Some word else None

abbrev pub entry_from : Option (List ℕ) → List ℕ → Result ℤ ScriptKind
entry_from (Some digits) word = signed (λ size. neg_ℤ (pos size)) (at_most (2 ^ 31) (number_in digits))
entry_from None word = signed pos (at_most (2 ^ 31) (number_in word))

abbrev pub entry_in : List ℕ → Result ℤ ScriptKind
entry_in word = entry_from (behind_minus word) word

-- the entries of an axis: the factors of the column and of the row, and the constant
unfoldable pub matrix_row : Reading (List ℤ)
matrix_row = do
  column ← word_as entry_in
  row ← word_as entry_in
  constant ← word_as entry_in
  give (column ∷ row ∷ constant ∷ [])

-- the denominator, and the entries of each axis
unfoldable pub map_words : Reading Map
map_words = do
  q ← number_between 1 (2 ^ 31)
  x ← matrix_row
  y ← matrix_row
  z ← matrix_row
  give (record { q = q; rows = x ∷ y ∷ z ∷ [] })
