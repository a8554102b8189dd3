-- What holds of each line that is read.
use Rattle.std.proofs.Common.{◌≡◌, ℕ, ◌<◌, ◌^◌, ◌-◌, List, [], ◌∷◌, Bool, true, false, Option, Some, None, Ok, Err, refl, arith, if◌then◌else◌}
use Rattle.std.specs.Prelude.{IfOk, IsTrue, slice_index}
use Rattle.std.proofs.lemmas.Grind.{common_steps}
use Rattle.plain_data.specs.RootName.{is_root_name}
use Rattle.view_script.specs.declared.command.Command.TheVariants as command
use Rattle.view_script.specs.declared.line.Keyword.{Keyword}
use Rattle.view_script.specs.declared.line.Keyword.TheVariants as keyword
use Rattle.view_script.specs.declared.line.Line.{Line}
use Rattle.view_script.specs.declared.line.Line.TheVariants as line
use Rattle.view_script.specs.declared.script_error.ScriptKind.TheVariants.{Limit}
use Rattle.view_script.specs.Line.{raw, open_root, range, get, set, view, fetch, behind}
use Rattle.view_script.specs.Number.{number_in}
use Rattle.view_script.specs.Reading.{word_as, root_in, kind_in, number_word, number_above, above, three_words, any}
use Rattle.view_script.specs.Script.{IsWithinLimits}
use Rattle.view_script.specs.ViewLine.{name_in, side, level_in, strategy_words, map_words}
use Rattle.view_script.proofs.ReadingLemmas.{Gives, gives_any, gives_then, gives_word, gives_ended, number_gives}
use Rattle.view_script.proofs.ViewLineLemmas.{name_gives, side_gives, level_gives, strategy_gives, map_gives}

-- the limits that the words of a line keep
abbrev pub IsLine : Line → Type 0
IsLine (line.Raw root kind dims cell) = IsTrue (is_root_name root)
IsLine (line.Open root) = IsTrue (is_root_name root)
IsLine (line.Range range) = slice_index range 0 < slice_index range 1
IsLine line.Phase = Unit {0}
IsLine line.Actor = Unit {0}
IsLine (line.Command command) = IsWithinLimits command

root_gives : Gives (word_as root_in) (λ root. IsTrue (is_root_name root))
root_gives = gives_word root_in _ each
  where
    each : (word : List ℕ) → IfOk (root_in word) (λ root. IsTrue (is_root_name root))
    each word = go (is_root_name word) refl
      where
        go : (named : Bool) → is_root_name word ≡ named → IfOk (if named then Ok word else Err Limit) (λ root. IsTrue (is_root_name root))
        go true named = named
        go false other = tt

above_gives : (low n : ℕ) → IfOk (above low (Some n)) (λ n. low < n)
above_gives low n = grind (arith, common_steps)

number_above_gives : (low : ℕ) → Gives (number_above low) (λ n. low < n)
number_above_gives low = gives_word (λ word. above low (number_in word)) _ (λ word. each (number_in word))
  where
    each : (n : Option ℕ) → IfOk (above low n) (λ n. low < n)
    each None = tt
    each (Some n) = above_gives low n

raw_gives : Gives raw IsLine
unfolding raw
raw_gives = gives_then (word_as root_in) _ _ _ root_gives (λ root named.
    gives_then (word_as kind_in) _ _ _ (gives_any (word_as kind_in)) (λ kind _.
    gives_then (three_words any) _ _ _ (gives_any (three_words any)) (λ dims _.
    gives_then (three_words (2 ^ 32 - 1)) _ _ _ (gives_any (three_words (2 ^ 32 - 1))) (λ cell _.
    gives_ended (line.Raw root kind dims cell) _ named))))

open_gives : Gives open_root IsLine
unfolding open_root
open_gives = gives_then (word_as root_in) _ _ _ root_gives (λ root named. gives_ended (line.Open root) _ named)

range_gives : Gives range IsLine
unfolding range
range_gives = gives_then (number_word any) _ _ _ (gives_any (number_word any)) (λ low _.
    gives_then (number_above low) _ _ _ (number_above_gives low) (λ high above.
    gives_ended (line.Range (low ∷ high ∷ [])) _ above))

get_gives : Gives get IsLine
unfolding get
get_gives = gives_then (number_word 7) _ _ _ (number_gives 7) (λ level within.
    gives_then (three_words any) _ _ _ (gives_any (three_words any)) (λ pos _.
    gives_ended (line.Command (command.Get level pos)) _ within))

set_gives : Gives set IsLine
unfolding set
set_gives = gives_then (number_word 7) _ _ _ (number_gives 7) (λ level within.
    gives_then (three_words any) _ _ _ (gives_any (three_words any)) (λ pos _.
    gives_then (number_word any) _ _ _ (gives_any (number_word any)) (λ value _.
    gives_ended (line.Command (command.Set level pos value)) _ within)))

view_gives : Gives view IsLine
unfolding view
view_gives = gives_then (word_as name_in) _ _ _ name_gives (λ name named.
    gives_then side _ _ _ side_gives (λ width wide.
    gives_then side _ _ _ side_gives (λ height high.
    gives_then (word_as level_in) _ _ _ level_gives (λ level within.
    gives_then strategy_words _ _ _ strategy_gives (λ strategy budget.
    gives_then map_words _ _ _ map_gives (λ map is_map.
    gives_ended (line.Command (command.View name (record { affine = map; width = width; height = height; level = level; strategy = strategy; low = 0; high = 255 }))) _
    (named, record { map = is_map; width = wide; height = high; level = within; budget = budget; range = omega arith })))))))

fetch_gives : Gives fetch IsLine
unfolding fetch
fetch_gives = gives_then (number_word (2 ^ 18)) _ _ _ (number_gives (2 ^ 18)) (λ count within. gives_ended (line.Command (command.Fetch count)) _ within)

pub line_gives : (first : Keyword) → Gives (behind first) IsLine
line_gives keyword.Raw = raw_gives
line_gives keyword.Open = open_gives
line_gives keyword.Range = range_gives
line_gives keyword.Phase = gives_ended _ _ tt
line_gives keyword.Actor = gives_ended _ _ tt
line_gives keyword.Get = get_gives
line_gives keyword.Set = set_gives
line_gives keyword.View = view_gives
line_gives keyword.Fetch = fetch_gives
