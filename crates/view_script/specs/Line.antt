-- What each line says behind its first word.
use Rattle.std.specs.Prelude.{◌-◌, ◌^◌, [], ◌∷◌}
use Rattle.view_script.specs.declared.command.Command.TheVariants as command
use Rattle.view_script.specs.declared.line.Keyword.{Keyword}
use Rattle.view_script.specs.declared.line.Keyword.TheVariants as keyword
use Rattle.view_script.specs.declared.line.Line.{Line}
use Rattle.view_script.specs.declared.line.Line.TheVariants as line
use Rattle.view_script.specs.Reading.{Reading, ◌>>=◌, word_as, ended, root_in, kind_in, number_word, number_above, three_words, any}
use Rattle.view_script.specs.ViewLine.{name_in, side, level_in, strategy_words, map_words}

unfoldable pub raw : Reading Line
raw = do
  root ← word_as root_in
  kind ← word_as kind_in
  dims ← three_words any
  cell ← three_words (2 ^ 32 - 1)
  ended (line.Raw root kind dims cell)

unfoldable pub open_root : Reading Line
open_root = do
  root ← word_as root_in
  ended (line.Open root)

unfoldable pub range : Reading Line
range = do
  low ← number_word any
  high ← number_above low
  ended (line.Range (low ∷ high ∷ []))

unfoldable pub get : Reading Line
get = do
  level ← number_word 7
  pos ← three_words any
  ended (line.Command (command.Get level pos))

unfoldable pub set : Reading Line
set = do
  level ← number_word 7
  pos ← three_words any
  value ← number_word any
  ended (line.Command (command.Set level pos value))

-- a view shows 0 to 255, where no range is given
unfoldable pub view : Reading Line
view = do
  name ← word_as name_in
  width ← side
  height ← side
  level ← word_as level_in
  strategy ← strategy_words
  map ← map_words
  ended (line.Command (command.View name (record { affine = map; width = width; height = height; level = level; strategy = strategy; low = 0; high = 255 })))

unfoldable pub fetch : Reading Line
fetch = do
  count ← number_word (2 ^ 18)
  ended (line.Command (command.Fetch count))

abbrev pub behind : Keyword → Reading Line
behind keyword.Raw = raw
behind keyword.Open = open_root
behind keyword.Range = range
behind keyword.Phase = ended line.Phase
behind keyword.Actor = ended line.Actor
behind keyword.Get = get
behind keyword.Set = set
behind keyword.View = view
behind keyword.Fetch = fetch
