-- What a script says, line by line, or the first rule that a line breaks.
use Rattle.std.specs.Prelude.{◌≡◌, ℕ, ◌+◌, ◌-◌, ◌*◌, ◌^◌, ◌==◌, ◌&&◌, List, [], ◌∷◌, ◌++◌, length, Bool, true, false, not, Option, Some, None, is_none, Result, Ok, Err, nat_lt, nat_le, slice_index, if◌then◌else◌, slice_get}
use Rattle.std.specs.Option.{ok_or, option_map_or}
use Rattle.std.specs.List.{list_any}
use Rattle.std.specs.Str.{bytes_eq, is_utf8}
use Rattle.scale_pick.specs.declared.view.View.{View}
use Rattle.view_script.specs.declared.command.Command.{Command}
use Rattle.view_script.specs.declared.command.Command.TheVariants as command
use Rattle.view_script.specs.declared.line.Keyword.{Keyword}
use Rattle.view_script.specs.declared.line.Keyword.TheVariants as keyword
use Rattle.view_script.specs.declared.line.Line.{Line}
use Rattle.view_script.specs.declared.line.Line.TheVariants as line
use Rattle.view_script.specs.declared.read.LineErr.{LineErr}
use Rattle.view_script.specs.declared.read.LineErr.TheVariants as refused
use Rattle.view_script.specs.declared.script.Head.{Head}
use Rattle.view_script.specs.declared.script.Head.TheVariants as head
use Rattle.view_script.specs.declared.script.Script.{Script}
use Rattle.view_script.specs.declared.script_error.ScriptErr.{ScriptErr}
use Rattle.view_script.specs.declared.script_error.ScriptErr.TheVariants.{At, Memory}
use Rattle.view_script.specs.declared.script_error.ScriptKind.{ScriptKind}
use Rattle.view_script.specs.declared.script_error.ScriptKind.TheVariants.{NotText, UnknownWord, Limit, Order}
use Rattle.view_script.specs.Keyword.{keyword_in}
use Rattle.view_script.specs.Line.{behind}
use Rattle.view_script.specs.Lines.{lines_of}
use Rattle.view_script.specs.Script.{pixel_count, view_names}
use Rattle.view_script.specs.Words.{words_of}

abbrev pub has_none : {X : Type 0} → List X → Bool
has_none [] = true
has_none (x ∷ xs) = false

-- how many actors the last phase has so far
abbrev pub actors_in_last : List (List (List Command)) → ℕ
actors_in_last phases = option_map_or length (slice_get phases (length phases - 1)) 0

-- where a line may stand, by what the lines before it say
abbrev pub may_stand : Option Script → Keyword → Bool
may_stand None keyword.Raw = true
may_stand None keyword.Open = true
may_stand None other = false
may_stand (Some script) keyword.Raw = false
may_stand (Some script) keyword.Open = false
may_stand (Some script) keyword.Range = is_none script.range && has_none script.phases
may_stand (Some script) keyword.Phase = true
may_stand (Some script) keyword.Actor = not (has_none script.phases)
may_stand (Some script) other = nat_lt 0 (actors_in_last script.phases)

-- a view has room among the pixels that other views have
abbrev pub has_room : ℕ → Command → Bool
has_room pixels (command.View name view) = nat_le (pixels + view.width * view.height) (2 ^ 26)
has_room pixels other = true

-- how many phases a script may have, how many actors a phase, and how many pixels all views
abbrev pub is_within_limits : Option Script → Line → Bool
is_within_limits (Some script) line.Phase = nat_lt (length script.phases) 1024
is_within_limits (Some script) line.Actor = nat_lt (actors_in_last script.phases) 16
is_within_limits (Some script) (line.Command command) = has_room (pixel_count script.phases) command
is_within_limits so_far other = true

-- a view has a name that no other view has
abbrev pub is_named : List (List ℕ) → List ℕ → Bool
is_named names name = list_any (bytes_eq name) names

abbrev pub has_own_name : List (List ℕ) → Command → Bool
has_own_name names (command.View name view) = not (is_named names name)
has_own_name names other = true

abbrev pub is_new : Option Script → Line → Bool
is_new (Some script) (line.Command command) = has_own_name (view_names script.phases) command
is_new so_far other = true

infixl 10 ◌>>=◌
abbrev pub ◌>>=◌ : {A B : Type 0} → Result A ScriptKind → (A → Result B ScriptKind) → Result B ScriptKind
(Ok x) >>= next = next x
(Err kind) >>= next = Err kind

-- a rule, by its test
abbrev pub demand : Bool → ScriptKind → Result (Unit {0}) ScriptKind
demand passes kind = if passes then Ok tt else Err kind

-- what a line says, by its first word and the others, or the first rule that it breaks
unfoldable pub said : Option Script → List ℕ → List ℕ → List (List ℕ) → Result Line ScriptKind
said so_far bytes first words = do
  text ← demand (is_utf8 bytes) NotText
  keyword ← ok_or (keyword_in first) UnknownWord
  place ← demand (may_stand so_far keyword) Order
  read ← behind keyword words
  limits ← demand (is_within_limits so_far read.0) Limit
  name ← demand (is_new so_far read.0) Order
  Ok read.0

-- the last element is changed
abbrev pub at_last : {X : Type 0} → (X → X) → List X → List X
at_last change [] = []
at_last change (x ∷ []) = change x ∷ []
at_last change (x ∷ y ∷ xs) = x ∷ at_last change (y ∷ xs)

-- the script with what a line says
abbrev pub opened : Head → Script
opened head = record { head = head; range = None; phases = [] }

-- a view shows the script's range, where there is one
abbrev pub shown_in : Option (List ℕ) → View → View
shown_in None view = view
shown_in (Some range) view = record view { low = slice_index range 0; high = slice_index range 1 }

abbrev pub in_range : Option (List ℕ) → Command → Command
in_range range (command.View name view) = command.View name (shown_in range view)
in_range range other = other

abbrev pub with_line : Script → Line → Script
with_line script (line.Raw root kind dims cell) = opened (head.Raw root kind dims cell)
with_line script (line.Open root) = opened (head.Pyramid root)
with_line script (line.Range range) = record script { range = Some range }
with_line script line.Phase = record script { phases = script.phases ++ [] ∷ [] }
with_line script line.Actor = record script { phases = at_last (λ actors. actors ++ [] ∷ []) script.phases }
with_line script (line.Command command) = record script { phases = at_last (at_last (λ commands. commands ++ in_range script.range command ∷ [])) script.phases }

abbrev pub with_read_line : Option Script → Line → Option Script
with_read_line None (line.Raw root kind dims cell) = Some (opened (head.Raw root kind dims cell))
with_read_line None (line.Open root) = Some (opened (head.Pyramid root))
with_read_line None other = None
with_read_line (Some script) said = Some (with_line script said)

-- a line without words, or whose first word begins with `#`, says nothing
abbrev pub is_remark : List ℕ → Bool
is_remark [] = false
is_remark (b ∷ word) = b == 35

abbrev pub after_said : Option Script → List ℕ → List ℕ → List (List ℕ) → Result (Option Script) ScriptKind
after_said so_far bytes first words = do
  line ← said so_far bytes first words
  Ok (with_read_line so_far line)

abbrev pub after_words : Option Script → List ℕ → List (List ℕ) → Result (Option Script) ScriptKind
after_words so_far bytes [] = Ok so_far
after_words so_far bytes (first ∷ words) = if is_remark first then Ok so_far else after_said so_far bytes first words

unfoldable pub after_line : Option Script → List ℕ → Result (Option Script) ScriptKind
after_line so_far bytes = after_words so_far bytes (words_of bytes)

-- the lines from a number on, after what those before them say
abbrev pub at_line : ℕ → Result (Option Script) ScriptKind → (Option Script → Result Script ScriptErr) → Result Script ScriptErr
at_line number (Ok so_far) rest = rest so_far
at_line number (Err kind) rest = Err (At number kind)

abbrev pub script_from : ℕ → Option Script → List (List ℕ) → Result Script ScriptErr
script_from number so_far [] = ok_or so_far (At number Order)
script_from number so_far (bytes ∷ lines) = at_line number (after_line so_far bytes) (λ next. script_from (number + 1) next lines)

-- what a script says
unfoldable pub script_in : List ℕ → Result Script ScriptErr
script_in bytes = if nat_lt (2 ^ 20) (length bytes) then Err (At 0 Limit) else script_from 1 None (lines_of bytes)

-- a function answers what a script says, unless memory runs out
abbrev pub Answers : Result Script ScriptErr → Result Script ScriptErr → Type 0
Answers (Ok script) meaning = meaning ≡ Ok script
Answers (Err (At number kind)) meaning = meaning ≡ Err (At number kind)
Answers (Err Memory) meaning = Unit {0}

-- what a line that was taken, or refused, means
abbrev pub TakesLine : {U : Type 0} → Option Script → List ℕ → Option Script → Result U LineErr → Type 0
TakesLine old bytes new (Ok u) = after_line old bytes ≡ Ok new
TakesLine old bytes new (Err (refused.Rule kind)) = after_line old bytes ≡ Err kind
TakesLine old bytes new (Err refused.Memory) = Unit {0}
