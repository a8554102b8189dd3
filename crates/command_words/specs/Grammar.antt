-- The grammar of the words that follow a command's own: one operand and options with values, in any order, read from left to right.
use Rattle.std.specs.Prelude.{ℕ, ◌||◌, Bool, true, false, not, List, [], ◌∷◌, ◌++◌, Option, Some, None, codes, find, if◌then◌else◌, option_and_then, option_map}
use Rattle.std.specs.List.{list_any}
use Rattle.std.specs.Str.{bytes_eq}
use Rattle.clap.specs.Lexer.{long_of, short_of}

abbrev pub Text : Type 0
Text = List ℕ

-- what the words gave so far: the names of options with their values, and the operand under the name `operand`
abbrev pub Uses : Type 0
Uses = List (Text × Text)

abbrev pub has : Text → Uses → Bool
has name uses = list_any (λ given. bytes_eq given.0 name) uses

abbrev pub value_in : Uses → Text → Option Text
value_in uses name = option_map (λ given. given.1) (find (λ given. bytes_eq given.0 name) uses)

abbrev pub is_among : Text → List Text → Bool
is_among name names = list_any (λ known. bytes_eq known name) names

-- `--`
abbrev pub dashes : Text
dashes = 45 ∷ 45 ∷ []

-- a value for a name that has none yet
abbrev pub added : Text → Text → Uses → (Uses → Option Uses) → Option Uses
added name value uses next = if has name uses then None else next (uses ++ (name, value) ∷ [])

-- after `--` each word is an operand
abbrev pub trail : Uses → List Text → Option Uses
trail uses [] = Some uses
trail uses (word ∷ words) = added (codes "operand") word uses (λ more. trail more words)

-- an option, whose value follows `=` or is the next word
abbrev pub met : Uses → Text → Option Text → (Uses → Option Text → Option Uses) → Option Uses
met uses name (Some value) next = added name value uses (λ more. next more None)
met uses name None next = next uses (Some name)

-- a word by its looks: `--`, `--NAME` or `--NAME=VALUE`, `-` with more bytes, or any other word. Where an option waits for its value
-- only the last may stand; else it is the operand.
abbrev pub read_word : List Text → Uses → Option Text → Text → Bool → Option (Text × Option Text) → Option Text → Option Uses → (Uses → Option Text → Option Uses) → Option Uses
read_word names uses None word true long short rest next = rest
read_word names uses None word false (Some option) short rest next = if is_among option.0 names then met uses option.0 option.1 next else None
read_word names uses None word false None (Some flags) rest next = None
read_word names uses None word false None None rest next = added (codes "operand") word uses (λ more. next more None)
read_word names uses (Some name) word true long short rest next = None
read_word names uses (Some name) word false (Some option) short rest next = None
read_word names uses (Some name) word false None (Some flags) rest next = None
read_word names uses (Some name) word false None None rest next = added name word uses (λ more. next more None)

-- what words give beside what was given before, where they are in the grammar; an option may wait for its value
abbrev pub reads : List Text → Uses → Option Text → List Text → Option Uses
reads names uses None [] = Some uses
reads names uses (Some name) [] = None
reads names uses None (word ∷ words) =
    read_word names uses None word (bytes_eq word dashes) (long_of word) (short_of word) (trail uses words) (λ more waits. reads names more waits words)
reads names uses (Some name) (word ∷ words) =
    read_word names uses (Some name) word (bytes_eq word dashes) (long_of word) (short_of word) (trail uses words) (λ more waits. reads names more waits words)

-- the operand or an option is missing
abbrev pub lacks : List Text → Uses → Bool
lacks names uses = not (has (codes "operand") uses) || list_any (λ name. not (has name uses)) names

-- what words give, where they are one operand and each of these options once
unfoldable pub given_in : List Text → List Text → Option Uses
given_in names words = option_and_then (λ uses. if lacks names uses then None else Some uses) (reads names [] None words)
