-- The commands as `clap` is told of them.
use Rattle.std.specs.Prelude.{List, [], ◌∷◌, ℕ, Option, Some, None, codes, true}
use Rattle.clap.specs.Words.{App, Row, Rule, fault_of, matches_of, new_app, new_rule, with_rule}
use Rattle.clap.specs.Simple.{on_top}
use Rattle.clap.specs.Kinds.{Kinds}

-- what a command is about: the one word that is no option
abbrev pub operand : Rule
operand = record (new_rule (codes "operand")) { required = true }

-- an option `--NAME`, which has a value and has to be there
abbrev pub option : List ℕ → Rule
option name = record (new_rule name) { long = Some name; required = true }

-- `--help` is no option
abbrev pub without_help : App → App
without_help = on_top (λ shape. record shape { disable_help_flag = true })

-- a command of an operand alone
abbrev pub bare : App
bare = with_rule (without_help (new_app (codes "viewrun"))) operand

-- a command with `--slots`
abbrev pub with_slots : App
with_slots = with_rule bare (option (codes "slots"))

-- a command with `--slots` and `--fetchers`
abbrev pub with_both : App
with_both = with_rule with_slots (option (codes "fetchers"))

abbrev pub where_none : Kinds → List Row → Option (List Row)
where_none [] rows = Some rows
where_none (kind ∷ kinds) rows = None

-- what `clap` finds in the words, where it takes them
abbrev pub taken : App → List (List ℕ) → Option (List Row)
taken app words = where_none (fault_of app words) (matches_of app words)
