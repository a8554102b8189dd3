-- The rules of our commands as clap builds them.
use Rattle.std.proofs.Common.{◌≡◌, ◌∙◌, ℕ, ◌||◌, Bool, true, false, cond, List, [], ◌∷◌, map, Option, Some, None, refl, ap, codes, arith}
use Rattle.std.specs.List.{find}
use Rattle.std.specs.Str.{bytes_eq}
use Rattle.clap.specs.Walk.{Rule, Text, arg_by_id, arg_by_index, arg_by_long, arg_by_short}
use Rattle.clap.specs.Simple.{Shape, built, filled, new_shape, with_index}
use Rattle.clap.specs.Words.{App}
use Rattle.std.proofs.lemmas.Slice.Eq.{bytes_eq-Decides}
use Rattle.std.proofs.lemmas.Bool.Decides.{nat_tests}
use Rattle.command_words.specs.Grammar.{is_among}
use Rattle.command_words.specs.Command.{bare, operand, option, with_both, with_slots}

abbrev pub operand_rule : Rule
operand_rule = with_index 1 (filled operand)

abbrev pub option_rule : Text → Rule
option_rule name = with_index 2 (filled (option name))

abbrev pub rules : List Text → List Rule
rules names = operand_rule ∷ map option_rule names

-- the shape of a command with these options
abbrev pub shape : List Text → Shape
shape names = record (new_shape (codes "viewrun")) { rules = rules names; is_built = true; disable_help_flag = true; disable_help_subcommand = true }

abbrev pub app : List Text → App
app names = record { top = shape names; subs = [] }

pub built_bare : built bare ≡ app []
built_bare = refl

pub built_slots : built with_slots ≡ app (codes "slots" ∷ [])
built_slots = refl

pub built_both : built with_both ≡ app (codes "slots" ∷ codes "fetchers" ∷ [])
built_both = refl

pub same_bytes : (a b : Text) → bytes_eq a b ≡ true → a ≡ b
same_bytes a b e = grind (arith, nat_tests, bytes_eq-Decides a b)

pub bytes_same : (a : Text) → bytes_eq a a ≡ true
bytes_same a = grind (arith, nat_tests, bytes_eq-Decides a a)

abbrev pub rule_if : Bool → Text → Option Rule
rule_if b name = cond b (Some (option_rule name)) None

pub by_long : (names : List Text) (name : Text) → arg_by_long (rules names) name ≡ rule_if (is_among name names) name
by_long [] name = refl
by_long (known ∷ names) name = go (bytes_eq known name) refl (by_long names name)
  where
    go : (b : Bool) → bytes_eq known name ≡ b → arg_by_long (rules names) name ≡ rule_if (is_among name names) name
        → cond (b || false) (Some (option_rule known)) (arg_by_long (rules names) name) ≡ rule_if (b || is_among name names) name
    go true e rest = ap (λ n. Some (option_rule n)) (same_bytes known name e)
    go false e rest = rest

options_by_id : (names : List Text) (name : Text) → find (λ (a : Rule). bytes_eq a.id name) (map option_rule names) ≡ rule_if (is_among name names) name
options_by_id [] name = refl
options_by_id (known ∷ names) name = go (bytes_eq known name) refl (options_by_id names name)
  where
    go : (b : Bool) → bytes_eq known name ≡ b → find (λ (a : Rule). bytes_eq a.id name) (map option_rule names) ≡ rule_if (is_among name names) name
        → cond b (Some (option_rule known)) (find (λ (a : Rule). bytes_eq a.id name) (map option_rule names)) ≡ rule_if (b || is_among name names) name
    go true e rest = ap (λ n. Some (option_rule n)) (same_bytes known name e)
    go false e rest = rest

pub by_id : (names : List Text) (name : Text) → bytes_eq (codes "operand") name ≡ false → arg_by_id (rules names) name ≡ rule_if (is_among name names) name
by_id names name other = ap (λ b. cond b (Some operand_rule) (find (λ (a : Rule). bytes_eq a.id name) (map option_rule names))) other ∙ options_by_id names name

pub operand_by_id : (names : List Text) → arg_by_id (rules names) (codes "operand") ≡ Some operand_rule
operand_by_id names = refl

pub by_first_index : (names : List Text) → arg_by_index (rules names) 1 ≡ Some operand_rule
by_first_index names = refl

pub by_second_index : (names : List Text) → arg_by_index (rules names) 2 ≡ None
by_second_index [] = refl
by_second_index (name ∷ names) = by_second_index names

pub by_short : (names : List Text) (x : ℕ) → arg_by_short (rules names) x ≡ None
by_short [] x = refl
by_short (name ∷ names) x = by_short names x
