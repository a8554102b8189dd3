-- What was given so far, and clap's rows of it.
use Rattle.std.proofs.Common.{◌≡◌, ◌∙◌, ◌||◌, Bool, true, false, cond, List, [], ◌∷◌, ◌++◌, map, Some, None, refl, ap, sym, codes, append-nil}
use Rattle.std.specs.Str.{bytes_eq}
use Rattle.std.proofs.lemmas.List.{map-append}
use Rattle.clap.specs.Walk.{Row, Text, at_row, has_row, more_values, reading_by, used, with_values}
use Rattle.clap.specs.Faults.{use_fault}
use Rattle.clap.specs.declared.error.kind.ErrorKind.TheVariants as kind
use Rattle.clap.specs.declared.parser.matches.ValueSource.TheVariants.{CommandLine}
use Rattle.clap.proofs.WalkLemmas.{list_any-map}
use Rattle.command_words.specs.Grammar.{Uses, has}
use Rattle.command_words.proofs.ClapRules.{operand_rule, option_rule}

abbrev pub row_for : Text × Text → Row
row_for u = record { id = u.0; values = u.1 ∷ []; count = None; source = Some CommandLine; reading = reading_by operand_rule }

abbrev pub rows_for : Uses → List Row
rows_for uses = map row_for uses

pub has_row_is : (id : Text) (uses : Uses) → has_row id (rows_for uses) ≡ has id uses
has_row_is id uses = sym (list_any-map (λ (r : Row). bytes_eq r.id id) row_for uses)

fresh_row : (id : Text) (change : Row → List Row) (missing rows : List Row) → has_row id rows ≡ false → at_row id change missing rows ≡ rows ++ missing
fresh_row id change missing [] none = refl
fresh_row id change missing (r ∷ rows) none = go (bytes_eq r.id id) (fresh_row id change missing rows) none
  where
    go : (b : Bool) → (has_row id rows ≡ false → at_row id change missing rows ≡ rows ++ missing) → (b || has_row id rows) ≡ false → cond b (change r ++ rows) (r ∷ at_row id change missing rows) ≡ r ∷ (rows ++ missing)
    go true rest e = absurd (cc)
    go false rest e = ap (λ xs. r ∷ xs) (rest e)

-- a use of an option or of the operand, which was not used before
pub used_option : (name value : Text) (uses : Uses) → has name uses ≡ false → used (option_rule name) (value ∷ []) (rows_for uses) ≡ rows_for (uses ++ (name, value) ∷ [])
used_option name value uses none =
    let gone = has_row_is name uses ∙ none in
    ap (with_values name (reading_by operand_rule) CommandLine (value ∷ [])) (fresh_row name (λ _. []) [] (rows_for uses) gone ∙ append-nil (rows_for uses))
    ∙ fresh_row name (more_values CommandLine (value ∷ [])) (row_for (name, value) ∷ []) (rows_for uses) gone ∙ sym (map-append row_for uses ((name, value) ∷ []))

pub used_operand : (value : Text) (uses : Uses) → has (codes "operand") uses ≡ false → used operand_rule (value ∷ []) (rows_for uses) ≡ rows_for (uses ++ (codes "operand", value) ∷ [])
used_operand value uses none =
    let gone = has_row_is (codes "operand") uses ∙ none in
    ap (with_values (codes "operand") (reading_by operand_rule) CommandLine (value ∷ [])) (fresh_row (codes "operand") (λ _. []) [] (rows_for uses) gone ∙ append-nil (rows_for uses))
    ∙ fresh_row (codes "operand") (more_values CommandLine (value ∷ [])) (row_for (codes "operand", value) ∷ []) (rows_for uses) gone ∙ sym (map-append row_for uses ((codes "operand", value) ∷ []))

pub free_option : (name value : Text) (uses : Uses) → has name uses ≡ false → use_fault false (option_rule name) (value ∷ []) (rows_for uses) ≡ []
free_option name value uses none = rw (has_row_is name uses ∙ none) refl

pub twice_option : (name value : Text) (uses : Uses) → has name uses ≡ true → use_fault false (option_rule name) (value ∷ []) (rows_for uses) ≡ kind.ArgumentConflict ∷ []
twice_option name value uses again = rw (has_row_is name uses ∙ again) refl

pub free_operand : (value : Text) (uses : Uses) → has (codes "operand") uses ≡ false → use_fault false operand_rule (value ∷ []) (rows_for uses) ≡ []
free_operand value uses none = rw (has_row_is (codes "operand") uses ∙ none) refl
