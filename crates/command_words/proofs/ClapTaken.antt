-- What clap takes, as what the words give.
use Rattle.std.proofs.Common.{◌≡◌, ◌∙◌, ◌&&◌, ◌||◌, Bool, true, false, not, cond, List, [], ◌∷◌, map, Option, Some, None, refl, ap, codes}
use Rattle.std.specs.Prelude.{fold, option_map, option_and_then, slice_get}
use Rattle.std.specs.List.{find, list_any}
use Rattle.std.specs.Option.{option_map_or}
use Rattle.std.specs.Str.{bytes_eq}
use Rattle.clap.specs.Kinds.{Kinds, or_else}
use Rattle.clap.specs.Words.{App}
use Rattle.clap.specs.Simple.{built, names_of}
use Rattle.clap.specs.Takes.{is_given}
use Rattle.clap.specs.Walk.{Row, Rule, Text, finished, first_of, has_row, nothing_held, rows_after, settled, walk_from, walked, with_default}
use Rattle.clap.specs.Faults.{built_fault, check_fault, defaults_fault, level_fault, settle_fault}
use Rattle.clap.specs.Facts.{explicit_source}
use Rattle.clap.specs.declared.error.kind.ErrorKind.TheVariants as kind
use Rattle.clap.proofs.FaultLemmas.{leaf_fault}
use Rattle.command_words.specs.Command.{taken, where_none}
use Rattle.command_words.specs.Grammar.{Uses, given_in, has, lacks, reads, value_in}
use Rattle.command_words.proofs.ClapRules.{app, operand_rule, option_rule, rules, shape}
use Rattle.command_words.proofs.ClapRows.{row_for, rows_for}
use Rattle.command_words.proofs.ClapFaults.{Agrees, AreTexts, Ends, IsSettled}
use Rattle.command_words.proofs.ClapWalk.{AreProper, walk_agrees}

given_is : (id : Text) (uses : Uses) → is_given id (rows_for uses) ≡ has id uses
given_is id [] = refl
given_is id (u ∷ uses) = go (bytes_eq u.0 id) (given_is id uses)
  where
    go : (b : Bool) → is_given id (rows_for uses) ≡ has id uses → option_map_or (λ (r : Row). explicit_source r.source) (cond b (Some (row_for u)) (find (λ (r : Row). bytes_eq r.id id) (rows_for uses))) false ≡ (b || has id uses)
    go true rest = refl
    go false rest = rest

wanted : (names : List Text) (uses : Uses) → list_any (λ (a : Rule). a.required && not (is_given a.id (rows_for uses))) (map option_rule names) ≡ list_any (λ name. not (has name uses)) names
wanted [] uses = refl
wanted (name ∷ names) uses = go (is_given name (rows_for uses)) (has name uses) (given_is name uses) (wanted names uses)
  where
    go : (a b : Bool) → a ≡ b → list_any (λ (r : Rule). r.required && not (is_given r.id (rows_for uses))) (map option_rule names) ≡ list_any (λ n. not (has n uses)) names
        → (not a || list_any (λ (r : Rule). r.required && not (is_given r.id (rows_for uses))) (map option_rule names)) ≡ (not b || list_any (λ n. not (has n uses)) names)
    go a b e rest = λ i. not (e i) || rest i

all_wanted : (names : List Text) (uses : Uses) → list_any (λ (a : Rule). a.required && not (is_given a.id (rows_for uses))) (rules names) ≡ lacks names uses
all_wanted names uses = λ i. not (given_is (codes "operand") uses i) || wanted names uses i

both_same : {X : Type 0} (b : Bool) (x : X) → cond b x x ≡ x
both_same true x = refl
both_same false x = refl

no_default : {X : Type 0} (b : Bool) (x y : X) → cond (b || true) x y ≡ x
no_default true x y = refl
no_default false x y = refl

options_keep : (names : List Text) (rows : List Row) → fold with_default rows (map option_rule names) ≡ rows
options_keep [] rows = refl
options_keep (name ∷ names) rows = ap (λ r. fold with_default r (map option_rule names)) (both_same (has_row name rows) rows) ∙ options_keep names rows

all_keep : (names : List Text) (rows : List Row) → fold with_default rows (rules names) ≡ rows
all_keep names rows = ap (λ r. fold with_default r (map option_rule names)) (both_same (has_row (codes "operand") rows) rows) ∙ options_keep names rows

options_free : (names : List Text) (rows : List Row) → defaults_fault rows (map option_rule names) ≡ []
unfolding defaults_fault
options_free [] rows = refl
options_free (name ∷ names) rows =
    ap (λ (k : Kinds). or_else k (defaults_fault (with_default rows (option_rule name)) (map option_rule names))) (no_default (has_row name rows) [] _)
    ∙ (ap (λ r. defaults_fault r (map option_rule names)) (both_same (has_row name rows) rows) ∙ options_free names rows)

all_free : (names : List Text) (rows : List Row) → defaults_fault rows (rules names) ≡ []
unfolding defaults_fault
all_free names rows =
    ap (λ (k : Kinds). or_else k (defaults_fault (with_default rows operand_rule) (map option_rule names))) (no_default (has_row (codes "operand") rows) [] _)
    ∙ (ap (λ r. defaults_fault r (map option_rule names)) (both_same (has_row (codes "operand") rows) rows) ∙ options_free names rows)

abbrev missing : Bool → Kinds
missing b = cond b (kind.MissingRequiredArgument ∷ []) []

-- the faults at the end of a walk that fails nowhere
end_fault : (names : List Text) (words : List Text) (all : Uses) → Ends names (walk_from nothing_held) words all → level_fault (shape names) [] nothing_held words false [] ≡ missing (lacks names all)
end_fault names words all ends =
    let end = (fold (walked (rules names) []) (walk_from nothing_held) words).held in
    let rows : (settled (rules names) end).rows ≡ rows_for all = ends.held.rows in
    ap (λ (k : Kinds). or_else k (or_else [] (or_else (settle_fault (rules names) false end) (or_else (defaults_fault (settled (rules names) end).rows (rules names)) (check_fault (shape names) (finished (rules names) end) false))))) ends.none
    ∙ (ap (λ (k : Kinds). or_else k (or_else (defaults_fault (settled (rules names) end).rows (rules names)) (check_fault (shape names) (finished (rules names) end) false))) ends.held.clean
    ∙ (ap (λ (k : Kinds). or_else k (check_fault (shape names) (finished (rules names) end) false)) (all_free names (settled (rules names) end).rows)
    ∙ (ap (λ r. check_fault (shape names) r false) (all_keep names (settled (rules names) end).rows ∙ rows)
    ∙ ap missing (all_wanted names all))))

-- the rows that were read, where nothing is missing
abbrev pub given_rows : List Text → Option Uses → Option (List Row)
given_rows names None = None
given_rows names (Some all) = cond (lacks names all) None (Some (rows_for all))

second_empty : (a b : Kinds) → or_else a b ≡ [] → b ≡ []
second_empty [] b e = e
second_empty (k ∷ ks) b e = absurd (cc)

first_none : (a b : Kinds) → or_else a b ≡ [] → a ≡ []
first_none [] b e = refl
first_none (k ∷ ks) b e = e

nothing_taken : (kinds : Kinds) (rows : List Row) → (kinds ≡ [] → ⊥) → where_none kinds rows ≡ None
nothing_taken [] rows bad = absurd (bad refl)
nothing_taken (k ∷ kinds) rows bad = refl

some_taken : (b : Bool) (rows all : List Row) → rows ≡ all → where_none (missing b) rows ≡ cond b None (Some all)
some_taken true rows all same = refl
some_taken false rows all same = ap (λ r. Some r) same

nothing_stands : (names : List Text) → IsSettled names nothing_held []
nothing_stands names = record { rows = refl; clean = refl; skip = refl }

-- what clap takes is what the words give
pub taken_is : (names : List Text) → AreProper names → (words : List Text) → AreTexts words
    → where_none (level_fault (shape names) [] nothing_held words false []) (finished (rules names) (fold (walked (rules names) []) (walk_from nothing_held) words).held) ≡ given_rows names (reads names [] None words)
taken_is names proper words texts = go (reads names [] None words) (walk_agrees names proper words texts [] None nothing_held (nothing_stands names))
  where
    go : (o : Option Uses) → Agrees names o (walk_from nothing_held) words
        → where_none (level_fault (shape names) [] nothing_held words false []) (finished (rules names) (fold (walked (rules names) []) (walk_from nothing_held) words).held) ≡ given_rows names o
    go (Some all) ends =
        let rows = all_keep names (settled (rules names) (fold (walked (rules names) []) (walk_from nothing_held) words).held).rows ∙ ends.held.rows in
        ap (λ (k : Kinds). where_none k (finished (rules names) (fold (walked (rules names) []) (walk_from nothing_held) words).held)) (end_fault names words all ends)
        ∙ some_taken (lacks names all) _ (rows_for all) rows
    go None refused = nothing_taken _ _ (λ none. refused (first_none _ _ none, first_none _ _ (second_empty _ _ none)))

pub app_taken : (a : App) (names : List Text) → AreProper names → built a ≡ app names → a.top.no_binary_name ≡ false → (command : Text) (words : List Text) → AreTexts words
    → taken a (command ∷ words) ≡ given_rows names (reads names [] None words)
app_taken a names proper is whole command words texts =
    (λ i. where_none (built_fault (is i) nothing_held (cond (whole i) (command ∷ words) words)) (rows_after (is i).top.rules (names_of (is i)) (cond (whole i) (command ∷ words) words)))
    ∙ (ap (λ (k : Kinds). where_none k (rows_after (rules names) [] words)) (leaf_fault (app names) nothing_held words refl) ∙ taken_is names proper words texts)

-- the first value of the rows is that of the uses
first_value : (uses : Uses) (name : Text) → first_of name (rows_for uses) ≡ value_in uses name
first_value [] name = refl
first_value (u ∷ uses) name = go (bytes_eq u.0 name) (first_value uses name)
  where
    go : (b : Bool) → first_of name (rows_for uses) ≡ value_in uses name
        → option_and_then (λ (r : Row). slice_get r.values 0) (cond b (Some (row_for u)) (find (λ (r : Row). bytes_eq r.id name) (rows_for uses))) ≡ option_map (λ (v : Text × Text). v.1) (cond b (Some u) (find (λ (v : Text × Text). bytes_eq v.0 name) uses))
    go true rest = refl
    go false rest = rest

-- what is made of clap's rows is what is made of what the words give
pub same_request : {X : Type 0} (request : (Text → Option Text) → Option X) (a : App) (names : List Text) → AreProper names → built a ≡ app names → a.top.no_binary_name ≡ false → (command : Text) (words : List Text) → AreTexts words
    → option_and_then (λ rows. request (λ name. first_of name rows)) (taken a (command ∷ words)) ≡ option_and_then (λ uses. request (value_in uses)) (given_in names words)
unfolding given_in
same_request request a names proper is whole command words texts =
    ap (option_and_then (λ rows. request (λ name. first_of name rows))) (app_taken a names proper is whole command words texts) ∙ go (reads names [] None words)
  where
    at_end : (b : Bool) (uses : Uses) → option_and_then (λ rows. request (λ name. first_of name rows)) (cond b None (Some (rows_for uses))) ≡ option_and_then (λ u. request (value_in u)) (cond b None (Some uses))
    at_end true uses = refl
    at_end false uses = λ i. request (λ name. first_value uses name i)

    go : (o : Option Uses) → option_and_then (λ rows. request (λ name. first_of name rows)) (given_rows names o) ≡ option_and_then (λ u. request (value_in u)) (option_and_then (λ uses. cond (lacks names uses) None (Some uses)) o)
    go None = refl
    go (Some uses) = at_end (lacks names uses) uses
