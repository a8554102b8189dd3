-- clap's walk fails exactly where the reading does, and leaves its uses.
use Rattle.std.proofs.Common.{◌≡◌, ◌∙◌, ◌||◌, Bool, true, false, cond, List, [], ◌∷◌, ◌++◌, Option, Some, None, refl, ap, sym, codes, subst}
use Rattle.std.specs.Option.{option_map_or}
use Rattle.std.specs.Str.{IsUtf8, bytes_eq}
use Rattle.clap.specs.Lexer.{long_of, short_of}
use Rattle.clap.specs.Kinds.{or_else}
use Rattle.clap.specs.Walk.{arg_by_id, Held, Rule, Text, Waiting, idle, option, reacted, settled, used, used_by_id}
use Rattle.clap.specs.Faults.{react_fault, settle_fault, use_fault, walk_fault}
use Rattle.clap.specs.declared.error.kind.ErrorKind.TheVariants as kind
use Rattle.command_words.specs.Grammar.{Uses, dashes, has, is_among, met, read_word, reads, trail}
use Rattle.command_words.proofs.ClapRules.{by_id, operand_rule, option_rule, rule_if, rules}
use Rattle.command_words.proofs.ClapRows.{free_operand, free_option, rows_for, twice_option, used_operand, used_option}
use Rattle.command_words.proofs.ClapTurns.{apart_turn, apart_turn_waiting, apart_walk, end_turn, end_turn_waiting, end_walk, end_walk_waiting, joined_turn, joined_turn_waiting, joined_walk, late_stray, late_turn, late_walk, operand_turn, operand_walk, short_turn_waiting, stray_turn, unknown_turn, unknown_turn_waiting, value_turn, value_walk, walk_at}
use Rattle.command_words.proofs.ClapFaults.{Agrees, AreTexts, IsSettled, doom, first_empty, has_chars, late_doom, not_empty, place, short_is, short_stops, step_on, stop_at}

or_false : (b : Bool) → (b || false) ≡ b
or_false true = refl
or_false false = refl

-- whether a name was used, after one use more
pub has_more : (id name value : Text) (uses : Uses) → has id (uses ++ (name, value) ∷ []) ≡ (has id uses || bytes_eq name id)
has_more id name value [] = or_false (bytes_eq name id)
has_more id name value (u ∷ uses) = go (bytes_eq u.0 id) (has_more id name value uses)
  where
    go : (b : Bool) → has id (uses ++ (name, value) ∷ []) ≡ (has id uses || bytes_eq name id) → (b || has id (uses ++ (name, value) ∷ [])) ≡ ((b || has id uses) || bytes_eq name id)
    go true rest = refl
    go false rest = rest

-- no option has the operand's name
pub record AreProper (names : List Text) : Type 0 where
  pub operand_before : (name : Text) → is_among name names ≡ true → bytes_eq (codes "operand") name ≡ false
  pub operand_behind : (name : Text) → is_among name names ≡ true → bytes_eq name (codes "operand") ≡ false

same_place : (uses : Uses) (name value : Text) → bytes_eq name (codes "operand") ≡ false → has (codes "operand") (uses ++ (name, value) ∷ []) ≡ has (codes "operand") uses
same_place uses name value other = has_more (codes "operand") name value uses ∙ (ap (λ b. has (codes "operand") uses || b) other ∙ or_false (has (codes "operand") uses))

next_place : (uses : Uses) (value : Text) → has (codes "operand") uses ≡ false → has (codes "operand") (uses ++ (codes "operand", value) ∷ []) ≡ true
next_place uses value none = has_more (codes "operand") (codes "operand") value uses ∙ ap (λ b. b || true) none

module _ (names : List Text) (h : Held) (uses : Uses) (stands : IsSettled names h uses) where
  -- an option with its value in one word
  joined_settled : (name value : Text) → has name uses ≡ false → IsSettled names (reacted (rules names) (option_rule name) (value ∷ []) h) (uses ++ (name, value) ∷ [])
  joined_settled name value none = record {
    rows = ap (used (option_rule name) (value ∷ [])) stands.rows ∙ used_option name value uses none;
    clean = refl;
    skip = stands.skip;
  }

  joined_clean : (name value : Text) → has name uses ≡ false → react_fault (rules names) false (option_rule name) (value ∷ []) h ≡ []
  joined_clean name value none =
      ap (λ k. or_else k (use_fault false (option_rule name) (value ∷ []) (settled (rules names) h).rows)) stands.clean
      ∙ (ap (use_fault false (option_rule name) (value ∷ [])) stands.rows ∙ free_option name value uses none)

  joined_twice : (name value : Text) → has name uses ≡ true → react_fault (rules names) false (option_rule name) (value ∷ []) h ≡ kind.ArgumentConflict ∷ []
  joined_twice name value again =
      ap (λ k. or_else k (use_fault false (option_rule name) (value ∷ []) (settled (rules names) h).rows)) stands.clean
      ∙ (ap (use_fault false (option_rule name) (value ∷ [])) stands.rows ∙ twice_option name value uses again)

  abbrev with_operand : Text → Held
  with_operand word = record (settled (rules names) h) { pending = Some (codes "operand", word ∷ []) }

  operand_settled : (word : Text) → has (codes "operand") uses ≡ false → IsSettled names (with_operand word) (uses ++ (codes "operand", word) ∷ [])
  operand_settled word none = record {
    rows = ap (used operand_rule (word ∷ [])) stands.rows ∙ used_operand word uses none;
    clean = ap (use_fault false operand_rule (word ∷ [])) stands.rows ∙ free_operand word uses none;
    skip = stands.skip;
  }

-- an option that waits for its value
abbrev pub held_waiting : Uses → Text → Held
held_waiting uses name = record { rows = rows_for uses; pending = Some (name, []); skip = 0 }

abbrev pub held_valued : Uses → Text → Text → Held
held_valued uses name value = record { rows = rows_for uses; pending = Some (name, value ∷ []); skip = 0 }

module _ (names : List Text) (proper : AreProper names) (uses : Uses) (name : Text) (known : is_among name names ≡ true) where
  found : arg_by_id (rules names) name ≡ Some (option_rule name)
  found = by_id names name (proper.operand_before name known) ∙ ap (λ b. rule_if b name) known

  valued_settled : (value : Text) → has name uses ≡ false → IsSettled names (held_valued uses name value) (uses ++ (name, value) ∷ [])
  valued_settled value none = record {
    rows = ap (λ r. used_by_id r (value ∷ []) (rows_for uses)) found ∙ used_option name value uses none;
    clean = ap (λ r. option_map_or (λ (a : Rule). use_fault false a (value ∷ []) (rows_for uses)) r []) found ∙ free_option name value uses none;
    skip = refl;
  }

  valued_twice : (value : Text) → has name uses ≡ true → settle_fault (rules names) false (held_valued uses name value) ≡ [] → ⊥
  valued_twice value again = not_empty kind.ArgumentConflict [] _ (ap (λ r. option_map_or (λ (a : Rule). use_fault false a (value ∷ []) (rows_for uses)) r []) found ∙ twice_option name value uses again)

  waiting_bad : settle_fault (rules names) false (held_waiting uses name) ≡ [] → ⊥
  waiting_bad = not_empty kind.InvalidValue [] _ (ap (λ r. option_map_or (λ (a : Rule). use_fault false a [] (rows_for uses)) r []) found)

late : (names : List Text) (h : Held) (waiting : _) (uses : Uses) (words : List Text) → IsSettled names h uses → Agrees names (trail uses words) (walk_at h waiting (place (has (codes "operand") uses)) true) words
unfolding walk_fault
late names h waiting uses [] stands = record { none = refl; held = stands }
late names h waiting uses (word ∷ words) stands = go (has (codes "operand") uses) refl (λ h' s. late names h' idle (uses ++ (codes "operand", word) ∷ []) words s)
  where
    go : (b : Bool) → has (codes "operand") uses ≡ b
        → ((h' : Held) → IsSettled names h' (uses ++ (codes "operand", word) ∷ []) → Agrees names (trail (uses ++ (codes "operand", word) ∷ []) words) (walk_at h' idle (place (has (codes "operand") (uses ++ (codes "operand", word) ∷ []))) true) words)
        → Agrees names (cond b None (trail (uses ++ (codes "operand", word) ∷ []) words)) (walk_at h waiting (place b) true) (word ∷ words)
    go true some rec = stop_at names (walk_at h waiting 2 true) word words (not_empty kind.UnknownArgument [] _ (late_stray names h word waiting))
    go false none rec = step_on names (trail (uses ++ (codes "operand", word) ∷ []) words) (walk_at h waiting 1 true) (walk_at (with_operand names h uses stands word) idle 2 true) word words
        (late_turn names h word waiting ∙ stands.clean) (late_walk names h word waiting)
        (subst (λ b. Agrees names (trail (uses ++ (codes "operand", word) ∷ []) words) (walk_at (with_operand names h uses stands word) idle (place b) true) words) (next_place uses word none)
        (rec (with_operand names h uses stands word) (operand_settled names h uses stands word none)))

abbrev pub Stands : List Text → Uses → Option Text → Held → Type 0
Stands names uses None h = IsSettled names h uses
Stands names uses (Some name) h = (h ≡ held_waiting uses name) × (is_among name names ≡ true)

abbrev pub waiting_of : Option Text → Waiting
waiting_of None = idle
waiting_of (Some name) = option name

-- the same for words that are left
abbrev Rest : List Text → List Text → Type 0
Rest names words = (uses : Uses) (waiting : Option Text) (h : Held) → Stands names uses waiting h → Agrees names (reads names uses waiting words) (walk_at h (waiting_of waiting) (place (has (codes "operand") uses)) false) words

-- the next word where nothing waits
module _ (names : List Text) (proper : AreProper names) (word : Text) (words : List Text) (texts : AreTexts (word ∷ words)) (rest : Rest names words) (uses : Uses) (h : Held) (stands : IsSettled names h uses) where
  at_operand : (b : Bool) → has (codes "operand") uses ≡ b → bytes_eq word dashes ≡ false → long_of word ≡ None → short_of word ≡ None
      → Agrees names (cond b None (reads names (uses ++ (codes "operand", word) ∷ []) None words)) (walk_at h idle (place b) false) (word ∷ words)
  at_operand true some e l s = stop_at names (walk_at h idle 2 false) word words (not_empty kind.UnknownArgument [] _ (stray_turn names h word e l s))
  at_operand false none e l s = step_on names (reads names (uses ++ (codes "operand", word) ∷ []) None words) (walk_at h idle 1 false) (walk_at (with_operand names h uses stands word) idle 2 false) word words
      (operand_turn names h word e l s ∙ stands.clean) (operand_walk names h word e l s)
      (subst (λ b. Agrees names (reads names (uses ++ (codes "operand", word) ∷ []) None words) (walk_at (with_operand names h uses stands word) idle (place b) false) words) (next_place uses word none)
      (rest (uses ++ (codes "operand", word) ∷ []) None (with_operand names h uses stands word) (operand_settled names h uses stands word none)))

  at_joined : (b : Bool) (name value : Text) → has name uses ≡ b → is_among name names ≡ true → bytes_eq word dashes ≡ false → long_of word ≡ Some (name, Some value)
      → Agrees names (cond b None (reads names (uses ++ (name, value) ∷ []) None words)) (walk_at h idle (place (has (codes "operand") uses)) false) (word ∷ words)
  at_joined true name value again k e l = stop_at names (walk_at h idle (place (has (codes "operand") uses)) false) word words
      (not_empty kind.ArgumentConflict [] _ (joined_turn names h word (place (has (codes "operand") uses)) name value e l k ∙ joined_twice names h uses stands name value again))
  at_joined false name value none k e l = step_on names (reads names (uses ++ (name, value) ∷ []) None words) (walk_at h idle (place (has (codes "operand") uses)) false)
      (walk_at (reacted (rules names) (option_rule name) (value ∷ []) h) idle (place (has (codes "operand") uses)) false) word words
      (joined_turn names h word (place (has (codes "operand") uses)) name value e l k ∙ joined_clean names h uses stands name value none)
      (joined_walk names h word (place (has (codes "operand") uses)) name value e l k)
      (subst (λ b. Agrees names (reads names (uses ++ (name, value) ∷ []) None words) (walk_at (reacted (rules names) (option_rule name) (value ∷ []) h) idle (place b) false) words) (same_place uses name value (proper.operand_behind name k))
      (rest (uses ++ (name, value) ∷ []) None (reacted (rules names) (option_rule name) (value ∷ []) h) (joined_settled names h uses stands name value none)))

  at_option : (b : Bool) (name : Text) (value : Option Text) → is_among name names ≡ b → bytes_eq word dashes ≡ false → long_of word ≡ Some (name, value)
      → Agrees names (cond b (met uses name value (λ more next. reads names more next words)) None) (walk_at h idle (place (has (codes "operand") uses)) false) (word ∷ words)
  at_option false name value k e l = stop_at names (walk_at h idle (place (has (codes "operand") uses)) false) word words (not_empty kind.UnknownArgument [] _ (unknown_turn names h word (place (has (codes "operand") uses)) name value e l k))
  at_option true name (Some value) k e l = at_joined (has name uses) name value refl k e l
  at_option true name None k e l =
      let is : ◌≡◌ {A = Held} (record (settled (rules names) h) { pending = Some (name, []) }) (held_waiting uses name) = λ i. record { rows = stands.rows i; pending = Some (name, []); skip = stands.skip i } in
      step_on names (reads names uses (Some name) words) (walk_at h idle (place (has (codes "operand") uses)) false) (walk_at (held_waiting uses name) (option name) (place (has (codes "operand") uses)) false) word words
      (apart_turn names h word (place (has (codes "operand") uses)) name e l k ∙ stands.clean)
      (apart_walk names h word (place (has (codes "operand") uses)) name e l k ∙ ap (λ x. walk_at x (option name) (place (has (codes "operand") uses)) false) is)
      (rest uses (Some name) (held_waiting uses name) (refl, k))

  at_word : (b : Bool) → bytes_eq word dashes ≡ b → (long : Option (Text × Option Text)) → long_of word ≡ long → (short : Option Text) → short_of word ≡ short
      → Agrees names (read_word names uses None word b long short (trail uses words) (λ more next. reads names more next words)) (walk_at h idle (place (has (codes "operand") uses)) false) (word ∷ words)
  at_word true e long l short s = step_on names (trail uses words) (walk_at h idle (place (has (codes "operand") uses)) false) (walk_at h idle (place (has (codes "operand") uses)) true) word words
      (end_turn names h word idle (place (has (codes "operand") uses)) e refl) (end_walk names h word (place (has (codes "operand") uses)) e) (late names h idle uses words stands)
  at_word false e (Some p) l short s = at_option (is_among p.0 names) p.0 p.1 refl e l
  at_word false e None l (Some flags) s = short_stops names h word flags words (place (has (codes "operand") uses)) texts.0 stands.skip e l s
  at_word false e None l None s = at_operand (has (codes "operand") uses) refl e l s

-- the next word where an option waits for its value
module _ (names : List Text) (proper : AreProper names) (word : Text) (words : List Text) (texts : AreTexts (word ∷ words)) (rest : Rest names words) (uses : Uses) (name : Text) (known : is_among name names ≡ true) where
  at_value : (b : Bool) → has name uses ≡ b → bytes_eq word dashes ≡ false → long_of word ≡ None → short_of word ≡ None
      → Agrees names (cond b None (reads names (uses ++ (name, word) ∷ []) None words)) (walk_at (held_waiting uses name) (option name) (place (has (codes "operand") uses)) false) (word ∷ words)
  at_value true again e l s = step_on names None (walk_at (held_waiting uses name) (option name) (place (has (codes "operand") uses)) false) (walk_at (held_valued uses name word) idle (place (has (codes "operand") uses)) false) word words
      (value_turn names uses word name (place (has (codes "operand") uses)) e l s) (value_walk names uses word name (place (has (codes "operand") uses)) e l s (proper.operand_before name known) known)
      (doom names (held_valued uses name word) (has (codes "operand") uses) words texts.1 refl (valued_twice names proper uses name known word again))
  at_value false none e l s = step_on names (reads names (uses ++ (name, word) ∷ []) None words) (walk_at (held_waiting uses name) (option name) (place (has (codes "operand") uses)) false) (walk_at (held_valued uses name word) idle (place (has (codes "operand") uses)) false) word words
      (value_turn names uses word name (place (has (codes "operand") uses)) e l s) (value_walk names uses word name (place (has (codes "operand") uses)) e l s (proper.operand_before name known) known)
      (subst (λ b. Agrees names (reads names (uses ++ (name, word) ∷ []) None words) (walk_at (held_valued uses name word) idle (place b) false) words) (same_place uses name word (proper.operand_behind name known))
      (rest (uses ++ (name, word) ∷ []) None (held_valued uses name word) (valued_settled names proper uses name known word none)))

  at_other : (b : Bool) (other : Text) (value : Option Text) → is_among other names ≡ b → bytes_eq word dashes ≡ false → long_of word ≡ Some (other, value)
      → Agrees names None (walk_at (held_waiting uses name) (option name) (place (has (codes "operand") uses)) false) (word ∷ words)
  at_other false other value k e l = stop_at names _ word words (not_empty kind.UnknownArgument [] _ (unknown_turn_waiting names (held_waiting uses name) word name (place (has (codes "operand") uses)) other value e l k))
  at_other true other None k e l = stop_at names _ word words (λ none. waiting_bad names proper uses name known (sym (apart_turn_waiting names (held_waiting uses name) word name (place (has (codes "operand") uses)) other e l k) ∙ none))
  at_other true other (Some value) k e l = stop_at names _ word words (λ none. waiting_bad names proper uses name known (first_empty _ _ (sym (joined_turn_waiting names (held_waiting uses name) word name (place (has (codes "operand") uses)) other value e l k) ∙ none)))

  at_flags : (flags : Text) → bytes_eq word dashes ≡ false → long_of word ≡ None → short_of word ≡ Some flags
      → Agrees names None (walk_at (held_waiting uses name) (option name) (place (has (codes "operand") uses)) false) (word ∷ words)
  at_flags flags e l s =
      let short = short_is word flags s in
      let some = has_chars short.first short.others (subst IsUtf8 short.word_is texts.0) in
      stop_at names _ word words (not_empty kind.UnknownArgument [] _
      (short_turn_waiting names (held_waiting uses name) word name (place (has (codes "operand") uses)) short.first some.char short.others some.chars_left e l (s ∙ ap (λ f. Some f) short.flags_are) some.chars_are refl))

  after_option : (b : Bool) → bytes_eq word dashes ≡ b → (long : Option (Text × Option Text)) → long_of word ≡ long → (short : Option Text) → short_of word ≡ short
      → Agrees names (read_word names uses (Some name) word b long short (trail uses words) (λ more next. reads names more next words)) (walk_at (held_waiting uses name) (option name) (place (has (codes "operand") uses)) false) (word ∷ words)
  after_option true e long l short s = step_on names None (walk_at (held_waiting uses name) (option name) (place (has (codes "operand") uses)) false) (walk_at (held_waiting uses name) (option name) (place (has (codes "operand") uses)) true) word words
      (end_turn_waiting names (held_waiting uses name) word name (place (has (codes "operand") uses)) e) (end_walk_waiting names (held_waiting uses name) word name (place (has (codes "operand") uses)) e)
      (late_doom names (held_waiting uses name) (option name) (has (codes "operand") uses) words (waiting_bad names proper uses name known))
  after_option false e (Some p) l short s = at_other (is_among p.0 names) p.0 p.1 refl e l
  after_option false e None l (Some flags) s = at_flags flags e l s
  after_option false e None l None s = at_value (has name uses) refl e l s

pub walk_agrees : (names : List Text) → AreProper names → (words : List Text) → AreTexts words → Rest names words
unfolding walk_fault
walk_agrees names proper [] texts uses None h stands = record { none = refl; held = stands }
walk_agrees names proper [] texts uses (Some name) h stands = λ clean. waiting_bad names proper uses name stands.1 (subst (λ x. settle_fault (rules names) false x ≡ []) stands.0 clean.1)
walk_agrees names proper (word ∷ words) texts uses None h stands = at_word names proper word words texts (walk_agrees names proper words texts.1) uses h stands (bytes_eq word dashes) refl (long_of word) refl (short_of word) refl
walk_agrees names proper (word ∷ words) texts uses (Some name) h stands =
    subst (λ x. Agrees names (reads names uses (Some name) (word ∷ words)) (walk_at x (option name) (place (has (codes "operand") uses)) false) (word ∷ words)) (sym stands.0)
    (after_option names proper word words texts (walk_agrees names proper words texts.1) uses name stands.1 (bytes_eq word dashes) refl (long_of word) refl (short_of word) refl)
