-- What clap makes of one word, by what it looks like.
use Rattle.std.proofs.Common.{◌≡◌, ◌∙◌, ℕ, ◌&&◌, Bool, true, false, cond, List, [], ◌∷◌, Option, Some, None, refl, ap, codes}
use Rattle.std.specs.Str.{bytes_eq, chars}
use Rattle.clap.specs.Lexer.{long_of, short_of}
use Rattle.clap.specs.Kinds.{Kinds, or_else}
use Rattle.clap.specs.Walk.{Held, Text, Waiting, Walk, idle, option, pushed, reacted, settled, walked}
use Rattle.clap.specs.Faults.{flags_fault, react_fault, settle_fault, turn_fault}
use Rattle.clap.specs.declared.error.kind.ErrorKind.TheVariants as kind
use Rattle.command_words.specs.Grammar.{Uses, dashes, is_among}
use Rattle.command_words.proofs.ClapRules.{by_id, by_long, by_second_index, by_short, bytes_same, option_rule, rule_if, rules, shape}
use Rattle.command_words.proofs.ClapRows.{rows_for}

abbrev pub walk_at : Held → Waiting → ℕ → Bool → Walk
walk_at h waiting position trailing = record { held = h; waiting = waiting; position = position; is_trailing = trailing; stopped = None }

or_nothing : (a : Kinds) → or_else a [] ≡ a
or_nothing [] = refl
or_nothing (k ∷ ks) = refl

either_way : {X : Type 0} (b : Bool) (x y : X) → cond (b && false) x y ≡ y
either_way true x y = refl
either_way false x y = refl

module _ (names : List Text) (h : Held) (word : Text) where
  -- `--`
  pub end_turn : (waiting : Waiting) (position : ℕ) → bytes_eq word dashes ≡ true → (waiting ≡ idle) → turn_fault (shape names) [] (walk_at h waiting position false) word ≡ []
  end_turn waiting position e i = rw (i, e) refl

  pub end_walk : (position : ℕ) → bytes_eq word dashes ≡ true → walked (rules names) [] (walk_at h idle position false) word ≡ walk_at h idle position true
  unfolding walked
  end_walk position e = rw e refl

  pub end_turn_waiting : (name : Text) (position : ℕ) → bytes_eq word dashes ≡ true → turn_fault (shape names) [] (walk_at h (option name) position false) word ≡ []
  end_turn_waiting name position e = rw e refl

  pub end_walk_waiting : (name : Text) (position : ℕ) → bytes_eq word dashes ≡ true → walked (rules names) [] (walk_at h (option name) position false) word ≡ walk_at h (option name) position true
  unfolding walked
  end_walk_waiting name position e = rw e refl

  -- `--name=value`
  pub joined_turn : (position : ℕ) (name value : Text) → bytes_eq word dashes ≡ false → long_of word ≡ Some (name, Some value) → is_among name names ≡ true
      → turn_fault (shape names) [] (walk_at h idle position false) word ≡ react_fault (rules names) false (option_rule name) (value ∷ []) h
  joined_turn position name value e l k =
      let found = by_long names name ∙ ap (λ b. rule_if b name) k in
      rw (e, l, found) (or_nothing (react_fault (rules names) false (option_rule name) (value ∷ []) h))

  pub joined_walk : (position : ℕ) (name value : Text) → bytes_eq word dashes ≡ false → long_of word ≡ Some (name, Some value) → is_among name names ≡ true
      → walked (rules names) [] (walk_at h idle position false) word ≡ walk_at (reacted (rules names) (option_rule name) (value ∷ []) h) idle position false
  unfolding walked
  joined_walk position name value e l k =
      let found = by_long names name ∙ ap (λ b. rule_if b name) k in
      rw (e, l, found) refl

  -- `--name`
  pub apart_turn : (position : ℕ) (name : Text) → bytes_eq word dashes ≡ false → long_of word ≡ Some (name, None) → is_among name names ≡ true
      → turn_fault (shape names) [] (walk_at h idle position false) word ≡ settle_fault (rules names) false h
  apart_turn position name e l k =
      let found = by_long names name ∙ ap (λ b. rule_if b name) k in
      rw (e, l, found) (or_nothing (settle_fault (rules names) false h))

  pub apart_walk : (position : ℕ) (name : Text) → bytes_eq word dashes ≡ false → long_of word ≡ Some (name, None) → is_among name names ≡ true
      → walked (rules names) [] (walk_at h idle position false) word ≡ walk_at (record (settled (rules names) h) { pending = Some (name, []) }) (option name) position false
  unfolding walked
  apart_walk position name e l k =
      let found = by_long names name ∙ ap (λ b. rule_if b name) k in
      rw (e, l, found) refl

  -- an unknown option
  pub unknown_turn : (position : ℕ) (name : Text) (value : Option Text) → bytes_eq word dashes ≡ false → long_of word ≡ Some (name, value) → is_among name names ≡ false
      → turn_fault (shape names) [] (walk_at h idle position false) word ≡ kind.UnknownArgument ∷ []
  unknown_turn position name value e l k =
      let found = by_long names name ∙ ap (λ b. rule_if b name) k in
      rw (e, l, found) refl

  -- a word that is no option, as the operand
  pub operand_turn : bytes_eq word dashes ≡ false → long_of word ≡ None → short_of word ≡ None
      → turn_fault (shape names) [] (walk_at h idle 1 false) word ≡ settle_fault (rules names) false h
  operand_turn e l s = rw (e, l, s) (either_way _ [] (settle_fault (rules names) false h))

  pub operand_walk : bytes_eq word dashes ≡ false → long_of word ≡ None → short_of word ≡ None
      → walked (rules names) [] (walk_at h idle 1 false) word ≡ walk_at (record (settled (rules names) h) { pending = Some (codes "operand", word ∷ []) }) idle 2 false
  unfolding walked
  operand_walk e l s = rw (e, l, s) (ap (λ (x : Held). walk_at (pushed (codes "operand") word x) idle 2 false) (either_way _ h (settled (rules names) h)))

  -- one operand too many
  pub stray_turn : bytes_eq word dashes ≡ false → long_of word ≡ None → short_of word ≡ None
      → turn_fault (shape names) [] (walk_at h idle 2 false) word ≡ kind.UnknownArgument ∷ []
  stray_turn e l s = rw (e, l, s, by_second_index names) refl

  -- the same after `--`
  pub late_turn : (waiting : Waiting) → turn_fault (shape names) [] (walk_at h waiting 1 true) word ≡ settle_fault (rules names) false h
  late_turn waiting = either_way _ [] (settle_fault (rules names) false h)

  pub late_walk : (waiting : Waiting) → walked (rules names) [] (walk_at h waiting 1 true) word ≡ walk_at (record (settled (rules names) h) { pending = Some (codes "operand", word ∷ []) }) idle 2 true
  unfolding walked
  late_walk waiting = ap (λ (x : Held). walk_at (pushed (codes "operand") word x) idle 2 true) (either_way _ h (settled (rules names) h))

  pub late_stray : (waiting : Waiting) → turn_fault (shape names) [] (walk_at h waiting 2 true) word ≡ kind.UnknownArgument ∷ []
  late_stray waiting = rw (by_second_index names) refl

  -- `-abc`, by its first character
  pub short_turn : (position : ℕ) (waiting : Waiting) (x c : ℕ) (xs cs : Text) → bytes_eq word dashes ≡ false → long_of word ≡ None → short_of word ≡ Some (x ∷ xs) → chars (x ∷ xs) ≡ c ∷ cs → h.skip ≡ 0
      → waiting ≡ idle → turn_fault (shape names) [] (walk_at h waiting position false) word ≡ kind.UnknownArgument ∷ []
  unfolding flags_fault
  short_turn position waiting x c xs cs e l s first skip i = rw (i, e, l, s, first, skip, by_short names c) refl

-- the value of an option
pub value_turn : (names : List Text) (uses : Uses) (word name : Text) (position : ℕ) → bytes_eq word dashes ≡ false → long_of word ≡ None → short_of word ≡ None
    → turn_fault (shape names) [] (walk_at (record { rows = rows_for uses; pending = Some (name, []); skip = 0 }) (option name) position false) word ≡ []
value_turn names uses word name position e l s = rw (e, l, s) refl

pub value_walk : (names : List Text) (uses : Uses) (word name : Text) (position : ℕ) → bytes_eq word dashes ≡ false → long_of word ≡ None → short_of word ≡ None
    → bytes_eq (codes "operand") name ≡ false → is_among name names ≡ true
    → walked (rules names) [] (walk_at (record { rows = rows_for uses; pending = Some (name, []); skip = 0 }) (option name) position false) word
    ≡ walk_at (record { rows = rows_for uses; pending = Some (name, word ∷ []); skip = 0 }) idle position false
unfolding walked
value_walk names uses word name position e l s other k =
    let found = by_id names name other ∙ ap (λ b. rule_if b name) k in
    rw (e, l, s, found, bytes_same name) refl

-- while an option waits for its value, a word that is an option is refused
module _ (names : List Text) (h : Held) (word waits : Text) (position : ℕ) where
  pub joined_turn_waiting : (name value : Text) → bytes_eq word dashes ≡ false → long_of word ≡ Some (name, Some value) → is_among name names ≡ true
      → turn_fault (shape names) [] (walk_at h (option waits) position false) word ≡ react_fault (rules names) false (option_rule name) (value ∷ []) h
  joined_turn_waiting name value e l k =
      let found = by_long names name ∙ ap (λ b. rule_if b name) k in
      rw (e, l, found) (or_nothing (react_fault (rules names) false (option_rule name) (value ∷ []) h))

  pub apart_turn_waiting : (name : Text) → bytes_eq word dashes ≡ false → long_of word ≡ Some (name, None) → is_among name names ≡ true
      → turn_fault (shape names) [] (walk_at h (option waits) position false) word ≡ settle_fault (rules names) false h
  apart_turn_waiting name e l k =
      let found = by_long names name ∙ ap (λ b. rule_if b name) k in
      rw (e, l, found) (or_nothing (settle_fault (rules names) false h))

  pub unknown_turn_waiting : (name : Text) (value : Option Text) → bytes_eq word dashes ≡ false → long_of word ≡ Some (name, value) → is_among name names ≡ false
      → turn_fault (shape names) [] (walk_at h (option waits) position false) word ≡ kind.UnknownArgument ∷ []
  unknown_turn_waiting name value e l k =
      let found = by_long names name ∙ ap (λ b. rule_if b name) k in
      rw (e, l, found) refl

  pub short_turn_waiting : (x c : ℕ) (xs cs : Text) → bytes_eq word dashes ≡ false → long_of word ≡ None → short_of word ≡ Some (x ∷ xs) → chars (x ∷ xs) ≡ c ∷ cs → h.skip ≡ 0
      → turn_fault (shape names) [] (walk_at h (option waits) position false) word ≡ kind.UnknownArgument ∷ []
  unfolding flags_fault
  short_turn_waiting x c xs cs e l s first skip = rw (e, l, s, first, skip, by_short names c) refl
