-- Where a walk of clap fails.
use Rattle.std.proofs.Common.{append-nil, rules as common_rules, ◌==◌, ◌≡◌, ◌∙◌, ℕ, Bool, true, false, cond, List, [], ◌∷◌, ◌++◌, Option, Some, None, refl, ap, sym, subst, arith}
use Rattle.std.specs.Prelude.{encode_utf8_all, fold, option_and_then}
use Rattle.std.specs.Str.{IsUtf8, bytes_eq, chars}
use Rattle.std.proofs.lemmas.Str.{IsUtf8-from_ascii, chars-append, encodes-chars}
use Rattle.std.proofs.lemmas.Bool.Decides.{nat_tests}
use Rattle.clap.specs.Lexer.{long_of, short_of, short_of_rest}
use Rattle.clap.specs.Kinds.{Kinds, or_else}
use Rattle.clap.specs.Walk.{Held, Text, Waiting, Walk, idle, settled, walked}
use Rattle.clap.specs.Faults.{settle_fault, turn_fault, walk_fault}
use Rattle.clap.specs.declared.error.kind.ErrorKind.TheVariants as kind
use Rattle.command_words.specs.Grammar.{Uses, dashes, is_among}
use Rattle.command_words.proofs.ClapRules.{rules, shape}
use Rattle.command_words.proofs.ClapRows.{rows_for}
use Rattle.command_words.proofs.ClapTurns.{apart_turn, end_turn, end_walk, joined_turn, late_stray, late_turn, operand_turn, short_turn, stray_turn, unknown_turn, walk_at}

pub record IsSettled (names : List Text) (h : Held) (uses : Uses) : Type 0 where
  pub rows : (settled (rules names) h).rows ≡ rows_for uses
  pub clean : settle_fault (rules names) false h ≡ []
  pub skip : h.skip ≡ 0

-- the walk over the words fails nowhere, and leaves these uses
pub record Ends (names : List Text) (w : Walk) (words : List Text) (all : Uses) : Type 0 where
  pub none : walk_fault (shape names) [] w words ≡ []
  pub held : IsSettled names (fold (walked (rules names) []) w words).held all

abbrev pub IsClean : List Text → Walk → List Text → Type 0
IsClean names w words = (walk_fault (shape names) [] w words ≡ []) × (settle_fault (rules names) false (fold (walked (rules names) []) w words).held ≡ [])

abbrev pub Agrees : List Text → Option Uses → Walk → List Text → Type 0
Agrees names (Some all) w words = Ends names w words all
Agrees names None w words = IsClean names w words → ⊥

pub first_empty : (a b : Kinds) → or_else a b ≡ [] → a ≡ []
first_empty [] b e = refl
first_empty (k ∷ ks) b e = e

pub step_on : (names : List Text) (o : Option Uses) (w next : Walk) (word : Text) (words : List Text) → turn_fault (shape names) [] w word ≡ [] → walked (rules names) [] w word ≡ next → Agrees names o next words → Agrees names o w (word ∷ words)
unfolding walk_fault
step_on names (Some all) w next word words free is ends = record {
  none = ap (λ (k : Kinds). or_else k (walk_fault (shape names) [] (walked (rules names) [] w word) words)) free ∙ ap (λ v. walk_fault (shape names) [] v words) is ∙ ends.none;
  held = subst (λ v. IsSettled names (fold (walked (rules names) []) v words).held all) (sym is) ends.held;
}
step_on names None w next word words free is refused = λ clean.
    let here = ap (λ (k : Kinds). or_else k (walk_fault (shape names) [] (walked (rules names) [] w word) words)) free in
    refused (ap (λ v. walk_fault (shape names) [] v words) (sym is) ∙ sym here ∙ clean.0, subst (λ v. settle_fault (rules names) false (fold (walked (rules names) []) v words).held ≡ []) is clean.1)

pub stop_at : (names : List Text) (w : Walk) (word : Text) (words : List Text) → (turn_fault (shape names) [] w word ≡ [] → ⊥) → Agrees names None w (word ∷ words)
unfolding walk_fault
stop_at names w word words fault = λ clean. fault (first_empty _ _ clean.0)

pub not_empty : (k : _) (ks kinds : Kinds) → kinds ≡ k ∷ ks → kinds ≡ [] → ⊥
not_empty k ks kinds is none = cc

-- what follows `-` in a word is a text that has a character
pub record IsShort (word flags : Text) : Type 0 where
  pub first : ℕ
  pub others : Text
  pub flags_are : flags ≡ first ∷ others
  pub word_is : word ≡ 45 ∷ first ∷ others

pub short_is : (word flags : Text) → short_of word ≡ Some flags → IsShort word flags
short_is [] flags e = absurd (cc)
short_is (b ∷ []) flags e = go (b == 45) e
  where
    go : (t : Bool) → option_and_then short_of_rest (cond t (Some []) None) ≡ Some flags → IsShort (b ∷ []) flags
    go true e = absurd (cc)
    go false e = absurd (cc)
short_is (b ∷ x ∷ xs) flags e = go (b == 45) refl e
  where
    behind : (u : Bool) → (b == 45) ≡ true → cond u None (Some (x ∷ xs)) ≡ Some flags → IsShort (b ∷ x ∷ xs) flags
    behind true is e = absurd (cc)
    behind false is e = record { first = x; others = xs; flags_are = cc; word_is = ap (λ n. n ∷ x ∷ xs) (grind (arith, nat_tests)) }

    go : (t : Bool) → (b == 45) ≡ t → option_and_then short_of_rest (cond t (Some (x ∷ xs)) None) ≡ Some flags → IsShort (b ∷ x ∷ xs) flags
    go true is e = behind (x == 45) is e
    go false is e = absurd (cc)

hyphen : IsUtf8 (45 ∷ [])
hyphen = IsUtf8-from_ascii (45 ∷ []) (search common_rules)

pub record HasChars (flags : Text) : Type 0 where
  pub char : ℕ
  pub chars_left : Text
  pub chars_are : chars flags ≡ char ∷ chars_left

-- a text of more than a hyphen has a character behind the hyphen
pub has_chars : (x : ℕ) (xs : Text) → IsUtf8 (45 ∷ x ∷ xs) → HasChars (x ∷ xs)
has_chars x xs text = go (chars (x ∷ xs)) refl
  where
    go : (cs : Text) → chars (x ∷ xs) ≡ cs → HasChars (x ∷ xs)
    go (c ∷ cs) is = record { char = c; chars_left = cs; chars_are = is }
    go [] is =
        let all = chars-append (45 ∷ []) (x ∷ xs) hyphen in
        let same : chars (45 ∷ x ∷ xs) ≡ chars (45 ∷ []) = all ∙ (ap (λ y. chars (45 ∷ []) ++ y) is ∙ append-nil (chars (45 ∷ []))) in
        let bytes : 45 ∷ x ∷ xs ≡ 45 ∷ [] = sym (encodes-chars (45 ∷ x ∷ xs) text) ∙ (ap encode_utf8_all same ∙ encodes-chars (45 ∷ []) hyphen) in
        absurd (cc)

-- the texts are UTF-8
abbrev pub AreTexts : List Text → Type 0
AreTexts [] = Unit {0}
AreTexts (word ∷ words) = IsUtf8 word × AreTexts words

-- `-abc` is refused
pub short_stops : (names : List Text) (h : Held) (word flags : Text) (words : List Text) (position : ℕ) → IsUtf8 word → h.skip ≡ 0 → bytes_eq word dashes ≡ false → long_of word ≡ None → short_of word ≡ Some flags
    → Agrees names None (walk_at h idle position false) (word ∷ words)
short_stops names h word flags words position text skip e l s =
    let short = short_is word flags s in
    let some = has_chars short.first short.others (subst IsUtf8 short.word_is text) in
    stop_at names (walk_at h idle position false) word words (not_empty kind.UnknownArgument [] _
    (short_turn names h word position idle short.first some.char short.others some.chars_left e l (s ∙ ap (λ f. Some f) short.flags_are) some.chars_are skip refl))

abbrev pub place : Bool → ℕ
place given = cond given 2 1

-- what fails at the next step does so at the end, whatever comes
pub late_doom : (names : List Text) (h : Held) (waiting : Waiting) (given : Bool) (words : List Text) → (settle_fault (rules names) false h ≡ [] → ⊥) → Agrees names None (walk_at h waiting (place given) true) words
late_doom names h waiting given [] bad = λ clean. bad clean.1
late_doom names h waiting true (word ∷ words) bad = stop_at names (walk_at h waiting 2 true) word words (not_empty kind.UnknownArgument [] _ (late_stray names h word waiting))
late_doom names h waiting false (word ∷ words) bad = stop_at names (walk_at h waiting 1 true) word words (λ none. bad (sym (late_turn names h word waiting) ∙ none))

pub doom : (names : List Text) (h : Held) (given : Bool) (words : List Text) → AreTexts words → h.skip ≡ 0 → (settle_fault (rules names) false h ≡ [] → ⊥) → Agrees names None (walk_at h idle (place given) false) words
doom names h given [] texts skip bad = λ clean. bad clean.1
doom names h given (word ∷ words) texts skip bad = go (bytes_eq word dashes) refl (long_of word) refl (short_of word) refl
  where
    plain : (b : Bool) → bytes_eq word dashes ≡ false → long_of word ≡ None → short_of word ≡ None → Agrees names None (walk_at h idle (place b) false) (word ∷ words)
    plain true e l s = stop_at names (walk_at h idle 2 false) word words (not_empty kind.UnknownArgument [] _ (stray_turn names h word e l s))
    plain false e l s = stop_at names (walk_at h idle 1 false) word words (λ none. bad (sym (operand_turn names h word e l s) ∙ none))

    known : (b : Bool) (name : Text) (value : Option Text) → is_among name names ≡ b → bytes_eq word dashes ≡ false → long_of word ≡ Some (name, value) → Agrees names None (walk_at h idle (place given) false) (word ∷ words)
    known false name value k e l = stop_at names (walk_at h idle (place given) false) word words (not_empty kind.UnknownArgument [] _ (unknown_turn names h word (place given) name value e l k))
    known true name None k e l = stop_at names (walk_at h idle (place given) false) word words (λ none. bad (sym (apart_turn names h word (place given) name e l k) ∙ none))
    known true name (Some value) k e l = stop_at names (walk_at h idle (place given) false) word words (λ none. bad (first_empty _ _ (sym (joined_turn names h word (place given) name value e l k) ∙ none)))

    go : (b : Bool) → bytes_eq word dashes ≡ b → (long : Option (Text × Option Text)) → long_of word ≡ long → (short : Option Text) → short_of word ≡ short → Agrees names None (walk_at h idle (place given) false) (word ∷ words)
    go true e long l short s = step_on names None (walk_at h idle (place given) false) (walk_at h idle (place given) true) word words (end_turn names h word idle (place given) e refl) (end_walk names h word (place given) e) (late_doom names h idle given words bad)
    go false e (Some p) l short s = known (is_among p.0 names) p.0 p.1 refl e l
    go false e None l (Some flags) s = short_stops names h word flags words (place given) texts.0 skip e l s
    go false e None l None s = plain given e l s
