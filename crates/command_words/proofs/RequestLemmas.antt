-- What each command asks for by clap's rows is what it asks for by the grammar.
use Rattle.std.proofs.Common.{inl, inr, ◌⊎◌, ◌≡◌, ◌∙◌, ◌||◌, Bool, true, false, ◌<◌, suc, arith, length, drop, slice_get, Some, None, List, [], ◌∷◌, refl, ap, sym, codes, String, Global}
use Rattle.std.specs.Prelude.{option_and_then}
use Rattle.std.specs.Str.{bytes_eq}
use Rattle.std.proofs.lemmas.Str.{IsUtf8-string_bytes}
use Rattle.clap.specs.Words.{first_of}
use Rattle.command_words.specs.Command.{bare, taken, with_both, with_slots}
use Rattle.command_words.specs.Grammar.{Text, given_in, is_among}
use Rattle.command_words.specs.Request.{asked, demo_in, info_in, of_command, request_in, run_in, solo_in, texts}
use Rattle.command_words.proofs.ClapFaults.{AreTexts}
use Rattle.command_words.proofs.ClapRules.{built_bare, built_both, built_slots, same_bytes}
use Rattle.command_words.proofs.ClapTaken.{same_request}
use Rattle.command_words.proofs.ClapWalk.{AreProper}

pub are_texts : (words : List (String Global)) → AreTexts (texts words)
are_texts [] = tt
are_texts (word ∷ words) = (IsUtf8-string_bytes word, are_texts words)

none_proper : AreProper []
none_proper = record { operand_before = λ name known. absurd (cc); operand_behind = λ name known. absurd (cc) }

-- names that are not the operand's
other_name : (known name : Text) → bytes_eq (codes "operand") known ≡ false → bytes_eq known (codes "operand") ≡ false → bytes_eq known name ≡ true
    → (bytes_eq (codes "operand") name ≡ false) × (bytes_eq name (codes "operand") ≡ false)
other_name known name before behind same =
    let is = same_bytes known name same in
    (ap (λ n. bytes_eq (codes "operand") n) (sym is) ∙ before, ap (λ n. bytes_eq n (codes "operand")) (sym is) ∙ behind)

one_of : (a b : Bool) → (a || b) ≡ true → (a ≡ true) ⊎ (b ≡ true)
one_of true b e = inl refl
one_of false b e = inr e

slots_other : (name : Text) → is_among name (codes "slots" ∷ []) ≡ true → (bytes_eq (codes "operand") name ≡ false) × (bytes_eq name (codes "operand") ≡ false)
slots_other name known = elim (one_of (bytes_eq (codes "slots") name) false known) [
  | inl same ↦ other_name (codes "slots") name refl refl same
  | inr none ↦ absurd (cc)
]

both_other : (name : Text) → is_among name (codes "slots" ∷ codes "fetchers" ∷ []) ≡ true → (bytes_eq (codes "operand") name ≡ false) × (bytes_eq name (codes "operand") ≡ false)
both_other name known = elim (one_of (bytes_eq (codes "slots") name) (is_among name (codes "fetchers" ∷ [])) known) [
  | inl same ↦ other_name (codes "slots") name refl refl same
  | inr more ↦ elim (one_of (bytes_eq (codes "fetchers") name) false more) [
    | inl same ↦ other_name (codes "fetchers") name refl refl same
    | inr none ↦ absurd (cc)
  ]
]

slots_proper : AreProper (codes "slots" ∷ [])
slots_proper = record { operand_before = λ name known. (slots_other name known).0; operand_behind = λ name known. (slots_other name known).1 }

both_proper : AreProper (codes "slots" ∷ codes "fetchers" ∷ [])
both_proper = record { operand_before = λ name known. (both_other name known).0; operand_behind = λ name known. (both_other name known).1 }

pub info_same : (command : Text) (words : List Text) → AreTexts words → option_and_then (λ rows. info_in (λ name. first_of name rows)) (taken bare (command ∷ words)) ≡ asked info_in (given_in [] words)
info_same command words texts = same_request info_in bare [] none_proper built_bare refl command words texts

pub demo_same : (command : Text) (words : List Text) → AreTexts words → option_and_then (λ rows. demo_in (λ name. first_of name rows)) (taken bare (command ∷ words)) ≡ asked demo_in (given_in [] words)
demo_same command words texts = same_request demo_in bare [] none_proper built_bare refl command words texts

pub solo_same : (command : Text) (words : List Text) → AreTexts words → option_and_then (λ rows. solo_in (λ name. first_of name rows)) (taken with_slots (command ∷ words)) ≡ asked solo_in (given_in (codes "slots" ∷ []) words)
solo_same command words texts = same_request solo_in with_slots (codes "slots" ∷ []) slots_proper built_slots refl command words texts

pub run_same : (command : Text) (words : List Text) → AreTexts words → option_and_then (λ rows. run_in (λ name. first_of name rows)) (taken with_both (command ∷ words)) ≡ asked run_in (given_in (codes "slots" ∷ codes "fetchers" ∷ []) words)
run_same command words texts = same_request run_in with_both (codes "slots" ∷ codes "fetchers" ∷ []) both_proper built_both refl command words texts

-- the same for all words of a command
pub info_whole : (words : List Text) → AreTexts words → 0 < length words → option_and_then (λ rows. info_in (λ name. first_of name rows)) (taken bare words) ≡ asked info_in (given_in [] (drop 1 words))
info_whole [] all some = absurd (omega arith)
info_whole (command ∷ words) all some = info_same command words all.1

pub demo_whole : (words : List Text) → AreTexts words → 0 < length words → option_and_then (λ rows. demo_in (λ name. first_of name rows)) (taken bare words) ≡ asked demo_in (given_in [] (drop 1 words))
demo_whole [] all some = absurd (omega arith)
demo_whole (command ∷ words) all some = demo_same command words all.1

pub solo_whole : (words : List Text) → AreTexts words → 0 < length words → option_and_then (λ rows. solo_in (λ name. first_of name rows)) (taken with_slots words) ≡ asked solo_in (given_in (codes "slots" ∷ []) (drop 1 words))
solo_whole [] all some = absurd (omega arith)
solo_whole (command ∷ words) all some = solo_same command words all.1

pub run_whole : (words : List Text) → AreTexts words → 0 < length words → option_and_then (λ rows. run_in (λ name. first_of name rows)) (taken with_both words) ≡ asked run_in (given_in (codes "slots" ∷ codes "fetchers" ∷ []) (drop 1 words))
run_whole [] all some = absurd (omega arith)
run_whole (command ∷ words) all some = run_same command words all.1

pub length_texts : (words : List (String Global)) → length (texts words) ≡ length words
length_texts [] = refl
length_texts (word ∷ words) = ap suc (length_texts words)

pub some_words : (words : List Text) (command : Text) → slice_get words 0 ≡ Some command → 0 < length words
some_words [] command first = absurd (cc)
some_words (word ∷ words) command first = omega arith

pub request_first : (words : List Text) (command : Text) → slice_get words 0 ≡ Some command → of_command command (drop 1 words) ≡ request_in words
unfolding request_in
request_first [] command first = absurd (cc)
request_first (word ∷ words) command first = let same : command ≡ word = cc in ap (λ (c : Text). of_command c words) same

pub request_none : (words : List Text) → slice_get words 0 ≡ None → None ≡ request_in words
unfolding request_in
request_none [] first = refl
request_none (word ∷ words) first = absurd (cc)
