-- What the first word of a line is.
use Rattle.std.proofs.Common.{◌≡◌, ◌∙◌, ℕ, suc, ◌+◌, ◌<◌, ◌≤◌, List, [], ◌∷◌, Bool, true, false, not, filter, length, take, drop, get_or, refl, ap, inl, inr, arith, add-one}
use Rattle.std.specs.List.{slice_split, position_or_len}
use Rattle.std.proofs.lemmas.Bool.{cases_lt}
use Rattle.std.proofs.lemmas.List.{length-take-le}
use Rattle.std.proofs.lemmas.List.Sums.{prefix_len-le-length, passes_at_first}
use Rattle.std.proofs.lemmas.List.Splits.{slice_split_first, slice_split-cons_yes}
use Rattle.std.proofs.Math.Seq.{take-length, drop-length, drop-cons}
use Rattle.view_script.specs.Lines.{is_empty, first_place}
use Rattle.view_script.specs.Words.{words_of, is_blank}
use Rattle.view_script.proofs.SplitLemmas.{first_place-is, only_part}

-- a word of some bytes is kept among the words
kept_word : (word : List ℕ) (words : List (List ℕ)) → 0 < length word → filter (λ word. not (is_empty word)) (word ∷ words) ≡ word ∷ filter (λ word. not (is_empty word)) words
kept_word [] words some = absurd (omega arith)
kept_word (b ∷ word) words some = refl

-- the first word of a line that begins with one
word_at_front : (line : List ℕ) (end : ℕ) → end ≡ position_or_len is_blank line → 0 < end → words_of line ≡ take end line ∷ words_of (drop end line)
word_at_front line end at some =
    rw at
    (elim (cases_lt (position_or_len is_blank line) (length line)) [
      | inl ends ↦
          let here : ℕ = position_or_len is_blank line in
          let short : here ≤ length line = omega arith in
          let long : 0 < length (take here line) = rw (length-take-le here line short) (omega arith) in
          let blank : is_blank (get_or line here 0) ≡ true = passes_at_first is_blank line 0 ends in
          let after : words_of (drop here line) ≡ words_of (drop (here + 1) line) =
          rw (drop-cons line here 0 ends, slice_split-cons_yes is_blank (get_or line here 0) (drop (suc here) line) blank, add-one here) refl in
          rw (slice_split_first is_blank line 0 ends, kept_word (take here line) (slice_split is_blank (drop (here + 1) line)) long, after) refl
      | inr none ↦
          let whole : position_or_len is_blank line ≡ length line =
          let within : position_or_len is_blank line ≤ length line = prefix_len-le-length (λ x. not (is_blank x)) line in omega arith in
          let long : 0 < length line = omega arith in
          rw (whole, only_part is_blank line none, take-length line, drop-length line) (kept_word line [] long)
    ])

-- where the first byte stands that is not blank
abbrev start : List ℕ → ℕ
start line = position_or_len (λ b. not (is_blank b)) line

-- a blank at the front is passed over
drop-start : (b : ℕ) (line : List ℕ) → is_blank b ≡ true → drop (start (b ∷ line)) (b ∷ line) ≡ drop (start line) line
drop-start b line blank = let one : 1 + start line ≡ suc (start line) = omega arith in rw (blank, one) refl

-- the blanks at the front hold no word
words-skip : (line : List ℕ) → words_of line ≡ words_of (drop (start line) line)
words-skip [] = refl
words-skip (b ∷ line) = go (words-skip line) (is_blank b) refl
  where
    go : words_of line ≡ words_of (drop (start line) line) → (blank : Bool) → is_blank b ≡ blank → words_of (b ∷ line) ≡ words_of (drop (start (b ∷ line)) (b ∷ line))
    go rest true blank = rw (drop-start b line blank, slice_split-cons_yes is_blank b line blank) rest
    go rest false other = rw (other, other) refl

-- after the blanks the line ends or a word begins
starts-word : (line : List ℕ) → position_or_len is_blank (drop (start line) line) ≡ 0 → drop (start line) line ≡ []
starts-word [] none = refl
starts-word (b ∷ line) none = go (starts-word line) (is_blank b) refl none
  where
    go : (position_or_len is_blank (drop (start line) line) ≡ 0 → drop (start line) line ≡ []) → (blank : Bool) → is_blank b ≡ blank → position_or_len is_blank (drop (start (b ∷ line)) (b ∷ line)) ≡ 0 → drop (start (b ∷ line)) (b ∷ line) ≡ []
    go rest true blank = rw (drop-start b line blank) rest
    go rest false other = rw (other, other) (λ none. absurd (omega arith))

pub no_words : (line : List ℕ) → first_place is_blank (drop (first_place (λ b. not (is_blank b)) line) line) ≡ 0 → words_of line ≡ []
no_words line = rw (first_place-is is_blank, first_place-is (λ b. not (is_blank b))) (λ none. words-skip line ∙ ap words_of (starts-word line none))

pub first_of_words : (line : List ℕ) (end : ℕ) → end ≡ first_place is_blank (drop (first_place (λ b. not (is_blank b)) line) line) → 0 < end →
    words_of line ≡ take end (drop (first_place (λ b. not (is_blank b)) line) line) ∷ words_of (drop end (drop (first_place (λ b. not (is_blank b)) line) line))
first_of_words line end = rw (first_place-is is_blank, first_place-is (λ b. not (is_blank b)))
    (λ at some. words-skip line ∙ word_at_front (drop (start line) line) end at some)
