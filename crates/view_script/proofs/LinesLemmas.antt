-- What the first line of a text is, and how many lines there are.
use Rattle.std.proofs.Common.{◌≡◌, ◌∙◌, ℕ, suc, ◌+◌, ◌<◌, ◌≤◌, ◌==◌, List, [], ◌∷◌, Bool, true, false, not, map, length, take, drop, drop-drop, refl, inl, inr, arith}
use Rattle.std.specs.List.{slice_split, position_or_len, onto_first}
use Rattle.std.specs.Str.Lines.{strip_carriage_return}
use Rattle.std.proofs.lemmas.Bool.{cases_lt}
use Rattle.std.proofs.lemmas.List.{length-map}
use Rattle.std.proofs.lemmas.List.Sums.{prefix_len-le-length}
use Rattle.std.proofs.lemmas.List.Splits.{slice_split_first}
use Rattle.std.proofs.Math.Seq.{take-length, drop-length}
use Rattle.view_script.specs.Lines.{lines_of, without_empty_end, first_place}
use Rattle.view_script.proofs.SplitLemmas.{first_place-is, first_part, only_part}

-- a part that others follow is kept
kept_in_front : (part : List ℕ) (p : ℕ → Bool) (bytes : List ℕ) → without_empty_end (part ∷ slice_split p bytes) ≡ part ∷ without_empty_end (slice_split p bytes)
kept_in_front part p bytes = let f = first_part p bytes in rw f.2 refl

pub first_of_lines : (bytes : List ℕ) (end : ℕ) → 0 < length bytes → end ≡ first_place (λ b. b == 10) bytes →
    lines_of bytes ≡ strip_carriage_return (take end bytes) ∷ lines_of (drop 1 (drop end bytes))
first_of_lines bytes end some at =
    let p : ℕ → Bool = λ b. b == 10 in
    let here : ℕ = position_or_len p bytes in
    let is_here : end ≡ here = at ∙ first_place-is p bytes in
    rw is_here
    (elim (cases_lt here (length bytes)) [
      | inl ends ↦
          let next : drop 1 (drop here bytes) ≡ drop (here + 1) bytes = drop-drop 1 here bytes in
          rw (next, slice_split_first p bytes 0 ends, kept_in_front (take here bytes) p (drop (here + 1) bytes)) refl
      | inr none ↦
          let whole : here ≡ length bytes = let within : here ≤ length bytes = prefix_len-le-length (λ x. not (p x)) bytes in omega arith in
          rw (whole, only_part p bytes none, take-length bytes, drop-length bytes) (one_line bytes some)
    ])
  where
    one_line : (bytes : List ℕ) → 0 < length bytes → map strip_carriage_return (without_empty_end (bytes ∷ [])) ≡ strip_carriage_return bytes ∷ []
    one_line [] some = absurd (omega arith)
    one_line (b ∷ bytes) some = refl

-- a part that grows at its front adds at most one line
length-onto : (b : ℕ) (parts : List (List ℕ)) (n : ℕ) → length (without_empty_end parts) ≤ n → length (without_empty_end (onto_first b parts)) ≤ suc n
length-onto b [] n h = omega arith
length-onto b (part ∷ []) n h = omega arith
length-onto b (part ∷ next ∷ parts) n h = omega arith

length-lines : (bytes : List ℕ) → length (without_empty_end (slice_split (λ b. b == 10) bytes)) ≤ length bytes
length-lines [] = omega arith
length-lines (b ∷ bytes) = go (length-lines bytes) (b == 10) refl
  where
    go : length (without_empty_end (slice_split (λ b. b == 10) bytes)) ≤ length bytes → (newline : Bool) → (b == 10) ≡ newline
        → length (without_empty_end (slice_split (λ b. b == 10) (b ∷ bytes))) ≤ length (b ∷ bytes)
    go rest true newline = rw (newline, kept_in_front [] (λ b. b == 10) bytes) (omega arith)
    go rest false other = rw other (length-onto b (slice_split (λ b. b == 10) bytes) (length bytes) rest)

-- a text has at most as many lines as bytes
pub lines_fit : (bytes : List ℕ) → length (lines_of bytes) ≤ length bytes
lines_fit bytes = rw length-map (length-lines bytes)
