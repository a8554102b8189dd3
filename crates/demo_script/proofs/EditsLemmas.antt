-- The edits of an actor, one more and as a whole.
use Rattle.std.proofs.Common.{◌≡◌, ℕ, zero, suc, ◌+◌, ◌≤◌, [], ◌∷◌, ◌++◌, length, map, refl, arith}
use Rattle.std.specs.Prelude.{All, flat_map, sum_by}
use Rattle.std.specs.List.{range_with_len}
use Rattle.std.proofs.lemmas.List.FromFn.{length-map-range_with_len, map-range_with_len_more}
use Rattle.std.proofs.lemmas.List.Elements.{All-cons, All-nil}
use Rattle.view_script.specs.Script.{IsWithinLimits, name_of, pixels_of}
use Rattle.demo_script.specs.Script.{edit, edits}

pub edits_none : (actor : ℕ) → edits actor 0 ≡ []
unfolding edits
edits_none actor = refl

pub edits_more : (actor n : ℕ) → edits actor (n + 1) ≡ edits actor n ++ edit actor n ∷ []
unfolding edits
edits_more actor n = map-range_with_len_more (edit actor) 0 n n (omega arith)

pub edits_count : (actor n : ℕ) → length (edits actor n) ≡ n
unfolding edits
edits_count actor n = length-map-range_with_len (edit actor) 0 n

within_from : (actor a n : ℕ) → All IsWithinLimits (map (edit actor) (range_with_len a n))
within_from actor a zero = All-nil IsWithinLimits
within_from actor a (suc n) =
    let low : 0 ≤ 7 = omega arith in
    All-cons IsWithinLimits (edit actor a) (map (edit actor) (range_with_len (a + 1) n)) low (within_from actor (a + 1) n)

pub edits_within : (actor n : ℕ) → All IsWithinLimits (edits actor n)
unfolding edits
edits_within actor n = within_from actor 0 n

no_pixels_from : (actor a n : ℕ) → sum_by pixels_of (map (edit actor) (range_with_len a n)) ≡ 0
no_pixels_from actor a zero = refl
no_pixels_from actor a (suc n) = no_pixels_from actor (a + 1) n

pub no_pixels : (actor n : ℕ) → sum_by pixels_of (edits actor n) ≡ 0
unfolding edits
no_pixels actor n = no_pixels_from actor 0 n

no_names_from : (actor a n : ℕ) → flat_map name_of (map (edit actor) (range_with_len a n)) ≡ []
no_names_from actor a zero = refl
no_names_from actor a (suc n) = no_names_from actor (a + 1) n

pub no_names : (actor n : ℕ) → flat_map name_of (edits actor n) ≡ []
unfolding edits
no_names actor n = no_names_from actor 0 n
