-- Counts of events that follow one another.
use Rattle.std.proofs.Common.{◌≡◌, ◌∙◌, ℕ, ◌+◌, ◌-◌, ◌^◌, ◌≤◌, Bool, cond, List, [], ◌∷◌, ◌++◌, map, refl, sym, ap, arith}
use Rattle.std.specs.List.{count_by}
use Rattle.std.proofs.lemmas.List.Sums.{sum_by-append}
use Rattle.std.proofs.lemmas.List.{append-nil}
use Rattle.pass_roster.specs.History.{total, flat}
use Rattle.pass_roster.proofs.Sums.{total_flat, total_counts}
use Rattle.arr_history.specs.declared.event.Event.{Event}
use Rattle.arr_history.specs.declared.tally.Tally.{Tally}
use Rattle.arr_history.specs.Tally.{IsTally, AreUncounted, is_hit, is_miss, is_load, is_gone, is_writeback, cut, tally_of, tally_raised, plus, sum_of}

pub count_by-append : {X : Type 0} (p : X → Bool) (xs ys : List X) → count_by p (xs ++ ys) ≡ count_by p xs + count_by p ys
count_by-append p xs ys = sum_by-append _ xs ys

-- cutting twice is cutting once
cut_cut : (a b : ℕ) → cut (a + b) ≡ cut (cut a + b)
cut_cut a b = grind arith

-- the counts of three parts
counted : {X : Type 0} (p : X → Bool) (xs ys zs : List X) → cut (count_by p ((xs ++ ys) ++ zs)) ≡ cut (cut (count_by p (xs ++ [])) + count_by p (ys ++ zs))
counted p xs ys zs = ap cut (count_by-append p (xs ++ ys) zs ∙ ap (λ n. n + count_by p zs) (count_by-append p xs ys) ∙ shift (count_by p xs) (count_by p ys) (count_by p zs)
    ∙ ap (λ n. count_by p xs + n) (sym (count_by-append p ys zs)))
    ∙ cut_cut (count_by p xs) (count_by p (ys ++ zs)) ∙ ap (λ l. cut (cut (count_by p l) + count_by p (ys ++ zs))) (sym (append-nil xs))
  where
    shift : (a b c : ℕ) → (a + b) + c ≡ a + (b + c)
    shift a b c = omega arith

counted_part : {X : Type 0} (p : X → Bool) (xs ys : List X) → cut (count_by p (xs ++ ys)) ≡ cut (cut (count_by p xs) + count_by p ys)
counted_part p xs ys = ap cut (count_by-append p xs ys) ∙ cut_cut (count_by p xs) (count_by p ys)

abbrev tally : ℕ → ℕ → ℕ → ℕ → ℕ → ℕ → Tally
tally a b c d e f = record { hits = a; misses = b; loads = c; evictions = d; writebacks = e; closed = f }

-- tallies with the same counts are the same
pub same_tallies : (a b c d e f u v w x y z : ℕ) → a ≡ u → b ≡ v → c ≡ w → d ≡ x → e ≡ y → f ≡ z → tally a b c d e f ≡ tally u v w x y z
same_tallies a b c d e f u v w x y z p q r s t o = cc

pub tallies_grow : (run more closing : List Event) → tally_of (run ++ more) closing ≡ tally_raised (tally_of run []) more closing
tallies_grow run more closing = same_tallies _ _ _ _ _ _ _ _ _ _ _ _ (counted is_hit run more closing) (counted is_miss run more closing) (counted is_load run more closing)
    (counted_part is_gone run more) (counted is_writeback run more closing) (counted_part is_gone [] closing)

-- counts that are raised twice
counted_twice : {X : Type 0} (p : X → Bool) (a : ℕ) (xs ys : List X) → cut (cut (a + count_by p (xs ++ [])) + count_by p (ys ++ [])) ≡ cut (a + count_by p ((xs ++ ys) ++ []))
counted_twice p a xs ys = ap (λ l. cut (cut (a + count_by p l) + count_by p (ys ++ []))) (append-nil xs) ∙ ap (λ l. cut (cut (a + count_by p xs) + count_by p l)) (append-nil ys)
    ∙ sym (cut_cut (a + count_by p xs) (count_by p ys)) ∙ ap cut (shift a (count_by p xs) (count_by p ys) ∙ ap (λ n. a + n) (sym (count_by-append p xs ys)))
    ∙ ap (λ l. cut (a + count_by p l)) (sym (append-nil (xs ++ ys)))
  where
    shift : (a b c : ℕ) → (a + b) + c ≡ a + (b + c)
    shift a b c = omega arith

counted_part_twice : {X : Type 0} (p : X → Bool) (a : ℕ) (xs ys : List X) → cut (cut (a + count_by p xs) + count_by p ys) ≡ cut (a + count_by p (xs ++ ys))
counted_part_twice p a xs ys = sym (cut_cut (a + count_by p xs) (count_by p ys)) ∙ ap cut (shift a (count_by p xs) (count_by p ys) ∙ ap (λ n. a + n) (sym (count_by-append p xs ys)))
  where
    shift : (a b c : ℕ) → (a + b) + c ≡ a + (b + c)
    shift a b c = omega arith

-- Counts that are raised by some events and then by others are raised by all of them.
pub raised_more : (t : Tally) (p q : List Event) → tally_raised (tally_raised t p []) q [] ≡ tally_raised t (p ++ q) []
raised_more t p q = same_tallies _ _ _ _ _ _ _ _ _ _ _ _ (counted_twice is_hit t.hits p q) (counted_twice is_miss t.misses p q) (counted_twice is_load t.loads p q)
    (counted_part_twice is_gone t.evictions p q) (counted_twice is_writeback t.writebacks p q) (counted_part_twice is_gone t.closed [] [])

cut_small : (a n : ℕ) → a ≤ 2 ^ 64 - 1 → n ≡ 0 → cut (a + n) ≡ a
cut_small a n h z = grind arith

-- Events that are not counted leave the counts.
pub raised_none : (t : Tally) (events : List Event) → IsTally t → AreUncounted events → tally_raised t events [] ≡ t
raised_none t events is none = same_tallies _ _ _ _ _ _ _ _ _ _ _ _ (cut_small t.hits _ is.hits none.hits) (cut_small t.misses _ is.misses none.misses) (cut_small t.loads _ is.loads none.loads)
    (cut_small t.evictions _ is.evictions none.evictions) (cut_small t.writebacks _ is.writebacks none.writebacks) (cut_small t.closed 0 is.closed refl)

cut_fits : (n : ℕ) → cut n ≤ 2 ^ 64 - 1
cut_fits n = grind arith

-- Raised counts fit.
pub raised_fits : (t : Tally) (run closing : List Event) → IsTally (tally_raised t run closing)
raised_fits t run closing = record { hits = cut_fits _; misses = cut_fits _; loads = cut_fits _; evictions = cut_fits _; writebacks = cut_fits _; closed = cut_fits _ }

pub tally_fits : (run closing : List Event) → IsTally (tally_of run closing)
tally_fits run closing = record { hits = cut_fits _; misses = cut_fits _; loads = cut_fits _; evictions = cut_fits _; writebacks = cut_fits _; closed = cut_fits _ }

-- the counts of two parts, together
cut_both : (a b : ℕ) → cut (a + b) ≡ cut (cut a + cut b)
cut_both a b = grind arith

counted_both : {X : Type 0} (p : X → Bool) (xs ys : List X) → cut (count_by p (xs ++ ys)) ≡ cut (cut (count_by p xs) + cut (count_by p ys))
counted_both p xs ys = ap cut (count_by-append p xs ys) ∙ cut_both (count_by p xs) (count_by p ys)

counted_crosswise : {X : Type 0} (p : X → Bool) (xs ys zs ws : List X) → cut (count_by p ((xs ++ ys) ++ (zs ++ ws))) ≡ cut (cut (count_by p (xs ++ zs)) + cut (count_by p (ys ++ ws)))
counted_crosswise p xs ys zs ws = ap cut (four xs ys zs ws ∙ (shift (count_by p xs) (count_by p ys) (count_by p zs) (count_by p ws) ∙ sym (four xs zs ys ws))) ∙ counted_both p (xs ++ zs) (ys ++ ws)
  where
    four : (xs ys zs ws : List _) → count_by p ((xs ++ ys) ++ (zs ++ ws)) ≡ (count_by p xs + count_by p ys) + (count_by p zs + count_by p ws)
    four xs ys zs ws = count_by-append p (xs ++ ys) (zs ++ ws) ∙ (ap (λ n. n + count_by p (zs ++ ws)) (count_by-append p xs ys) ∙ ap (λ n. (count_by p xs + count_by p ys) + n) (count_by-append p zs ws))

    shift : (a b c d : ℕ) → (a + b) + (c + d) ≡ (a + c) + (b + d)
    shift a b c d = omega arith

pub parts_add_up : (run more closing rest : List Event) → tally_of (run ++ more) (closing ++ rest) ≡ plus (tally_of run closing) (tally_of more rest)
parts_add_up run more closing rest = same_tallies _ _ _ _ _ _ _ _ _ _ _ _ (counted_crosswise is_hit run more closing rest) (counted_crosswise is_miss run more closing rest) (counted_crosswise is_load run more closing rest)
    (counted_both is_gone run more) (counted_crosswise is_writeback run more closing rest) (counted_both is_gone closing rest)

-- the tallies of parts are that of all of them, one after another
sum_flat : (parts : List (List Event)) → sum_of (map (λ own. tally_of own []) parts) ≡ tally_of (flat parts) []
sum_flat [] = refl
sum_flat (own ∷ parts) = ap (plus (tally_of own [])) (sum_flat parts) ∙ sym (parts_add_up own (flat parts) [] [])

-- lists that weigh the same have the same counts
same_count : (p : Event → Bool) (xs ys : List Event) → ((weight : Event → ℕ) → total weight xs ≡ total weight ys) → count_by p xs ≡ count_by p ys
same_count p xs ys same = sym (total_counts p xs) ∙ (same (λ x. cond (p x) 1 0) ∙ total_counts p ys)

same_run : (p : Event → Bool) (xs ys : List Event) → ((weight : Event → ℕ) → total weight xs ≡ total weight ys) → cut (count_by p (xs ++ [])) ≡ cut (count_by p (ys ++ []))
same_run p xs ys same = ap cut (ap (count_by p) (append-nil xs) ∙ (same_count p xs ys same ∙ ap (count_by p) (sym (append-nil ys))))

pub passes_add_up : (history : List Event) (passes : List (List Event)) → ((weight : Event → ℕ) → total weight history ≡ total (total weight) passes)
    → tally_of history [] ≡ sum_of (map (λ own. tally_of own []) passes)
passes_add_up history passes weighs =
    let same = λ (weight : Event → ℕ). weighs weight ∙ sym (total_flat weight passes) in
    same_tallies _ _ _ _ _ _ _ _ _ _ _ _ (same_run is_hit history (flat passes) same) (same_run is_miss history (flat passes) same) (same_run is_load history (flat passes) same)
    (ap cut (same_count is_gone history (flat passes) same)) (same_run is_writeback history (flat passes) same) refl
    ∙ sym (sum_flat passes)
