-- What the shutting of a cache counts is decided by its slots and by how many cells could not be put.
use Rattle.std.proofs.Common.{◌≡◌, ◌∙◌, inl, inr, ℕ, suc, ◌+◌, ◌<◌, Bool, true, false, cond, List, [], ◌∷◌, ◌++◌, length, count_by, Option, None, Some, slice_index_or, refl, sym, ap, subst, arith}
use Rattle.std.proofs.lemmas.List.{length-append}
use Rattle.std.proofs.lemmas.List.Sums.{sum_by-cons, sum_by-append}
use Rattle.arr_history.specs.declared.closed.Unsaved.{Unsaved}
use Rattle.arr_history.specs.declared.event.Event.{Event}
use Rattle.arr_history.specs.declared.event.Event.TheVariants as event
use Rattle.arr_history.specs.declared.tally.Tally.{Tally}
use Rattle.arr_history.specs.Tally.{is_hit, is_miss, is_load, is_gone, is_writeback, cut, tally_raised}
use Rattle.arr_history.proofs.Counts.{same_tallies}
use Rattle.sole_cache.specs.Slot.{SlotValue}
use Rattle.sole_cache.specs.Shut.{IsClosedAt, AreClosed}

-- whether a slot has a cell, and whether it has a marked one
unfoldable pub has_cell : Option ℕ → Bool
has_cell None = false
has_cell (Some n) = true

unfoldable pub has_marked : Bool → Option ℕ → Bool
has_marked marked None = false
has_marked marked (Some n) = marked

abbrev pub is_taken : SlotValue → Bool
is_taken s = has_cell s.cell

abbrev pub is_due : SlotValue → Bool
is_due s = has_marked s.marked s.cell

number : Bool → ℕ
number b = cond b 1 0

-- what events of a closing count
record Counts (leave return : ℕ) (unsaved : List Unsaved) (events : List Event) : Type 0 where
  hits : count_by is_hit events ≡ 0
  misses : count_by is_miss events ≡ 0
  loads : count_by is_load events ≡ 0
  gone : count_by is_gone events + length unsaved ≡ leave
  back : count_by is_writeback events + length unsaved ≡ return

counts_none : Counts 0 0 [] []
counts_none = record { hits = refl; misses = refl; loads = refl; gone = omega arith; back = omega arith }

counts_gone : (n : ℕ) (marked : Bool) → Counts 1 (cond marked 1 0) [] (event.Close 0 n ∷ event.Gone 0 n marked ∷ [])
counts_gone n true = record { hits = refl; misses = refl; loads = refl; gone = omega arith; back = omega arith }
counts_gone n false = record { hits = refl; misses = refl; loads = refl; gone = omega arith; back = omega arith }

counts_back : (n : ℕ) (u : Unsaved) → Counts 1 1 (u ∷ []) (event.Close 0 n ∷ event.Back 0 n ∷ [])
counts_back n u = record { hits = refl; misses = refl; loads = refl; gone = omega arith; back = omega arith }

at_slot : (s : SlotValue) (o : Option ℕ) (u : List Unsaved) (e : List Event) → IsClosedAt s o u e → Counts (cond (has_cell o) 1 0) (cond (has_marked s.marked o) 1 0) u e
unfolding has_cell has_marked
at_slot s None u e (none, nothing) = subst (λ x. Counts 0 0 x e) (sym none) (subst (λ y. Counts 0 0 [] y) (sym nothing) counts_none)
at_slot s (Some n) u e (inl (none, is)) = subst (λ x. Counts 1 (cond s.marked 1 0) x e) (sym none) (subst (λ y. Counts 1 (cond s.marked 1 0) [] y) (sym is) (counts_gone n s.marked))
at_slot s (Some n) u e (inr (marked, (memory, (named, is)))) = subst (λ b. Counts 1 (cond b 1 0) u e) (sym marked) (subst (λ x. Counts 1 1 x e) (sym named) (subst (λ y. Counts 1 1 (record { cell = n; memory = memory } ∷ []) y) (sym is) (counts_back n (record { cell = n; memory = memory }))))

counts_on : (a b c d : ℕ) (u v : List Unsaved) (e f : List Event) → Counts a b u e → Counts c d v f → Counts (a + c) (b + d) (u ++ v) (e ++ f)
counts_on a b c d u v e f g h =
    let len = length-append u v in
    let gone = sum_by-append (λ x. cond (is_gone x) 1 0) e f in
    let back = sum_by-append (λ x. cond (is_writeback x) 1 0) e f in
    let hits = sum_by-append (λ x. cond (is_hit x) 1 0) e f in
    let misses = sum_by-append (λ x. cond (is_miss x) 1 0) e f in
    let loads = sum_by-append (λ x. cond (is_load x) 1 0) e f in
    record {
      hits = omega (arith, hits, g.hits, h.hits);
      misses = omega (arith, misses, g.misses, h.misses);
      loads = omega (arith, loads, g.loads, h.loads);
      gone = omega (arith, gone, len, g.gone, h.gone);
      back = omega (arith, back, len, g.back, h.back);
    }

all_slots : (slots : List SlotValue) (u : List Unsaved) (e : List Event) → AreClosed slots u e → Counts (count_by is_taken slots) (count_by is_due slots) u e
all_slots [] u e (none, nothing) = subst (λ x. Counts 0 0 x e) (sym none) (subst (λ y. Counts 0 0 [] y) (sym nothing) counts_none)
all_slots (s ∷ slots) u e (first, (more, (here, (rest, (split, events, one, others))))) =
    let both = counts_on _ _ _ _ first more here rest (at_slot s s.cell first here one) (all_slots slots more rest others) in
    let taken = sum_by-cons (λ x. cond (is_taken x) 1 0) s slots in
    let due = sum_by-cons (λ x. cond (is_due x) 1 0) s slots in
    subst (λ n. Counts n (count_by is_due (s ∷ slots)) u e) (sym taken) (subst (λ n. Counts (cond (is_taken s) 1 0 + count_by is_taken slots) n u e) (sym due)
    (subst (λ x. Counts (cond (is_taken s) 1 0 + count_by is_taken slots) (cond (is_due s) 1 0 + count_by is_due slots) x e) (sym split)
    (subst (λ y. Counts (cond (is_taken s) 1 0 + count_by is_taken slots) (cond (is_due s) 1 0 + count_by is_due slots) (first ++ more) y) (sym events) both)))

-- a count of slots is that of slots that the test tells alike
pub count_same : {X : Type 0} (p : X → Bool) (d : X) (xs ys : List X) → length ys ≡ length xs → ((i : ℕ) → i < length xs → p (slice_index_or ys i d) ≡ p (slice_index_or xs i d)) → count_by p ys ≡ count_by p xs
count_same p d [] [] len same = refl
count_same p d [] (y ∷ ys) len same = absurd (omega (arith, len))
count_same p d (x ∷ xs) [] len same = absurd (omega (arith, len))
count_same p d (x ∷ xs) (y ∷ ys) len same =
    let rest = count_same p d xs ys (omega (arith, len)) (λ i lt. same (suc i) (omega (arith, lt))) in
    let here = ap number (same 0 (omega arith)) in
    let old = sum_by-cons (λ x. cond (p x) 1 0) x xs in
    let new = sum_by-cons (λ x. cond (p x) 1 0) y ys in
    new ∙ ap (λ n. n + count_by p ys) (one (p y) (p x) (same 0 (omega arith))) ∙ ap (λ n. cond (p x) 1 0 + n) rest ∙ sym old
  where
    one : (a b : Bool) → a ≡ b → cond {A = ℕ} a 1 0 ≡ cond b 1 0
    one a b e = ap (λ x. cond x 1 0) e

cut_same : (a b : ℕ) → a ≡ b → cut a ≡ cut b
cut_same a b e = ap cut e

-- The counts of a run that was shut.
pub closed_same : (t : Tally) (slots others : List SlotValue) (u : List Unsaved) (e f : List Event) → AreClosed slots u e → AreClosed others u f → count_by is_taken others ≡ count_by is_taken slots → count_by is_due others ≡ count_by is_due slots
    → tally_raised t [] f ≡ tally_raised t [] e
closed_same t slots others u e f g h taken due =
    let first = all_slots slots u e g in
    let second = all_slots others u f h in
    same_tallies _ _ _ _ _ _ _ _ _ _ _ _
    (cut_same _ _ (omega (arith, first.hits, second.hits)))
    (cut_same _ _ (omega (arith, first.misses, second.misses)))
    (cut_same _ _ (omega (arith, first.loads, second.loads)))
    refl
    (cut_same _ _ (omega (arith, first.back, second.back, due)))
    (cut_same _ _ (omega (arith, first.gone, second.gone, taken)))
