-- A history by phases, from what each pass has made in the part of its phase, and from what stands in the whole.
use Rattle.std.proofs.Common.{◌≡◌, ℕ, zero, suc, ◌+◌, ◌-◌, ◌<◌, ◌≤◌, List, [], ◌∷◌, ◌++◌, length, sym, ap, ◌∙◌, ⊎_elim, append_assoc, arith, length-append}
use mathlib.Core.Option.{some, some-injective, some-ne-none}
use lib.ListN.{get_elem?}
use Rattle.std.proofs.lemmas.List.{append-nil, nil_from_length}
use Rattle.std.proofs.lemmas.Bool.{cases_lt}
use Rattle.pass_roster.specs.History.{entries_by, flat}
use Rattle.pass_roster.proofs.Entries.{by_append}
use Rattle.pass_roster.specs.Phases.{HaveMade, InPhases}
use Rattle.pass_roster.proofs.Places.{get_split, get_right, get_left, there}

module _ {E : Type 0} (by : E → ℕ) where
  -- how many entries of a pass there are
  abbrev pub entry_count : ℕ → List E → ℕ
  entry_count n xs = length (entries_by by n xs)

  pub count_append : (n : ℕ) (xs ys : List E) → entry_count n (xs ++ ys) ≡ entry_count n xs + entry_count n ys
  count_append n xs ys = ap length (by_append by n xs ys) ∙ length-append (entries_by by n xs) (entries_by by n ys)

  pub no_entries : (n : ℕ) (xs : List E) → entry_count n xs ≡ 0 → entries_by by n xs ≡ []
  no_entries n xs none = nil_from_length (entries_by by n xs) none

  pub none_in_both : (n : ℕ) (xs ys : List E) → entries_by by n (xs ++ ys) ≡ [] → (entries_by by n xs ≡ []) × (entries_by by n ys ≡ [])
  none_in_both n xs ys none = let a = count_append n xs ys in let b : entry_count n (xs ++ ys) ≡ 0 = ap length none in (no_entries n xs (omega arith), no_entries n ys (omega arith))

  -- where all entries of a pass stand in one part, no others are anywhere
  pub only_here : (n : ℕ) (own front head tail back : List E) → entries_by by n (front ++ ((head ++ tail) ++ back)) ≡ own → entries_by by n head ≡ own
      → (entries_by by n (head ++ tail) ≡ own) × (entries_by by n back ≡ []) × (entries_by by n front ≡ [])
  only_here n own front head tail back all here =
      let a = count_append n front ((head ++ tail) ++ back) in let b = count_append n (head ++ tail) back in let c = count_append n head tail in
      let d : entry_count n (front ++ ((head ++ tail) ++ back)) ≡ length own = ap length all in let e : entry_count n head ≡ length own = ap length here in
      let t : entries_by by n tail ≡ [] = no_entries n tail (omega arith) in
      (by_append by n head tail ∙ (ap (λ l. entries_by by n head ++ l) t ∙ (append-nil (entries_by by n head) ∙ here)), no_entries n back (omega arith), no_entries n front (omega arith))

  -- what each phase's passes have made in its part
  abbrev pub Stages : ℕ → List (List (List E)) → List E → Type 0
  Stages k [] s = s ≡ []
  Stages k (works ∷ phases) s = (part : List E) × (more : List E) × (s ≡ part ++ more) × HaveMade by k works part × Stages (k + length works) phases more

  pub made_at : (k : ℕ) (works : List (List E)) (part : List E) → HaveMade by k works part → (i : ℕ) (own : List E) → get_elem? works i ≡ some own
      → (head : List E) × (tail : List E) × (part ≡ head ++ tail) × (entries_by by (k + i) head ≡ own)
  made_at k [] part m i own at = absurd (some-ne-none own (sym at))
  made_at k (x ∷ works) part m zero own at = (m.0, m.1, m.2, ap (λ n. entries_by by n m.0) (let z : k + zero ≡ k = omega arith in z) ∙ (m.3 ∙ some-injective x own at))
  made_at k (x ∷ works) part m (suc i) own at = let r = made_at (k + 1) works part m.4 i own at in
      (r.0, r.1, r.2, ap (λ n. entries_by by n r.0) (let z : k + suc i ≡ (k + 1) + i = omega arith in z) ∙ r.3)

  pub staged_at : (k : ℕ) (phases : List (List (List E))) (s : List E) → Stages k phases s → (i : ℕ) (own : List E) → get_elem? (flat phases) i ≡ some own
      → (front : List E) × (head : List E) × (tail : List E) × (s ≡ front ++ (head ++ tail)) × (entries_by by (k + i) head ≡ own)
  staged_at k [] s staged i own at = absurd (some-ne-none own (sym at))
  staged_at k (works ∷ phases) s staged i own at = ⊎_elim
      (λ (h : get_elem? works i ≡ some own). let r = made_at k works staged.0 staged.3 i own h in
      ([], r.0, r.1 ++ staged.1, staged.2 ∙ (ap (λ l. l ++ staged.1) r.2 ∙ append_assoc r.0 r.1 staged.1), r.3))
      (λ (h : (j : ℕ) × (i ≡ length works + j) × (get_elem? (flat phases) j ≡ some own)). let r = staged_at (k + length works) phases staged.1 staged.4 h.0 own h.2 in (
        staged.0 ++ r.0,
        r.1,
        r.2,
        staged.2 ∙ (ap (λ l. staged.0 ++ l) r.3 ∙ sym (append_assoc staged.0 r.0 (r.1 ++ r.2))),
        ap (λ n. entries_by by n r.1) (let e = h.1 in let z : k + i ≡ (k + length works) + h.0 = omega arith in z) ∙ r.4,
      ))
      (get_split works (flat phases) i own at)

  pub stands : (k : ℕ) (phases : List (List (List E))) (front rest : List E) → Stages k phases rest
      → ((i : ℕ) (own : List E) → get_elem? (flat phases) i ≡ some own → entries_by by (k + i) (front ++ rest) ≡ own)
      → ((n : ℕ) → n < k → entries_by by n rest ≡ [])
      → ((n : ℕ) → k + length (flat phases) ≤ n → entries_by by n rest ≡ [])
      → InPhases by k phases rest
  stands k [] front rest staged each low high = staged
  stands k (works ∷ phases) front rest staged each low high = (
    part,
    more,
    staged.2,
    record { each = λ i own at. (here i own at).0; none = λ n h. ⊎_elim (λ (l : n < k). (below n l).0) (λ (l : k + length works ≤ n). (above n l).0) h },
    stands (k + length works) phases (front ++ part) more staged.4
        (λ i own at. ap (λ n. entries_by by n ((front ++ part) ++ more)) (let z : (k + length works) + i ≡ k + (length works + i) = omega arith in z)
        ∙ (ap (entries_by by (k + (length works + i))) (append_assoc front part more) ∙ all (length works + i) own (get_right works (flat phases) i ∙ at)))
        (λ n l. ⊎_elim (λ (a : n < k). (below n a).1) (λ (a : k ≤ n). let w = there works (n - k) (omega arith) in let h = here (n - k) w.0 w.1 in
        ap (λ m. entries_by by m more) (let z : n ≡ k + (n - k) = omega arith in z) ∙ h.1) (cases_lt n k))
        (λ n l. (none_in_both n part more (split n (high n (let e = length-append works (flat phases) in omega arith)))).1),
  )
    where
      part : List E
      part = staged.0

      more : List E
      more = staged.1

      all : (i : ℕ) (own : List E) → get_elem? (works ++ flat phases) i ≡ some own → entries_by by (k + i) (front ++ (part ++ more)) ≡ own
      all i own at = ap (λ l. entries_by by (k + i) (front ++ l)) (sym staged.2) ∙ each i own at

      split : (n : ℕ) → entries_by by n rest ≡ [] → entries_by by n (part ++ more) ≡ []
      split n none = ap (entries_by by n) (sym staged.2) ∙ none

      here : (i : ℕ) (own : List E) → get_elem? works i ≡ some own → (entries_by by (k + i) part ≡ own) × (entries_by by (k + i) more ≡ [])
      here i own at = let m = made_at k works part staged.3 i own at in
          let o = only_here (k + i) own front m.0 m.1 more (ap (λ l. entries_by by (k + i) (front ++ (l ++ more))) (sym m.2) ∙ all i own (get_left works (flat phases) i own at)) m.3 in
          (ap (entries_by by (k + i)) m.2 ∙ o.0, o.1)

      below : (n : ℕ) → n < k → (entries_by by n part ≡ []) × (entries_by by n more ≡ [])
      below n l = none_in_both n part more (split n (low n l))

      -- the entries of a later phase's pass stand in the later part
      later : (i : ℕ) (own : List E) → get_elem? (flat phases) i ≡ some own → entries_by by ((k + length works) + i) part ≡ []
      later i own at = let n = (k + length works) + i in let s = staged_at (k + length works) phases more staged.4 i own at in
          let z : n ≡ k + (length works + i) = omega arith in
          let whole : entries_by by n (front ++ (part ++ more)) ≡ own = ap (λ m. entries_by by m (front ++ (part ++ more))) z ∙ all (length works + i) own (get_right works (flat phases) i ∙ at) in
          let c = count_append n front (part ++ more) in let d = count_append n part more in let e : entry_count n more ≡ entry_count n (s.0 ++ (s.1 ++ s.2)) = ap (entry_count n) s.3 in
          let f = count_append n s.0 (s.1 ++ s.2) in let h = count_append n s.1 s.2 in let o : entry_count n s.1 ≡ length own = ap length s.4 in let w : entry_count n (front ++ (part ++ more)) ≡ length own = ap length whole in
          no_entries n part (omega arith)

      above : (n : ℕ) → k + length works ≤ n → (entries_by by n part ≡ []) × (Unit {0})
      above n l = ⊎_elim
          (λ (a : n < k + length works + length (flat phases)). let w = there (flat phases) (n - (k + length works)) (omega arith) in
          (ap (λ m. entries_by by m part) (let z : n ≡ (k + length works) + (n - (k + length works)) = omega arith in z) ∙ later (n - (k + length works)) w.0 w.1, tt))
          (λ (a : k + length works + length (flat phases) ≤ n). ((none_in_both n part more (split n (high n (let e = length-append works (flat phases) in omega arith)))).0, tt))
          (cases_lt n (k + length works + length (flat phases)))
