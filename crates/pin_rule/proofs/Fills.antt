-- The stores of a fill, by the slot and the offset, and the taking and giving of slots, at the words that the program names.
use Rattle.std.proofs.Common.{◌≡◌, ℕ, zero, suc, ◌+◌, ◌<◌, ◌≤◌, ◌==◌, cond, true, List, [], ◌∷◌, ◌++◌, length, take, drop, get_or, sym, refl, ap, ◌∙◌, subst, Some, None, arith, eq-eqb}
use mathlib.Core.Option.{none}
use prog.Atomic.{either}
use Rattle.atomic_table.specs.Table.{step, Allows}
use Rattle.pin_words.specs.declared.holding.Held.{Held}
use Rattle.pin_words.specs.declared.lane.Taken.{Taken}
use Rattle.pin_words.specs.declared.doing.Doing.{Doing}
use Rattle.pin_words.specs.declared.doing.Stage.TheVariants.{Idle}
use Rattle.pin_words.specs.Plan.{Plan, IsPlan, lane_of}
use Rattle.pin_words.specs.Account.{filled_in}
use Rattle.pin_words.specs.Layout.{frame_at, slot_at}
use Rattle.pin_words.specs.Rule.{Ruled, Sat}
use Rattle.pin_words.specs.Finding.{has_claim, has_held, held_of, helds_without, has_left, left_of}
use Rattle.pin_words.specs.Cells.{held, Stores, Fills, IsFilled, IsDue, Begun}
use Rattle.pin_words.specs.Cells as cells
use Rattle.pin_words.proofs.Places.{frame_same}
use Rattle.pin_words.proofs.Filling.{stores_word, fills_word, looks_at}
use Rattle.pin_words.proofs.Slots.{takes_slot, gives_slot}
use Rattle.pin_rule.proofs.Finds.{picks_claim, picks_held_own, held_slot, picks_left, left_cell}

take_long : (i : ℕ) (xs : List ℕ) → i ≤ length xs → length (take i xs) ≡ i
take_long zero xs h = refl
take_long (suc i) [] h = absurd (omega arith)
take_long (suc i) (x ∷ xs) h = ap suc (take_long i xs (omega arith))

take_split : (i : ℕ) (xs : List ℕ) → xs ≡ take i xs ++ drop i xs
take_split zero xs = refl
take_split (suc i) [] = refl
take_split (suc i) (x ∷ xs) = λ k. x ∷ take_split i xs k

take_next : (i : ℕ) (vs : List ℕ) → i < length vs → take i vs ++ get_or vs i 0 ∷ [] ≡ take (suc i) vs
take_next i [] h = absurd (omega arith)
take_next zero (x ∷ xs) h = refl
take_next (suc i) (x ∷ xs) h = λ k. x ∷ take_next i xs (omega arith) k

take_more : (i : ℕ) (vs : List ℕ) → i < length vs → take i vs ++ get_or vs i 0 ∷ [] ≡ take (i + 1) vs
take_more i vs h = take_next i vs h ∙ (let e : suc i ≡ i + 1 = omega arith in λ k. take (e k) vs)

take_all : (xs : List ℕ) (n : ℕ) → length xs ≡ n → take n xs ≡ xs
take_all [] zero h = refl
take_all [] (suc n) h = refl
take_all (x ∷ xs) zero h = absurd (omega arith)
take_all (x ∷ xs) (suc n) h = λ k. x ∷ take_all xs n (omega arith) k

module _ {S M : Type 0} (p : Plan S M) (plan : M → Plan S M) (same_plan : plan p.made ≡ p) where
  pub takes_slot_as : (slots id : ℕ) (me : Sat S M) (l w : ℕ) → me.0.stage ≡ Idle → l < p.slots → w ≡ slot_at p l → Allows (Ruled p) slots id me w (λ n. either (n == 0) 1 n) (cells.slots_taken plan (step slots w 0 1 none) me)
  takes_slot_as slots id me l w idle low is = subst (λ (x : ℕ). Allows (Ruled p) slots id me x (λ n. either (n == 0) 1 n) (cells.slots_taken plan (step slots x 0 1 none) me)) (sym is) (takes_slot p plan same_plan slots id me l idle low)

  pub gives_slot_as : (slots id : ℕ) (me : Sat S M) (l w : ℕ) → me.0.stage ≡ Idle → has_held l me.0 ≡ true → w ≡ slot_at p l → Allows (Ruled p) slots id me w (λ _. 0) (λ _. cells.slots_given plan (step slots w 0 0 none) me 0)
  gives_slot_as slots id me l w idle has is = subst (λ (x : ℕ). Allows (Ruled p) slots id me x (λ _. 0) (λ _. cells.slots_given plan (step slots x 0 0 none) me 0)) (sym (is ∙ (λ i. slot_at p (sym (held_slot l me.0 has) i))))
      (gives_slot p plan same_plan slots id me (held_of l me.0) idle (picks_held_own l me.0 has))

  module _ (ok_plan : IsPlan p) where
    -- the place that a word names is one
    place_is : (made : M) (s i w : ℕ) → made ≡ p.made → i < p.frame → w ≡ frame_at p s i → (t j : ℕ) → j < (plan made).frame → w ≡ frame_at (plan made) t j → (s ≡ t) × (i ≡ j)
    place_is made s i w is near w_is t j near' w_is' = let q : plan made ≡ p = ap plan is ∙ same_plan in let near'' : j < p.frame = subst (λ (y : Plan S M). j < y.frame) q near' in let e : frame_at p s i ≡ frame_at p t j = sym w_is ∙ (w_is' ∙ (λ k. frame_at (q k) t j)) in
        frame_same p.frame s t i j near near'' (omega arith)

    -- what one step tells may be told otherwise
    allows_as : (slots id : ℕ) (me : Sat S M) (i : ℕ) (f : ℕ → ℕ) (then then' : ℕ → Sat S M → Type 0) → Allows (Ruled p) slots id me i f then → ((n : ℕ) (m : Sat S M) → then n m → then' n m) → Allows (Ruled p) slots id me i f then'
    allows_as slots id me i f then then' a g s r many at below = let x = a s r many at below in (x.0, x.1, x.2, x.3, g _ _ x.4)

    pub stores_as : (slots id : ℕ) (me : Sat S M) (s i x w : ℕ) → me.0.made ≡ p.made → me.0.stage ≡ Idle → has_held s me.0 ≡ true → i ≤ length (held_of s me.0).words → i < p.frame → w ≡ frame_at p s i
        → Allows (Ruled p) slots id me w (λ _. x) (λ _. cells.stores plan (step slots w x 0 none) me x)
    stores_as slots id me s i x w made idle has kept near w_is = let h : Held = held_of s me.0 in let len = take_long i h.words kept in let l_is = held_slot s me.0 has in
        allows_as slots id me w (λ _. x) (λ _ m. (m.1 ≡ me.1) × Stores me.0 s (take i h.words) x m.0) (λ _ m. cells.stores plan (step slots w x 0 none) me x m)
        (subst (λ (j : ℕ × ℕ). Allows (Ruled p) slots id me j.0 (λ _. x) (λ _ m. (m.1 ≡ me.1) × Stores me.0 j.1 (take i h.words) x m.0)) (λ j. (((λ j. frame_at p (l_is j) (len j)) ∙ sym w_is) j, l_is j))
        (stores_word p ok_plan slots id me h (take i h.words) (drop i h.words) x idle (picks_held_own s me.0 has) (take_split i h.words) (subst (λ (n : ℕ). n < p.frame) (sym len) near)))
        (λ n m t s' i' near' e. let both = place_is me.0.made s i w made near w_is s' i' near' e in
        subst (λ (y : ℕ × ℕ). (m.1 ≡ me.1) × Stores me.0 y.0 (take y.1 (held_of y.0 me.0).words) x m.0) (λ j. (both.0 j, both.1 j)) t)

    pub fills_as : (slots id : ℕ) (me : Sat S M) (c s i x w : ℕ) (o : Taken S) → me.0.made ≡ p.made → me.0.stage ≡ Idle → has_claim c me.0 ≡ true → has_held s me.0 ≡ true → i ≤ length (held_of s me.0).words → i < p.frame → w ≡ frame_at p s i
        → i + 1 ≡ p.voxels c → filled_in c (helds_without s me.0) ≡ 0 → me.0.lane ≡ Some o → lane_of p c ≡ o.lane → ((j : ℕ) → j < p.voxels c → get_or (take i (held_of s me.0).words ++ x ∷ []) j 0 ≤ p.greatest c) → IsDue p o c (take i (held_of s me.0).words ++ x ∷ [])
        → Allows (Ruled p) slots id me w (λ _. x) (λ _. cells.fills plan c (step slots w x 0 none) me x)
    fills_as slots id me c s i x w o made idle claim has kept near w_is last no_other lane lane_is fits is_due = let h : Held = held_of s me.0 in let len = take_long i h.words kept in let l_is = held_slot s me.0 has in
        allows_as slots id me w (λ _. x) (λ _ m. (m.1 ≡ me.1) × Fills me.0 c s (take i h.words) x o m.0) (λ _ m. cells.fills plan c (step slots w x 0 none) me x m)
        (subst (λ (j : ℕ × ℕ). Allows (Ruled p) slots id me j.0 (λ _. x) (λ _ m. (m.1 ≡ me.1) × Fills me.0 c j.1 (take i h.words) x o m.0)) (λ j. (((λ j. frame_at p (l_is j) (len j)) ∙ sym w_is) j, l_is j))
        (fills_word p ok_plan slots id me c h (take i h.words) (drop i h.words) x o idle (picks_claim c me.0 claim) (picks_held_own s me.0 has) (take_split i h.words) (ap (λ (n : ℕ). n + 1) len ∙ last)
        (subst (λ (t : ℕ). filled_in c (helds_without t me.0) ≡ 0) (sym l_is) no_other) lane lane_is fits is_due))
        (λ n m t s' i' o' near' e f. let both = place_is me.0.made s i w made near w_is s' i' near' e in let o_is : o ≡ o' = some_is o o' (sym lane ∙ f) in
        subst (λ (y : ℕ × ℕ × Taken S). (m.1 ≡ me.1) × Fills me.0 c y.0 (take y.1 (held_of y.0 me.0).words) x y.2 m.0) (λ j. (both.0 j, both.1 j, o_is j)) t)
      where
        some_is : (a b : Taken S) → Some a ≡ Some b → a ≡ b
        some_is a b q = cc

    pub looks_as : (slots id : ℕ) (me : Sat S M) (c b s i j w : ℕ) → me.0.stage ≡ Idle → has_left c me.0 ≡ true → (left_of c me.0).slot ≡ s → i < p.voxels c → w ≡ frame_at p s i → b ≡ c → j ≡ i
        → Allows (Ruled p) slots id me w (λ n. n) (cells.looks plan b j (step slots w 0 0 none) me)
    looks_as slots id me c b s i j w idle has s_is near w_is b_is j_is = subst (λ (y : ℕ × ℕ × ℕ). Allows (Ruled p) slots id me y.0 (λ n. n) (cells.looks plan y.1 y.2 (step slots y.0 0 0 none) me)) (λ k. (((λ k. frame_at p (s_is k) i) ∙ sym w_is) k, sym b_is k, sym j_is k))
        (looks_at p ok_plan plan same_plan slots id me c i idle (picks_left c me.0 has) (left_cell c me.0 has) near)

module _ {S M : Type 0} where
  pub begun_none : (d : Doing S M) (s : ℕ) (vs : List ℕ) → has_held s d ≡ true → Begun d s vs 0 d
  begun_none d s vs h = record { same = refl; has = h; long = omega arith; numbers = refl; rest = refl }

  pub begun_more : (old d d' : Doing S M) (s : ℕ) (vs : List ℕ) (i : ℕ) → Begun old s vs i d → i < length vs → Stores d s (take i (held_of s d).words) (get_or vs i 0) d' → Begun old s vs (i + 1) d'
  begun_more old d d' s vs i b l st = subst (Begun old s vs (i + 1)) (sym st) record {
    same = λ k. record (b.same k) { slots = new ∷ helds_without s d };
    has = λ k. cond (hit k) true (has_held s (record d { slots = helds_without s d }));
    long = subst (λ (h : Held). i + 1 ≤ length h.words) (sym found) (subst (λ (xs : List ℕ). i + 1 ≤ length xs) (sym words) (let n = take_long (i + 1) vs (omega arith) in omega arith));
    numbers = (λ k. take (i + 1) (found k).words) ∙ ((λ k. take (i + 1) (words k)) ∙ (take_all (take (i + 1) vs) (i + 1) (take_long (i + 1) vs (omega arith))));
    rest = (λ k. cond (hit k) (helds_without s d) (new ∷ helds_without s (record d { slots = helds_without s d }))) ∙ b.rest;
  }
    where
      new : Held
      new = held s None (take i (held_of s d).words ++ get_or vs i 0 ∷ [])

      hit : (s == s) ≡ true
      hit = eq-eqb s s refl

      found : held_of s (record d { slots = new ∷ helds_without s d }) ≡ new
      found = λ k. cond (hit k) new (held_of s (record d { slots = helds_without s d }))

      words : new.words ≡ take (i + 1) vs
      words = (λ k. b.numbers k ++ get_or vs i 0 ∷ []) ∙ take_more i vs l

  pub begun_all : (old d d' : Doing S M) (s c : ℕ) (vs : List ℕ) (i : ℕ) (o : Taken S) → Begun old s vs i d → i + 1 ≡ length vs → d.lane ≡ Some o → Fills d c s (take i (held_of s d).words) (get_or vs i 0) o d' → IsFilled old c s vs d'
  begun_all old d d' s c vs i o b l lane st = (o, sym (ap (λ (v : Doing S M). v.lane) b.same) ∙ lane, st ∙ (λ k. record (b.same k) { slots = held s (Some c) (whole k) ∷ b.rest k; lane = Some (record o { fills = c ∷ o.fills }) }))
    where
      whole : take i (held_of s d).words ++ get_or vs i 0 ∷ [] ≡ vs
      whole = (λ m. b.numbers m ++ get_or vs i 0 ∷ []) ∙ (take_more i vs (omega arith) ∙ ((λ m. take (l m) vs) ∙ take_all vs (length vs) refl))

  -- the numbers that the last store completes
  pub whole_of : (old d : Doing S M) (s : ℕ) (vs : List ℕ) (i : ℕ) → Begun old s vs i d → i + 1 ≡ length vs → vs ≡ take i (held_of s d).words ++ get_or vs i 0 ∷ []
  whole_of old d s vs i b l = sym ((λ m. b.numbers m ++ get_or vs i 0 ∷ []) ∙ (take_more i vs (omega arith) ∙ ((λ m. take (l m) vs) ∙ take_all vs (length vs) refl)))
