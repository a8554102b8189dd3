-- What a pass holds is found by its number.
use Rattle.std.proofs.Common.{◌≡◌, ℕ, ◌==◌, ◌&&◌, cond, Bool, true, false, true≢false, List, [], ◌∷◌, Option, None, sym, refl, ap, subst, eq-eqb}
use Rattle.std.proofs.lemmas.Bool.{eqb-true}
use Rattle.pin_words.specs.declared.holding.Pin.{Pin}
use Rattle.pin_words.specs.declared.holding.Held.{Held}
use Rattle.pin_words.specs.declared.holding.Left.{Left}
use Rattle.pin_words.specs.declared.doing.Doing.{Doing}
use Rattle.pin_words.specs.Cells.{held}
use Rattle.pin_words.specs.Finding.{has_by, find_by, drop_by, Picks, pin, same_mark, same_pin, has_pin, pins_without, has_claim, claims_without, has_held, held_of, helds_without, has_left, left_of, lefts_without}

picks_by : {A : Type 0} (f : A → Bool) (other : A) (xs : List A) → has_by f xs ≡ true → Picks (find_by f other xs) (drop_by f xs) xs
picks_by f other [] h = absurd (true≢false (sym h))
picks_by {A} f other (x ∷ xs) h = go (f x) h (λ k. picks_by f other xs k)
  where
    go : (b : Bool) → cond b true (has_by f xs) ≡ true → (has_by f xs ≡ true → Picks (find_by f other xs) (drop_by f xs) xs) → Picks (cond b x (find_by f other xs)) (cond b xs (x ∷ drop_by f xs)) (x ∷ xs)
    go true k rec = ([], xs, refl, refl)
    go false k rec = let r = rec k in (x ∷ r.0, r.1, (λ i. x ∷ r.2 i), λ i. x ∷ r.3 i)

found_by : {A : Type 0} (f : A → Bool) (other : A) (xs : List A) → has_by f xs ≡ true → f (find_by f other xs) ≡ true
found_by f other [] h = absurd (true≢false (sym h))
found_by {A} f other (x ∷ xs) h = go (f x) refl h (λ k. found_by f other xs k)
  where
    go : (b : Bool) → f x ≡ b → cond b true (has_by f xs) ≡ true → (has_by f xs ≡ true → f (find_by f other xs) ≡ true) → f (cond b x (find_by f other xs)) ≡ true
    go true e k rec = e
    go false e k rec = rec k

both_true : (a b : Bool) → (a && b) ≡ true → (a ≡ true) × (b ≡ true)
both_true true true e = (refl, refl)
both_true true false e = absurd (true≢false (sym e))
both_true false b e = absurd (true≢false (sym e))

mark_is : (a b : Bool) → same_mark a b ≡ true → a ≡ b
mark_is true true e = refl
mark_is true false e = absurd (true≢false (sym e))
mark_is false true e = absurd (true≢false (sym e))
mark_is false false e = refl

pin_is : (q r : Pin) → same_pin q r ≡ true → r ≡ q
pin_is q r e = let a = both_true (r.cell == q.cell) ((r.slot == q.slot) && same_mark r.marked q.marked) e in let b = both_true (r.slot == q.slot) (same_mark r.marked q.marked) a.1 in
    let x = eqb-true r.cell q.cell a.0 in let y = eqb-true r.slot q.slot b.0 in let z = mark_is r.marked q.marked b.1 in λ i. pin (x i) (y i) (z i)

module _ {S M : Type 0} where
  pub picks_pin : (q : Pin) (d : Doing S M) → has_pin q d ≡ true → Picks q (pins_without q d) d.pins
  picks_pin q d h = subst (λ (r : Pin). Picks r (pins_without q d) d.pins) (pin_is q (find_by (same_pin q) q d.pins) (found_by (same_pin q) q d.pins h)) (picks_by (same_pin q) q d.pins h)

  pub picks_claim : (c : ℕ) (d : Doing S M) → has_claim c d ≡ true → Picks c (claims_without c d) d.claims
  picks_claim c d h = subst (λ (n : ℕ). Picks n (claims_without c d) d.claims) (eqb-true (find_by (λ n. n == c) 0 d.claims) c (found_by (λ n. n == c) 0 d.claims h)) (picks_by (λ n. n == c) 0 d.claims h)

  pub picks_held : (s : ℕ) (d : Doing S M) → has_held s d ≡ true → Picks (held_of s d) (helds_without s d) d.slots
  picks_held s d h = picks_by (λ (h : Held). h.slot == s) (record { slot = s; filled = None; words = [] }) d.slots h

  pub held_slot : (s : ℕ) (d : Doing S M) → has_held s d ≡ true → (held_of s d).slot ≡ s
  held_slot s d h = eqb-true (held_of s d).slot s (found_by (λ (h : Held). h.slot == s) (record { slot = s; filled = None; words = [] }) d.slots h)

  -- the same, by the slot's own number
  pub picks_held_own : (s : ℕ) (d : Doing S M) → has_held s d ≡ true → Picks (held_of s d) (helds_without (held_of s d).slot d) d.slots
  picks_held_own s d h = subst (λ (t : ℕ). Picks (held_of s d) (helds_without t d) d.slots) (sym (held_slot s d h)) (picks_held s d h)

  -- the slot that a pass has put in front
  pub first_held : (s : ℕ) (filled : Option ℕ) (words : List ℕ) (rest : List Held) (d : Doing S M) → d.slots ≡ held s filled words ∷ rest → (has_held s d ≡ true) × ((held_of s d).filled ≡ filled)
  first_held s filled words rest d is = subst (λ (hs : List Held). (has_by own hs ≡ true) × ((find_by own none_yet hs).filled ≡ filled)) (sym is)
      (ap (λ (b : Bool). cond b true (has_by own rest)) same, ap (λ (b : Bool). (cond b (held s filled words) (find_by own none_yet rest)).filled) same)
    where
      own : Held → Bool
      own h = h.slot == s

      none_yet : Held
      none_yet = held s None []

      same : (s == s) ≡ true
      same = eq-eqb s s refl

  pub picks_left : (c : ℕ) (d : Doing S M) → has_left c d ≡ true → Picks (left_of c d) (lefts_without c d) d.leaving
  picks_left c d h = picks_by (λ (q : Left). q.cell == c) (record { cell = c; slot = 0; marked = false; at = [] }) d.leaving h

  pub left_cell : (c : ℕ) (d : Doing S M) → has_left c d ≡ true → (left_of c d).cell ≡ c
  left_cell c d h = eqb-true (left_of c d).cell c (found_by (λ (q : Left). q.cell == c) (record { cell = c; slot = 0; marked = false; at = [] }) d.leaving h)
