-- What a pass holds, found by its number.
use Rattle.std.specs.Prelude.{◌≡◌, ℕ, ◌==◌, ◌&&◌, cond, Bool, true, false, List, [], ◌∷◌, ◌++◌, None}
use Rattle.pin_words.specs.declared.holding.Pin.{Pin}
use Rattle.pin_words.specs.declared.holding.Held.{Held}
use Rattle.pin_words.specs.declared.holding.Left.{Left}
use Rattle.pin_words.specs.declared.doing.Doing.{Doing}

-- some member of the list passes the test
abbrev pub has_by : {A : Type 0} → (A → Bool) → List A → Bool
has_by f [] = false
has_by f (x ∷ xs) = cond (f x) true (has_by f xs)

-- the first that passes the test
abbrev pub find_by : {A : Type 0} → (A → Bool) → A → List A → A
find_by f other [] = other
find_by f other (x ∷ xs) = cond (f x) x (find_by f other xs)

-- the list without the first that passes the test
abbrev pub drop_by : {A : Type 0} → (A → Bool) → List A → List A
drop_by f [] = []
drop_by f (x ∷ xs) = cond (f x) xs (x ∷ drop_by f xs)

-- the list without one of its members
abbrev pub Picks : {A : Type 0} → A → List A → List A → Type 0
Picks {A} x ys xs = (before since : List A) × (xs ≡ before ++ x ∷ since) × (ys ≡ before ++ since)

abbrev pub pin : ℕ → ℕ → Bool → Pin
pin c s mark = record { cell = c; slot = s; marked = mark }

abbrev pub same_mark : Bool → Bool → Bool
same_mark true mark = mark
same_mark false true = false
same_mark false false = true

abbrev pub same_pin : Pin → Pin → Bool
same_pin q r = (r.cell == q.cell) && ((r.slot == q.slot) && same_mark r.marked q.marked)

module _ {S M : Type 0} where
  abbrev pub has_pin : Pin → Doing S M → Bool
  has_pin q d = has_by (same_pin q) d.pins

  abbrev pub pins_without : Pin → Doing S M → List Pin
  pins_without q d = drop_by (same_pin q) d.pins

  abbrev pub has_claim : ℕ → Doing S M → Bool
  has_claim c d = has_by (λ n. n == c) d.claims

  abbrev pub claims_without : ℕ → Doing S M → List ℕ
  claims_without c d = drop_by (λ n. n == c) d.claims

  abbrev pub has_held : ℕ → Doing S M → Bool
  has_held s d = has_by (λ (h : Held). h.slot == s) d.slots

  abbrev pub held_of : ℕ → Doing S M → Held
  held_of s d = find_by (λ (h : Held). h.slot == s) (record { slot = s; filled = None; words = [] }) d.slots

  abbrev pub helds_without : ℕ → Doing S M → List Held
  helds_without s d = drop_by (λ (h : Held). h.slot == s) d.slots

  abbrev pub has_left : ℕ → Doing S M → Bool
  has_left c d = has_by (λ (q : Left). q.cell == c) d.leaving

  abbrev pub left_of : ℕ → Doing S M → Left
  left_of c d = find_by (λ (q : Left). q.cell == c) (record { cell = c; slot = 0; marked = false; at = [] }) d.leaving

  abbrev pub lefts_without : ℕ → Doing S M → List Left
  lefts_without c d = drop_by (λ (q : Left). q.cell == c) d.leaving
