-- The pins of a pass as a list: which are in it, and how many are on a cell.
use Rattle.std.proofs.Common.{◌≡◌, ◌≢◌, ◌∙◌, ◌⊎◌, inl, inr, ℕ, ◌+◌, ◌<◌, ◌==◌, ◌&&◌, cond, Bool, true, false, true≢false, List, [], ◌∷◌, length, refl, sym, ap, eq-eqb, ne_eqb, arith}
use Rattle.std.proofs.lemmas.Bool.{eqb-true}
use mathlib.Core.Logic.{dite}
use native.Mathlib.Decide.{ℕ_discrete}
use Rattle.pin_words.specs.declared.holding.Pin.{Pin}
use Rattle.pin_words.specs.declared.doing.Doing.{Doing}
use Rattle.pass_roster.specs.History.{total}
use Rattle.pin_words.specs.Account.{one}
use Rattle.pin_words.specs.Words.{times}
use Rattle.pin_words.specs.Finding.{pin, has_by, drop_by, same_mark, same_pin, has_pin, pins_without}
use Rattle.pin_words.proofs.Lists.{picks_total}
use Rattle.pin_words.proofs.Numbers.{one_same, one_else}
use Rattle.pin_rule.proofs.Finds.{picks_pin}

same_mark_self : (m : Bool) → same_mark m m ≡ true
same_mark_self true = refl
same_mark_self false = refl

same_pin_self : (q : Pin) → same_pin q q ≡ true
same_pin_self q = ap (λ b. b && ((q.slot == q.slot) && same_mark q.marked q.marked)) (eq-eqb q.cell q.cell refl) ∙ ap (λ b. b && same_mark q.marked q.marked) (eq-eqb q.slot q.slot refl) ∙ same_mark_self q.marked

both_true : (a b : Bool) → (a && b) ≡ true → (a ≡ true) × (b ≡ true)
both_true true b h = (refl, h)
both_true false b h = absurd (true≢false (sym h))

mark_is : (a b : Bool) → same_mark a b ≡ true → a ≡ b
mark_is true b h = sym h
mark_is false true h = absurd (true≢false (sym h))
mark_is false false h = refl

pin_is : (q r : Pin) → same_pin q r ≡ true → r ≡ q
pin_is q r h =
    let cells = both_true (r.cell == q.cell) ((r.slot == q.slot) && same_mark r.marked q.marked) h in
    let slots = both_true (r.slot == q.slot) (same_mark r.marked q.marked) cells.1 in
    let cell = eqb-true r.cell q.cell cells.0 in
    let slot = eqb-true r.slot q.slot slots.0 in
    let mark = mark_is r.marked q.marked slots.1 in
    λ i. pin (cell i) (slot i) (mark i)

module _ {A : Type 0} (f : A → Bool) where
  -- a list with one member more
  pub has_more : (x : A) (xs : List A) → has_by f xs ≡ true → has_by f (x ∷ xs) ≡ true
  has_more x xs h = go (f x)
    where
      go : (b : Bool) → cond b true (has_by f xs) ≡ true
      go true = refl
      go false = h

  has_either : (x : A) (xs : List A) → has_by f (x ∷ xs) ≡ true → (f x ≡ true) ⊎ (has_by f xs ≡ true)
  has_either x xs h = go (f x) refl h
    where
      go : (b : Bool) → f x ≡ b → cond b true (has_by f xs) ≡ true → (f x ≡ true) ⊎ (has_by f xs ≡ true)
      go true e k = inl e
      go false e k = inr k

  -- a list without one of its members
  pub has_before : (g : A → Bool) (xs : List A) → has_by f (drop_by g xs) ≡ true → has_by f xs ≡ true
  has_before g [] h = h
  has_before g (x ∷ xs) h = go (g x) h (λ k. has_before g xs k)
    where
      later : (has_by f (drop_by g xs) ≡ true → has_by f xs ≡ true) → (f x ≡ true) ⊎ (has_by f (drop_by g xs) ≡ true) → has_by f (x ∷ xs) ≡ true
      later rec (inl e) = ap (λ b. cond b true (has_by f xs)) e
      later rec (inr k) = has_more x xs (rec k)

      go : (b : Bool) → has_by f (cond b xs (x ∷ drop_by g xs)) ≡ true → (has_by f (drop_by g xs) ≡ true → has_by f xs ≡ true) → has_by f (x ∷ xs) ≡ true
      go true k rec = has_more x xs k
      go false k rec = later rec (has_either x (drop_by g xs) k)

  -- a member of another kind stays
  pub has_still : (g : A → Bool) (xs : List A) → ((x : A) → f x ≡ true → g x ≡ false) → has_by f xs ≡ true → has_by f (drop_by g xs) ≡ true
  has_still g [] apart h = h
  has_still g (x ∷ xs) apart h = go (g x) refl (has_either x xs h) (λ k. has_still g xs apart k)
    where
      kept : (f x ≡ true) ⊎ (has_by f xs ≡ true) → (has_by f xs ≡ true → has_by f (drop_by g xs) ≡ true) → has_by f (x ∷ drop_by g xs) ≡ true
      kept (inl e) rec = ap (λ b. cond b true (has_by f (drop_by g xs))) e
      kept (inr k) rec = has_more x (drop_by g xs) (rec k)

      gone : (f x ≡ true) ⊎ (has_by f xs ≡ true) → g x ≡ true → has_by f xs ≡ true
      gone (inl e) is = absurd (true≢false (sym is ∙ apart x e))
      gone (inr k) is = k

      go : (b : Bool) → g x ≡ b → (f x ≡ true) ⊎ (has_by f xs ≡ true) → (has_by f xs ≡ true → has_by f (drop_by g xs) ≡ true) → has_by f (cond b xs (x ∷ drop_by g xs)) ≡ true
      go true is one_of rec = gone one_of is
      go false is one_of rec = kept one_of rec

-- the pin of a list with one more is the first, or was there
pub first_or_there : (q first : Pin) (pins : List Pin) → has_by (same_pin q) (first ∷ pins) ≡ true → (first ≡ q) ⊎ (has_by (same_pin q) pins ≡ true)
first_or_there q first pins h = go (has_either (same_pin q) first pins h)
  where
    go : (same_pin q first ≡ true) ⊎ (has_by (same_pin q) pins ≡ true) → (first ≡ q) ⊎ (has_by (same_pin q) pins ≡ true)
    go (inl e) = inl (pin_is q first e)
    go (inr k) = inr k

-- where a cell has a pin, it is in the list
pub pin_on : (c : ℕ) (pins : List Pin) → 0 < times c pins → (q : Pin) × (q.cell ≡ c) × (has_by (same_pin q) pins ≡ true)
pin_on c [] some = absurd (omega (arith, some))
pin_on c (q ∷ pins) some = dite (ℕ_discrete q.cell c)
    (λ same. (q, same, ap (λ b. cond b true (has_by (same_pin q) pins)) (same_pin_self q)))
    (λ other. let rest = pin_on c pins (let none = one_else q.cell c other in omega (arith, some, none)) in (rest.0, rest.1, has_more (same_pin rest.0) q pins rest.2))

module _ {S M : Type 0} (q : Pin) (d : Doing S M) (held : has_pin q d ≡ true) where
  -- a pin that is taken out was one of those on its cell
  pub times_without : (c : ℕ) → times c d.pins ≡ one q.cell c + times c (pins_without q d)
  times_without c = picks_total (λ (x : Pin). one x.cell c) (picks_pin q d held)

  pub times_some : 0 < times q.cell d.pins
  times_some = let all = times_without q.cell in let here = one_same q.cell in omega (arith, all, here)

-- as a sum, the length of a list of pins
length_is : (pins : List Pin) → length pins ≡ total (λ _. 1) pins
length_is [] = refl
length_is (q ∷ pins) = let rest = length_is pins in omega (arith, rest)

module _ {S M : Type 0} (q : Pin) (d : Doing S M) (held : has_pin q d ≡ true) where
  pub length_without : length d.pins ≡ length (pins_without q d) + 1
  length_without =
      let all = picks_total (λ (x : Pin). 1) (picks_pin q d held) in
      let before = length_is d.pins in
      let left = length_is (pins_without q d) in
      omega (arith, all, before, left)

-- pins of two cells are apart
pub pins_apart : (q r : Pin) → r.cell ≢ q.cell → (s : Pin) → same_pin r s ≡ true → same_pin q s ≡ false
pins_apart q r other s h =
    let same : s ≡ r = pin_is r s h in
    ap (λ b. b && ((s.slot == q.slot) && same_mark s.marked q.marked)) (ne_eqb s.cell q.cell (λ e. other (sym (ap (λ (x : Pin). x.cell) same) ∙ e)))
