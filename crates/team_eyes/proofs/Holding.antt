-- What eyes hold, over the steps of their pass.
use Rattle.std.proofs.Common.{◌≡◌, ◌≢◌, ◌∙◌, ◌⊎◌, inl, inr, ℕ, ◌<◌, true, false, Some, List, [], ◌∷◌, refl, sym, ap, subst, arith}
use mathlib.Core.Logic.{dite}
use native.Mathlib.Decide.{ℕ_discrete}
use Rattle.arr_history.specs.declared.event.Event.{Event}
use Rattle.arr_history.specs.declared.event.Event.TheVariants.{Unpin}
use Rattle.arr_history.specs.State.{State, opening}
use Rattle.arr_history.specs.Legal.{LiveIn}
use Rattle.arr_history.specs.History.{after, AreLegal}
use Rattle.pin_words.specs.declared.holding.Pin.{Pin}
use Rattle.pin_words.specs.declared.doing.Doing.{Doing}
use Rattle.pin_words.specs.Plan.{Plan, shape_of, start_of}
use Rattle.pin_words.specs.Account.{one}
use Rattle.pin_words.specs.Words.{times}
use Rattle.pin_words.specs.Finding.{pin, has_by, same_pin, has_pin, pins_without}
use Rattle.pin_words.proofs.Numbers.{one_same}
use Rattle.pin_rule.specs.Going.{Goes}
use Rattle.volatile_cell.specs.Front.{pins_next, pins_after}
use Rattle.team_eyes.specs.Holding.{slot_if_live, HoldsStill}
use Rattle.team_eyes.specs.Teammate.{GoesPinned}
use Rattle.team_eyes.specs.TeammateLaws.{pins_on}
use Rattle.team_eyes.proofs.Pieces.{none, MakesPins, pins_ordered}
use Rattle.team_eyes.proofs.PinLists.{has_before, has_still, first_or_there, pin_on, times_without, times_some, pins_apart}
use Rattle.team_eyes.proofs.Staying.{slot_of_live, pins_by_own, same_slot, KeepsPin, stays_in_slot, keeps_all}

module _ {S M : Type 0} where
  -- pins of one cell are the same
  pub one_pin : (d : Doing S M) → HoldsStill d → (q r : Pin) → has_pin q d ≡ true → has_pin r d ≡ true → q.cell ≡ r.cell → q ≡ r
  one_pin d h q r has_q has_r cells =
      let a = h.still q has_q in
      let b = h.still r has_r in
      let start : State = opening (λ _ _. 0) in
      let slots : Some q.slot ≡ Some r.slot = sym (a.1 (λ _ _. 0)) ∙ ap (λ c. slot_if_live ((after start d.seen).cells c)) cells ∙ b.1 (λ _ _. 0) in
      let slot : q.slot ≡ r.slot = cc slots in
      let mark = a.0 ∙ sym b.0 in
      λ i. pin (cells i) (slot i) (mark i)

  -- a pin stays in the list when another one is taken out, and where there is one more on its cell when its like is
  pub pin_stays : (d : Doing S M) → HoldsStill d → (h q : Pin) → has_pin h d ≡ true → has_pin q d ≡ true → (q.cell ≢ h.cell) ⊎ (1 < times h.cell d.pins) → has_by (same_pin q) (pins_without h d) ≡ true
  pin_stays d still h q has_h has_q (inl other) = has_still (same_pin q) (same_pin h) d.pins (pins_apart h q other) has_q
  pin_stays d still h q has_h has_q (inr more) = dite (ℕ_discrete q.cell h.cell)
      (λ same.
      let left : 0 < times h.cell (pins_without h d) = (let all = times_without h d has_h h.cell in let own = one_same h.cell in let two = more in omega (arith, all, own, two)) in
      let next = pin_on h.cell (pins_without h d) left in
      let like : next.0 ≡ q = one_pin d still next.0 q (has_before (same_pin next.0) (same_pin h) d.pins next.2) has_q (next.1 ∙ sym same) in
      subst (λ r. has_by (same_pin r) (pins_without h d) ≡ true) like next.2)
      (λ other. has_still (same_pin q) (same_pin h) d.pins (pins_apart h q other) has_q)

module _ {S M : Type 0} (p : Plan S M) (d d' : Doing S M) (events : List Event) where
  -- a pin that is new: it isn't marked, and its cell is live in its slot
  abbrev IsNewPin : Pin → Type 0
  IsNewPin q = (q.marked ≡ false) × LiveIn ((after (start_of p) d'.seen).cells q.cell) q.slot

  -- the pass's pins on a cell by its events, before and after
  abbrev before : ℕ → ℕ
  before c = pins_after d.number c d.seen 0

  -- Each pin is new, or was there and was kept all along.
  holds_on : GoesPinned p d events d' → AreLegal (shape_of p) (start_of p) d'.seen → HoldsStill d
      → ((q : Pin) → has_pin q d' ≡ true → IsNewPin q ⊎ ((has_pin q d ≡ true) × KeepsPin d.number q.cell events (before q.cell))) → HoldsStill d'
  holds_on g legal h each = record {
    counted = λ c.
        let now : pins_after d'.number c d'.seen 0 ≡ pins_after d.number c events (before c) =
        ap (λ k. pins_after k c d'.seen 0) g.went.number ∙ ap (λ s. pins_after d.number c s 0) g.went.seen ∙ pins_on d.number c d.seen g.went.between 0
        ∙ pins_by_own d.number c g.went.between (before c) ∙ ap (λ es. pins_after d.number c es (before c)) g.went.own in
        let pinned = g.pinned c in
        let ordered = pins_ordered d.number c events (times c d.pins) (before c) (h.counted c) in
        omega (arith, now, pinned, ordered);
    still = λ q has. row q (each q has);
  }
    where
      arrays : ℕ → ℕ → ℕ
      arrays = (start_of p).arrays

      stayed : (q : Pin) → has_pin q d ≡ true → KeepsPin d.number q.cell events (before q.cell) → slot_if_live ((after (opening arrays) d'.seen).cells q.cell) ≡ Some q.slot
      stayed q was keeps = ap (λ es. slot_if_live ((after (opening arrays) es).cells q.cell)) g.went.seen
          ∙ stays_in_slot (shape_of p) arrays d.seen g.went.between events d.number q.cell q.slot g.went.own (subst (AreLegal (shape_of p) (opening arrays)) g.went.seen legal) ((h.still q was).1 arrays) keeps

      row : (q : Pin) → IsNewPin q ⊎ ((has_pin q d ≡ true) × KeepsPin d.number q.cell events (before q.cell))
          → (q.marked ≡ false) × ((other : ℕ → ℕ → ℕ) → slot_if_live ((after (opening other) d'.seen).cells q.cell) ≡ Some q.slot)
      row q (inl new) = (new.0, λ other. same_slot other arrays d'.seen q.cell ∙ slot_of_live ((after (start_of p) d'.seen).cells q.cell) q.slot new.1)
      row q (inr (was, keeps)) = ((h.still q was).0, λ other. same_slot other arrays d'.seen q.cell ∙ stayed q was keeps)

  module _ (went : Goes p d events d') (legal : AreLegal (shape_of p) (start_of p) d'.seen) (h : HoldsStill d) where
    -- a pin that was there has been made by the pass's events
    some_before : (q : Pin) → has_pin q d ≡ true → 0 < before q.cell
    some_before q was = let some = times_some q d was in let counted = h.counted q.cell in omega (arith, some, counted)

    -- a step that takes no pin away: one more on a cell
    pub holds_one_more : (c s : ℕ) → MakesPins d.number (one c) events → d'.pins ≡ pin c s false ∷ d.pins → LiveIn ((after (start_of p) d'.seen).cells c) s → GoesPinned p d events d' × HoldsStill d'
    holds_one_more c s makes pins live = (g, holds_on g legal h each)
      where
        g : GoesPinned p d events d'
        g = record { went = went; pinned = λ n. ap (times n) pins ∙ sym (makes.pins n (times n d.pins)) }

        row : (q : Pin) → (pin c s false ≡ q) ⊎ (has_by (same_pin q) d.pins ≡ true) → IsNewPin q ⊎ ((has_pin q d ≡ true) × KeepsPin d.number q.cell events (before q.cell))
        row q (inl is) = inl (subst IsNewPin is (refl, live))
        row q (inr was) = inr (was, keeps_all d.number q.cell events (before q.cell) makes.kept (some_before q was))

        each : (q : Pin) → has_pin q d' ≡ true → IsNewPin q ⊎ ((has_pin q d ≡ true) × KeepsPin d.number q.cell events (before q.cell))
        each q has = row q (first_or_there q (pin c s false) d.pins (subst (λ x. has_by (same_pin q) x ≡ true) pins has))

    -- and one that makes none
    pub holds_as_many : MakesPins d.number none events → d'.pins ≡ d.pins → GoesPinned p d events d' × HoldsStill d'
    holds_as_many makes pins = (g, holds_on g legal h each)
      where
        g : GoesPinned p d events d'
        g = record { went = went; pinned = λ n. let same = ap (times n) pins in let made = makes.pins n (times n d.pins) in omega (arith, same, made) }

        each : (q : Pin) → has_pin q d' ≡ true → IsNewPin q ⊎ ((has_pin q d ≡ true) × KeepsPin d.number q.cell events (before q.cell))
        each q has = let was : has_pin q d ≡ true = subst (λ x. has_by (same_pin q) x ≡ true) pins has in
            inr (was, keeps_all d.number q.cell events (before q.cell) makes.kept (some_before q was))

module _ {S M : Type 0} (p : Plan S M) (d d' : Doing S M) (q : Pin) where
  -- a pin is given back
  pub holds_one_less : Goes p d (Unpin d.number q.cell ∷ []) d' → AreLegal (shape_of p) (start_of p) d'.seen → HoldsStill d → has_pin q d ≡ true → d'.pins ≡ pins_without q d
      → GoesPinned p d (Unpin d.number q.cell ∷ []) d' × HoldsStill d'
  holds_one_less went legal h has pins = (g, holds_on p d d' events g legal h each)
    where
      events : List Event
      events = Unpin d.number q.cell ∷ []

      taken : (c : ℕ) → pins_next d.number c (Unpin d.number q.cell) (times c d.pins) ≡ times c (pins_without q d)
      taken c = Rattle.team_eyes.proofs.Pieces.takes_one d.number c q.cell (times c d.pins) (times c (pins_without q d)) (times_without q d has c)

      g : GoesPinned p d events d'
      g = record { went = went; pinned = λ c. ap (times c) pins ∙ sym (taken c) }

      each : (r : Pin) → has_pin r d' ≡ true → IsNewPin p d d' events r ⊎ ((has_pin r d ≡ true) × KeepsPin d.number r.cell events (before p d d' events r.cell))
      each r still =
          let was : has_pin r d ≡ true = has_before (same_pin r) (same_pin q) d.pins (subst (λ x. has_by (same_pin r) x ≡ true) pins still) in
          let left = times_some r d' still in
          let now = g.pinned r.cell in
          let ordered = pins_ordered d.number r.cell events (times r.cell d.pins) (before p d d' events r.cell) (h.counted r.cell) in
          inr (was, (some_before p d d' events went legal h r was, omega (arith, left, now, ordered)))
