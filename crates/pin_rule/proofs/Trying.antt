-- How a caller that works with one cell at a time meets the conditions of the calls on a lane, where its store tells nothing: the tests, and a program that times the calls.
use Rattle.std.proofs.Common.{◌≡◌, ℕ, ◌%◌, ◌≤◌, ◌==◌, cond, Bool, true, false, true≢false, List, [], ◌∷◌, length, Option, Some, None, sym, refl, ap, ◌∙◌, subst, arith, eq-eqb}
use Rattle.std.specs.Prelude.{IsTrue}
use Rattle.std.proofs.Math.Nat.{mod-one}
use Rattle.cell_store.specs.Store.{Contents, untold}
use Rattle.arr_history.specs.declared.event.Event.{Event}
use Rattle.pin_words.specs.declared.holding.Left.{Left}
use Rattle.pin_words.specs.declared.lane.Taken.{Taken}
use Rattle.pin_words.specs.declared.lane.Change.{Change}
use Rattle.pin_words.specs.declared.doing.Doing.{Doing}
use Rattle.pin_words.specs.Plan.{Plan}
use Rattle.pin_words.specs.Finding.{has_left, left_of, lefts_without}
use Rattle.pin_words.specs.Ends.{IsBare}
use Rattle.pin_words.specs.Cells.{left, change, noted, GivesSlot, IsClosed, IsGone, IsBack, IsFilled}
use Rattle.pin_words.specs.Lanes.{TakesLane}
use Rattle.pin_rule.specs.declared.made.Made.{Made}
use Rattle.pin_rule.specs.Parts.{OwnLane}
use Rattle.pin_rule.specs.Plans.{plan_of}
use Rattle.pin_rule.specs.Calls.{MayFill, MaySave, MayReturn}
use Rattle.pin_rule.specs.Trying.{IsLeaving, HasLane}

eqb_self : (n : ℕ) → (n == n) ≡ true
eqb_self n = eq-eqb n n refl

untold_never : {A : Type 0} → IsTrue false → A
untold_never t = absurd (true≢false (sym t))

noted_none : {S : Type 0} (b : Bool) (h : Change) → noted {S = S} b h None ≡ None
noted_none true h = refl
noted_none false h = refl

module _ {S : Type 0} (faults : S → ℕ) (m : Made S) where
  -- what a store of this count of faults shows
  abbrev pub quiet : S → Contents
  quiet s = untold (faults s)

  -- where there is one lane, it is that of each cell
  pub sole_lane : (c : ℕ) → length m.stores.value.items ≡ 1 → c % length m.stores.value.items ≡ 0
  sole_lane c one = subst (λ n. c % n ≡ 0) (sym one) (mod-one c)

  pub may_fill : (d : Doing S (Option (Made S))) (c l : ℕ) (lane : OwnLane S) (values : List ℕ) → c % length m.stores.value.items ≡ l → HasLane quiet l lane d → MayFill (plan_of quiet (Some m)) d c lane values
  may_fill d c l lane values own h = let o = h.taken.0 in (o, h.taken.1, h.number ∙ sym h.taken.2, own ∙ sym h.taken.2, λ t. untold_never t, λ t. untold_never t)

  pub may_save : (d : Doing S (Option (Made S))) (c l : ℕ) (lane : OwnLane S) → c % length m.stores.value.items ≡ l → HasLane quiet l lane d → MaySave (plan_of quiet (Some m)) d c lane
  may_save d c l lane own h = let o = h.taken.0 in (o, h.taken.1, h.number ∙ sym h.taken.2, own ∙ sym h.taken.2, λ t. untold_never t)

  pub may_return : (d : Doing S (Option (Made S))) (l : ℕ) (lane : OwnLane S) → HasLane quiet l lane d → MayReturn (plan_of quiet (Some m)) d lane
  may_return d l lane h = let o = h.taken.0 in (o, h.taken.1, h.number ∙ sym h.taken.2, record { told = refl; told_log = refl; never_falls = h.taken.3; arrays = λ t. untold_never t; voids = λ t. untold_never t; keys = λ t. untold_never t; puts = λ t. untold_never t; gets = λ t. untold_never t })

module _ {S : Type 0} (shows : S → Contents) where
  -- the lane is there after a taking, another look at its store, and a fill
  pub took_lane : {M : Type 0} (p : Plan S M) (d d' : Doing S M) (l : ℕ) (lane : OwnLane S) → lane.lane ≡ l → TakesLane p d l lane.store d' → HasLane shows l lane d'
  took_lane p d d' l lane z t = record { number = z; taken = (_, ap (λ x. x.lane) t.sees.is, refl, le_self (shows lane.store).faults) }
    where
      le_self : (n : ℕ) → n ≤ n
      le_self n = omega arith

  pub used_lane : {M : Type 0} (d : Doing S M) (l : ℕ) (lane inside : OwnLane S) (store : S) → HasLane shows l lane d → inside ≡ lane → (shows inside.store).faults ≤ (shows store).faults → HasLane shows l (record inside { store = store }) d
  used_lane d l lane inside store h is more = let k = subst (λ (q : OwnLane S). HasLane shows l q d) (sym is) h in record { number = k.number; taken = (k.taken.0, k.taken.1, k.taken.2, le_trans' (shows k.taken.0.store).faults (shows inside.store).faults (shows store).faults k.taken.3 more) }
    where
      le_trans' : (a b c : ℕ) → a ≤ b → b ≤ c → a ≤ c
      le_trans' a b c x y = omega arith

  same_some : (x y : Taken S) → Some x ≡ Some y → x ≡ y
  same_some x y e = cc

  pub filled_lane : {M : Type 0} (d d' : Doing S M) (l : ℕ) (lane : OwnLane S) (c s : ℕ) (values : List ℕ) → HasLane shows l lane d → IsFilled d c s values d' → HasLane shows l lane d'
  filled_lane d d' l lane c s values h f = let same = same_some f.0 h.taken.0 (sym f.1 ∙ h.taken.1) in
      record { number = h.number; taken = (record f.0 { fills = c ∷ f.0.fills }, ap (λ x. x.lane) f.2, ap (λ (o : Taken S). o.lane) same ∙ h.taken.2, subst (λ (o : Taken S). (shows o.store).faults ≤ (shows lane.store).faults) (sym same) h.taken.3) }

module _ {S M : Type 0} (p : Plan S M) where
  -- a cell that was just closed
  pub closed_one : (d d' : Doing S M) (c s : ℕ) (mark : Bool) → IsBare d → IsClosed p d c s mark d' → IsLeaving c s mark d' × (d'.lane ≡ None)
  closed_one d d' c s mark b h = (
    record {
      pins = ap (λ x. x.pins) h.0.is ∙ b.pins;
      claims = ap (λ x. x.claims) h.0.is ∙ b.claims;
      slots = ap (λ x. x.slots) h.0.is ∙ b.slots;
      leaving = (d'.seen, ap (λ x. x.leaving) h.0.is ∙ ap (λ (q : List Left). left c s mark d'.seen ∷ q) b.leaving);
    },
    ap (λ x. x.lane) h.0.is ∙ (ap (λ (o : Option (Taken S)). noted mark (change c false d'.seen) o) b.lane ∙ noted_none mark (change c false d'.seen)),
  )

module _ {S M : Type 0} (c s : ℕ) (mark : Bool) where
  -- what is found of the one cell that was closed
  pub one_left : (at : List Event) (d : Doing S M) → d.leaving ≡ left c s mark at ∷ [] → (has_left c d ≡ true) × (left_of c d ≡ left c s mark at) × (lefts_without c d ≡ [])
  one_left at d e = subst (λ (q : List Left). (has_left c (record d { leaving = q }) ≡ true) × (left_of c (record d { leaving = q }) ≡ left c s mark at) × (lefts_without c (record d { leaving = q }) ≡ [])) (sym e)
      (ap (λ (b : Bool). cond b true false) (eqb_self c), ap (λ (b : Bool). cond b (left c s mark at) (record { cell = c; slot = 0; marked = false; at = [] })) (eqb_self c), ap (λ (b : Bool). cond b [] (left c s mark at ∷ [])) (eqb_self c))

  pub found_left : (d : Doing S M) → IsLeaving c s mark d → (has_left c d ≡ true) × ((left_of c d).slot ≡ s) × ((left_of c d).marked ≡ mark) × ((left_of c d).cell ≡ c)
  found_left d h = let o = one_left h.leaving.0 d h.leaving.1 in (o.0, ap (λ (q : Left). q.slot) o.1, ap (λ (q : Left). q.marked) o.1, ap (λ (q : Left). q.cell) o.1)

module _ {S M : Type 0} (shows : S → Contents) where
  pub kept_lane : (d d' : Doing S M) (s l : ℕ) (lane : OwnLane S) → HasLane shows l lane d → GivesSlot d s d' → HasLane shows l lane d'
  kept_lane d d' s l lane h g = record { number = h.number; taken = (h.taken.0, ap (λ x. x.lane) g ∙ h.taken.1, h.taken.2, h.taken.3) }

  -- when a marked cell is gone, the lane is still there
  pub went_lane : (p : Plan S M) (d d' : Doing S M) (c s l : ℕ) (lane : OwnLane S) → IsLeaving c s true d → HasLane shows l lane d → IsGone p d c d' → HasLane shows l lane d'
  went_lane p d d' c s l lane q h g = let o = one_left c s true q.leaving.0 d q.leaving.1 in record {
    number = h.number;
    taken = (
      record h.taken.0 { changes = change c true q.leaving.0 ∷ h.taken.0.changes },
      ap (λ x. x.lane) g.is ∙ (ap (λ (q : Left). noted q.marked (change c true q.at) d.lane) o.1 ∙ ap (λ (k : Option (Taken S)). noted true (change c true q.leaving.0) k) h.taken.1),
      h.taken.2,
      h.taken.3,
    );
  }

  -- when a cell is back, the lane is still there
  pub back_lane : (p : Plan S M) (d d' : Doing S M) (c l : ℕ) (lane : OwnLane S) → HasLane shows l lane d → IsBack p d c d' → HasLane shows l lane d'
  back_lane p d d' c l lane h b = record { number = h.number; taken = (h.taken.0, ap (λ x. x.lane) b.is ∙ h.taken.1, h.taken.2, h.taken.3) }
