-- A step of one pass keeps the whole rule where it keeps each part.
use Rattle.std.proofs.Common.{◌≡◌, ◌≢◌, ◌⊎◌, ℕ, ◌+◌, ◌<◌, List, [], ◌∷◌, ◌++◌, length, get_or, set, sym, refl, ap, ◌∙◌, subst, inl, inr, ⊎_elim, Option, arith, get_or-set_other}
use mathlib.Core.Option.{none, some, some-injective, some-ne-none}
use mathlib.Core.Option as maybe
use mathlib.Core.Logic.{dite}
use native.Mathlib.Decide.{ℕ_discrete}
use lib.ListN.{get_elem?}
use Rattle.atomic_table.specs.Table.{State as Table}
use Rattle.atomic_table.proofs.Lists.{at_set, set_here, set_else}
use Rattle.arr_history.specs.declared.event.Event.{Event}
use Rattle.arr_history.specs.State.{State}
use Rattle.arr_history.specs.Next.{next}
use Rattle.arr_history.specs.Legal.{IsLegal}
use Rattle.arr_history.specs.History.{after, pass_of}
use Rattle.pass_roster.proofs.Sums.{within, same_view}
use Rattle.pass_roster.proofs.Moves.{roster_rests, roster_adds}
use Rattle.pin_words.specs.declared.holding.Pin.{Pin}
use Rattle.pin_words.specs.declared.holding.Held.{Held}
use Rattle.pin_words.specs.declared.holding.Left.{Left}
use Rattle.pin_words.specs.declared.lane.Taken.{Taken}
use Rattle.pin_words.specs.declared.doing.Ended.{Ended}
use Rattle.pin_words.specs.declared.doing.Doing.{Doing}
use Rattle.pin_words.specs.declared.doing.Stage.{Stage}
use Rattle.pin_words.specs.declared.doing.Stage.TheVariants.{Spent, Idle, Visiting, Joining}
use Rattle.pin_words.specs.Plan.{Plan, shape_of, start_of}
use Rattle.pin_words.specs.Account.{filled, rise}
use Rattle.pin_words.specs.Layout.{slot_at, lane_at, frame_at}
use Rattle.pin_words.specs.Words.{out_of, out, passes, IsLone, doing_counts, slots_held, works, given_to, Each, CellsOk, SlotsOk, HeldOk, FramesOk, LanesOk, GivenOk, Knowns}
use Rattle.pin_words.specs.Rule.{Staged, HoldsOk, HoldsNone, Ruled}
use Rattle.pin_words.specs.Cells.{claims}
use Rattle.pin_words.proofs.Histories.{after_on, legal_on}
use Rattle.pin_words.proofs.Accounts.{known_stays}
use Rattle.pin_words.proofs.Parts.{cells_stay, slots_stay}
use Rattle.pin_words.proofs.Frames.{held_stay, frames_stay}

pub out_is : (st : Stage) → (out_of st ≡ 0) ⊎ (out_of st ≡ 1)
out_is Spent = inl refl
out_is Idle = inr refl
out_is (Visiting c) = inr refl
out_is (Joining a b) = inr refl

-- what the pass knows of the others, and its number, stay
abbrev pub Keeps : {S M : Type 0} → Doing S M → Doing S M → Type 0
Keeps d w = (w.number ≡ d.number) × (w.ended ≡ d.ended) × (w.drawn ≡ d.drawn)

module _ {S M : Type 0} (p : Plan S M) where
  abbrev D : Type 0
  D = Doing S M

  abbrev St : Type 0
  St = Table (Option S) D

  abbrev Rule : St → Type 0
  Rule = Ruled p

  abbrev pub now : (s : St) → Rule s → State
  now s r = after (start_of p) r.log

  -- what a pass holds, where its view changed in nothing that it holds
  pub holds_as : (w : State) (d e : D) → e.number ≡ d.number → e.made ≡ d.made → e.pins ≡ d.pins → e.claims ≡ d.claims → e.slots ≡ d.slots → e.leaving ≡ d.leaving → e.rises ≡ d.rises
      → Staged e.seen p.cells e.stage → HoldsOk p w d → HoldsOk p w e
  holds_as w d e number made pins claims slots lefts rises staged h =
      subst (λ (q : ℕ × M × List Pin × List ℕ × List Held × List Left × List ℕ). HoldsOk p w (record e { number = q.0; made = q.1; pins = q.2; claims = q.3; slots = q.4; leaving = q.5; rises = q.6 }))
      (λ i. (sym number i, sym made i, sym pins i, sym claims i, sym slots i, sym lefts i, sym rises i))
      record { made = h.made; pins = h.pins; each_pin = h.each_pin; each_claim = h.each_claim; each_slot = h.each_slot; each_left = h.each_left; few = h.few; once = h.once; once_left = h.once_left; once_filled = h.once_filled; each_rise = h.each_rise; stage = staged }

  -- the views of the others, and whether each is out, where the pass at id goes from d to w
  module _ (s : St) (r : Rule s) (id : ℕ) (d w : D) (at : get_elem? s.views id ≡ some d) (lv : out d ≡ 1) (live' : out w ≡ 1) (number : w.number ≡ d.number) where
    spent_stay : (j : ℕ) (f : D) → get_elem? (set s.views id w) j ≡ some f → out f ≡ 0 → HoldsNone p f
    spent_stay j f t o = ⊎_elim (λ (q : (j ≡ id) × (w ≡ f)). let a : out w ≡ out f = ap out q.1 in let b : out w ≡ 1 = live' in let c : out f ≡ 0 = o in absurd (omega arith))
        (λ (q : (j ≢ id) × (get_elem? s.views j ≡ some f)). r.spent j f q.1 o) (at_set s.views id j w f t)

    nobody_stays : (k c : ℕ) → ((j : ℕ) (f : D) → get_elem? (set s.views id w) j ≡ some f → out f ≡ 1 → f.number ≢ k) → ((now s r).pins k c ≡ 0) × (k ≢ d.number)
    nobody_stays k c none_is = (
      r.nobody k c (λ j f t o n. dite (ℕ_discrete j id)
          (λ q. none_is id w (set_here s.views id w (within s.views id d at)) live' (number ∙ (ap (λ (y : D). y.number) (same_view s.views id j d f (sym q) at t) ∙ n))) (λ q. none_is j f (set_else s.views id j w q ∙ t) o n)),
      λ q. none_is id w (set_here s.views id w (within s.views id d at)) live' (number ∙ sym q),
    )

  -- the pass at id makes the event e
  pub moved : (s : St) (r : Rule s) (id : ℕ) (d w : D) (e : Event) (ws : List ℕ) (hs : List (maybe.Option (Option S))) → get_elem? s.views id ≡ some d → out d ≡ 1 → out w ≡ 1 → Keeps d w → pass_of e ≡ d.number
      → w.mine ≡ d.mine ++ e ∷ [] → w.seen ≡ r.log ++ e ∷ [] → IsLegal (shape_of p) (now s r) e → HoldsOk p (next (now s r) e) w
      → ((f : D) → f.number ≢ d.number → HoldsOk p (now s r) f → HoldsOk p (next (now s r) e) f)
      → ((k c : ℕ) → k ≢ d.number → (next (now s r) e).pins k c ≡ (now s r).pins k c)
      → length ws ≡ length s.words → length hs ≡ length s.homes
      → CellsOk p (next (now s r) e) ws (set s.views id w) → SlotsOk p (next (now s r) e) ws (set s.views id w) → FramesOk p (next (now s r) e) ws (set s.views id w)
      → (owner : ℕ → ℕ) (entry : ℕ → Taken S) → LanesOk p owner entry ws hs (set s.views id w) → Knowns p entry (r.log ++ e ∷ []) (set s.views id w) r.ended → GivenOk p entry (set s.views id w) → Rule record { words = ws; homes = hs; views = set s.views id w }
  moved s r id d w e ws hs at lv live' same own mine seen legal mine_ok others nobody wide deep cells slots frames owner entry lanes known given = record {
    log = r.log ++ e ∷ [];
    drawn = r.drawn;
    ended = r.ended;
    roster = roster_adds passes r.log r.drawn r.ended s.views id d w e r.roster at lv same.0 same.1 same.2 live' own mine seen;
    legal = legal_on (shape_of p) (start_of p) r.log e r.legal legal;
    holds = λ j f t o. subst (λ (v : State). HoldsOk p v f) (sym new) (⊎_elim (λ (q : (j ≡ id) × (w ≡ f)). subst (HoldsOk p (next (now s r) e)) q.1 mine_ok)
        (λ (q : (j ≢ id) × (get_elem? s.views j ≡ some f)). others f (λ n. q.0 (r.roster.apart j id f d q.1 at o lv n)) (r.holds j f q.1 o)) (at_set s.views id j w f t));
    spent = spent_stay s r id d w at lv live' same.0;
    nobody = λ k c none_is. let q = nobody_stays s r id d w at lv live' same.0 k c none_is in subst (λ (v : State). v.pins k c ≡ 0) (sym new) (nobody k c q.1 ∙ q.0);
    parts = record {
      owner = owner;
      entry = entry;
      wide = wide ∙ r.parts.wide;
      deep = deep ∙ r.parts.deep;
      cells = subst (λ (v : State). CellsOk p v ws (set s.views id w)) (sym new) cells;
      slots = subst (λ (v : State). SlotsOk p v ws (set s.views id w)) (sym new) slots;
      frames = subst (λ (v : State). FramesOk p v ws (set s.views id w)) (sym new) frames;
      lanes = lanes;
      known = known;
      given = given;
    };
  }
    where
      new : after (start_of p) (r.log ++ e ∷ []) ≡ next (now s r) e
      new = after_on (start_of p) r.log e

  -- the pass at id makes no event
  pub quiet : (s : St) (r : Rule s) (id : ℕ) (d w : D) (ws : List ℕ) (hs : List (maybe.Option (Option S))) → get_elem? s.views id ≡ some d → out d ≡ 1 → out w ≡ 1 → Keeps d w → w.mine ≡ d.mine → (w.seen ≡ r.log) ⊎ (w.seen ≡ d.seen)
      → HoldsOk p (now s r) w → length ws ≡ length s.words → length hs ≡ length s.homes
      → CellsOk p (now s r) ws (set s.views id w) → SlotsOk p (now s r) ws (set s.views id w) → FramesOk p (now s r) ws (set s.views id w)
      → (owner : ℕ → ℕ) (entry : ℕ → Taken S) → LanesOk p owner entry ws hs (set s.views id w) → Knowns p entry r.log (set s.views id w) r.ended → GivenOk p entry (set s.views id w) → Rule record { words = ws; homes = hs; views = set s.views id w }
  quiet s r id d w ws hs at lv live' same mine seen mine_ok wide deep cells slots frames owner entry lanes known given = record {
    log = r.log;
    drawn = r.drawn;
    ended = r.ended;
    roster = roster_rests passes r.log r.drawn r.ended s.views id d w r.roster at lv same.0 same.1 same.2 live' mine seen;
    legal = r.legal;
    holds = λ j f t o. ⊎_elim (λ (q : (j ≡ id) × (w ≡ f)). subst (HoldsOk p (now s r)) q.1 mine_ok) (λ (q : (j ≢ id) × (get_elem? s.views j ≡ some f)). r.holds j f q.1 o) (at_set s.views id j w f t);
    spent = spent_stay s r id d w at lv live' same.0;
    nobody = λ k c none_is. (nobody_stays s r id d w at lv live' same.0 k c none_is).0;
    parts = record { owner = owner; entry = entry; wide = wide ∙ r.parts.wide; deep = deep ∙ r.parts.deep; cells = cells; slots = slots; frames = frames; lanes = lanes; known = known; given = given };
  }

  -- the stores that were given back, where the pass at id gives none
  pub given_stays : (s : St) (r : Rule s) (id : ℕ) (d w : D) (entry : ℕ → Taken S) → get_elem? s.views id ≡ some d → out d ≡ 1 → Keeps d w → w.given ≡ d.given → ((l : ℕ) → (entry l).store ≡ (r.parts.entry l).store) → GivenOk p entry (set s.views id w)
  given_stays s r id d w entry at lv same given stores j f l x t o lone last = stores l ∙ ⊎_elim
      (λ (q : (j ≡ id) × (w ≡ f)). r.parts.given id d l x at lv (was_lone (subst IsLone (sym q.1) lone)) (ap (given_to l) (sym given ∙ ap (λ (y : D). y.given) q.1) ∙ last))
      (λ (q : (j ≢ id) × (get_elem? s.views j ≡ some f)). r.parts.given j f l x q.1 o lone last) (at_set s.views id j w f t)
    where
      was_lone : IsLone w → IsLone d
      was_lone h = (sym same.0 ∙ h.0, sym same.2 ∙ (h.1 ∙ ap (λ (y : List Ended). length y + 1) same.1))

  -- another view has no slots or another number
  pub apart_from : (s : St) (r : Rule s) (id : ℕ) (d : D) → get_elem? s.views id ≡ some d → out d ≡ 1 → (j : ℕ) (f : D) → j ≢ id → get_elem? s.views j ≡ some f → (f.slots ≡ []) ⊎ (f.number ≢ d.number)
  apart_from s r id d at lv j f n t = ⊎_elim (λ (o : out_of f.stage ≡ 0). inl (r.spent j f t o).slots) (λ (o : out_of f.stage ≡ 1). inr (λ e. n (r.roster.apart j id f d t at o lv e))) (out_is f.stage)

  -- what was known of the stores, where the pass at id makes no event and changes no filled slot and no rise
  pub knowns_stay : (s : St) (r : Rule s) (id : ℕ) (d w : D) → get_elem? s.views id ≡ some d → w.slots ≡ d.slots → w.rises ≡ d.rises → Knowns p r.parts.entry r.log (set s.views id w) r.ended
  knowns_stay s r id d w at slots rises l x is = known_stays p l x (r.parts.entry l) r.log s.views r.ended id d w (r.parts.known l x is) at
      (λ c _. let e : filled c w ≡ filled c d = (λ i. filled c (record w { slots = slots i })) in omega arith) (λ i. rise l (record w { rises = rises i }))

  abbrev pub Shown : (s : St) → Rule s → List ℕ → List D → Type 0
  Shown s r ws views = CellsOk p (now s r) ws views × SlotsOk p (now s r) ws views × FramesOk p (now s r) ws views

  -- a view that differs from the old one in what no word shows
  pub unseen : (s : St) (r : Rule s) (id : ℕ) (d w : D) → get_elem? s.views id ≡ some d → out d ≡ 1 → w.number ≡ d.number → w.slots ≡ d.slots → w.pins ≡ d.pins → w.stage ≡ d.stage → ((c : ℕ) → works c w ≡ works c d) → Shown s r s.words (set s.views id w)
  unseen s r id d w at lv number slots pins stage work = (
    cells_stay p (now s r) (now s r) s.words s.words s.views id d w r.parts.cells at (λ c _. refl) (λ c. refl) (λ c i. doing_counts c (record w { pins = pins i; stage = stage i })) work,
    slots_stay p (now s r) (now s r) s.words s.words s.views id d w r.parts.slots at (λ c _. refl) (λ c. refl) (λ c i. slots_held c (record w { slots = slots i })),
    frames_stay p (now s r) (now s r) s.words s.words s.views id d w r.parts.frames at (λ s i. refl) (λ c s h. h) (λ c. refl)
        (subst (λ (q : ℕ × List Held). Each (HeldOk p (now s r) s.words q.0) q.1) (λ i. (sym number i, sym slots i)) (r.parts.frames.held id d at)) (λ j f _ _. inr (λ c h. h)),
  )

  -- the same, where the word of a lane changes too
  pub lane_word : (s : St) (r : Rule s) (id : ℕ) (d w : D) (l x : ℕ) → get_elem? s.views id ≡ some d → out d ≡ 1 → l < p.lanes → w.number ≡ d.number → w.slots ≡ d.slots → w.pins ≡ d.pins → w.stage ≡ d.stage → ((c : ℕ) → works c w ≡ works c d)
      → Shown s r (set s.words (lane_at p l) x) (set s.views id w)
  lane_word s r id d w l x at lv inside number slots pins stage work = (
    cells_stay p (now s r) (now s r) s.words (set s.words (lane_at p l) x) s.views id d w r.parts.cells at (λ c h. get_or-set_other s.words (lane_at p l) (1 + c) x 0 (λ e. omega arith)) (λ c. refl) (λ c i. doing_counts c (record w { pins = pins i; stage = stage i })) work,
    slots_stay p (now s r) (now s r) s.words (set s.words (lane_at p l) x) s.views id d w r.parts.slots at (λ c h. get_or-set_other s.words (lane_at p l) (slot_at p c) x 0 (λ e. omega arith)) (λ c. refl) (λ c i. slots_held c (record w { slots = slots i })),
    frames_stay p (now s r) (now s r) s.words (set s.words (lane_at p l) x) s.views id d w r.parts.frames at frame (λ c s h. h) (λ c. refl)
        (held_stay p (now s r) s.words (set s.words (lane_at p l) x) w.number w.slots frame (subst (λ (q : ℕ × List Held). Each (HeldOk p (now s r) s.words q.0) q.1) (λ i. (sym number i, sym slots i)) (r.parts.frames.held id d at))) (λ j f _ _. inr (λ c h. h)),
  )
    where
      frame : (s' i : ℕ) → get_or (set s.words (lane_at p l) x) (frame_at p s' i) 0 ≡ get_or s.words (frame_at p s' i) 0
      frame s' i = get_or-set_other s.words (lane_at p l) (frame_at p s' i) x 0 (λ e. omega arith)
