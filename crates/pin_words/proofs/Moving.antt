-- What the steps on a cell's word have in common.
use Rattle.std.proofs.Common.{◌≡◌, ◌≢◌, ◌⊎◌, ℕ, suc, ◌+◌, ◌<◌, ◌≤◌, Bool, true, false, List, [], ◌∷◌, ◌++◌, get_or, set, sym, refl, ap, ◌∙◌, subst, inl, inr, ⊎_elim, Option, Some, None, arith, length-set, get_or-set_other}
use mathlib.Core.Option.{some}
use mathlib.Core.Logic.{dite}
use native.Mathlib.Decide.{dec_le, ℕ_discrete}
use lib.ListN.{get_elem?}
use lib.Seq.{set-get_or}
use Rattle.atomic_table.specs.Table.{State as Table, Act, Valid, stepped, carried_after}
use Rattle.arr_history.specs.declared.event.Event.{Event}
use Rattle.arr_history.specs.declared.event.Event.TheVariants as event
use Rattle.arr_history.specs.declared.cell_state.CellState.{CellState}
use Rattle.arr_history.specs.declared.cell_state.CellState.TheVariants as cell
use Rattle.arr_history.specs.State.{State, with_at}
use Rattle.arr_history.specs.Next.{marked, next}
use Rattle.arr_history.specs.Legal.{HasSlot, IsLegal}
use Rattle.arr_history.specs.History.{after, pass_of}
use Rattle.pass_roster.specs.History.{total}
use Rattle.pass_roster.specs.Roster.{SomeOut, HasEnded}
use Rattle.pass_roster.proofs.Sums.{total_one}
use Rattle.pin_words.specs.declared.lane.Taken.{Taken}
use Rattle.pin_words.specs.declared.doing.Doing.{Doing}
use Rattle.pin_words.specs.declared.doing.Try.{Try}
use Rattle.pin_words.specs.declared.doing.Stage.TheVariants.{Idle}
use Rattle.pin_words.specs.Plan.{Plan, lane_of, shape_of, start_of}
use Rattle.pin_words.specs.Account.{lives_by, has_mark, filled, rise, Known}
use Rattle.pin_words.specs.Layout.{slot_at, lane_at, frame_at, face}
use Rattle.pin_words.specs.Words.{out_of, out, passes, times, doing_counts, slots_held, in_slot, in_work, works, Each, HeldOk, FramesOk, LanesOk, GivenOk, Knowns}
use Rattle.pin_words.specs.Rule.{Staged, HoldsOk, Ruled, Sat}
use Rattle.pin_words.specs.Cells.{change, noted}
use Rattle.pin_words.proofs.Numbers.{put_at, put_other}
use Rattle.pin_words.proofs.Histories.{Saves}
use Rattle.pin_words.proofs.Accounts.{known_moves, known_closes, known_saves}
use Rattle.pin_words.proofs.Parts.{cells_move, slots_balance}
use Rattle.pin_words.proofs.Frames.{held_on, frames_stay}
use Rattle.pin_words.proofs.LaneParts.{lanes_stay, lanes_note, given_put, knowns_put}
use Rattle.pin_words.proofs.Keeping.{Keeps, Shown, holds_as, moved, quiet, knowns_stay, given_stays, unseen}
use Rattle.pin_words.proofs.Holds.{changed}

module _ {S M : Type 0} (p : Plan S M) where
  abbrev D : Type 0
  D = Doing S M

  abbrev St : Type 0
  St = Table (Option S) D

  abbrev Rule : St → Type 0
  Rule = Ruled p

  -- the state that a step finds
  abbrev at_now : (s : St) → Rule s → State
  at_now s r = after (start_of p) r.log

  -- what a step has to give: a view, an act, the rule for what they make, and what is told
  abbrev pub Goes : St → ℕ → ℕ → Sat S M → (ℕ → Sat S M → Type 0) → ℕ → Type 0
  Goes s i id me then n = (w : D) × (a : Act (Option S)) × Valid s.homes me.1 a × Rule (stepped s i n id me.1 w a) × then (get_or s.words i 0) (w, carried_after me.1 a)

  -- the pass at id makes the event e, by which the cell c goes to the state t and its word to x
  pub cell_event : (s : St) (r : Rule s) (id : ℕ) (d w : D) (e : Event) (c x : ℕ) (t : CellState) (P : ℕ → ℕ → ℕ) → get_elem? s.views id ≡ some d → out d ≡ 1 → out w ≡ 1 → Keeps d w → pass_of e ≡ d.number
      → w.mine ≡ d.mine ++ e ∷ [] → w.seen ≡ r.log ++ e ∷ [] → IsLegal (shape_of p) (at_now s r) e → c < p.cells → next (at_now s r) e ≡ changed (at_now s r) c t P
      → HoldsOk p (changed (at_now s r) c t P) w → ((f : D) → f.number ≢ d.number → HoldsOk p (at_now s r) f → HoldsOk p (changed (at_now s r) c t P) f) → ((k a : ℕ) → k ≢ d.number → P k a ≡ (at_now s r).pins k a)
      → x ≡ face t + total (doing_counts c) (set s.views id w) → ((a : ℕ) → a ≢ c → doing_counts a w ≡ doing_counts a d)
      → in_work t + works c d ≡ in_work ((at_now s r).cells c) + works c w → ((a : ℕ) → a ≢ c → works a w ≡ works a d)
      → ((l : ℕ) → in_slot l t + slots_held l w ≡ in_slot l ((at_now s r).cells c) + slots_held l d) → ((l : ℕ) → 0 < in_slot l t → l < p.slots)
      → FramesOk p (changed (at_now s r) c t P) (set s.words (1 + c) x) (set s.views id w)
      → (lanes : (entry : ℕ → Taken S) × LanesOk p r.parts.owner entry (set s.words (1 + c) x) s.homes (set s.views id w) × Knowns p entry (r.log ++ e ∷ []) (set s.views id w) r.ended × GivenOk p entry (set s.views id w))
      → Rule record { words = set s.words (1 + c) x; homes = s.homes; views = set s.views id w }
  cell_event s r id d w e c x t P at lv live' same own mine seen legal inside after_is mine_ok others nobody here else work rest balance low frames lanes =
      moved p s r id d w e (set s.words (1 + c) x) s.homes at lv live' same own mine seen legal (subst (λ (v : State). HoldsOk p v w) (sym after_is) mine_ok)
      (λ f n h. subst (λ (v : State). HoldsOk p v f) (sym after_is) (others f n h)) (λ k a n. ap (λ (v : State). v.pins k a) after_is ∙ nobody k a n) (length-set s.words (1 + c) x) refl
      (cells_move p (at_now s r) (next (at_now s r) e) s.words s.views c x id d w t r.parts.cells at (let wide = r.parts.wide in omega arith) inside (ap (λ (v : State). v.cells) after_is) here else work rest)
      (slots_balance p (at_now s r) (next (at_now s r) e) s.words (set s.words (1 + c) x) s.views id d w c t r.parts.slots at inside (λ l h. get_or-set_other s.words (1 + c) (slot_at p l) x 0 (λ q. omega arith)) (ap (λ (v : State). v.cells) after_is) balance low)
      (subst (λ (v : State). FramesOk p v (set s.words (1 + c) x) (set s.views id w)) (sym after_is) frames)
      r.parts.owner lanes.0 lanes.1 lanes.2 lanes.3

  -- the frames, where a cell that isn't being loaded goes to another state; `mine` are the slots of the pass
  pub frames_cell : (s : St) (r : Rule s) (id : ℕ) (d w : D) (c x : ℕ) (t : CellState) (P : ℕ → ℕ → ℕ) → get_elem? s.views id ≡ some d → c < p.cells → ((l : ℕ) → HasSlot t l → HasSlot ((at_now s r).cells c) l)
      → ((k : ℕ) → (at_now s r).cells c ≡ cell.Loading k → ⊥) → (Each (HeldOk p (changed (at_now s r) c t P) (set s.words (1 + c) x) d.number) d.slots → Each (HeldOk p (changed (at_now s r) c t P) (set s.words (1 + c) x) w.number) w.slots)
      → FramesOk p (changed (at_now s r) c t P) (set s.words (1 + c) x) (set s.views id w)
  frames_cell s r id d w c x t P at inside slots not_loading mine = frames_stay p (at_now s r) (changed (at_now s r) c t P) s.words (set s.words (1 + c) x) s.views id d w r.parts.frames at frame
      (λ a l h. dite (ℕ_discrete a c) (λ q. subst (λ (b : ℕ). HasSlot ((at_now s r).cells b) l) (sym q) (slots l (subst (λ (u : CellState). HasSlot u l) (put_at (at_now s r).cells c t a q) h))) (λ n. subst (λ (u : CellState). HasSlot u l) (put_other (at_now s r).cells c t a n) h))
      (λ a. refl) (mine (held_on p (at_now s r) (changed (at_now s r) c t P) s.words (set s.words (1 + c) x) d.number d.slots frame (λ a. refl) (keep d.number) (r.parts.frames.held id d at))) (λ j f _ _. inr (keep f.number))
    where
      frame : (l i : ℕ) → get_or (set s.words (1 + c) x) (frame_at p l i) 0 ≡ get_or s.words (frame_at p l i) 0
      frame l i = get_or-set_other s.words (1 + c) (frame_at p l i) x 0 (λ e. omega arith)

      keep : (k a : ℕ) → (at_now s r).cells a ≡ cell.Loading k → with_at (at_now s r).cells c t a ≡ cell.Loading k
      keep k a h = put_other (at_now s r).cells c t a (λ e. not_loading k ((λ i. (at_now s r).cells (sym e i)) ∙ h)) ∙ h

  -- what was known of the stores, where the event saves no cell
  pub knowns_event : (s : St) (r : Rule s) (id : ℕ) (d w : D) (e : Event) → get_elem? s.views id ≡ some d → IsLegal (shape_of p) (at_now s r) e → ((a : ℕ) → Saves a e → ⊥)
      → ((a : ℕ) → lives_by a e + filled a w ≤ filled a d) → w.rises ≡ d.rises → Knowns p r.parts.entry (r.log ++ e ∷ []) (set s.views id w) r.ended
  knowns_event s r id d w e at legal unsaved fewer rises l x is = known_moves p l x (r.parts.entry l) r.log s.views r.ended id d w e (r.parts.known l x is) at legal
      (λ a _. unsaved a) (λ a _. fewer a) (λ i. rise l (record w { rises = rises i }))

  abbrev pub Lanes : (s : St) → Rule s → List ℕ → List Event → List D → Type 0
  Lanes s r ws log views = (entry : ℕ → Taken S) × LanesOk p r.parts.owner entry ws s.homes views × Knowns p entry log views r.ended × GivenOk p entry views

  -- the lanes, where the pass notes nothing
  pub lanes_same : (s : St) (r : Rule s) (id : ℕ) (d w : D) (c x : ℕ) (log : List Event) → get_elem? s.views id ≡ some d → c < p.cells → w.lane ≡ d.lane → Knowns p r.parts.entry log (set s.views id w) r.ended → GivenOk p r.parts.entry (set s.views id w) → Lanes s r (set s.words (1 + c) x) log (set s.views id w)
  lanes_same s r id d w c x log at inside same known given = (r.parts.entry, lanes_stay p r.parts.owner r.parts.entry s.words (set s.words (1 + c) x) s.homes s.views id d w r.parts.lanes at (λ l h. get_or-set_other s.words (1 + c) (lane_at p l) x 0 (λ e. omega arith)) same, known, given)

  -- the lanes, where the pass closed the cell c with the mark b
  pub lanes_close : (s : St) (r : Rule s) (id : ℕ) (d w : D) (c x : ℕ) (log past : List Event) (b : Bool) → get_elem? s.views id ≡ some d → c < p.cells → (q : Option (Taken S)) → d.lane ≡ q → w.lane ≡ noted b (change c false past) q
      → (b ≡ true → has_mark ((after (start_of p) log).cells c) ≡ true) → Knowns p r.parts.entry log (set s.views id w) r.ended → GivenOk p r.parts.entry (set s.views id w) → Lanes s r (set s.words (1 + c) x) log (set s.views id w)
  lanes_close s r id d w c x log past false at inside q was is marked known given = lanes_same s r id d w c x log at inside (is ∙ sym was) known given
  lanes_close s r id d w c x log past true at inside None was is marked known given = lanes_same s r id d w c x log at inside (is ∙ sym was) known given
  lanes_close s r id d w c x log past true at inside (Some o) was is marked known given =
      let n : Taken S = record o { changes = change c false past ∷ o.changes } in let entry_is : r.parts.entry o.lane ≡ o = (r.parts.lanes.holds id d o at was).3 in (
        with_at r.parts.entry o.lane n,
        lanes_note p r.parts.owner r.parts.entry s.words (set s.words (1 + c) x) s.homes s.views id d w o n r.parts.lanes at (λ l h. get_or-set_other s.words (1 + c) (lane_at p l) x 0 (λ e. omega arith)) was is refl,
        knowns_put p r.parts.entry o.lane n log (set s.views id w) r.ended (λ m y _ y_is. known m y y_is)
            (λ y y_is. known_closes p o.lane y o log (set s.views id w) r.ended c past (subst (λ (u : Taken S). Known p o.lane y u log (set s.views id w) r.ended) entry_is (known o.lane y y_is)) (marked refl)),
        given_put p r.parts.entry o.lane n (set s.views id w) (sym (ap (λ (v : Taken S). v.store) entry_is)) given,
      )

  -- the lanes, where the pass saved the cell c, whose array was frozen since `past`
  pub lanes_save : (s : St) (r : Rule s) (id : ℕ) (d w : D) (c x k : ℕ) (past : List Event) → get_elem? s.views id ≡ some d → c < p.cells → (o : Taken S) → d.lane ≡ Some o → w.lane ≡ Some (record o { changes = change c true past ∷ o.changes })
      → lane_of p c ≡ o.lane → IsLegal (shape_of p) (at_now s r) (event.Gone k c true) → (after (start_of p) past).arrays c ≡ (at_now s r).arrays c → ((a : ℕ) → filled a w ≤ filled a d) → w.rises ≡ d.rises → GivenOk p r.parts.entry (set s.views id w)
      → Lanes s r (set s.words (1 + c) x) (r.log ++ event.Gone k c true ∷ []) (set s.views id w)
  lanes_save s r id d w c x k past at inside o was is lane_is legal frozen fewer rises given =
      let n : Taken S = record o { changes = change c true past ∷ o.changes } in let entry_is : r.parts.entry o.lane ≡ o = (r.parts.lanes.holds id d o at was).3 in (
        with_at r.parts.entry o.lane n,
        lanes_note p r.parts.owner r.parts.entry s.words (set s.words (1 + c) x) s.homes s.views id d w o n r.parts.lanes at (λ l h. get_or-set_other s.words (1 + c) (lane_at p l) x 0 (λ e. omega arith)) was is refl,
        knowns_put p r.parts.entry o.lane n (r.log ++ event.Gone k c true ∷ []) (set s.views id w) r.ended
            (λ m y ne y_is. known_moves p m y (r.parts.entry m) r.log s.views r.ended id d w (event.Gone k c true) (r.parts.known m y y_is) at legal
            (λ a in_lane e. ne (sym in_lane.1 ∙ (ap (lane_of p) e ∙ lane_is))) (λ a _. let f = fewer a in omega arith) (λ i. rise m (record w { rises = rises i })))
            (λ y y_is. known_saves p o.lane y o r.log s.views r.ended id d w k c past (subst (λ (u : Taken S). Known p o.lane y u r.log s.views r.ended) entry_is (r.parts.known o.lane y y_is)) at legal frozen fewer (λ i. rise o.lane (record w { rises = rises i }))),
        given_put p r.parts.entry o.lane n (set s.views id w) (sym (ap (λ (v : Taken S). v.store) entry_is)) given,
      )

  -- the count of a cell in no pass's pins
  pub no_count : (s : St) (r : Rule s) (c : ℕ) → total (doing_counts c) s.views ≡ 0 → (j : ℕ) (f : D) → get_elem? s.views j ≡ some f → times c f.pins ≡ 0
  no_count s r c none_is j f t = let o = total_one (doing_counts c) s.views j f t in omega arith

  -- nobody has a pin on a cell whose count is 0
  pub no_pins : (s : St) (r : Rule s) (c : ℕ) → total (doing_counts c) s.views ≡ 0 → (k : ℕ) → (at_now s r).pins k c ≡ 0
  no_pins s r c none_is k = ⊎_elim (λ (l : k < r.drawn). ⊎_elim (λ (q : SomeOut passes s.views (λ _ f. f.number ≡ k)). (λ i. (at_now s r).pins (sym q.4 i) c) ∙ (sym ((r.holds q.0 q.1 q.2 q.3).pins c) ∙ no_count s r c none_is q.0 q.1 q.2))
      (λ (q : HasEnded (passes {S = S} {M = M}) r.ended k). r.nobody k c (λ j d t o e. (r.roster.each_ended q.0 q.1 q.2).gone j d t o (e ∙ sym q.3))) (r.roster.cover k l))
      (λ (l : r.drawn ≤ k). r.nobody k c (λ j d t o e. let b = (r.roster.each j d t o).below in absurd (omega arith))) (either_way k)
    where
      either_way : (k : ℕ) → (k < r.drawn) ⊎ (r.drawn ≤ k)
      either_way k = dite (dec_le (suc k) r.drawn) (λ l. inl (omega arith)) (λ n. inr (omega arith))

  -- a try that failed: what the view has seen and tried changes alone
  pub tries_only : (s : St) (r : Rule s) (i id : ℕ) (d : D) (seen : List Event) (tries : List Try) → get_elem? s.views id ≡ some d → d.stage ≡ Idle → (seen ≡ r.log) ⊎ (seen ≡ d.seen)
      → Rule record { words = set s.words i (get_or s.words i 0); homes = s.homes; views = set s.views id (record d { seen = seen; tries = tries }) }
  tries_only s r i id d seen tries at idle which = subst (λ (ws : List ℕ). Rule record { words = ws; homes = s.homes; views = set s.views id w }) (sym (set-get_or s.words i 0))
      (quiet p s r id d w s.words s.homes at lv lv (refl, refl, refl) refl which (holds_as p (at_now s r) d w refl refl refl refl refl refl refl (subst (Staged seen p.cells) (sym idle) tt) (r.holds id d at lv))
      refl refl words.0 words.1 words.2 r.parts.owner r.parts.entry (lanes_stay p r.parts.owner r.parts.entry s.words s.words s.homes s.views id d w r.parts.lanes at (λ m _. refl) refl) (knowns_stay p s r id d w at refl refl) (given_stays p s r id d w r.parts.entry at lv (refl, refl, refl) refl (λ _. refl)))
    where
      w : D
      w = record d { seen = seen; tries = tries }

      lv : out d ≡ 1
      lv = ap out_of idle

      words : Shown p s r s.words (set s.views id w)
      words = unseen p s r id d w at lv refl refl refl refl (λ _. refl)

  -- what is told by the plan and the number of a cell, for what the table was told and the number that the word names
  pub retold : (plan : M → Plan S M) → plan p.made ≡ p → (T : Plan S M → ℕ → Type 0) (made : M) → made ≡ p.made → (c b : ℕ) → 1 + c ≡ 1 + b → T p c → T (plan made) b
  retold plan same T made is c b e x = let c_is : c ≡ b = omega arith in subst (λ (q : Plan S M × ℕ). T q.0 q.1) (λ i. (sym (ap plan is ∙ same) i, c_is i)) x
