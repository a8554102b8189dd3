-- A run on one thread, from how it was carried out.
use Rattle.std.proofs.Common.{◌≡◌, ◌≢◌, ◌⊎◌, inl, inr, ◌∙◌, ℕ, zero, suc, ◌+◌, ◌<◌, ◌≤◌, ◌==◌, Bool, true, false, true≢false, IsTrue, List, [], ◌∷◌, ◌++◌, length, cond, Option, Some, None, refl, sym, ap, subst, arith, is_none}
use Rattle.std.specs.List.{count_by}
use Rattle.std.specs.List.Sorted.{IsNonDecreasingBy}
use Rattle.std.proofs.lemmas.Bool.{eq-eqb, eqb-true}
use Rattle.std.proofs.lemmas.List.Sorted.{sum_by-IsPermutation}
use Rattle.std.proofs.lemmas.List.Sums.{sum_by-append}
use Rattle.arr_history.specs.declared.cell_state.CellState.TheVariants as cell
use Rattle.arr_history.specs.declared.closed.Unsaved.{Unsaved}
use Rattle.arr_history.specs.declared.event.Event.{Event}
use Rattle.arr_history.specs.declared.event.Event.TheVariants as event
use Rattle.arr_history.specs.History.{after, IsSame, LeadTo}
use Rattle.arr_history.specs.Laws.{KeptLaws, IsSound, puts}
use Rattle.arr_history.specs.Legal.{IsMarked}
use Rattle.arr_history.specs.Shape.{Shape, IsSameShape}
use Rattle.arr_history.specs.State.{State, with_at}
use Rattle.arr_history.specs.Tally.{TalliesGrow}
use Rattle.arr_history.specs.Next.{leaving, returned}
use Rattle.arr_history.proofs.Leads.{after-append, lead_in, lead_from, shape_sym}
use Rattle.arr_history.proofs.Sound.{at_cases}
use Rattle.cell_file.specs.Keys.{KeyNames, edited_key}
use Rattle.cell_file.specs.Standing.{standing}
use Rattle.cell_grid.specs.declared.level.Level.{Level}
use Rattle.cell_grid.specs.Pyramid.{cells_of, voxels_of, lane_of}
use Rattle.cell_store.specs.Store.{Contents, held_of}
use Rattle.run_report.specs.declared.report.Report.{Report}
use Rattle.run_report.specs.declared.shot.Shot.{Shot}
use Rattle.scale_pick.specs.Laws.{ShownMoments}
use Rattle.sole_cache.specs.Cached.{Cached, store_of, stands, slot_of, state_at, void_at, shape_of, state_of}
use Rattle.sole_cache.specs.Moves.{IsStoodFor, Moves}
use Rattle.sole_cache.specs.Open.{IsOpened}
use Rattle.sole_cache.specs.Shut.{IsClosedAt, AreClosed}
use Rattle.sole_cache.specs.Slot.{SlotValue, slot_in}
use Rattle.stood_arrays.specs.Counts.{saves, loads}
use Rattle.stood_arrays.specs.Entries.{puts_under, gets_under}
use Rattle.stood_arrays.specs.Licenses.{Licenses, failed_puts}
use Rattle.stood_arrays.specs.Opening.{store_in}
use Rattle.stood_arrays.specs.Pyramid.{shape_by, start_by}
use Rattle.stood_arrays.specs.Standing.{StandsFor, IsVoid}
use Rattle.view_script.specs.Script.{NumberedCommand}
use Rattle.team_run.specs.Desk.{DeskLeads, desk, first_queue}
use Rattle.team_run.specs.Faults.{fault_replies, fault_servings}
use Rattle.team_run.specs.Headline.{IsUnnamed, IsHeadline}
use Rattle.team_run.specs.Plain.{ArePlain, IsPlainRun}
use Rattle.team_run.specs.Run.{Completes, IsRunOf, KeepsKeys}
use Rattle.team_run.proofs.CommandsOf.{run_commands}
use Rattle.team_run.proofs.Histories.{serves_lead, all_told, all_counted}
use Rattle.team_run.proofs.NotFull.{serves_not_full}
use Rattle.team_run.proofs.PlainRuns.{runs_plain}
use Rattle.team_run.proofs.Unwritten.{closing_unwritten}

abbrev named : ℕ → List Unsaved → ℕ
named n unsaved = count_by (λ u. u.cell == n) unsaved

one_named : (n c : ℕ) (memory : Bool) → IsUnnamed (record { cell = c; memory = memory } ∷ []) n → c ≡ n → ⊥
one_named n c memory free e = let h : (c == n) ≡ true = eq-eqb c n e in let k : named n (record { cell = c; memory = memory } ∷ []) ≡ 1 = ap (λ b. 0 + cond b 1 0) h in omega (arith, free, k)

some_same : (i j : ℕ) → ◌≡◌ {A = Option ℕ} (Some i) (Some j) → i ≡ j
some_same i j e = cc

none_named : (n : ℕ) (u : List Unsaved) → u ≡ [] → 0 < named n u → ⊥
none_named n u e some = let none : 0 < named n [] = subst (λ l. 0 < named n l) e some in omega (arith, none)

the_named : (n c : ℕ) (memory : Bool) → 0 < named n (record { cell = c; memory = memory } ∷ []) → c ≡ n
the_named n c memory some = choose (c == n) refl
  where
    choose : (b : Bool) → (c == n) ≡ b → c ≡ n
    choose true e = eqb-true c n e
    choose false e = let none : named n (record { cell = c; memory = memory } ∷ []) ≡ 0 = ap (λ b. 0 + cond b 1 0) e in absurd (omega (arith, none, some))

-- one slot is closed: its cell is absent then, if it isn't named, and no other cell has changed
closed_one : (n : ℕ) (x : SlotValue) (o : Option ℕ) (u : List Unsaved) (e : List Event) (s : State) → IsClosedAt x o u e → IsUnnamed u n → (o ≡ Some n) ⊎ (s.cells n ≡ cell.Absent) → (after s e).cells n ≡ cell.Absent
closed_one n x None u e s h free (inl is) = absurd cc
closed_one n x None u e s h free (inr was) = subst (λ l. (after s l).cells n ≡ cell.Absent) (sym h.1) was
closed_one n x (Some c) u e s (inl h) free is = subst (λ l. (after s l).cells n ≡ cell.Absent) (sym h.1)
    (at_cases (λ y. y ≡ cell.Absent) (with_at s.cells c (leaving 0 (s.cells c))) c cell.Absent n (λ _. refl)
    (λ ne. at_cases (λ y. y ≡ cell.Absent) s.cells c (leaving 0 (s.cells c)) n (λ e. absurd (ne e)) (λ _. other ne is)))
  where
    other : (c ≡ n → ⊥) → (Some c ≡ Some n) ⊎ (s.cells n ≡ cell.Absent) → s.cells n ≡ cell.Absent
    other ne (inl same) = absurd (ne cc)
    other ne (inr was) = was
closed_one n x (Some c) u e s (inr (mark, (memory, (u_is, e_is)))) free is = subst (λ l. (after s l).cells n ≡ cell.Absent) (sym e_is)
    (at_cases (λ y. y ≡ cell.Absent) (with_at s.cells c (leaving 0 (s.cells c))) c (returned (with_at s.cells c (leaving 0 (s.cells c)) c)) n (λ e. absurd (apart e))
    (λ ne. at_cases (λ y. y ≡ cell.Absent) s.cells c (leaving 0 (s.cells c)) n (λ e. absurd (ne e)) (λ _. other ne is)))
  where
    apart : (c ≡ n) → ⊥
    apart e = one_named n c memory (subst (λ l. IsUnnamed l n) u_is free) e

    other : (c ≡ n → ⊥) → (Some c ≡ Some n) ⊎ (s.cells n ≡ cell.Absent) → s.cells n ≡ cell.Absent
    other ne (inl same) = absurd (ne cc)
    other ne (inr was) = was

-- the slots are closed: a cell in one of them, or absent before, is absent then, if it isn't named
closed_absent : (n : ℕ) (slots : List SlotValue) (unsaved : List Unsaved) (events : List Event) (s : State) → AreClosed slots unsaved events → IsUnnamed unsaved n
    → ((i : ℕ) × (i < length slots) × ((slot_in slots i).cell ≡ Some n)) ⊎ (s.cells n ≡ cell.Absent) → (after s events).cells n ≡ cell.Absent
closed_absent n [] unsaved events s closed free (inl (i, lt, _)) = absurd (omega arith)
closed_absent n [] unsaved events s closed free (inr was) = subst (λ l. (after s l).cells n ≡ cell.Absent) (sym closed.1) was
closed_absent n (x ∷ slots) unsaved events s (u, (more, (e, (rest, (u_is, e_is, one, far))))) free is =
    subst (λ l. (after s l).cells n ≡ cell.Absent) (sym e_is) (ap (λ (t : State). t.cells n) (after-append s e rest) ∙ closed_absent n slots more rest (after s e) far free_far (later is))
  where
    both : named n u + named n more ≡ 0
    both = sym (sum_by-append (λ v. cond (v.cell == n) 1 0) u more) ∙ subst (λ l. named n l ≡ 0) u_is free

    free_one : IsUnnamed u n
    free_one = omega (arith, both)

    free_far : IsUnnamed more n
    free_far = omega (arith, both)

    later : ((i : ℕ) × (i < length (x ∷ slots)) × ((slot_in (x ∷ slots) i).cell ≡ Some n)) ⊎ (s.cells n ≡ cell.Absent) → ((i : ℕ) × (i < length slots) × ((slot_in slots i).cell ≡ Some n)) ⊎ ((after s e).cells n ≡ cell.Absent)
    later (inl (zero, lt, at)) = inr (closed_one n x x.cell u e s one free_one (inl at))
    later (inl (suc i, lt, at)) = inl (i, omega (arith, lt), at)
    later (inr was) = inr (closed_one n x x.cell u e s one free_one (inr was))

-- one slot is closed: a cell that isn't in it stays as it was
closed_beside : (n : ℕ) (x : SlotValue) (o : Option ℕ) (u : List Unsaved) (e : List Event) (s : State) → IsClosedAt x o u e → (o ≡ Some n → ⊥) → (after s e).cells n ≡ s.cells n
closed_beside n x None u e s h out = ap (λ l. (after s l).cells n) h.1
closed_beside n x (Some c) u e s (inl h) out = ap (λ l. (after s l).cells n) h.1
    ∙ at_cases (λ y. y ≡ s.cells n) (with_at s.cells c (leaving 0 (s.cells c))) c cell.Absent n (λ q. absurd (out (ap Some q)))
    (λ _. at_cases (λ y. y ≡ s.cells n) s.cells c (leaving 0 (s.cells c)) n (λ q. absurd (out (ap Some q))) (λ _. refl))
closed_beside n x (Some c) u e s (inr (mark, (memory, (u_is, e_is)))) out = ap (λ l. (after s l).cells n) e_is
    ∙ at_cases (λ y. y ≡ s.cells n) (with_at s.cells c (leaving 0 (s.cells c))) c (returned (with_at s.cells c (leaving 0 (s.cells c)) c)) n (λ q. absurd (out (ap Some q)))
    (λ _. at_cases (λ y. y ≡ s.cells n) s.cells c (leaving 0 (s.cells c)) n (λ q. absurd (out (ap Some q))) (λ _. refl))

-- a cell that none of the slots has stays as it was
closed_apart : (n : ℕ) (slots : List SlotValue) (unsaved : List Unsaved) (events : List Event) (s : State) → AreClosed slots unsaved events → ((i : ℕ) → i < length slots → (slot_in slots i).cell ≡ Some n → ⊥)
    → (after s events).cells n ≡ s.cells n
closed_apart n [] unsaved events s closed out = ap (λ l. (after s l).cells n) closed.1
closed_apart n (x ∷ slots) unsaved events s (u, (more, (e, (rest, (u_is, e_is, one, far))))) out =
    ap (λ l. (after s l).cells n) e_is ∙ ap (λ (t : State). t.cells n) (after-append s e rest)
    ∙ closed_apart n slots more rest (after s e) far (λ i lt at. out (suc i) (omega (arith, lt)) at) ∙ closed_beside n x x.cell u e s one (out zero (omega arith))

-- one slot is closed and its cell named: it is live and marked still
named_one : (n : ℕ) (x : SlotValue) (o : Option ℕ) (u : List Unsaved) (e : List Event) (s : State) → IsClosedAt x o u e → 0 < named n u → ((m : ℕ) → o ≡ Some m → (k : ℕ) × (s.cells m ≡ cell.Live k x.marked))
    → (o ≡ Some n) × IsMarked ((after s e).cells n)
named_one n x None u e s h some live = absurd (none_named n u h.0 some)
named_one n x (Some c) u e s (inl h) some live = absurd (none_named n u h.0 some)
named_one n x (Some c) u e s (inr (mark, (memory, (u_is, e_is)))) some live = (
  ap Some same,
  subst (λ l. IsMarked ((after s l).cells n)) (sym e_is) (subst (λ q. IsMarked ((after s (event.Close 0 c ∷ event.Back 0 c ∷ [])).cells q)) same
      (at_cases IsMarked (with_at s.cells c (leaving 0 (s.cells c))) c (returned (with_at s.cells c (leaving 0 (s.cells c)) c)) c (λ _. back) (λ ne. absurd (ne refl)))),
)
  where
    same : c ≡ n
    same = the_named n c memory (subst (λ l. 0 < named n l) u_is some)

    now : s.cells c ≡ cell.Live (live c refl).0 true
    now = (live c refl).1 ∙ ap (cell.Live (live c refl).0) mark

    left : with_at s.cells c (leaving 0 (s.cells c)) c ≡ cell.Leaving 0 (live c refl).0 true
    left = at_cases (λ y. y ≡ cell.Leaving 0 (live c refl).0 true) s.cells c (leaving 0 (s.cells c)) c (λ _. ap (leaving 0) now) (λ ne. absurd (ne refl))

    back : IsMarked (returned (with_at s.cells c (leaving 0 (s.cells c)) c))
    back = subst (λ y. IsMarked (returned y)) (sym left) tt

-- the slots are closed: a cell that is named is live and marked in the end
named_marked : (n : ℕ) (slots : List SlotValue) (unsaved : List Unsaved) (events : List Event) (s : State) → AreClosed slots unsaved events → 0 < named n unsaved
    → ((i m : ℕ) → i < length slots → (slot_in slots i).cell ≡ Some m → (k : ℕ) × (s.cells m ≡ cell.Live k (slot_in slots i).marked))
    → ((i j m : ℕ) → i < length slots → j < length slots → (slot_in slots i).cell ≡ Some m → (slot_in slots j).cell ≡ Some m → i ≡ j) → IsMarked ((after s events).cells n)
named_marked n [] unsaved events s closed some live once = absurd (none_named n unsaved closed.0 some)
named_marked n (x ∷ slots) unsaved events s (u, (more, (e, (rest, (u_is, e_is, one, far))))) some live once =
    subst (λ l. IsMarked ((after s l).cells n)) (sym e_is) (subst (λ (t : State). IsMarked (t.cells n)) (sym (after-append s e rest)) (choose (named n u) refl (λ none. named_marked n slots more rest (after s e) far (omega (arith, both, none))
    (λ i m lt at. let was = live (suc i) m (omega (arith, lt)) at in (was.0, closed_beside m x x.cell u e s one (λ q. apart m q i lt at) ∙ was.1))
    (λ i j m lt lt' at at'. let q : suc i ≡ suc j = once (suc i) (suc j) m (omega (arith, lt)) (omega (arith, lt')) at at' in omega (arith, q)))))
  where
    both : 0 < named n u + named n more
    both = subst (λ k. 0 < k) (sum_by-append (λ v. cond (v.cell == n) 1 0) u more) (subst (λ l. 0 < named n l) u_is some)

    apart : (m : ℕ) → x.cell ≡ Some m → (i : ℕ) → i < length slots → (slot_in slots i).cell ≡ Some m → ⊥
    apart m at i lt there = let e : zero ≡ suc i = once zero (suc i) m (omega arith) (omega (arith, lt)) at there in omega (arith, e)

    choose : (k : ℕ) → named n u ≡ k → (named n u ≡ 0 → IsMarked ((after (after s e) rest).cells n)) → IsMarked ((after (after s e) rest).cells n)
    choose zero none later = later none
    choose (suc k) some_here later = let here = named_one n x x.cell u e s one (omega (arith, some_here)) (λ m at. live zero m (omega arith) at) in
        subst IsMarked (sym (closed_apart n slots more rest (after s e) far (apart n here.0))) here.1

-- a cell that shows as void isn't live, and its store stands for nothing
nothing_stands : (o : Option ℕ) (held : Option (List ℕ)) → void_at o held ≡ true → held ≡ None
nothing_stands None None e = refl
nothing_stands None (Some x) e = absurd (true≢false (sym e))
nothing_stands (Some i) held e = absurd (true≢false (sym e))

module _ (laws : KeptLaws) (grow : TalliesGrow) (moments : ShownMoments) (levels : List Level) (keys : KeyNames) (slots : ℕ) (c : Cached) (o : IsOpened levels keys slots c) (commands : List NumberedCommand) (now : List Contents) (report : Report)
    (r : Completes (desk c (first_queue levels)) commands now report) (ascending : IsNonDecreasingBy (λ u. u.cell) report.unsaved) (stood : IsStoodFor r.shut)
    (licensed : Licenses c.shown (fault_replies report.replies + fault_servings r.trace.servings + failed_puts report.unsaved) now) where
  abbrev d : Cached
  d = r.shut

  abbrev shape : Shape
  shape = shape_by c.levels c.keys (length c.slots) c.shown

  abbrev start : State
  start = start_by c.levels c.keys c.shown

  abbrev run : List Event
  run = r.trace.events

  abbrev all : List Event
  all = run ++ r.closing

  moves : Moves c all d
  moves = r.history

  like : IsSameShape shape (shape_of c)
  like = record {
    cells = refl;
    slots = refl;
    voxels = λ _. refl;
    greatest = λ _. refl;
    told = λ _. refl;
    void = λ n _ _. subst (λ s. is_none (stands c n) ≡ void_at s (stands c n)) (sym (o.absent n)) refl;
  }

  begun : IsSame shape start (state_of c)
  begun = record { cells = o.state.cells; pins = o.state.pins; arrays = o.state.arrays }

  led : LeadTo shape start all (state_of d)
  led = lead_from shape start (state_of c) (state_of d) all begun (lead_in (shape_of c) shape (state_of c) (state_of d) all (shape_sym shape (shape_of c) like) moves.led)

  lead : DeskLeads (desk c (first_queue levels)) run r.trace.calls r.last
  lead = serves_lead (desk c (first_queue levels)) r.last commands report.replies r.trace r.served

  last_led : LeadTo shape start run (state_of r.last.cache)
  last_led = lead_from shape start (state_of c) (state_of r.last.cache) run begun
      (lead_in (shape_of c) shape (state_of c) (state_of r.last.cache) run (shape_sym shape (shape_of c) like) lead.cache.moves.led)

  unnamed : (n : ℕ) → IsUnnamed report.unsaved n → IsUnnamed r.unsaved n
  unnamed n free = sym (sum_by-IsPermutation (λ v. cond (v.cell == n) 1 0) r.unsaved report.unsaved r.named) ∙ free

  absent : (n : ℕ) → IsUnnamed report.unsaved n → (after start all).cells n ≡ cell.Absent
  absent n free = ap (λ (t : State). t.cells n) (after-append start run r.closing)
      ∙ closed_absent n r.last.cache.slots r.unsaved r.closing (after start run) r.closed (unnamed n free) (place (slot_of r.last.cache n) refl)
    where
      place : (s : Option ℕ) → slot_of r.last.cache n ≡ s → ((i : ℕ) × (i < length r.last.cache.slots) × ((slot_in r.last.cache.slots i).cell ≡ Some n)) ⊎ ((after start run).cells n ≡ cell.Absent)
      place None e = inr (last_led.reached.cells n ∙ ap (state_at r.last.cache.slots) e)
      place (Some i) e = let seat = r.valid.seated.in_slot n i e in inl (i, seat.0, seat.1)

  marked : (n : ℕ) → 0 < named n report.unsaved → IsMarked ((after start all).cells n)
  marked n some = subst (λ (t : State). IsMarked (t.cells n)) (sym (after-append start run r.closing))
      (named_marked n r.last.cache.slots r.unsaved r.closing (after start run) r.closed (subst (λ k. 0 < k) (sum_by-IsPermutation (λ v. cond (v.cell == n) 1 0) r.unsaved report.unsaved r.named) some)
      (λ i m lt at. let seat = r.valid.seated.in_table i m at in (i, last_led.reached.cells m ∙ ap (state_at r.last.cache.slots) seat.1))
      (λ i j m lt lt' at at'. some_same i j (sym (r.valid.seated.in_table i m at).1 ∙ (r.valid.seated.in_table j m at').1)))

  sound : IsSound start
  sound = record { pinned = λ k n pos. absurd (omega (arith, pos)); one_owner = λ a b slot h k. absurd h }

  lanes : length d.shown ≡ length c.shown
  lanes = moves.stores.lanes

  -- what the store of a cell shows in the end
  shown_now : (P : Contents → Type 0) (n : ℕ) → P (store_of d n) → P (store_in now (lane_of n (length now)))
  shown_now P n = subst (λ (s : List Contents). P (store_in s (lane_of n (length s)))) r.ends

  keeps : KeepsKeys c.levels c.shown now all
  keeps lane key told clean = subst (λ (s : List Contents). held_of (store_in s lane) key ≡ held_of (store_in c.shown lane) key) r.ends
      (moves.stores.kept lane key told (λ n inside at same. (laws shape start all sound led.legal).unput n refl (clean n inside at same)))

  headline : IsHeadline c.levels c.keys (length c.slots) c.shown now run r.closing r.trace.servings report
  headline = record {
    legal = led.legal;
    tally = r.counted ∙ all_counted grow r.last.cache.tally run r.closing (all_told grow (desk c (first_queue levels)) r.last run o.tally lead.cache);
    ascending = ascending;
    absent = absent;
    marked = marked;
    stands = λ n inside told full free.
        let told_now : IsTrue (store_of d n).told = subst IsTrue (moves.shape.told n) told in
        let full_now : (shape_of d).is_void n ≡ false = sym (moves.shape.void n inside told) ∙ sym (like.void n inside told) ∙ full in
        let gone : (state_of d).cells n ≡ cell.Absent = sym (led.reached.cells n) ∙ absent n free in
        let stands = stood n (subst (λ (l : List Level). n < cells_of l) (sym moves.levels) inside) told_now full_now (λ mark. absurd (subst IsMarked gone mark)) in
        shown_now (λ s. StandsFor (λ k. voxels_of c.levels k) (standing c.levels c.keys) (held_of s) n ((after start all).arrays n)) n (
          stands.0,
          sym (ap (λ (l : List Level). standing l c.keys (held_of (store_of d n)) n) moves.levels) ∙ sym (ap (λ (k : KeyNames). standing d.levels k (held_of (store_of d n)) n) moves.keys) ∙ stands.1,
          λ i few. stands.2 i (subst (λ (l : List Level). i < voxels_of l n) (sym moves.levels) few) ∙ sym (led.reached.arrays n inside told i few),
        );
    void = λ n inside told empty.
        let void_now : (shape_of d).is_void n ≡ true = sym (moves.shape.void n inside told) ∙ sym (like.void n inside told) ∙ empty in
        shown_now (λ s. IsVoid (λ k. voxels_of c.levels k) (standing c.levels c.keys) (held_of s) n) n
        (sym (ap (λ (l : List Level). standing l c.keys (held_of (store_of d n)) n) moves.levels) ∙ sym (ap (λ (k : KeyNames). standing d.levels k (held_of (store_of d n)) n) moves.keys) ∙ nothing_stands (slot_of d n) (stands d n) void_now);
    kept = λ lane key told clean. keeps lane key told (λ n inside at same. clean n inside same);
    puts = λ n inside told. shown_now (λ s. puts_under (edited_key c.levels n) s.log ≡ puts_under (edited_key c.levels n) (store_of c n).log + count_by (saves n) all) n (moves.stores.put_count n inside told);
    gets = λ n inside told. shown_now (λ s. gets_under (edited_key c.levels n) (store_of c n).log + count_by (loads n) all ≤ gets_under (edited_key c.levels n) s.log) n (moves.stores.get_count n inside told);
    licensed = licensed;
    never_full = serves_not_full (desk c (first_queue levels)) r.last commands report.replies r.trace r.served;
  }

  plain : IsPlainRun c.levels c.keys (length c.slots) commands c.shown all report
  plain =
      let pyramid = o.valid.fitted.pyramid in
      let seen = runs_plain moments shape c.levels (desk c (first_queue levels)) r.last commands report.replies r.trace start.arrays like refl pyramid.most pyramid.some begun.arrays r.served in
      let quiet : (after start all).arrays ≡ (after start run).arrays =
      ap (λ (t : State). t.arrays) (after-append start run r.closing) ∙ closing_unwritten r.last.cache.slots r.unsaved r.closing r.closed (after start run) in
      record {
        last = seen.0;
        are = subst (λ (s : List Shot). ArePlain c.levels shape.is_told start.arrays commands report.replies s seen.0) (sym r.shots) seen.1.0;
        same = λ n inside told i few. seen.1.1 n inside told i few ∙ sym (last_led.reached.arrays n inside told i few) ∙ sym (ap (λ f. f n i) quiet);
      }

  -- all, of the levels, keys and slots that the cache was made with
  abbrev Told : List Level → KeyNames → ℕ → Type 0
  Told l k n = IsHeadline l k n c.shown now run r.closing r.trace.servings report × IsPlainRun l k n commands c.shown all report × KeepsKeys l c.shown now all

  told : Told levels keys slots
  told = subst (λ (n : ℕ). Told levels keys n) o.slot_count (subst (λ (k : KeyNames). Told levels k (length c.slots)) o.keys_are (subst (λ (l : List Level). Told l c.keys (length c.slots)) o.levels_are (headline, plain, keeps)))

  pub run_of : IsRunOf levels keys slots commands c.shown now report
  run_of = record {
    first = c;
    opened = o;
    begins = refl;
    completes = r;
    headline = told.0;
    kept = told.2;
    commands_are = run_commands levels (desk c (first_queue levels)) r.last o.levels_are commands report.replies r.trace report.shots r.shots r.served;
    queue = lead.queue;
    plain = told.1;
  }
