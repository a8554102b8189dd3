-- The headline of a run on shared cells, from how they were shut.
use Rattle.std.proofs.Common.{◌≡◌, ◌≢◌, ◌⊎◌, inl, inr, ◌∙◌, ℕ, ◌+◌, ◌-◌, ◌%◌, ◌^◌, ◌<◌, ◌≤◌, ◌==◌, not, Bool, true, false, true≢false, IsTrue, List, ◌++◌, length, map, cond, Option, refl, sym, ap, subst, arith}
use Rattle.std.specs.Prelude.{All}
use Rattle.std.specs.List.{count_by, list_any}
use Rattle.std.specs.List.Sorted.{IsNonDecreasingBy, IsPermutation}
use Rattle.std.specs.Str.{bytes_eq}
use Rattle.std.proofs.lemmas.Bool.{cases_lt}
use Rattle.std.proofs.lemmas.List.{length-map}
use Rattle.std.proofs.lemmas.List.Sorted.{sum_by-IsPermutation}
use Rattle.std.proofs.lemmas.Slice.Eq.{bytes_eq-Decides}
use Rattle.arr_history.specs.declared.cell_state.CellState.TheVariants as cell
use Rattle.arr_history.specs.declared.closed.Unsaved.{Unsaved}
use Rattle.arr_history.specs.declared.event.Event.{Event}
use Rattle.arr_history.specs.declared.tally.Tally.{Tally}
use Rattle.arr_history.specs.History.{after, AreLegal, WasMarked}
use Rattle.arr_history.specs.Laws.{marks}
use Rattle.arr_history.specs.Legal.{IsMarked, has_mark}
use Rattle.arr_history.specs.Shape.{Shape}
use Rattle.arr_history.specs.State.{State}
use Rattle.cell_file.specs.Keys.{KeyNames, edited_key}
use Rattle.cell_file.specs.Standing.{standing}
use Rattle.cell_grid.specs.declared.level.Level.{Level}
use Rattle.cell_grid.specs.Kind.{greatest_of}
use Rattle.cell_grid.specs.Pyramid.{cells_of, voxels_of, kind_of}
use Rattle.cell_store.specs.Store.{Contents, held_of, untold}
use Rattle.fetchers.specs.declared.served.Served.{Served}
use Rattle.live_cells.specs.Shutting.{IsShutDown, IsLeftAs, faults_in}
use Rattle.live_cells.proofs.Shuts.{named_below}
use Rattle.pass_roster.specs.History.{total}
use Rattle.pass_roster.proofs.Sums.{total_counts}
use Rattle.pin_rule.specs.declared.made.Made.{Made}
use Rattle.pin_rule.specs.declared.pins.Pins.{Pins}
use Rattle.pin_rule.specs.Calls.{made_of, plan_at}
use Rattle.pin_words.specs.declared.doing.Doing.{Doing}
use Rattle.pin_words.specs.declared.doing.Ended.{Ended}
use Rattle.pin_words.specs.Account.{InLane, lives, times_saved, rise, rise_ended, Stood}
use Rattle.pin_words.specs.Ends.{Settled}
use Rattle.pin_words.specs.Plan.{Plan, lane_of, shape_of, start_of}
use Rattle.run_report.specs.declared.report.Report.{Report}
use Rattle.stood_arrays.specs.Counts.{saves, loads}
use Rattle.stood_arrays.specs.Entries.{puts_under, gets_under}
use Rattle.stood_arrays.specs.Licenses.{Licenses, failed_puts}
use Rattle.stood_arrays.specs.Opening.{store_in, store_for, is_told, is_void, shape_over_stores, start_over_stores}
use Rattle.stood_arrays.specs.Pyramid.{shape_by, start_by}
use Rattle.stood_arrays.specs.Standing.{StandsFor, IsVoid}
use Rattle.team_actors.specs.Rises.{over_lanes, rises_of_ended}
use Rattle.team_run.specs.Faults.{fault_replies, fault_servings}
use Rattle.team_run.specs.Headline.{IsUnnamed, IsFullRefusal, IsHeadline, end_of}
use Rattle.thread_run.proofs.Beyond.{after_beyond, has_marked}
use Rattle.thread_run.proofs.Lanes.{over_sum, over_within, over_counts, StoresAt, stores_at, faults_grew}
use Rattle.thread_run.proofs.Weighing.{whole_tally}

module _ {S : Type 0} (shows : S → Contents) (t : Pins S) (d : Doing S (Option (Made S))) (stores : List S) (unsaved : List Unsaved) (tally : Tally) (trail : List Event) (shut : IsShutDown shows t d stores unsaved tally trail) where
  abbrev p : Plan S (Option (Made S))
  p = plan_at shows t

  abbrev last : Doing S (Option (Made S))
  last = shut.last

  abbrev levels : List Level
  levels = (made_of t).levels.value

  abbrev keys : KeyNames
  keys = (made_of t).keys.value

  abbrev slots : ℕ
  slots = (made_of t).slots

  abbrev opened : List S
  opened = (made_of t).stores.value.items

  abbrev before : List Contents
  before = map shows opened

  abbrev now : List Contents
  now = map shows stores

  abbrev events : List Event
  events = d.seen ++ shut.closing

  lanes : length before ≡ length opened
  lanes = length-map opened shows

  lanes_now : length now ≡ length before
  lanes_now = length-map stores shows ∙ shut.settled.count ∙ sym lanes

  all : last.seen ≡ events
  all = sym shut.seen_is ∙ shut.history_is

  start_same : start_by levels keys before ≡ start_of p
  start_same = ap (λ (n : ℕ). start_over_stores (standing levels keys) n before) lanes

  shape_same : shape_by levels keys slots before ≡ shape_of p
  shape_same = ap (λ (n : ℕ). shape_over_stores (cells_of levels) slots (λ c. voxels_of levels c) (λ c. greatest_of (kind_of levels c)) (standing levels keys) n before) lanes

  abbrev end : State
  end = after (start_of p) last.seen

  end_same : end_of levels keys before events ≡ end
  end_same = λ i. after (start_same i) (sym all i)

  legal : AreLegal (shape_by levels keys slots before) (start_by levels keys before) events
  legal = subst (λ (b : Shape). AreLegal b (start_by levels keys before) events) (sym shape_same)
      (subst (λ (s : State). AreLegal (shape_of p) s events) (sym start_same) (subst (AreLegal (shape_of p) (start_of p)) all shut.whole.legal))

  -- a cell that isn't there is absent
  beyond : (n : ℕ) → cells_of levels ≤ n → end.cells n ≡ cell.Absent
  beyond n le = after_beyond (shape_of p) n le (start_of p) last.seen shut.whole.legal

  absent_here : (n : ℕ) → IsUnnamed unsaved n → end.cells n ≡ cell.Absent
  absent_here n free = place (cases_lt n (cells_of levels))
    where
      left : IsLeftAs n unsaved (end.cells n) → end.cells n ≡ cell.Absent
      left (inl h) = h.0
      left (inr h) = let unsaved_here = h.1 in absurd (omega (arith, unsaved_here, free))

      place : (n < cells_of levels) ⊎ (cells_of levels ≤ n) → end.cells n ≡ cell.Absent
      place (inl lt) = left (shut.shut.left n lt)
      place (inr le) = beyond n le

  marked_here : (n : ℕ) → 0 < count_by (λ u. u.cell == n) unsaved → IsMarked (end.cells n)
  marked_here n unsaved_here = place (cases_lt n (cells_of levels))
    where
      left : IsLeftAs n unsaved (end.cells n) → IsMarked (end.cells n)
      left (inl h) = let none = h.1 in absurd (omega (arith, unsaved_here, none))
      left (inr h) = h.0

      place : (n < cells_of levels) ⊎ (cells_of levels ≤ n) → IsMarked (end.cells n)
      place (inl lt) = left (shut.shut.left n lt)
      place (inr le) = let none = named_below (cells_of levels) n unsaved shut.closing le shut.shut.cells in absurd (omega (arith, unsaved_here, none))

  -- the store of a cell before and after, which is settled
  record CellStore (n : ℕ) : Type 0 where
    first : S
    last_one : S
    settled : Settled p last (n % length before) first last_one
    was : store_for (length before) before n ≡ shows first
    is : store_for (length now) now n ≡ shows last_one

  -- where a store tells something, it is there
  of_cell : (n : ℕ) (tells : Contents → Bool) → tells (untold 0) ≡ false → IsTrue (tells (store_for (length before) before n)) → CellStore n
  of_cell n tells none told = place (stores_at shows opened stores shut.settled.count (n % length before))
    where
      place : StoresAt shows opened stores (n % length before) ⊎ ((store_in before (n % length before) ≡ untold 0) × (store_in now (n % length before) ≡ untold 0)) → CellStore n
      place (inl h) = record {
        first = h.first;
        last_one = h.now;
        settled = shut.settled.each (n % length before) h.first h.now h.first_at h.now_at;
        was = h.first_shown;
        is = ap (λ (k : ℕ). store_in now (n % k)) lanes_now ∙ h.now_shown;
      }
      place (inr h) = absurd (true≢false (sym told ∙ ap tells h.0 ∙ none))

  in_lane : (n : ℕ) → n < cells_of levels → InLane p (n % length before) n
  in_lane n inside = (inside, ap (λ (k : ℕ). n % k) (sym lanes))

  stood_for : (n : ℕ) (s : CellStore n) → IsTrue (is_told (length before) before n) → Stood p (n % length before) (shows s.first) (shows s.last_one) last.seen
  stood_for n s told = s.settled.stood (subst (λ (c : Contents). IsTrue c.told) s.was told)

  stands : (n : ℕ) → n < cells_of levels → IsTrue (is_told (length before) before n) → is_void (standing levels keys) (length before) before n ≡ false → IsUnnamed unsaved n
      → StandsFor (λ c. voxels_of levels c) (standing levels keys) (held_of (store_for (length now) now n)) n ((end_of levels keys before events).arrays n)
  stands n inside told full free =
      let s = of_cell n (λ c. c.told) refl told in
      let full_here = sym (ap (λ (k : ℕ). is_void (standing levels keys) k before n) lanes) ∙ full in
      let here = (stood_for n s told).arrays n (in_lane n inside) full_here (ap has_mark (absent_here n free)) in
      subst (λ (e : State). StandsFor (λ c. voxels_of levels c) (standing levels keys) (held_of (store_for (length now) now n)) n (e.arrays n)) (sym end_same)
      (subst (λ (c : Contents). StandsFor (λ k. voxels_of levels k) (standing levels keys) (held_of c) n (end.arrays n)) (sym s.is) here)

  void : (n : ℕ) → n < cells_of levels → IsTrue (is_told (length before) before n) → is_void (standing levels keys) (length before) before n ≡ true
      → IsVoid (λ c. voxels_of levels c) (standing levels keys) (held_of (store_for (length now) now n)) n
  void n inside told empty =
      let s = of_cell n (λ c. c.told) refl told in
      let empty_here = sym (ap (λ (k : ℕ). is_void (standing levels keys) k before n) lanes) ∙ empty in
      subst (λ (c : Contents). IsVoid (λ k. voxels_of levels k) (standing levels keys) (held_of c) n) (sym s.is) ((stood_for n s told).voids n (in_lane n inside) empty_here)

  kept : (lane : ℕ) (key : List ℕ) → IsTrue (store_in before lane).told
      → ((n : ℕ) → n < cells_of levels → bytes_eq (edited_key levels n) key ≡ true → list_any (marks n) events ≡ false)
      → held_of (store_in now lane) key ≡ held_of (store_in before lane) key
  kept lane key told clean = place (stores_at shows opened stores shut.settled.count lane)
    where
      untouched : (c : ℕ) → c < cells_of levels → WasMarked c last.seen → edited_key levels c ≢ key
      untouched c inside was same = true≢false (sym (has_marked c events (subst (WasMarked c) all was)) ∙ clean c inside ((bytes_eq-Decides (edited_key levels c) key).1 same))

      place : StoresAt shows opened stores lane ⊎ ((store_in before lane ≡ untold 0) × (store_in now lane ≡ untold 0)) → held_of (store_in now lane) key ≡ held_of (store_in before lane) key
      place (inl h) = ap (λ (c : Contents). held_of c key) h.now_shown
          ∙ ((shut.settled.each lane h.first h.now h.first_at h.now_at).stood (subst (λ (c : Contents). IsTrue c.told) h.first_shown told)).keys key untouched
          ∙ sym (ap (λ (c : Contents). held_of c key) h.first_shown)
      place (inr h) = ap (λ (c : Contents). held_of c key) (h.1 ∙ sym h.0)

  puts : (n : ℕ) → n < cells_of levels → IsTrue (store_for (length before) before n).told_log
      → puts_under (edited_key levels n) (store_for (length now) now n).log ≡ puts_under (edited_key levels n) (store_for (length before) before n).log + count_by (saves n) events
  puts n inside told =
      let s = of_cell n (λ c. c.told_log) refl told in
      let key = edited_key levels n in
      let same : times_saved n last.seen ≡ count_by (saves n) events = ap (times_saved n) all ∙ total_counts (saves n) events in
      ap (λ (c : Contents). puts_under key c.log) s.is ∙ s.settled.puts (subst (λ (c : Contents). IsTrue c.told_log) s.was told) n (in_lane n inside)
      ∙ (λ i. puts_under key (sym s.was i).log + same i)

  gets : (n : ℕ) → n < cells_of levels → IsTrue (store_for (length before) before n).told_log
      → gets_under (edited_key levels n) (store_for (length before) before n).log + count_by (loads n) events ≤ gets_under (edited_key levels n) (store_for (length now) now n).log
  gets n inside told =
      let s = of_cell n (λ c. c.told_log) refl told in
      let key = edited_key levels n in
      let same : lives n last.seen ≡ count_by (loads n) events = ap (lives n) all ∙ total_counts (loads n) events in
      let was = ap (λ (c : Contents). gets_under key c.log) s.was in
      let is = ap (λ (c : Contents). gets_under key c.log) s.is in
      let here = s.settled.gets (subst (λ (c : Contents). IsTrue c.told_log) s.was told) n (in_lane n inside) in
      omega (arith, same, was, is, here)

  failed : over_lanes (length opened) (λ l. faults_in p l unsaved) ≡ failed_puts unsaved
  failed = over_counts (length opened) (λ u. not u.memory) (λ u. lane_of p u.cell) (λ u. let lanes_there = t.whole.made.some_lanes in omega (arith, lanes_there)) unsaved

  -- each answer that tells a fault, and each cell that a store failed to put, has a rise of its own
  licensed : (told : ℕ) → told ≤ rises_of_ended p d → Licenses before (told + failed_puts unsaved) now
  licensed told few counting =
      let n = length opened in
      let grew = faults_grew shows opened stores (λ l. rise l last + total (rise_ended l) last.ended) shut.settled.count
      (λ l x y at at' shown. (shut.settled.each l x y at at').counted (subst (λ (c : Contents). c.faults < 2 ^ 64 - 1) shown (counting l))) in
      let sum = over_sum n (λ l. rise l last) (λ l. total (rise_ended l) last.ended) in
      let named = over_within n (λ l. faults_in p l unsaved) (λ l. rise l last) (λ l. let h = shut.shut.faults l in omega (arith, h)) in
      let ended : over_lanes n (λ l. total (rise_ended l) last.ended) ≡ rises_of_ended p d = ap (λ (xs : List Ended). over_lanes n (λ l. total (rise_ended l) xs)) shut.shut.went.ended in
      omega (arith, grew, sum, named, ended, failed, few)

  module _ (servings : List Served) (report : Report) (tallied : report.tally ≡ tally) (permuted : IsPermutation unsaved report.unsaved) (ascending : IsNonDecreasingBy (λ u. u.cell) report.unsaved)
      (open_slots : All (λ r. ¬ IsFullRefusal r.answer) report.replies) (few : fault_replies report.replies + fault_servings servings ≤ rises_of_ended p d) where
    unnamed : (n : ℕ) → IsUnnamed report.unsaved n → IsUnnamed unsaved n
    unnamed n free = sym (sum_by-IsPermutation (λ u. cond (u.cell == n) 1 0) unsaved report.unsaved permuted) ∙ free

    pub headline : IsHeadline levels keys slots before now d.seen shut.closing servings report
    headline = record {
      legal = legal;
      tally = tallied ∙ shut.tally_is ∙ whole_tally d last shut.closing shut.whole.whole all shut.shut.went.mine shut.shut.went.ended;
      ascending = ascending;
      absent = λ n free. ap (λ (s : State). s.cells n) end_same ∙ absent_here n (unnamed n free);
      marked = λ n unsaved_here. subst (λ (s : State). IsMarked (s.cells n)) (sym end_same) (marked_here n (subst (λ k. 0 < k) (sum_by-IsPermutation (λ u. cond (u.cell == n) 1 0) unsaved report.unsaved permuted) unsaved_here));
      stands = λ n inside told full free. stands n inside told full (unnamed n free);
      void = void;
      kept = kept;
      puts = puts;
      gets = gets;
      licensed = λ counting.
          let same = sum_by-IsPermutation (λ u. cond (not u.memory) 1 0) unsaved report.unsaved permuted in
          let h = licensed (fault_replies report.replies + fault_servings servings) few counting in omega (arith, h, same);
      never_full = open_slots;
    }
