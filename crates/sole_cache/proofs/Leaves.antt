-- A cell that leaves its slot, or comes back to it.
use Rattle.std.proofs.Common.{◌≡◌, ◌∙◌, ℕ, ◌<◌, ◌==◌, ◌&&◌, ◌||◌, Bool, true, false, cond, not, IsTrue, List, [], ◌∷◌, length, take, None, Some, slice_index, slice_set, get_or-set_same, refl, sym, ap, subst}
use Rattle.std.specs.Option.{is_some}
use Rattle.std.proofs.lemmas.List.{length-set, set-get_or}
use Rattle.std.proofs.lemmas.Bool.{eqb-true}
use Rattle.cell_grid.specs.Pyramid.{voxels_of, lane_of}
use Rattle.cell_store.specs.Store.{Contents, held_of}
use Rattle.recency.specs.Order.{Order, is_listed, without_slot, touched}
use Rattle.std.specs.List.{count_by, list_any}
use Rattle.arr_history.specs.Laws.{puts}
use Rattle.arr_history.specs.Tally.{IsTally}
use Rattle.arr_history.specs.declared.tally.Tally.{Tally}
use Rattle.arr_history.specs.declared.event.Event.TheVariants as event
use Rattle.arr_history.specs.declared.cell_state.CellState.TheVariants as cell
use Rattle.arr_history.specs.State.{with_at}
use Rattle.arr_history.specs.Next.{leaving, returned}
use Rattle.arr_history.specs.Legal.{IsLive, IsLeaving}
use Rattle.arr_history.proofs.Sound.{at_cases}
use Rattle.arr_history.proofs.Lists.{set_cases}
use Rattle.sole_cache.specs.Slot.{SlotValue, no_slot, slot_in, emptied}
use Rattle.sole_cache.specs.Cached.{Cached, store_in, store_of, stands, slot_of, slot_at, state_at, pins_at, array_at, void_at, state_of, shape_of}
use Rattle.cell_file.specs.Standing.{standing}
use Rattle.sole_cache.specs.Value.{with_shown, vacated}
use Rattle.sole_cache.specs.Valid.{IsCache}
use Rattle.sole_cache.specs.Turns.{touched_by, left_by}
use Rattle.sole_cache.specs.Moves.{saves, loads, StoresMove, Moves, IsSaved}
use Rattle.sole_cache.proofs.Places.{placed, stands_in, SameElsewhere, MayPlace, cache_placed, cells_placed, pins_are_placed, arrays_placed, shape_placed}
use Rattle.sole_cache.proofs.Steps.{some_same, none_some, same_at, kept, MayBecome, cells_kept, pins_kept, arrays_stay, live_now, shape_kept}
use Rattle.sole_cache.proofs.Still.{in_range, same_stores}
use Rattle.sole_cache.proofs.Stores.{stores_still, saved_stores, saved_elsewhere, own_keys}
use Rattle.sole_cache.proofs.Loads.{one_if, test_same, test_differ, taken_at}

no_pins : (b : Bool) (x : ℕ) → x ≡ 0 → cond b x 0 ≡ 0
no_pins true x e = e
no_pins false x e = refl

-- A cell may leave its slot.
pub record MayLeave (c : Cached) (n i : ℕ) (shown : List Contents) (order : Order) : Type 0 where
  pub live : slot_of c n ≡ Some i
  pub unpinned : (slot_at c i).pins ≡ 0
  pub ordered : order ≡ without_slot c.order i
  pub listed : (j : ℕ) → is_listed order j ≡ (not (i == j) && is_listed c.order j)
  pub same : SameElsewhere c n shown
  pub saved : IsTrue (store_of c n).told → stands_in c shown n ≡ Some (take (voxels_of c.levels n) (slot_at c i).frame)

module _ (c : Cached) (n i : ℕ) (shown : List Contents) (order : Order) (tally : Tally) (fits : IsTally tally) (valid : IsCache c) (may : MayLeave c n i shown order) where
  owned : (i < length c.slots) × ((slot_at c i).cell ≡ Some n)
  owned = valid.seated.in_slot n i may.live

  in_table : n < length c.table
  in_table = (valid.seated.in_table i n owned.1).0

  pub may_empty : MayPlace c n i None (emptied (slot_at c i)) shown order
  may_empty = record {
    cell = in_table;
    slot = owned.0;
    owner = λ m h. some_same n m (sym owned.1 ∙ (valid.seated.in_slot m i h).1);
    place = λ j h. some_same i j (sym may.live ∙ h);
    taken = λ j h. absurd (none_some j h);
    given = λ m h. absurd (none_some m h);
    free = λ _. refl;
    ordered = ap (λ (o : Order). o.slots) may.ordered;
    listed = λ j. may.listed j ∙ set_cases (λ (u : SlotValue). (not (i == j) && is_listed c.order j) ≡ is_some u.cell) c.slots i (emptied (slot_at c i)) j no_slot owned.0
        (λ ij. ap (λ b. not b && is_listed c.order j) (test_same i j ij)) (λ ne. ap (λ b. not b && is_listed c.order j) (test_differ i j ne) ∙ valid.seated.listed j);
    frame = valid.framed.frames i owned.0;
    small = λ j h. absurd (none_some j h);
    same = may.same;
    clean = λ told j h. absurd (none_some j h);
  }

  pub cache_gone : IsCache (placed c n i None (emptied (slot_at c i)) shown order tally)
  cache_gone = cache_placed c n i None (emptied (slot_at c i)) shown order tally fits valid may_empty

  live : (state_of c).cells n ≡ cell.Live i (slot_at c i).marked
  live = ap (state_at c.slots) may.live

  pub moves_gone : StoresMove c (event.Close 0 n ∷ event.Gone 0 n (slot_at c i).marked ∷ []) (placed c n i None (emptied (slot_at c i)) shown order tally)
      → Moves c (event.Close 0 n ∷ event.Gone 0 n (slot_at c i).marked ∷ []) (placed c n i None (emptied (slot_at c i)) shown order tally)
  moves_gone stores =
      let state = state_of c in
      let range = in_range c n i valid may.live in
      let closed : with_at state.cells n (leaving 0 (state.cells n)) n ≡ cell.Leaving 0 i (slot_at c i).marked = at_cases (λ x. x ≡ cell.Leaving 0 i (slot_at c i).marked) state.cells n (leaving 0 (state.cells n)) n (λ _. ap (leaving 0) live) (λ ne. absurd (ne refl)) in
      record {
        levels = refl;
        keys = refl;
        shape = shape_placed c n i None (emptied (slot_at c i)) shown order tally fits valid may_empty
            (λ told. ap (λ o. void_at o (stands c n)) may.live ∙ sym (ap (void_at None) (may.saved told)));
        led = record {
          legal = (
            (range, subst IsLive (sym live) tt, λ j. no_pins (j == 0) (pins_at c.slots (slot_of c n)) (ap (pins_at c.slots) may.live ∙ may.unpinned)),
            ((range, subst (IsLeaving 0 (slot_at c i).marked) (sym closed) (refl, refl)), tt),
          );
          reached = record {
            cells = λ m. twice m ∙ cells_placed c n i None (emptied (slot_at c i)) shown order tally fits valid may_empty m;
            pins = λ k m. pins_same k m ∙ pins_are_placed c n i None (emptied (slot_at c i)) shown order tally fits valid may_empty k m;
            arrays = λ m lt told x few. array_now m (subst (λ k. m < k) (sym valid.fitted.cells) lt) told x few;
          };
        };
        order = may.ordered ∙ sym (ap (left_by c.order) closed);
        stores = stores;
      }
    where
      twice : (m : ℕ) → with_at (with_at (state_of c).cells n (leaving 0 ((state_of c).cells n))) n cell.Absent m ≡ with_at (state_of c).cells n cell.Absent m
      twice m = at_cases (λ x. x ≡ with_at (state_of c).cells n cell.Absent m) (with_at (state_of c).cells n (leaving 0 ((state_of c).cells n))) n cell.Absent m
          (λ nm. at_cases (λ x. cell.Absent ≡ x) (state_of c).cells n cell.Absent m (λ _. refl) (λ ne. absurd (ne nm)))
          (λ ne. at_cases (λ x. x ≡ with_at (state_of c).cells n cell.Absent m) (state_of c).cells n (leaving 0 ((state_of c).cells n)) m (λ nm. absurd (ne nm))
          (λ _. at_cases (λ x. (state_of c).cells m ≡ x) (state_of c).cells n cell.Absent m (λ nm. absurd (ne nm)) (λ _. refl)))

      pins_same : (k m : ℕ) → (state_of c).pins k m ≡ with_at (state_of c).pins 0 (with_at ((state_of c).pins 0) n 0) k m
      pins_same k m = at_cases (λ (f : ℕ → ℕ). (state_of c).pins k m ≡ f m) (state_of c).pins 0 (with_at ((state_of c).pins 0) n 0) k
          (λ e. subst (λ z. (state_of c).pins z m ≡ with_at ((state_of c).pins 0) n 0 m) e (same_at ((state_of c).pins 0) n 0 (sym (ap (pins_at c.slots) may.live ∙ may.unpinned)) m)) (λ _. refl)

      here_now : IsTrue (store_of c n).told → (x : ℕ) → x < voxels_of c.levels n → (state_of c).arrays n x ≡ (state_of (placed c n i None (emptied (slot_at c i)) shown order tally)).arrays n x
      here_now told x few = ap (λ o. slice_index (array_at c.slots o (stands c n)) x) may.live ∙ sym (taken_at (voxels_of c.levels n) (slot_at c i).frame x few)
          ∙ sym (ap (λ o. slice_index (array_at (slice_set c.slots i (emptied (slot_at c i))) o (stands_in c shown n)) x) (get_or-set_same c.table n None None in_table)
          ∙ ap (λ h. slice_index (array_at (slice_set c.slots i (emptied (slot_at c i))) None h) x) (may.saved told))

      array_now : (m : ℕ) → m < length c.table → IsTrue (store_of c m).told → (x : ℕ) → x < voxels_of c.levels m → (state_of c).arrays m x ≡ (state_of (placed c n i None (emptied (slot_at c i)) shown order tally)).arrays m x
      array_now m lt told x few = decide (n == m) refl
        where
          decide : (b : Bool) → (n == m) ≡ b → (state_of c).arrays m x ≡ (state_of (placed c n i None (emptied (slot_at c i)) shown order tally)).arrays m x
          decide true e = subst (λ k. IsTrue (store_of c k).told → x < voxels_of c.levels k → (state_of c).arrays k x ≡ (state_of (placed c n i None (emptied (slot_at c i)) shown order tally)).arrays k x) (eqb-true n m e) (λ t f. here_now t x f) told few
          decide false e = arrays_placed c n i None (emptied (slot_at c i)) shown order tally fits valid may_empty m lt (λ nm. absurd (clash (sym (test_same n m nm) ∙ e))) told x
            where
              clash : true ≡ false → ⊥
              clash p = cc

-- A marked cell that could not be put may come back.
pub record MayReturn (c : Cached) (n i : ℕ) (shown : List Contents) (order : Order) : Type 0 where
  pub live : slot_of c n ≡ Some i
  pub unpinned : (slot_at c i).pins ≡ 0
  pub marked : (slot_at c i).marked ≡ true
  pub ordered : order ≡ touched c.order i
  pub same_slots : order.slots ≡ c.order.slots
  pub listed : (j : ℕ) → is_listed order j ≡ is_listed c.order j
  pub same : SameElsewhere c n shown

module _ (c : Cached) (n i : ℕ) (shown : List Contents) (order : Order) (tally : Tally) (fits : IsTally tally) (valid : IsCache c) (may : MayReturn c n i shown order) where
  may_stay : MayBecome c n i (slot_at c i) shown order
  may_stay =
      let owned = valid.seated.in_slot n i may.live in
      record {
        live = may.live;
        cell = owned.1;
        ordered = may.same_slots;
        listed = may.listed;
        frame = valid.framed.frames i owned.0;
        small = valid.framed.small n i may.live;
        same = may.same;
        clean = λ told m. absurd (clash (sym may.marked ∙ m));
      }
    where
      clash : true ≡ false → ⊥
      clash p = cc

  -- the cache with the order and the stores alone changed
  abbrev pub came_back : Cached
  came_back = record { levels = c.levels; keys = c.keys; shown = shown; table = c.table; slots = c.slots; order = order; tally = tally; unsaved = c.unsaved }

  is_back : kept c i (slot_at c i) shown order tally ≡ came_back
  is_back = ap (λ slots. record { levels = c.levels; keys = c.keys; shown = shown; table = c.table; slots = slots; order = order; tally = tally; unsaved = c.unsaved }) (set-get_or c.slots i no_slot)

  pub cache_back : IsCache came_back
  cache_back = subst IsCache is_back (Rattle.sole_cache.proofs.Steps.cache_kept c n i (slot_at c i) shown order tally fits valid may_stay)

  pub moves_back : StoresMove c (event.Close 0 n ∷ event.Back 0 n ∷ []) came_back → Moves c (event.Close 0 n ∷ event.Back 0 n ∷ []) came_back
  moves_back stores =
      let state = state_of c in
      let range = in_range c n i valid may.live in
      let live : state.cells n ≡ cell.Live i (slot_at c i).marked = ap (state_at c.slots) may.live in
      let closed : with_at state.cells n (leaving 0 (state.cells n)) n ≡ cell.Leaving 0 i (slot_at c i).marked = at_cases (λ x. x ≡ cell.Leaving 0 i (slot_at c i).marked) state.cells n (leaving 0 (state.cells n)) n (λ _. ap (leaving 0) live) (λ ne. absurd (ne refl)) in
      record {
        levels = refl;
        keys = refl;
        shape = subst (λ (d : Cached). Rattle.arr_history.specs.Shape.IsSameShape (shape_of c) (shape_of d)) is_back (shape_kept c n i (slot_at c i) shown order tally fits valid may_stay);
        led = record {
          legal = (
            (range, subst IsLive (sym live) tt, λ j. no_pins (j == 0) (pins_at c.slots (slot_of c n)) (ap (pins_at c.slots) may.live ∙ may.unpinned)),
            ((range, subst (IsLeaving 0 true) (sym closed) (refl, may.marked)), tt),
          );
          reached = record {
            cells = λ m. at_cases (λ x. x ≡ state.cells m) (with_at state.cells n (leaving 0 (state.cells n))) n (returned (with_at state.cells n (leaving 0 (state.cells n)) n)) m
                (λ nm. ap returned closed ∙ sym live ∙ ap state.cells nm)
                (λ ne. at_cases (λ x. x ≡ state.cells m) state.cells n (leaving 0 (state.cells n)) m (λ nm. absurd (ne nm)) (λ _. refl));
            pins = λ _ _. refl;
            arrays = λ m lt told x _. subst (λ (d : Cached). state.arrays m x ≡ (state_of d).arrays m x) is_back
                (arrays_stay c n i (slot_at c i) shown order tally fits valid may_stay refl m (subst (λ k. m < k) (sym valid.fitted.cells) lt) told x);
          };
        };
        order = may.ordered ∙ sym (ap (touched_by c.order) closed);
        stores = stores;
      }

-- what a return counts
pub back_loads : (n m : ℕ) → count_by (loads m) (event.Close 0 n ∷ event.Back 0 n ∷ []) ≡ 0
back_loads n m = refl

pub back_saves : (n m : ℕ) → count_by (saves m) (event.Close 0 n ∷ event.Back 0 n ∷ []) ≡ 0
back_saves n m = refl

pub back_puts : (n : ℕ) → list_any (puts n) (event.Close 0 n ∷ event.Back 0 n ∷ []) ≡ true
back_puts n = ap (λ b. b || false) (test_same n n refl)

-- what a leaving counts
pub gone_loads : (n m : ℕ) (saved : Bool) → count_by (loads m) (event.Close 0 n ∷ event.Gone 0 n saved ∷ []) ≡ 0
gone_loads n m saved = refl

pub gone_others : (n m : ℕ) → (n ≡ m → ⊥) → count_by (saves m) (event.Close 0 n ∷ event.Gone 0 n true ∷ []) ≡ 0
gone_others n m ne = ap one_if (test_differ n m ne)

pub gone_here : (n : ℕ) → count_by (saves n) (event.Close 0 n ∷ event.Gone 0 n true ∷ []) ≡ 1
gone_here n = ap one_if (test_same n n refl)

pub gone_puts : (n : ℕ) → list_any (puts n) (event.Close 0 n ∷ event.Gone 0 n true ∷ []) ≡ true
gone_puts n = ap (λ b. b || false) (test_same n n refl)

-- A marked cell over stores that stand for the same of all others.
pub cache_saved : (c : Cached) (n i : ℕ) (shown : List Contents) → IsCache c → slot_of c n ≡ Some i → (slot_at c i).marked ≡ true → SameElsewhere c n shown → IsCache (with_shown c shown)
cache_saved c n i shown valid live marked same =
    let owned = valid.seated.in_slot n i live in
    let may : MayBecome c n i (slot_at c i) shown c.order = record {
      live = live;
      cell = owned.1;
      ordered = refl;
      listed = λ _. refl;
      frame = valid.framed.frames i owned.0;
      small = valid.framed.small n i live;
      same = same;
      clean = λ told m. absurd (clash (sym marked ∙ m));
    } in
    subst IsCache (ap (λ slots. record { levels = c.levels; keys = c.keys; shown = shown; table = c.table; slots = slots; order = c.order; tally = c.tally; unsaved = c.unsaved }) (set-get_or c.slots i no_slot))
    (Rattle.sole_cache.proofs.Steps.cache_kept c n i (slot_at c i) shown c.order c.tally valid.counted valid may)
  where
    clash : true ≡ false → ⊥
    clash p = cc

-- The stores stand for the frame that was put.
pub saved_stands : (c : Cached) (n i : ℕ) (shown : List Contents) → IsSaved c n i shown → IsTrue (store_of (with_shown c shown) n).told → stands (with_shown c shown) n ≡ Some (take (voxels_of c.levels n) (slot_at c i).frame)
saved_stands c n i shown s told =
    let lanes : length shown ≡ length c.shown = ap length s.one ∙ length-set c.shown (lane_of n (length c.shown)) (store_in shown (lane_of n (length c.shown))) in
    subst (λ l. IsTrue (store_in shown (lane_of n l)).told → standing c.levels c.keys (held_of (store_in shown (lane_of n l))) n ≡ Some (take (voxels_of c.levels n) (slot_at c i).frame)) (sym lanes)
    (λ t. s.stood (subst IsTrue s.saved.moves.told t)) told

-- what the order lists once a slot was left
listed_left : (c d : Cached) (n i j : ℕ) → IsCache c → IsCache d → i < length c.slots → d.slots ≡ slice_set c.slots i (emptied (slot_at c i)) → is_listed d.order j ≡ (not (i == j) && is_listed c.order j)
listed_left c d n i j valid gone inside slots = gone.seated.listed j ∙ ap (λ l. is_some (slot_in l j).cell) slots
    ∙ set_cases (λ (u : SlotValue). is_some u.cell ≡ (not (i == j) && is_listed c.order j)) c.slots i (emptied (slot_at c i)) j no_slot inside
    (λ ij. ap (λ b. not b && is_listed c.order j) (sym (test_same i j ij))) (λ ne. sym (valid.seated.listed j) ∙ ap (λ b. not b && is_listed c.order j) (sym (test_differ i j ne)))

-- a leaving without a mark saves nothing
unmarked_gone : (n m : ℕ) (mark : Bool) → mark ≡ false → count_by (saves m) (event.Close 0 n ∷ event.Gone 0 n mark ∷ []) ≡ 0
unmarked_gone n m mark e = rw e refl

-- An unmarked cell left.
pub left_unmarked : (c : Cached) (n i : ℕ) → IsCache c → slot_of c n ≡ Some i → (slot_at c i).pins ≡ 0 → (slot_at c i).marked ≡ false → IsCache (vacated c n i)
    → Moves c (event.Close 0 n ∷ event.Gone 0 n (slot_at c i).marked ∷ []) (vacated c n i)
left_unmarked c n i valid at none mark gone =
    let owned = valid.seated.in_slot n i at in
    let may : MayLeave c n i c.shown (without_slot c.order i) = record {
      live = at;
      unpinned = none;
      ordered = refl;
      listed = λ j. listed_left c (vacated c n i) n i j valid gone owned.0 refl;
      same = same_stores c n;
      saved = λ told. valid.clean n i told at mark;
    } in
    moves_gone c n i c.shown (without_slot c.order i) c.tally valid.counted valid may
    (stores_still c (vacated c n i) (event.Close 0 n ∷ event.Gone 0 n (slot_at c i).marked ∷ []) refl (λ m. unmarked_gone n m (slot_at c i).marked mark) (λ m. refl))

-- A marked cell was put, and left.
pub left_marked : (c : Cached) (n i : ℕ) (shown : List Contents) → IsCache c → slot_of c n ≡ Some i → (slot_at c i).pins ≡ 0 → (slot_at c i).marked ≡ true → IsSaved c n i shown → IsCache (vacated (with_shown c shown) n i)
    → Moves c (event.Close 0 n ∷ event.Gone 0 n (slot_at c i).marked ∷ []) (vacated (with_shown c shown) n i)
left_marked c n i shown valid at none mark s gone =
    let owned = valid.seated.in_slot n i at in
    let after : Contents = store_in shown (lane_of n (length c.shown)) in
    let range = in_range c n i valid at in
    let may : MayLeave c n i shown (without_slot c.order i) = record {
      live = at;
      unpinned = none;
      ordered = refl;
      listed = λ j. listed_left c (vacated (with_shown c shown) n i) n i j valid gone owned.0 refl;
      same = saved_elsewhere c n after shown valid.fitted.some_stores valid.fitted.cells s.one s.saved.moves.told s.others;
      saved = λ told. saved_now told;
    } in
    moves_gone c n i shown (without_slot c.order i) c.tally valid.counted valid may
    (subst (λ m. StoresMove c (event.Close 0 n ∷ event.Gone 0 n m ∷ []) (vacated (with_shown c shown) n i)) (sym mark)
    (saved_stores c (vacated (with_shown c shown) n i) n true after (event.Close 0 n ∷ event.Gone 0 n true ∷ []) valid.fitted.some_stores range s.one s.saved (own_keys c.levels n valid.fitted.pyramid range)
    (λ m. gone_loads n m true) (gone_others n) (gone_here n) (gone_puts n)))
  where
    saved_now : IsTrue (store_of c n).told → standing c.levels c.keys (held_of (store_in shown (lane_of n (length shown)))) n ≡ Some (take (voxels_of c.levels n) (slot_at c i).frame)
    saved_now told =
        let lanes : length shown ≡ length c.shown = ap length s.one ∙ length-set c.shown (lane_of n (length c.shown)) (store_in shown (lane_of n (length c.shown))) in
        subst (λ l. standing c.levels c.keys (held_of (store_in shown (lane_of n l))) n ≡ Some (take (voxels_of c.levels n) (slot_at c i).frame)) (sym lanes) (s.stood told)
