-- A cell that is loaded into a free slot, or whose claim is dropped.
use Rattle.std.proofs.Common.{◌≡◌, ◌∙◌, ℕ, ◌+◌, ◌<◌, ◌≤◌, ◌==◌, ◌||◌, Bool, true, false, cond, IsTrue, List, [], ◌∷◌, length, take, Option, None, Some, slice_index, slice_set, get_or-set_same, refl, sym, ap, subst, arith}
use Rattle.std.specs.Option.{is_some}
use Rattle.std.proofs.lemmas.Bool.{eqb-true}
use Rattle.std.proofs.lemmas.Bool.Decides.{nat_tests}
use Rattle.cell_grid.specs.Pyramid.{cells_of, voxels_of, kind_of, frame_of}
use Rattle.cell_grid.specs.Kind.{greatest_of}
use Rattle.cell_store.specs.Store.{Contents}
use Rattle.recency.specs.Order.{Order, is_listed, admitted}
use Rattle.std.specs.List.{count_by}
use Rattle.arr_history.specs.Tally.{IsTally, tally_raised}
use Rattle.arr_history.specs.declared.tally.Tally.{Tally}
use Rattle.arr_history.specs.declared.event.Event.TheVariants as event
use Rattle.arr_history.specs.declared.cell_state.CellState.TheVariants as cell
use Rattle.arr_history.specs.State.{with_at}
use Rattle.arr_history.specs.Legal.{HasSlot}
use Rattle.arr_history.proofs.Sound.{at_cases}
use Rattle.arr_history.proofs.Lists.{set_cases}
use Rattle.sole_cache.specs.Slot.{SlotValue, no_slot, loaded_with}
use Rattle.sole_cache.specs.Cached.{Cached, store_of, stands, slot_of, slot_at, state_at, pins_at, array_at, void_at, state_of}
use Rattle.sole_cache.specs.Value.{with_shown}
use Rattle.sole_cache.specs.Valid.{IsCache}
use Rattle.sole_cache.specs.Moves.{saves, loads, StoresMove, Moves}
use Rattle.sole_cache.proofs.Places.{placed, stands_in, SameElsewhere, MayPlace, cache_placed, cells_placed, pins_are_placed, arrays_placed, shape_placed}
use Rattle.sole_cache.proofs.Stores.{SameStores}
use Rattle.sole_cache.proofs.Steps.{some_same, none_some}

-- a test of two numbers
pub test_same : (i j : ℕ) → i ≡ j → (i == j) ≡ true
test_same i j e = grind (arith, nat_tests)

pub test_differ : (i j : ℕ) → (i ≡ j → ⊥) → (i == j) ≡ false
test_differ i j ne = grind (arith, nat_tests)

-- A cell may be loaded into a slot.
pub record MayLoad (c : Cached) (n i : ℕ) (frame : List ℕ) (shown : List Contents) (order : Order) : Type 0 where
  pub cell : n < length c.table
  pub absent : slot_of c n ≡ None
  pub slot : i < length c.slots
  pub free : (slot_at c i).cell ≡ None
  pub ordered : order ≡ admitted c.order i
  pub listed : (j : ℕ) → is_listed order j ≡ ((i == j) || is_listed c.order j)
  pub frame_length : length frame ≡ frame_of c.levels
  pub small : (x : ℕ) → x < voxels_of c.levels n → slice_index frame x ≤ greatest_of (kind_of c.levels n)
  pub same : SameElsewhere c n shown
  pub held : IsTrue (store_of c n).told → stands_in c shown n ≡ stands c n
  pub fetched : IsTrue (store_of c n).told → stands c n ≡ Some (take (voxels_of c.levels n) frame)

-- no cell has a slot that is nobody's
no_owner : (slots : List SlotValue) (i : ℕ) (o : Option ℕ) → (o ≡ Some i → ⊥) → HasSlot (state_at slots o) i → ⊥
no_owner slots i None ne h = h
no_owner slots i (Some j) ne h = ne (ap Some h)

-- the first voxels of a list
pub taken_at : (n : ℕ) (xs : List ℕ) (i : ℕ) → i < n → slice_index (take n xs) i ≡ slice_index xs i
taken_at n xs i lt = grind (arith, Rattle.std.proofs.lemmas.Grind.common_steps)

module _ (c : Cached) (n i : ℕ) (frame : List ℕ) (shown : List Contents) (order : Order) (tally : Tally) (fits : IsTally tally) (valid : IsCache c) (may : MayLoad c n i frame shown order) where
  nobody : (m : ℕ) → slot_of c m ≡ Some i → ⊥
  nobody m h = none_some m (sym may.free ∙ (valid.seated.in_slot m i h).1)

  pub may_place : MayPlace c n i (Some i) (loaded_with n frame) shown order
  may_place = record {
    cell = may.cell;
    slot = may.slot;
    owner = λ m h. absurd (nobody m h);
    place = λ j h. absurd (none_some j (sym may.absent ∙ h));
    taken = λ j h. (some_same i j h, refl);
    given = λ m h. (some_same n m h, refl);
    free = λ e. absurd (none_some n (sym e));
    ordered = ap (λ (o : Order). o.slots) may.ordered;
    listed = λ j. may.listed j ∙ set_cases (λ (u : SlotValue). ((i == j) || is_listed c.order j) ≡ is_some u.cell) c.slots i (loaded_with n frame) j no_slot may.slot
        (λ ij. ap (λ b. b || is_listed c.order j) (test_same i j ij)) (λ ne. ap (λ b. b || is_listed c.order j) (test_differ i j ne) ∙ valid.seated.listed j);
    frame = may.frame_length;
    small = λ j _. may.small;
    same = may.same;
    clean = λ told j _ _. may.held told ∙ may.fetched told;
  }

  pub cache_loaded : IsCache (placed c n i (Some i) (loaded_with n frame) shown order tally)
  cache_loaded = cache_placed c n i (Some i) (loaded_with n frame) shown order tally fits valid may_place

  not_void : IsTrue (store_of c n).told → void_at (slot_of c n) (stands c n) ≡ false
  not_void told = ap (λ o. void_at o (stands c n)) may.absent ∙ ap (void_at None) (may.fetched told)

  pub moves_loaded : StoresMove c (event.Claim 0 n ∷ event.Live 0 n i ∷ []) (placed c n i (Some i) (loaded_with n frame) shown order tally)
      → Moves c (event.Claim 0 n ∷ event.Live 0 n i ∷ []) (placed c n i (Some i) (loaded_with n frame) shown order tally)
  moves_loaded stores =
      let state = state_of c in
      let range : n < cells_of c.levels = subst (λ k. n < k) valid.fitted.cells may.cell in
      record {
        levels = refl;
        keys = refl;
        shape = shape_placed c n i (Some i) (loaded_with n frame) shown order tally fits valid may_place not_void;
        led = record {
          legal = (
            (range, ap (state_at c.slots) may.absent),
            (
              (
                range,
                may.slot,
                at_cases (λ x. x ≡ cell.Loading 0) state.cells n (cell.Loading 0) n (λ _. refl) (λ ne. absurd (ne refl)),
                not_void,
                (λ d. at_cases (λ x. HasSlot x i → ⊥) state.cells n (cell.Loading 0) d (λ _ h. h) (λ _. no_owner c.slots i (slot_of c d) (nobody d))),
              ),
              tt,
            ),
          );
          reached = record {
            cells = λ m. twice m ∙ cells_placed c n i (Some i) (loaded_with n frame) shown order tally fits valid may_place m;
            pins = λ k m. ap (λ o. with_at state.pins 0 (with_at (state.pins 0) n (pins_at c.slots o + 1)) k m) may.absent ∙ pins_are_placed c n i (Some i) (loaded_with n frame) shown order tally fits valid may_place k m;
            arrays = λ m lt told x few. array_now m (subst (λ k. m < k) (sym valid.fitted.cells) lt) told x few;
          };
        };
        order = may.ordered;
        stores = stores;
      }
    where
      twice : (m : ℕ) → with_at (with_at (state_of c).cells n (cell.Loading 0)) n (cell.Live i false) m ≡ with_at (state_of c).cells n (cell.Live i false) m
      twice m = at_cases (λ x. x ≡ with_at (state_of c).cells n (cell.Live i false) m) (with_at (state_of c).cells n (cell.Loading 0)) n (cell.Live i false) m
          (λ nm. at_cases (λ x. cell.Live i false ≡ x) (state_of c).cells n (cell.Live i false) m (λ _. refl) (λ ne. absurd (ne nm)))
          (λ ne. at_cases (λ x. x ≡ with_at (state_of c).cells n (cell.Live i false) m) (state_of c).cells n (cell.Loading 0) m (λ nm. absurd (ne nm))
          (λ _. at_cases (λ x. (state_of c).cells m ≡ x) (state_of c).cells n (cell.Live i false) m (λ nm. absurd (ne nm)) (λ _. refl)))

      here_now : IsTrue (store_of c n).told → (x : ℕ) → x < voxels_of c.levels n → (state_of c).arrays n x ≡ (state_of (placed c n i (Some i) (loaded_with n frame) shown order tally)).arrays n x
      here_now told x few = ap (λ o. slice_index (array_at c.slots o (stands c n)) x) may.absent ∙ ap (λ h. slice_index (array_at c.slots None h) x) (may.fetched told) ∙ taken_at (voxels_of c.levels n) frame x few
          ∙ sym (ap (λ o. slice_index (array_at (slice_set c.slots i (loaded_with n frame)) o (stands_in c shown n)) x) (get_or-set_same c.table n (Some i) None may.cell)
          ∙ ap (λ (u : SlotValue). slice_index u.frame x) (get_or-set_same c.slots i (loaded_with n frame) no_slot may.slot))

      array_now : (m : ℕ) → m < length c.table → IsTrue (store_of c m).told → (x : ℕ) → x < voxels_of c.levels m → (state_of c).arrays m x ≡ (state_of (placed c n i (Some i) (loaded_with n frame) shown order tally)).arrays m x
      array_now m lt told x few = decide (n == m) refl
        where
          decide : (b : Bool) → (n == m) ≡ b → (state_of c).arrays m x ≡ (state_of (placed c n i (Some i) (loaded_with n frame) shown order tally)).arrays m x
          decide true e = subst (λ k. IsTrue (store_of c k).told → x < voxels_of c.levels k → (state_of c).arrays k x ≡ (state_of (placed c n i (Some i) (loaded_with n frame) shown order tally)).arrays k x) (eqb-true n m e) (λ t f. here_now t x f) told few
          decide false e = arrays_placed c n i (Some i) (loaded_with n frame) shown order tally fits valid may_place m lt (λ nm. absurd (clash (sym (test_same n m nm) ∙ e))) told x
            where
              clash : true ≡ false → ⊥
              clash p = cc

-- The cache over stores that stand for the same.
pub cache_over : (c : Cached) (shown : List Contents) → IsCache c → SameStores c shown → IsCache (with_shown c shown)
cache_over c shown valid same = record {
  counted = valid.counted;
  fitted = record {
    pyramid = valid.fitted.pyramid;
    keyed = valid.fitted.keyed;
    cells = valid.fitted.cells;
    some_slots = valid.fitted.some_slots;
    few_slots = valid.fitted.few_slots;
    some_stores = subst (λ k. 0 < k) (sym same.lanes) valid.fitted.some_stores;
    few_stores = subst (λ k. k ≤ 16) (sym same.lanes) valid.fitted.few_stores;
    ordered = valid.fitted.ordered;
  };
  seated = record { in_slot = valid.seated.in_slot; in_table = valid.seated.in_table; unpinned = valid.seated.unpinned; listed = valid.seated.listed };
  framed = record { frames = valid.framed.frames; small = valid.framed.small };
  clean = λ n i told at mark. let was : IsTrue (store_of c n).told = subst IsTrue (same.told n) told in same.stands n was ∙ valid.clean n i was at mark;
}

-- A claim and its drop leave the state as it was, over stores that hold the same.
pub moves_dropped : (c : Cached) (n : ℕ) (shown : List Contents) → IsCache c → n < length c.table → slot_of c n ≡ None → SameStores c shown → StoresMove c (event.Claim 0 n ∷ event.Drop 0 n ∷ []) (with_shown c shown)
    → Moves c (event.Claim 0 n ∷ event.Drop 0 n ∷ []) (with_shown c shown)
moves_dropped c n shown valid inside absent same stores = record {
  levels = refl;
  keys = refl;
  shape = record {
    cells = refl;
    slots = refl;
    voxels = λ _. refl;
    greatest = λ _. refl;
    told = λ m. sym (same.told m);
    void = λ m _ t. ap (void_at (slot_of c m)) (sym (same.stands m t));
  };
  led = record {
    legal = ((range, ap (state_at c.slots) absent), ((range, at_cases (λ x. x ≡ cell.Loading 0) (state_of c).cells n (cell.Loading 0) n (λ _. refl) (λ ne. absurd (ne refl))), tt));
    reached = record {
      cells = λ m. at_cases (λ x. x ≡ (state_of c).cells m) (with_at (state_of c).cells n (cell.Loading 0)) n cell.Absent m
          (λ nm. sym (ap (state_at c.slots) (ap (slot_of c) (sym nm) ∙ absent)))
          (λ ne. at_cases (λ x. x ≡ (state_of c).cells m) (state_of c).cells n (cell.Loading 0) m (λ nm. absurd (ne nm)) (λ _. refl));
      pins = λ _ _. refl;
      arrays = λ m _ t x _. ap (λ h. slice_index (array_at c.slots (slot_of c m) h) x) (sym (same.stands m t));
    };
  };
  order = refl;
  stores = stores;
}
  where
    range : n < cells_of c.levels
    range = subst (λ k. n < k) valid.fitted.cells inside

-- how often something is counted that is told by a test
abbrev pub one_if : Bool → ℕ
one_if b = 0 + cond b 1 0

-- what a load and a dropped claim count
pub loaded_tally : (t : Tally) (n i : ℕ) → tally_raised t (event.Live 0 n i ∷ []) [] ≡ tally_raised t (event.Claim 0 n ∷ event.Live 0 n i ∷ []) []
loaded_tally t n i = refl

pub load_saves : (n i m : ℕ) → count_by (saves m) (event.Claim 0 n ∷ event.Live 0 n i ∷ []) ≡ 0
load_saves n i m = refl

pub load_others : (n i m : ℕ) → (n ≡ m → ⊥) → count_by (loads m) (event.Claim 0 n ∷ event.Live 0 n i ∷ []) ≡ 0
load_others n i m ne = ap one_if (test_differ n m ne)

pub load_here : (n i : ℕ) → count_by (loads n) (event.Claim 0 n ∷ event.Live 0 n i ∷ []) ≡ 1
load_here n i = ap one_if (test_same n n refl)

pub drop_saves : (n m : ℕ) → count_by (saves m) (event.Claim 0 n ∷ event.Drop 0 n ∷ []) ≡ 0
drop_saves n m = refl

pub drop_loads : (n m : ℕ) → count_by (loads m) (event.Claim 0 n ∷ event.Drop 0 n ∷ []) ≡ 0
drop_loads n m = refl
