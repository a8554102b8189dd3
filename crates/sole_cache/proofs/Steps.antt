-- The steps that leave the stores as they were.
use Rattle.std.proofs.Common.{◌≡◌, ◌∙◌, ℕ, ◌<◌, ◌≤◌, ◌==◌, Bool, true, false, IsTrue, List, length, take, None, Some, slice_index, slice_set, get_or-set_same, refl, sym, ap, subst, arith}
use Rattle.std.specs.Option.{is_some}
use Rattle.std.proofs.lemmas.List.{set-get_or}
use Rattle.cell_grid.specs.Pyramid.{voxels_of, kind_of, frame_of}
use Rattle.cell_grid.specs.Kind.{greatest_of}
use Rattle.cell_store.specs.Store.{Contents}
use Rattle.recency.specs.Order.{Order, is_listed, touched}
use Rattle.arr_history.specs.Tally.{IsTally}
use Rattle.arr_history.specs.declared.tally.Tally.{Tally}
use Rattle.arr_history.specs.declared.cell_state.CellState.TheVariants as cell
use Rattle.arr_history.specs.State.{with_at}
use Rattle.arr_history.proofs.Sound.{at_cases}
use Rattle.arr_history.proofs.Lists.{set_cases}
use Rattle.sole_cache.specs.Slot.{SlotValue, no_slot}
use Rattle.sole_cache.specs.Cached.{Cached, store_of, stands, slot_of, slot_at, state_at, array_at, void_at, state_of, shape_of}
use Rattle.sole_cache.specs.Valid.{IsCache}
use Rattle.sole_cache.proofs.Places.{placed, stands_in, SameElsewhere, MayPlace, cache_placed, cells_placed, pins_are_placed, arrays_placed, shape_placed}

pub some_same : {X : Type 0} (x y : X) → Some x ≡ Some y → x ≡ y
some_same x y e = cc

pub none_some : {X : Type 0} (x : X) → None ≡ Some x → ⊥
none_some x e = cc

pub some_none : {X : Type 0} (x : X) → Some x ≡ None → ⊥
some_none x e = cc

-- a function is as it was where it is given the value that it had
pub same_at : {X : Type 0} (f : ℕ → X) (n : ℕ) (x : X) → x ≡ f n → (m : ℕ) → f m ≡ with_at f n x m
same_at {X} f n x e m = at_cases (λ y. f m ≡ y) f n x m (λ nm. ap f (sym nm) ∙ sym e) (λ _. refl)

-- touching keeps the number of slots
pub touched_slots : (o : Order) (i : ℕ) → (touched o i).slots ≡ o.slots
touched_slots o i = grind arith

-- the cache with another value of a slot whose cell stays
abbrev pub kept : Cached → ℕ → SlotValue → List Contents → Order → Tally → Cached
kept c i t shown order tally = record { levels = c.levels; keys = c.keys; shown = shown; table = c.table; slots = slice_set c.slots i t; order = order; tally = tally; unsaved = c.unsaved }

-- what a slot may become whose cell stays
pub record MayBecome (c : Cached) (n i : ℕ) (t : SlotValue) (shown : List Contents) (order : Order) : Type 0 where
  pub live : slot_of c n ≡ Some i
  pub cell : t.cell ≡ Some n
  pub ordered : order.slots ≡ c.order.slots
  pub listed : (j : ℕ) → is_listed order j ≡ is_listed c.order j
  pub frame : length t.frame ≡ frame_of c.levels
  pub small : (x : ℕ) → x < voxels_of c.levels n → slice_index t.frame x ≤ greatest_of (kind_of c.levels n)
  pub same : SameElsewhere c n shown
  pub clean : IsTrue (store_of c n).told → t.marked ≡ false → stands_in c shown n ≡ Some (take (voxels_of c.levels n) t.frame)

module _ (c : Cached) (n i : ℕ) (t : SlotValue) (shown : List Contents) (order : Order) (tally : Tally) (fits : IsTally tally) (valid : IsCache c) (may : MayBecome c n i t shown order) where
  owned : (i < length c.slots) × ((slot_at c i).cell ≡ Some n)
  owned = valid.seated.in_slot n i may.live

  in_table : n < length c.table
  in_table = (valid.seated.in_table i n owned.1).0

  may_place : MayPlace c n i (Some i) t shown order
  may_place = record {
    cell = in_table;
    slot = owned.0;
    owner = λ m h. some_same n m (sym owned.1 ∙ (valid.seated.in_slot m i h).1);
    place = λ j h. some_same i j (sym may.live ∙ h);
    taken = λ j h. (some_same i j h, may.cell);
    given = λ m h. (some_same n m (sym may.cell ∙ h), refl);
    free = λ e. absurd (none_some n (sym e ∙ may.cell));
    ordered = may.ordered;
    listed = λ j. may.listed j ∙ set_cases (λ (u : SlotValue). is_listed c.order j ≡ is_some u.cell) c.slots i t j no_slot owned.0
        (λ ij. valid.seated.listed j ∙ ap is_some (ap (λ k. (slot_at c k).cell) (sym ij) ∙ owned.1 ∙ sym may.cell)) (λ _. valid.seated.listed j);
    frame = may.frame;
    small = λ j _. may.small;
    same = may.same;
    clean = λ told j _ m. may.clean told m;
  }

  table_same : slice_set c.table n (Some i) ≡ c.table
  table_same = subst (λ o. slice_set c.table n o ≡ c.table) may.live (set-get_or c.table n None)

  is_kept : placed c n i (Some i) t shown order tally ≡ kept c i t shown order tally
  is_kept = ap (λ table. record { levels = c.levels; keys = c.keys; shown = shown; table = table; slots = slice_set c.slots i t; order = order; tally = tally; unsaved = c.unsaved }) table_same

  pub cache_kept : IsCache (kept c i t shown order tally)
  cache_kept = subst IsCache is_kept (cache_placed c n i (Some i) t shown order tally fits valid may_place)

  -- what the cache shows then
  pub cells_kept : (m : ℕ) → with_at (state_of c).cells n (cell.Live i t.marked) m ≡ (state_of (kept c i t shown order tally)).cells m
  cells_kept m = subst (λ (d : Cached). with_at (state_of c).cells n (cell.Live i t.marked) m ≡ (state_of d).cells m) is_kept (cells_placed c n i (Some i) t shown order tally fits valid may_place m)

  pub pins_kept : (k m : ℕ) → with_at (state_of c).pins 0 (with_at ((state_of c).pins 0) n t.pins) k m ≡ (state_of (kept c i t shown order tally)).pins k m
  pins_kept k m = subst (λ (d : Cached). with_at (state_of c).pins 0 (with_at ((state_of c).pins 0) n t.pins) k m ≡ (state_of d).pins k m) is_kept (pins_are_placed c n i (Some i) t shown order tally fits valid may_place k m)

  pub arrays_kept : (m : ℕ) → m < length c.table → (n ≡ m → ⊥) → IsTrue (store_of c m).told → (x : ℕ) → (state_of c).arrays m x ≡ (state_of (kept c i t shown order tally)).arrays m x
  arrays_kept m lt ne told x = subst (λ (d : Cached). (state_of c).arrays m x ≡ (state_of d).arrays m x) is_kept (arrays_placed c n i (Some i) t shown order tally fits valid may_place m lt ne told x)

  pub frame_kept : (x : ℕ) → (state_of (kept c i t shown order tally)).arrays n x ≡ slice_index t.frame x
  frame_kept x = ap (λ o. slice_index (array_at (slice_set c.slots i t) o (stands_in c shown n)) x) may.live ∙ ap (λ (u : SlotValue). slice_index u.frame x) (get_or-set_same c.slots i t no_slot owned.0)

  pub live_now : (state_of c).cells n ≡ cell.Live i (slot_at c i).marked
  live_now = ap (state_at c.slots) may.live

  pub shape_kept : Rattle.arr_history.specs.Shape.IsSameShape (shape_of c) (shape_of (kept c i t shown order tally))
  shape_kept = subst (λ (d : Cached). Rattle.arr_history.specs.Shape.IsSameShape (shape_of c) (shape_of d)) is_kept
      (shape_placed c n i (Some i) t shown order tally fits valid may_place (λ _. ap (λ o. void_at o (stands c n)) may.live))

  -- arrays stay where the frame does
  pub arrays_stay : t.frame ≡ (slot_at c i).frame → (m : ℕ) → m < length c.table → IsTrue (store_of c m).told → (x : ℕ) → (state_of c).arrays m x ≡ (state_of (kept c i t shown order tally)).arrays m x
  arrays_stay same m lt told x = decide (n == m) refl
    where
      decide : (b : Bool) → (n == m) ≡ b → (state_of c).arrays m x ≡ (state_of (kept c i t shown order tally)).arrays m x
      decide true e = subst (λ k. (state_of c).arrays k x ≡ (state_of (kept c i t shown order tally)).arrays k x) (Rattle.std.proofs.lemmas.Bool.eqb-true n m e)
          (ap (λ o. slice_index (array_at c.slots o (stands c n)) x) may.live ∙ ap (λ l. slice_index l x) (sym same) ∙ sym (frame_kept x))
      decide false e = arrays_kept m lt (λ nm. differ n m e nm) told x
        where
          differ : (d e : ℕ) → (d == e) ≡ false → d ≡ e → ⊥
          differ d e h p = grind (arith, Rattle.std.proofs.lemmas.Bool.Decides.nat_tests)
