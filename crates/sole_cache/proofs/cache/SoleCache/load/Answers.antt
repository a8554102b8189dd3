use Rattle.std.proofs.Common.{◌≡◌, ◌∙◌, ◌<◌, ◌≤◌, ℕ, true, false, IsTrue, List, [], ◌∷◌, Some, None, length, map, take, slice_set, sym, ap, subst, refl}
use Rattle.std.specs.Vec.{vec_capacity}
use Rattle.cell_store.specs.Store.{Contents}
use Rattle.arr_history.specs.Tally.{IsTally}
use Rattle.arr_history.specs.declared.event.Event.TheVariants as happening
use Rattle.arr_history.proofs.Counts.{raised_fits}
use Rattle.sole_cache.specs.Slot.{loaded_with}
use Rattle.sole_cache.specs.Cached.{Cached, slot_of, slot_at, store_of}
use Rattle.sole_cache.specs.Value.{with_shown}
use Rattle.sole_cache.specs.Moves.{Runs}
use Rattle.cell_grid.specs.Pyramid.{lane_of, cells_of, voxels_of}
use Rattle.cell_grid.proofs.FrameLemmas.{frame_bounds}
use Rattle.sole_cache.specs.Cached.{store_in, stands}
use Rattle.arr_history.proofs.Counts.{raised_none}
use Rattle.sole_cache.proofs.Lanes.{any_err}
use Rattle.sole_cache.proofs.Steps.{some_none}
use Rattle.sole_cache.proofs.Stores.{fetched_same, fetched_stores}
use Rattle.sole_cache.proofs.Loads.{MayLoad, cache_loaded, moves_loaded, cache_over, moves_dropped, loaded_tally, load_saves, load_others, load_here, drop_saves, drop_loads}
use Rattle.sole_cache.proofs.Still.{uncounted_drop}
use Rattle.sole_cache.proofs.Kept.{kept_set, kept_beside}
use Rattle.sole_cache.proofs.Inside.{value_of}
use Rattle.sole_cache.proofs.cache.SoleCache.load.Goals as goal

pub fetch_cell-requires-clause-room : goal.fetch_cell-requires-clause-room
fetch_cell-requires-clause-room g c =
    let cached = value_of g.S.Store.contents c.self.inside in
    let is : cached ≡ c.args.self.now = c.self.view_is in
    let kept = c.self.invariant in
    let cell : c.args.cell < length cached.table = subst (λ (x : Cached). c.args.cell < length x.table) (sym is) c.requires.cell in
    let range : c.args.cell < cells_of cached.levels = subst (λ k. c.args.cell < k) kept.cache.fitted.cells cell in
    subst (λ k. voxels_of cached.levels c.args.cell ≤ k) (sym kept.spare_frame) (frame_bounds cached.levels c.args.cell range)

pub invariant_of-self : goal.invariant_of-self
invariant_of-self g c =
    let cached = value_of g.S.Store.contents c.self.inside in
    let kept = c.self.invariant in
    let shown : List Contents = map g.S.Store.contents c.fetch_cell.new.stores.items in
    let after : Contents = store_in shown (lane_of c.args.cell (length cached.shown)) in
    let e = c.in_err-fetch_cell.ensures in
    let same = fetched_same cached c.args.cell false after shown kept.cache.fitted.some_stores e.one e.not_fetched in
    kept_beside cached c.self.inside.pinned.items c.self.inside.free_from c.self.inside.spare.items c.self.inside.put.items (vec_capacity c.self.inside.unsaved) kept shown cached.order cached.tally c.fetch_cell.new.frame.items c.self.inside.put.items e.length refl (cache_over cached shown kept.cache same)

pub returns-in_err-fetch_cell-clause-dropped : goal.returns-in_err-fetch_cell-clause-dropped
returns-in_err-fetch_cell-clause-dropped g c =
    let cached = value_of g.S.Store.contents c.self.inside in
    let is : cached ≡ c.args.self.now = c.self.view_is in
    let kept = c.self.invariant in
    let cell : c.args.cell < length cached.table = subst (λ (x : Cached). c.args.cell < length x.table) (sym is) c.requires.cell in
    let absent : slot_of cached c.args.cell ≡ None = subst (λ (x : Cached). slot_of x c.args.cell ≡ None) (sym is) c.requires.absent in
    let shown : List Contents = map g.S.Store.contents c.fetch_cell.new.stores.items in
    let after : Contents = store_in shown (lane_of c.args.cell (length cached.shown)) in
    let e = c.in_err-fetch_cell.ensures in
    let same = fetched_same cached c.args.cell false after shown kept.cache.fitted.some_stores e.one e.not_fetched in
    any_err c.from_residual.result _ (subst (λ (x : Cached). Runs x (happening.Claim 0 c.args.cell ∷ happening.Drop 0 c.args.cell ∷ []) (record { levels = c.self.inside.geometry; keys = c.self.inside.keys; shown = map g.S.Store.contents c.fetch_cell.new.stores.items; table = c.self.inside.table.items; slots = c.self.inside.slots.items; order = c.self.inside.recency; tally = c.self.inside.tally; unsaved = c.self.inside.unsaved.items })) is (record {
      moves = moves_dropped cached c.args.cell shown kept.cache cell absent same
          (fetched_stores cached (with_shown cached shown) c.args.cell false after (happening.Claim 0 c.args.cell ∷ happening.Drop 0 c.args.cell ∷ []) kept.cache.fitted.some_stores e.one e.not_fetched (drop_saves c.args.cell) (λ m _. drop_loads c.args.cell m) (drop_loads c.args.cell c.args.cell));
      tally = sym (raised_none cached.tally _ kept.cache.counted (uncounted_drop c.args.cell));
    }))

pub returns-in_err-fetch_cell-clause-valid : goal.returns-in_err-fetch_cell-clause-valid
returns-in_err-fetch_cell-clause-valid g c =
    let cached = value_of g.S.Store.contents c.self.inside in
    let kept = c.self.invariant in
    let shown : List Contents = map g.S.Store.contents c.fetch_cell.new.stores.items in
    let after : Contents = store_in shown (lane_of c.args.cell (length cached.shown)) in
    let e = c.in_err-fetch_cell.ensures in
    let same = fetched_same cached c.args.cell false after shown kept.cache.fitted.some_stores e.one e.not_fetched in
    cache_over cached shown kept.cache same

pub invariant_of-self-2 : goal.invariant_of-self-2
invariant_of-self-2 g c =
    let cached = value_of g.S.Store.contents c.self.inside in
    let is : cached ≡ c.args.self.now = c.self.view_is in
    let kept = c.self.invariant in
    let cell : c.args.cell < length cached.table = subst (λ (x : Cached). c.args.cell < length x.table) (sym is) c.requires.cell in
    let absent : slot_of cached c.args.cell ≡ None = subst (λ (x : Cached). slot_of x c.args.cell ≡ None) (sym is) c.requires.absent in
    let slot : c.args.slot < length cached.slots = subst (λ (x : Cached). c.args.slot < length x.slots) (sym is) c.requires.slot in
    let free : (slot_at cached c.args.slot).cell ≡ None = subst (λ (x : Cached). (slot_at x c.args.slot).cell ≡ None) (sym is) c.requires.free in
    let shown : List Contents = map g.S.Store.contents c.fetch_cell.new.stores.items in
    let after : Contents = store_in shown (lane_of c.args.cell (length cached.shown)) in
    let e = c.in_ok-fetch_cell.ensures in
    let same = fetched_same cached c.args.cell true after shown kept.cache.fitted.some_stores e.one e.fetched in
    let frame = c.fetch_cell.new.frame.items in
    let fits : IsTally c.with_event-self-inside.result = subst IsTally (sym c.with_event-self-inside.ensures) (raised_fits c.self.inside.tally (happening.Live 0 c.args.cell c.args.slot ∷ []) []) in
    let may : MayLoad cached c.args.cell c.args.slot frame shown c.admit.new.self = record {
      cell = cell;
      absent = absent;
      slot = slot;
      free = free;
      ordered = c.admit.ensures.admitted;
      listed = c.admit.ensures.listed;
      frame_length = e.length ∙ kept.spare_frame;
      small = e.fits;
      same = record { lanes = same.lanes; told = same.told; others = λ m _ _. same.stands m };
      held = same.stands c.args.cell;
      fetched = e.values;
    } in
    let done : c.take_slot.new.slots.items ≡ slice_set c.self.inside.slots.items c.args.slot (loaded_with c.args.cell frame) = c.take_slot.ensures.slots in
    rw done (kept_set cached c.self.inside.pinned.items c.self.inside.free_from c.self.inside.spare.items c.self.inside.put.items (vec_capacity c.self.inside.unsaved) kept c.args.slot (loaded_with c.args.cell frame) true (slice_set c.self.inside.table.items c.args.cell (Some c.args.slot)) shown c.admit.new.self c.with_event-self-inside.result c.take_slot.new.spare.items slot
    (λ n. absurd (some_none c.args.cell n)) refl (ap length c.take_slot.ensures.spare ∙ kept.cache.framed.frames c.args.slot slot ∙ sym kept.spare_frame)
    (cache_loaded cached c.args.cell c.args.slot frame shown c.admit.new.self c.with_event-self-inside.result fits kept.cache may))

pub returns-clause-loaded : goal.returns-clause-loaded
returns-clause-loaded g c =
    let cached = value_of g.S.Store.contents c.self.inside in
    let is : cached ≡ c.args.self.now = c.self.view_is in
    let kept = c.self.invariant in
    let cell : c.args.cell < length cached.table = subst (λ (x : Cached). c.args.cell < length x.table) (sym is) c.requires.cell in
    let absent : slot_of cached c.args.cell ≡ None = subst (λ (x : Cached). slot_of x c.args.cell ≡ None) (sym is) c.requires.absent in
    let slot : c.args.slot < length cached.slots = subst (λ (x : Cached). c.args.slot < length x.slots) (sym is) c.requires.slot in
    let free : (slot_at cached c.args.slot).cell ≡ None = subst (λ (x : Cached). (slot_at x c.args.slot).cell ≡ None) (sym is) c.requires.free in
    let shown : List Contents = map g.S.Store.contents c.fetch_cell.new.stores.items in
    let after : Contents = store_in shown (lane_of c.args.cell (length cached.shown)) in
    let e = c.in_ok-fetch_cell.ensures in
    let same = fetched_same cached c.args.cell true after shown kept.cache.fitted.some_stores e.one e.fetched in
    let frame = c.fetch_cell.new.frame.items in
    let fits : IsTally c.with_event-self-inside.result = subst IsTally (sym c.with_event-self-inside.ensures) (raised_fits c.self.inside.tally (happening.Live 0 c.args.cell c.args.slot ∷ []) []) in
    let may : MayLoad cached c.args.cell c.args.slot frame shown c.admit.new.self = record {
      cell = cell;
      absent = absent;
      slot = slot;
      free = free;
      ordered = c.admit.ensures.admitted;
      listed = c.admit.ensures.listed;
      frame_length = e.length ∙ kept.spare_frame;
      small = e.fits;
      same = record { lanes = same.lanes; told = same.told; others = λ m _ _. same.stands m };
      held = same.stands c.args.cell;
      fetched = e.values;
    } in
    let done : c.take_slot.new.slots.items ≡ slice_set c.self.inside.slots.items c.args.slot (loaded_with c.args.cell frame) = c.take_slot.ensures.slots in
    subst (λ (x : Cached). Runs x (happening.Claim 0 c.args.cell ∷ happening.Live 0 c.args.cell c.args.slot ∷ []) (record { levels = c.self.inside.geometry; keys = c.self.inside.keys; shown = map g.S.Store.contents c.fetch_cell.new.stores.items; table = (slice_set c.self.inside.table.items c.args.cell (Some c.args.slot)); slots = c.take_slot.new.slots.items; order = c.admit.new.self; tally = c.with_event-self-inside.result; unsaved = c.self.inside.unsaved.items })) is
    (rw done (record {
      moves = moves_loaded cached c.args.cell c.args.slot frame shown c.admit.new.self c.with_event-self-inside.result fits kept.cache may
          (fetched_stores cached _ c.args.cell true after (happening.Claim 0 c.args.cell ∷ happening.Live 0 c.args.cell c.args.slot ∷ []) kept.cache.fitted.some_stores e.one e.fetched (load_saves c.args.cell c.args.slot) (load_others c.args.cell c.args.slot) (load_here c.args.cell c.args.slot));
      tally = c.with_event-self-inside.ensures ∙ loaded_tally cached.tally c.args.cell c.args.slot;
    }))

pub returns-clause-stood : goal.returns-clause-stood
returns-clause-stood g c =
    let cached = value_of g.S.Store.contents c.self.inside in
    let is : cached ≡ c.args.self.now = c.self.view_is in
    let kept = c.self.invariant in
    let cell : c.args.cell < length cached.table = subst (λ (x : Cached). c.args.cell < length x.table) (sym is) c.requires.cell in
    let absent : slot_of cached c.args.cell ≡ None = subst (λ (x : Cached). slot_of x c.args.cell ≡ None) (sym is) c.requires.absent in
    let slot : c.args.slot < length cached.slots = subst (λ (x : Cached). c.args.slot < length x.slots) (sym is) c.requires.slot in
    let free : (slot_at cached c.args.slot).cell ≡ None = subst (λ (x : Cached). (slot_at x c.args.slot).cell ≡ None) (sym is) c.requires.free in
    let shown : List Contents = map g.S.Store.contents c.fetch_cell.new.stores.items in
    let after : Contents = store_in shown (lane_of c.args.cell (length cached.shown)) in
    let e = c.in_ok-fetch_cell.ensures in
    let same = fetched_same cached c.args.cell true after shown kept.cache.fitted.some_stores e.one e.fetched in
    let frame = c.fetch_cell.new.frame.items in
    let may : MayLoad cached c.args.cell c.args.slot frame shown c.admit.new.self = record {
      cell = cell;
      absent = absent;
      slot = slot;
      free = free;
      ordered = c.admit.ensures.admitted;
      listed = c.admit.ensures.listed;
      frame_length = e.length ∙ kept.spare_frame;
      small = e.fits;
      same = record { lanes = same.lanes; told = same.told; others = λ m _ _. same.stands m };
      held = same.stands c.args.cell;
      fetched = e.values;
    } in
    subst (λ (x : Cached). IsTrue (store_of x c.args.cell).told → (values : List ℕ) × (stands x c.args.cell ≡ Some values)) is (λ told. (take (voxels_of cached.levels c.args.cell) frame, e.values told))

pub returns-clause-valid : goal.returns-clause-valid
returns-clause-valid g c =
    let cached = value_of g.S.Store.contents c.self.inside in
    let is : cached ≡ c.args.self.now = c.self.view_is in
    let kept = c.self.invariant in
    let cell : c.args.cell < length cached.table = subst (λ (x : Cached). c.args.cell < length x.table) (sym is) c.requires.cell in
    let absent : slot_of cached c.args.cell ≡ None = subst (λ (x : Cached). slot_of x c.args.cell ≡ None) (sym is) c.requires.absent in
    let slot : c.args.slot < length cached.slots = subst (λ (x : Cached). c.args.slot < length x.slots) (sym is) c.requires.slot in
    let free : (slot_at cached c.args.slot).cell ≡ None = subst (λ (x : Cached). (slot_at x c.args.slot).cell ≡ None) (sym is) c.requires.free in
    let shown : List Contents = map g.S.Store.contents c.fetch_cell.new.stores.items in
    let after : Contents = store_in shown (lane_of c.args.cell (length cached.shown)) in
    let e = c.in_ok-fetch_cell.ensures in
    let same = fetched_same cached c.args.cell true after shown kept.cache.fitted.some_stores e.one e.fetched in
    let frame = c.fetch_cell.new.frame.items in
    let fits : IsTally c.with_event-self-inside.result = subst IsTally (sym c.with_event-self-inside.ensures) (raised_fits c.self.inside.tally (happening.Live 0 c.args.cell c.args.slot ∷ []) []) in
    let may : MayLoad cached c.args.cell c.args.slot frame shown c.admit.new.self = record {
      cell = cell;
      absent = absent;
      slot = slot;
      free = free;
      ordered = c.admit.ensures.admitted;
      listed = c.admit.ensures.listed;
      frame_length = e.length ∙ kept.spare_frame;
      small = e.fits;
      same = record { lanes = same.lanes; told = same.told; others = λ m _ _. same.stands m };
      held = same.stands c.args.cell;
      fetched = e.values;
    } in
    let done : c.take_slot.new.slots.items ≡ slice_set c.self.inside.slots.items c.args.slot (loaded_with c.args.cell frame) = c.take_slot.ensures.slots in
    rw done (cache_loaded cached c.args.cell c.args.slot frame shown c.admit.new.self c.with_event-self-inside.result fits kept.cache may)
