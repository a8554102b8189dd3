use Rattle.std.proofs.Common.{◌≡◌, ◌∙◌, ◌<◌, ◌≤◌, true, false, List, [], ◌∷◌, Some, Ok, Err, length, map, take, sym, ap, subst, refl}
use Rattle.std.specs.Vec.{vec_capacity}
use Rattle.cell_store.specs.Store.{Contents, held_of}
use Rattle.recency.specs.Order.{Order}
use Rattle.arr_history.specs.declared.event.Event.TheVariants as happening
use Rattle.sole_cache.specs.Slot.{SlotValue, slot_with_pins, slot_with_value, loaded_with, emptied}
use Rattle.sole_cache.specs.Cached.{Cached, slot_of, slot_at}
use Rattle.sole_cache.specs.Value.{with_shown}
use Rattle.sole_cache.specs.Moves.{Moves}
use Rattle.cell_store.specs.declared.store.Put.{Put}
use Rattle.store_calls.specs.Calls.{AreCalled}
use Rattle.cell_file.specs.Asks.{save_answer, save_call}
use Rattle.sole_cache.specs.Acquires.{lane_at, put_call}
use Rattle.n5_block.specs.Block.{block}
use Rattle.cell_grid.specs.Pyramid.{sides_of}
use Rattle.cell_file.specs.Keys.{edited_key}
use Rattle.cell_file.specs.Standing.{standing, width_of}
use Rattle.sole_cache.specs.Slot.{slot_in}
use Rattle.cell_grid.specs.Pyramid.{lane_of, cells_of, voxels_of}
use Rattle.cell_grid.proofs.FrameLemmas.{frame_bounds}
use Rattle.sole_cache.specs.Cached.{store_in}
use Rattle.sole_cache.specs.Moves.{IsSaved}
use Rattle.sole_cache.proofs.Steps.{touched_slots}
use Rattle.sole_cache.proofs.Stores.{saved_elsewhere, saved_stores, own_keys}
use Rattle.sole_cache.proofs.Leaves.{MayReturn, cache_back, moves_back, back_loads, back_saves, back_puts, cache_saved}
use Rattle.sole_cache.proofs.Kept.{kept_beside}
use Rattle.sole_cache.proofs.Inside.{value_of}
use Rattle.sole_cache.proofs.cache.SoleCache.save.Goals as goal

pub save_cell-requires-clause-frame : goal.save_cell-requires-clause-frame
save_cell-requires-clause-frame g c =
    let cached = value_of g.S.Store.contents c.self.inside in
    let is : cached ≡ c.args.self.now = c.self.view_is in
    let kept = c.self.invariant in
    let live : slot_of cached c.args.cell ≡ Some c.args.slot = subst (λ (x : Cached). slot_of x c.args.cell ≡ Some c.args.slot) (sym is) c.requires.live in
    let owned = kept.cache.seated.in_slot c.args.cell c.args.slot live in
    let range : c.args.cell < cells_of cached.levels = subst (λ k. c.args.cell < k) kept.cache.fitted.cells (kept.cache.seated.in_table c.args.slot c.args.cell owned.1).0 in
    let fit : voxels_of cached.levels c.args.cell ≤ length (slot_at cached c.args.slot).frame = subst (λ k. voxels_of cached.levels c.args.cell ≤ k) (sym (kept.cache.framed.frames c.args.slot owned.0)) (frame_bounds cached.levels c.args.cell range) in
    subst (λ l. voxels_of cached.levels c.args.cell ≤ length (Rattle.sole_cache.specs.Slot.slot_in l c.args.slot).frame) (sym c.as_slice.ensures.value) fit

pub save_cell-requires-clause-room : goal.save_cell-requires-clause-room
save_cell-requires-clause-room g c =
    let cached = value_of g.S.Store.contents c.self.inside in
    let is : cached ≡ c.args.self.now = c.self.view_is in
    let kept = c.self.invariant in
    let live : slot_of cached c.args.cell ≡ Some c.args.slot = subst (λ (x : Cached). slot_of x c.args.cell ≡ Some c.args.slot) (sym is) c.requires.live in
    let owned = kept.cache.seated.in_slot c.args.cell c.args.slot live in
    let range : c.args.cell < cells_of cached.levels = subst (λ k. c.args.cell < k) kept.cache.fitted.cells (kept.cache.seated.in_table c.args.slot c.args.cell owned.1).0 in
    kept.put_fits c.args.cell range

pub invariant_of-self-in-Err : goal.invariant_of-self-in-Err
invariant_of-self-in-Err g c =
    let cached = value_of g.S.Store.contents c.self.inside in
    let is : cached ≡ c.args.self.now = c.self.view_is in
    let kept = c.self.invariant in
    let live : slot_of cached c.args.cell ≡ Some c.args.slot = subst (λ (x : Cached). slot_of x c.args.cell ≡ Some c.args.slot) (sym is) c.requires.live in
    let unpinned : (slot_at cached c.args.slot).pins ≡ 0 = subst (λ (x : Cached). (slot_at x c.args.slot).pins ≡ 0) (sym is) c.requires.unpinned in
    let marked : (slot_at cached c.args.slot).marked ≡ true = subst (λ (x : Cached). (slot_at x c.args.slot).marked ≡ true) (sym is) c.requires.marked in
    let shown : List Contents = map g.S.Store.contents c.save_cell.new.stores.items in
    let after : Contents = store_in shown (lane_of c.args.cell (length cached.shown)) in
    let e = c.in-Err.ensures in
    let may : MayReturn cached c.args.cell c.args.slot shown c.touch.new.self = record {
      live = live;
      unpinned = unpinned;
      marked = marked;
      ordered = c.touch.ensures.touched;
      same_slots = ap (λ (o : Order). o.slots) c.touch.ensures.touched ∙ touched_slots c.self.inside.recency c.args.slot;
      listed = c.touch.ensures.listed;
      same = saved_elsewhere cached c.args.cell after shown kept.cache.fitted.some_stores kept.cache.fitted.cells e.one e.not_saved.moves.told e.others;
    } in
    kept_beside cached c.self.inside.pinned.items c.self.inside.free_from c.self.inside.spare.items c.self.inside.put.items (vec_capacity c.self.inside.unsaved) kept shown c.touch.new.self cached.tally c.self.inside.spare.items c.save_cell.new.put.items refl e.length
    (cache_back cached c.args.cell c.args.slot shown c.touch.new.self cached.tally kept.cache.counted kept.cache may)

pub returns-in-Err-clause-back : goal.returns-in-Err-clause-back
returns-in-Err-clause-back g c =
    let cached = value_of g.S.Store.contents c.self.inside in
    let is : cached ≡ c.args.self.now = c.self.view_is in
    let kept = c.self.invariant in
    let live : slot_of cached c.args.cell ≡ Some c.args.slot = subst (λ (x : Cached). slot_of x c.args.cell ≡ Some c.args.slot) (sym is) c.requires.live in
    let owned = kept.cache.seated.in_slot c.args.cell c.args.slot live in
    let unpinned : (slot_at cached c.args.slot).pins ≡ 0 = subst (λ (x : Cached). (slot_at x c.args.slot).pins ≡ 0) (sym is) c.requires.unpinned in
    let range : c.args.cell < cells_of cached.levels = subst (λ k. c.args.cell < k) kept.cache.fitted.cells (kept.cache.seated.in_table c.args.slot c.args.cell owned.1).0 in
    let marked : (slot_at cached c.args.slot).marked ≡ true = subst (λ (x : Cached). (slot_at x c.args.slot).marked ≡ true) (sym is) c.requires.marked in
    let shown : List Contents = map g.S.Store.contents c.save_cell.new.stores.items in
    let after : Contents = store_in shown (lane_of c.args.cell (length cached.shown)) in
    let e = c.in-Err.ensures in
    let may : MayReturn cached c.args.cell c.args.slot shown c.touch.new.self = record {
      live = live;
      unpinned = unpinned;
      marked = marked;
      ordered = c.touch.ensures.touched;
      same_slots = ap (λ (o : Order). o.slots) c.touch.ensures.touched ∙ touched_slots c.self.inside.recency c.args.slot;
      listed = c.touch.ensures.listed;
      same = saved_elsewhere cached c.args.cell after shown kept.cache.fitted.some_stores kept.cache.fitted.cells e.one e.not_saved.moves.told e.others;
    } in
    subst (λ (x : Cached). Moves x (happening.Close 0 c.args.cell ∷ happening.Back 0 c.args.cell ∷ []) (record { levels = c.self.inside.geometry; keys = c.self.inside.keys; shown = map g.S.Store.contents c.save_cell.new.stores.items; table = c.self.inside.table.items; slots = c.self.inside.slots.items; order = c.touch.new.self; tally = c.self.inside.tally; unsaved = c.self.inside.unsaved.items })) is
    (moves_back cached c.args.cell c.args.slot shown c.touch.new.self cached.tally kept.cache.counted kept.cache may
    (saved_stores cached _ c.args.cell false after (happening.Close 0 c.args.cell ∷ happening.Back 0 c.args.cell ∷ []) kept.cache.fitted.some_stores range e.one e.not_saved (own_keys cached.levels c.args.cell kept.cache.fitted.pyramid range)
    (back_loads c.args.cell) (λ m _. back_saves c.args.cell m) (back_saves c.args.cell c.args.cell) (back_puts c.args.cell)))

pub returns-in-Err-clause-valid : goal.returns-in-Err-clause-valid
returns-in-Err-clause-valid g c =
    let cached = value_of g.S.Store.contents c.self.inside in
    let is : cached ≡ c.args.self.now = c.self.view_is in
    let kept = c.self.invariant in
    let live : slot_of cached c.args.cell ≡ Some c.args.slot = subst (λ (x : Cached). slot_of x c.args.cell ≡ Some c.args.slot) (sym is) c.requires.live in
    let unpinned : (slot_at cached c.args.slot).pins ≡ 0 = subst (λ (x : Cached). (slot_at x c.args.slot).pins ≡ 0) (sym is) c.requires.unpinned in
    let marked : (slot_at cached c.args.slot).marked ≡ true = subst (λ (x : Cached). (slot_at x c.args.slot).marked ≡ true) (sym is) c.requires.marked in
    let shown : List Contents = map g.S.Store.contents c.save_cell.new.stores.items in
    let after : Contents = store_in shown (lane_of c.args.cell (length cached.shown)) in
    let e = c.in-Err.ensures in
    let may : MayReturn cached c.args.cell c.args.slot shown c.touch.new.self = record {
      live = live;
      unpinned = unpinned;
      marked = marked;
      ordered = c.touch.ensures.touched;
      same_slots = ap (λ (o : Order). o.slots) c.touch.ensures.touched ∙ touched_slots c.self.inside.recency c.args.slot;
      listed = c.touch.ensures.listed;
      same = saved_elsewhere cached c.args.cell after shown kept.cache.fitted.some_stores kept.cache.fitted.cells e.one e.not_saved.moves.told e.others;
    } in
    cache_back cached c.args.cell c.args.slot shown c.touch.new.self cached.tally kept.cache.counted kept.cache may

pub invariant_of-self : goal.invariant_of-self
invariant_of-self g c =
    let cached = value_of g.S.Store.contents c.self.inside in
    let is : cached ≡ c.args.self.now = c.self.view_is in
    let kept = c.self.invariant in
    let live : slot_of cached c.args.cell ≡ Some c.args.slot = subst (λ (x : Cached). slot_of x c.args.cell ≡ Some c.args.slot) (sym is) c.requires.live in
    let marked : (slot_at cached c.args.slot).marked ≡ true = subst (λ (x : Cached). (slot_at x c.args.slot).marked ≡ true) (sym is) c.requires.marked in
    let shown : List Contents = map g.S.Store.contents c.save_cell.new.stores.items in
    let after : Contents = store_in shown (lane_of c.args.cell (length cached.shown)) in
    let e = c.in-Ok.ensures in
    let same = saved_elsewhere cached c.args.cell after shown kept.cache.fitted.some_stores kept.cache.fitted.cells e.one e.saved.moves.told e.others in
    let framed = λ (h : standing cached.levels cached.keys (held_of after) c.args.cell ≡ Some (take (voxels_of cached.levels c.args.cell) (slot_in c.as_slice.result.now c.args.slot).frame)).
    subst (λ l. standing cached.levels cached.keys (held_of after) c.args.cell ≡ Some (take (voxels_of cached.levels c.args.cell) (slot_in l c.args.slot).frame)) c.as_slice.ensures.value h in
    let blocked = λ (h : (held_of after) (edited_key cached.levels c.args.cell) ≡ Some (block (width_of cached.levels c.args.cell) (sides_of cached.levels c.args.cell) (take (voxels_of cached.levels c.args.cell) (slot_in c.as_slice.result.now c.args.slot).frame))).
    subst (λ l. (held_of after) (edited_key cached.levels c.args.cell) ≡ Some (block (width_of cached.levels c.args.cell) (sides_of cached.levels c.args.cell) (take (voxels_of cached.levels c.args.cell) (slot_in l c.args.slot).frame))) c.as_slice.ensures.value h in
    kept_beside cached c.self.inside.pinned.items c.self.inside.free_from c.self.inside.spare.items c.self.inside.put.items (vec_capacity c.self.inside.unsaved) kept shown cached.order cached.tally c.self.inside.spare.items c.save_cell.new.put.items refl e.length
    (cache_saved cached c.args.cell c.args.slot shown kept.cache live marked same)

pub returns-in-Ok-clause-stays : goal.returns-in-Ok-clause-stays
returns-in-Ok-clause-stays g c =
    let cached = value_of g.S.Store.contents c.self.inside in
    let is : cached ≡ c.args.self.now = c.self.view_is in
    subst (λ (x : Cached). record { levels = c.self.inside.geometry; keys = c.self.inside.keys; shown = map g.S.Store.contents c.save_cell.new.stores.items; table = c.self.inside.table.items; slots = c.self.inside.slots.items; order = c.self.inside.recency; tally = c.self.inside.tally; unsaved = c.self.inside.unsaved.items } ≡ with_shown x (map g.S.Store.contents c.save_cell.new.stores.items)) is refl

pub returns-in-Ok-clause-saved : goal.returns-in-Ok-clause-saved
returns-in-Ok-clause-saved g c =
    let cached = value_of g.S.Store.contents c.self.inside in
    let is : cached ≡ c.args.self.now = c.self.view_is in
    let shown : List Contents = map g.S.Store.contents c.save_cell.new.stores.items in
    let after : Contents = store_in shown (lane_of c.args.cell (length cached.shown)) in
    let e = c.in-Ok.ensures in
    let framed = λ (h : standing cached.levels cached.keys (held_of after) c.args.cell ≡ Some (take (voxels_of cached.levels c.args.cell) (slot_in c.as_slice.result.now c.args.slot).frame)).
    subst (λ l. standing cached.levels cached.keys (held_of after) c.args.cell ≡ Some (take (voxels_of cached.levels c.args.cell) (slot_in l c.args.slot).frame)) c.as_slice.ensures.value h in
    let blocked = λ (h : (held_of after) (edited_key cached.levels c.args.cell) ≡ Some (block (width_of cached.levels c.args.cell) (sides_of cached.levels c.args.cell) (take (voxels_of cached.levels c.args.cell) (slot_in c.as_slice.result.now c.args.slot).frame))).
    subst (λ l. (held_of after) (edited_key cached.levels c.args.cell) ≡ Some (block (width_of cached.levels c.args.cell) (sides_of cached.levels c.args.cell) (take (voxels_of cached.levels c.args.cell) (slot_in l c.args.slot).frame))) c.as_slice.ensures.value h in
    subst (λ (x : Cached). IsSaved x c.args.cell c.args.slot shown) is
    (record { one = e.one; saved = e.saved; stood = λ t. framed (e.stands t); others = e.others; bytes = λ t. blocked (e.bytes t) })

pub returns-in-Ok-clause-valid : goal.returns-in-Ok-clause-valid
returns-in-Ok-clause-valid g c =
    let cached = value_of g.S.Store.contents c.self.inside in
    let is : cached ≡ c.args.self.now = c.self.view_is in
    let kept = c.self.invariant in
    let live : slot_of cached c.args.cell ≡ Some c.args.slot = subst (λ (x : Cached). slot_of x c.args.cell ≡ Some c.args.slot) (sym is) c.requires.live in
    let marked : (slot_at cached c.args.slot).marked ≡ true = subst (λ (x : Cached). (slot_at x c.args.slot).marked ≡ true) (sym is) c.requires.marked in
    let shown : List Contents = map g.S.Store.contents c.save_cell.new.stores.items in
    let after : Contents = store_in shown (lane_of c.args.cell (length cached.shown)) in
    let e = c.in-Ok.ensures in
    let same = saved_elsewhere cached c.args.cell after shown kept.cache.fitted.some_stores kept.cache.fitted.cells e.one e.saved.moves.told e.others in
    let framed = λ (h : standing cached.levels cached.keys (held_of after) c.args.cell ≡ Some (take (voxels_of cached.levels c.args.cell) (slot_in c.as_slice.result.now c.args.slot).frame)).
    subst (λ l. standing cached.levels cached.keys (held_of after) c.args.cell ≡ Some (take (voxels_of cached.levels c.args.cell) (slot_in l c.args.slot).frame)) c.as_slice.ensures.value h in
    let blocked = λ (h : (held_of after) (edited_key cached.levels c.args.cell) ≡ Some (block (width_of cached.levels c.args.cell) (sides_of cached.levels c.args.cell) (take (voxels_of cached.levels c.args.cell) (slot_in c.as_slice.result.now c.args.slot).frame))).
    subst (λ l. (held_of after) (edited_key cached.levels c.args.cell) ≡ Some (block (width_of cached.levels c.args.cell) (sides_of cached.levels c.args.cell) (take (voxels_of cached.levels c.args.cell) (slot_in l c.args.slot).frame))) c.as_slice.ensures.value h in
    cache_saved cached c.args.cell c.args.slot shown kept.cache live marked same

pub returns-in-Ok-clause-asked : goal.returns-in-Ok-clause-asked
returns-in-Ok-clause-asked g c =
    let cached = value_of g.S.Store.contents c.self.inside in
    let is : cached ≡ c.args.self.now = c.self.view_is in
    let shown : List Contents = map g.S.Store.contents c.save_cell.new.stores.items in
    let called = subst (λ l. (answer : Put) × (Ok tt ≡ save_answer answer) × AreCalled (save_call cached.levels (lane_at cached c.args.cell) c.args.cell (take (voxels_of cached.levels c.args.cell) (slot_in l c.args.slot).frame) answer ∷ []) cached.shown shown) c.as_slice.ensures.value c.in-Ok.ensures.called in
    subst (λ (x : Cached). (answer : Put) × (Ok tt ≡ save_answer answer) × AreCalled (put_call x c.args.cell c.args.slot answer ∷ []) x.shown shown) is called

pub returns-in-Err-clause-asked : goal.returns-in-Err-clause-asked
returns-in-Err-clause-asked g c =
    let cached = value_of g.S.Store.contents c.self.inside in
    let is : cached ≡ c.args.self.now = c.self.view_is in
    let shown : List Contents = map g.S.Store.contents c.save_cell.new.stores.items in
    let called = subst (λ l. (answer : Put) × (Err c.in-Err.refusal ≡ save_answer answer) × AreCalled (save_call cached.levels (lane_at cached c.args.cell) c.args.cell (take (voxels_of cached.levels c.args.cell) (slot_in l c.args.slot).frame) answer ∷ []) cached.shown shown) c.as_slice.ensures.value c.in-Err.ensures.called in
    subst (λ (x : Cached). (answer : Put) × (Err c.in-Err.refusal ≡ save_answer answer) × AreCalled (put_call x c.args.cell c.args.slot answer ∷ []) x.shown shown) is called
