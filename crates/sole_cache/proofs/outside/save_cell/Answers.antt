use Rattle.std.proofs.Common.{◌≡◌, ◌≢◌, ◌∙◌, ◌<◌, ℕ, List, [], ◌∷◌, IsTrue, Some, Err, OnOk, OnErr, length, map, take, slice_set, true, false, sym, ap, subst, arith}
use Rattle.std.proofs.lemmas.Grind.{common_steps}
use Rattle.cell_grid.specs.Pyramid.{lane_of, voxels_of, sides_of, cells_of}
use Rattle.cell_store.specs.Faults.{Rose}
use Rattle.cell_store.specs.Store.{Contents, held_of}
use Rattle.n5_block.specs.Block.{block}
use Rattle.cell_file.specs.Keys.{edited_key}
use Rattle.cell_file.specs.Standing.{standing, width_of}
use Rattle.cell_file.specs.declared.errors.SaveErr.TheVariants as saving
use Rattle.sole_cache.specs.Slot.{slot_in}
use Rattle.sole_cache.specs.Cached.{store_in}
use Rattle.sole_cache.specs.Moves.{Saved}
use Rattle.store_calls.specs.Calls.{AreCalled}
use Rattle.cell_store.specs.declared.store.Put.{Put}
use Rattle.cell_file.specs.Asks.{IsPut, save_answer, save_call}
use Rattle.std.proofs.lemmas.List.{map-set}
use Rattle.sole_cache.proofs.Calls.{shown_at, save_called}
use Rattle.sole_cache.proofs.Lanes.{both, map_length, was_store, is_store, one_store, saved_ok, saved_err, map_ok, put_there}
use Rattle.sole_cache.proofs.outside.save_cell.Goals as goal

pub returns-clause-one : goal.returns-clause-one
returns-clause-one g c =
    let count : c.len.result ≡ length c.args.stores.now.items = grind (arith, common_steps) in
    let at : c.lane-lane.result ≡ lane_of c.args.cell (length (map g.S.Store.contents c.args.stores.now.items)) = c.lane-lane.ensures.lane ∙ ap (lane_of c.args.cell) (count ∙ sym (map_length g.S.Store.contents c.args.stores.now.items)) in
    let inside : c.lane-lane.result < length c.args.stores.now.items = grind (arith, common_steps) in
    subst (λ k. map g.S.Store.contents (slice_set c.args.stores.now.items c.lane-lane.result c.save.new.store) ≡ slice_set (map g.S.Store.contents c.args.stores.now.items) k (store_in (map g.S.Store.contents (slice_set c.args.stores.now.items c.lane-lane.result c.save.new.store)) k)) at
    (one_store g.S.Store.contents c.args.stores.now.items c.lane-lane.result c.save.new.store inside)

pub returns-clause-saved : goal.returns-clause-saved
returns-clause-saved g c =
    let count : c.len.result ≡ length c.args.stores.now.items = grind (arith, common_steps) in
    let at : c.lane-lane.result ≡ lane_of c.args.cell (length (map g.S.Store.contents c.args.stores.now.items)) = c.lane-lane.ensures.lane ∙ ap (lane_of c.args.cell) (count ∙ sym (map_length g.S.Store.contents c.args.stores.now.items)) in
    let inside : c.lane-lane.result < length c.args.stores.now.items = grind (arith, common_steps) in
    let e = c.save.ensures in
    let frame = (slot_in c.args.slots.now c.args.slot).frame in
    subst (λ k. OnOk c.save.result (Saved (edited_key c.args.geometry.now c.args.cell) true (store_in (map g.S.Store.contents c.args.stores.now.items) k) (store_in (map g.S.Store.contents (slice_set c.args.stores.now.items c.lane-lane.result c.save.new.store)) k))) at
    (both (λ (a b : Contents). OnOk c.save.result (Saved (edited_key c.args.geometry.now c.args.cell) true a b)) _ _ _ _
    (was_store g.S.Store.contents c.args.stores.now.items c.lane-lane.result _ c.index_mut.ensures.value inside) (is_store g.S.Store.contents c.args.stores.now.items c.lane-lane.result c.save.new.store inside)
    (saved_ok (edited_key c.args.geometry.now c.args.cell) _ _ e.told e.told_log e.never_falls c.save.result e.elsewhere e.logged))

pub returns-clause-not_saved : goal.returns-clause-not_saved
returns-clause-not_saved g c =
    let count : c.len.result ≡ length c.args.stores.now.items = grind (arith, common_steps) in
    let at : c.lane-lane.result ≡ lane_of c.args.cell (length (map g.S.Store.contents c.args.stores.now.items)) = c.lane-lane.ensures.lane ∙ ap (lane_of c.args.cell) (count ∙ sym (map_length g.S.Store.contents c.args.stores.now.items)) in
    let inside : c.lane-lane.result < length c.args.stores.now.items = grind (arith, common_steps) in
    let e = c.save.ensures in
    let frame = (slot_in c.args.slots.now c.args.slot).frame in
    subst (λ k. OnErr c.save.result (Saved (edited_key c.args.geometry.now c.args.cell) false (store_in (map g.S.Store.contents c.args.stores.now.items) k) (store_in (map g.S.Store.contents (slice_set c.args.stores.now.items c.lane-lane.result c.save.new.store)) k))) at
    (both (λ (a b : Contents). OnErr c.save.result (Saved (edited_key c.args.geometry.now c.args.cell) false a b)) _ _ _ _
    (was_store g.S.Store.contents c.args.stores.now.items c.lane-lane.result _ c.index_mut.ensures.value inside) (is_store g.S.Store.contents c.args.stores.now.items c.lane-lane.result c.save.new.store inside)
    (saved_err (edited_key c.args.geometry.now c.args.cell) _ _ e.told e.told_log e.never_falls c.save.result e.elsewhere e.logged_refused))

pub returns-clause-stands : goal.returns-clause-stands
returns-clause-stands g c =
    let framed : c.slot.inside.frame.items ≡ (slot_in c.args.slots.now c.args.slot).frame = grind (arith, common_steps) in
    let same : take c.voxels-voxels.result c.deref.result.now ≡ take (voxels_of c.args.geometry.now c.args.cell) (slot_in c.args.slots.now c.args.slot).frame = ap (λ n. take n c.deref.result.now) c.voxels-voxels.ensures.voxels ∙ ap (take (voxels_of c.args.geometry.now c.args.cell)) (c.deref.ensures.value ∙ framed) in
    let count : c.len.result ≡ length c.args.stores.now.items = grind (arith, common_steps) in
    let at : c.lane-lane.result ≡ lane_of c.args.cell (length (map g.S.Store.contents c.args.stores.now.items)) = c.lane-lane.ensures.lane ∙ ap (lane_of c.args.cell) (count ∙ sym (map_length g.S.Store.contents c.args.stores.now.items)) in
    let inside : c.lane-lane.result < length c.args.stores.now.items = grind (arith, common_steps) in
    let e = c.save.ensures in
    let frame = (slot_in c.args.slots.now c.args.slot).frame in
    subst (λ k. IsTrue (store_in (map g.S.Store.contents c.args.stores.now.items) k).told → OnOk c.save.result (standing c.args.geometry.now c.args.keys.now (held_of (store_in (map g.S.Store.contents (slice_set c.args.stores.now.items c.lane-lane.result c.save.new.store)) k)) c.args.cell ≡ Some (take (voxels_of c.args.geometry.now c.args.cell) (slot_in c.args.slots.now c.args.slot).frame))) at
    (both (λ (a b : Contents). IsTrue a.told → OnOk c.save.result (standing c.args.geometry.now c.args.keys.now (held_of b) c.args.cell ≡ Some (take (voxels_of c.args.geometry.now c.args.cell) (slot_in c.args.slots.now c.args.slot).frame))) _ _ _ _
    (was_store g.S.Store.contents c.args.stores.now.items c.lane-lane.result _ c.index_mut.ensures.value inside) (is_store g.S.Store.contents c.args.stores.now.items c.lane-lane.result c.save.new.store inside)
    (λ t. map_ok c.save.result _ _ (λ h. h ∙ ap Some same) (e.saved t)))

pub returns-clause-bytes : goal.returns-clause-bytes
returns-clause-bytes g c =
    let framed : c.slot.inside.frame.items ≡ (slot_in c.args.slots.now c.args.slot).frame = grind (arith, common_steps) in
    let same : take c.voxels-voxels.result c.deref.result.now ≡ take (voxels_of c.args.geometry.now c.args.cell) (slot_in c.args.slots.now c.args.slot).frame = ap (λ n. take n c.deref.result.now) c.voxels-voxels.ensures.voxels ∙ ap (take (voxels_of c.args.geometry.now c.args.cell)) (c.deref.ensures.value ∙ framed) in
    let count : c.len.result ≡ length c.args.stores.now.items = grind (arith, common_steps) in
    let at : c.lane-lane.result ≡ lane_of c.args.cell (length (map g.S.Store.contents c.args.stores.now.items)) = c.lane-lane.ensures.lane ∙ ap (lane_of c.args.cell) (count ∙ sym (map_length g.S.Store.contents c.args.stores.now.items)) in
    let inside : c.lane-lane.result < length c.args.stores.now.items = grind (arith, common_steps) in
    let e = c.save.ensures in
    let frame = (slot_in c.args.slots.now c.args.slot).frame in
    subst (λ k. IsTrue (store_in (map g.S.Store.contents c.args.stores.now.items) k).told → OnOk c.save.result ((held_of (store_in (map g.S.Store.contents (slice_set c.args.stores.now.items c.lane-lane.result c.save.new.store)) k)) (edited_key c.args.geometry.now c.args.cell) ≡ Some (block (width_of c.args.geometry.now c.args.cell) (sides_of c.args.geometry.now c.args.cell) (take (voxels_of c.args.geometry.now c.args.cell) (slot_in c.args.slots.now c.args.slot).frame)))) at
    (both (λ (a b : Contents). IsTrue a.told → OnOk c.save.result ((held_of b) (edited_key c.args.geometry.now c.args.cell) ≡ Some (block (width_of c.args.geometry.now c.args.cell) (sides_of c.args.geometry.now c.args.cell) (take (voxels_of c.args.geometry.now c.args.cell) (slot_in c.args.slots.now c.args.slot).frame)))) _ _ _ _
    (was_store g.S.Store.contents c.args.stores.now.items c.lane-lane.result _ c.index_mut.ensures.value inside) (is_store g.S.Store.contents c.args.stores.now.items c.lane-lane.result c.save.new.store inside)
    (λ t. map_ok c.save.result _ _ (λ h. put_there (held_of (g.S.Store.contents c.index_mut.result.now)) (held_of (g.S.Store.contents c.save.new.store)) (edited_key c.args.geometry.now c.args.cell) (block (width_of c.args.geometry.now c.args.cell) (sides_of c.args.geometry.now c.args.cell) (take c.voxels-voxels.result c.deref.result.now)) h ∙ ap (λ l. Some (block (width_of c.args.geometry.now c.args.cell) (sides_of c.args.geometry.now c.args.cell) l)) same) (e.block t)))

pub returns-clause-others : goal.returns-clause-others
returns-clause-others g c =
    let count : c.len.result ≡ length c.args.stores.now.items = grind (arith, common_steps) in
    let at : c.lane-lane.result ≡ lane_of c.args.cell (length (map g.S.Store.contents c.args.stores.now.items)) = c.lane-lane.ensures.lane ∙ ap (lane_of c.args.cell) (count ∙ sym (map_length g.S.Store.contents c.args.stores.now.items)) in
    let inside : c.lane-lane.result < length c.args.stores.now.items = grind (arith, common_steps) in
    let e = c.save.ensures in
    let frame = (slot_in c.args.slots.now c.args.slot).frame in
    subst (λ k. IsTrue (store_in (map g.S.Store.contents c.args.stores.now.items) k).told → (other : ℕ) → other < cells_of c.args.geometry.now → other ≢ c.args.cell → standing c.args.geometry.now c.args.keys.now (held_of (store_in (map g.S.Store.contents (slice_set c.args.stores.now.items c.lane-lane.result c.save.new.store)) k)) other ≡ standing c.args.geometry.now c.args.keys.now (held_of (store_in (map g.S.Store.contents c.args.stores.now.items) k)) other) at
    (both (λ (a b : Contents). IsTrue a.told → (other : ℕ) → other < cells_of c.args.geometry.now → other ≢ c.args.cell → standing c.args.geometry.now c.args.keys.now (held_of b) other ≡ standing c.args.geometry.now c.args.keys.now (held_of a) other) _ _ _ _
    (was_store g.S.Store.contents c.args.stores.now.items c.lane-lane.result _ c.index_mut.ensures.value inside) (is_store g.S.Store.contents c.args.stores.now.items c.lane-lane.result c.save.new.store inside)
    e.others)

pub returns-clause-write_fault : goal.returns-clause-write_fault
returns-clause-write_fault g c =
    let count : c.len.result ≡ length c.args.stores.now.items = grind (arith, common_steps) in
    let at : c.lane-lane.result ≡ lane_of c.args.cell (length (map g.S.Store.contents c.args.stores.now.items)) = c.lane-lane.ensures.lane ∙ ap (lane_of c.args.cell) (count ∙ sym (map_length g.S.Store.contents c.args.stores.now.items)) in
    let inside : c.lane-lane.result < length c.args.stores.now.items = grind (arith, common_steps) in
    let e = c.save.ensures in
    let frame = (slot_in c.args.slots.now c.args.slot).frame in
    subst (λ k. c.save.result ≡ Err saving.WriteFault → Rose (store_in (map g.S.Store.contents c.args.stores.now.items) k).faults (store_in (map g.S.Store.contents (slice_set c.args.stores.now.items c.lane-lane.result c.save.new.store)) k).faults) at
    (both (λ (a b : Contents). c.save.result ≡ Err saving.WriteFault → Rose a.faults b.faults) _ _ _ _
    (was_store g.S.Store.contents c.args.stores.now.items c.lane-lane.result _ c.index_mut.ensures.value inside) (is_store g.S.Store.contents c.args.stores.now.items c.lane-lane.result c.save.new.store inside)
    e.write_fault)

pub returns-clause-called : goal.returns-clause-called
returns-clause-called g c =
    let framed : c.slot.inside.frame.items ≡ (slot_in c.args.slots.now c.args.slot).frame = grind (arith, common_steps) in
    let same : take c.voxels-voxels.result c.deref.result.now ≡ take (voxels_of c.args.geometry.now c.args.cell) (slot_in c.args.slots.now c.args.slot).frame = ap (λ n. take n c.deref.result.now) c.voxels-voxels.ensures.voxels ∙ ap (take (voxels_of c.args.geometry.now c.args.cell)) (c.deref.ensures.value ∙ framed) in
    let count : c.len.result ≡ length c.args.stores.now.items = grind (arith, common_steps) in
    let inside : c.lane-lane.result < length c.args.stores.now.items = grind (arith, common_steps) in
    let at : c.lane-lane.result ≡ lane_of c.args.cell (length (map g.S.Store.contents c.args.stores.now.items)) = c.lane-lane.ensures.lane ∙ ap (lane_of c.args.cell) (count ∙ sym (map_length g.S.Store.contents c.args.stores.now.items)) in
    let values = take (voxels_of c.args.geometry.now c.args.cell) (slot_in c.args.slots.now c.args.slot).frame in
    let put = subst (λ (v : List ℕ). IsPut c.args.geometry.now c.args.cell (g.S.Store.contents c.index_mut.result.now) (g.S.Store.contents c.save.new.store) v c.save.result) same c.save.ensures.put in
    subst (λ k. (answer : Put) × (c.save.result ≡ save_answer answer) × AreCalled (save_call c.args.geometry.now k c.args.cell values answer ∷ []) (map g.S.Store.contents c.args.stores.now.items) (map g.S.Store.contents (slice_set c.args.stores.now.items c.lane-lane.result c.save.new.store))) at
    (subst (λ (l : List Contents). (answer : Put) × (c.save.result ≡ save_answer answer) × AreCalled (save_call c.args.geometry.now c.lane-lane.result c.args.cell values answer ∷ []) (map g.S.Store.contents c.args.stores.now.items) l) (sym (map-set g.S.Store.contents c.args.stores.now.items c.lane-lane.result c.save.new.store))
    (save_called c.args.geometry.now c.args.cell c.lane-lane.result _ _ _ values c.save.result (shown_at g.S.Store.contents c.args.stores.now.items c.lane-lane.result _ c.index_mut.ensures.value inside) put))
