use Rattle.std.proofs.Common.{◌≡◌, ◌∙◌, ◌<◌, ◌≤◌, List, Err, OnOk, OnErr, length, map, slice_set, true, false, sym, ap, subst, arith}
use Rattle.std.proofs.lemmas.Grind.{common_steps}
use Rattle.cell_grid.specs.Kind.{greatest_of}
use Rattle.cell_grid.specs.Pyramid.{lane_of, voxels_of, kind_of}
use Rattle.cell_store.specs.Faults.{Rose}
use Rattle.cell_store.specs.Store.{Contents}
use Rattle.cell_file.specs.Keys.{edited_key, base_key}
use Rattle.cell_file.specs.declared.errors.FetchErr.TheVariants as fetching
use Rattle.sole_cache.specs.Cached.{store_in}
use Rattle.sole_cache.specs.Moves.{Fetched}
use Rattle.store_calls.specs.Calls.{StoreCall, AreCalled}
use Rattle.cell_file.specs.Asks.{AreFetch}
use Rattle.sole_cache.proofs.Calls.{shown_at, fetch_called}
use Rattle.sole_cache.proofs.Lanes.{both, map_length, was_store, is_store, one_store, whole, fetched_ok, fetched_err, map_ok}
use Rattle.std.proofs.lemmas.List.{map-set}
use Rattle.sole_cache.proofs.Loads.{taken_at}
use Rattle.sole_cache.proofs.outside.fetch_cell.Goals as goal

pub returns-clause-one : goal.returns-clause-one
returns-clause-one g c =
    let count : c.len.result ≡ length c.args.stores.now.items = grind (arith, common_steps) in
    let at : c.lane-lane.result ≡ lane_of c.args.cell (length (map g.S.Store.contents c.args.stores.now.items)) = c.lane-lane.ensures.lane ∙ ap (lane_of c.args.cell) (count ∙ sym (map_length g.S.Store.contents c.args.stores.now.items)) in
    let inside : c.lane-lane.result < length c.args.stores.now.items = grind (arith, common_steps) in
    subst (λ k. map g.S.Store.contents (slice_set c.args.stores.now.items c.lane-lane.result c.fetch.new.store) ≡ slice_set (map g.S.Store.contents c.args.stores.now.items) k (store_in (map g.S.Store.contents (slice_set c.args.stores.now.items c.lane-lane.result c.fetch.new.store)) k)) at
    (one_store g.S.Store.contents c.args.stores.now.items c.lane-lane.result c.fetch.new.store inside)

pub returns-clause-fetched : goal.returns-clause-fetched
returns-clause-fetched g c =
    let count : c.len.result ≡ length c.args.stores.now.items = grind (arith, common_steps) in
    let at : c.lane-lane.result ≡ lane_of c.args.cell (length (map g.S.Store.contents c.args.stores.now.items)) = c.lane-lane.ensures.lane ∙ ap (lane_of c.args.cell) (count ∙ sym (map_length g.S.Store.contents c.args.stores.now.items)) in
    let inside : c.lane-lane.result < length c.args.stores.now.items = grind (arith, common_steps) in
    let e = c.fetch.ensures in
    subst (λ k. OnOk c.fetch.result (Fetched (edited_key c.args.geometry.now c.args.cell) true (store_in (map g.S.Store.contents c.args.stores.now.items) k) (store_in (map g.S.Store.contents (slice_set c.args.stores.now.items c.lane-lane.result c.fetch.new.store)) k))) at
    (both (λ a b. OnOk c.fetch.result (Fetched (edited_key c.args.geometry.now c.args.cell) true a b)) _ _ _ _
    (was_store g.S.Store.contents c.args.stores.now.items c.lane-lane.result _ c.index_mut.ensures.value inside) (is_store g.S.Store.contents c.args.stores.now.items c.lane-lane.result c.fetch.new.store inside)
    (fetched_ok (edited_key c.args.geometry.now c.args.cell) _ _ e.told e.told_log e.never_falls c.fetch.result (base_key c.args.geometry.now c.args.keys.now c.args.cell) e.held e.logged))

pub returns-clause-not_fetched : goal.returns-clause-not_fetched
returns-clause-not_fetched g c =
    let count : c.len.result ≡ length c.args.stores.now.items = grind (arith, common_steps) in
    let at : c.lane-lane.result ≡ lane_of c.args.cell (length (map g.S.Store.contents c.args.stores.now.items)) = c.lane-lane.ensures.lane ∙ ap (lane_of c.args.cell) (count ∙ sym (map_length g.S.Store.contents c.args.stores.now.items)) in
    let inside : c.lane-lane.result < length c.args.stores.now.items = grind (arith, common_steps) in
    let e = c.fetch.ensures in
    subst (λ k. OnErr c.fetch.result (Fetched (edited_key c.args.geometry.now c.args.cell) false (store_in (map g.S.Store.contents c.args.stores.now.items) k) (store_in (map g.S.Store.contents (slice_set c.args.stores.now.items c.lane-lane.result c.fetch.new.store)) k))) at
    (both (λ a b. OnErr c.fetch.result (Fetched (edited_key c.args.geometry.now c.args.cell) false a b)) _ _ _ _
    (was_store g.S.Store.contents c.args.stores.now.items c.lane-lane.result _ c.index_mut.ensures.value inside) (is_store g.S.Store.contents c.args.stores.now.items c.lane-lane.result c.fetch.new.store inside)
    (fetched_err (edited_key c.args.geometry.now c.args.cell) _ _ e.told e.told_log e.never_falls c.fetch.result (base_key c.args.geometry.now c.args.keys.now c.args.cell) e.held e.logged_refused))

pub returns-clause-read_fault : goal.returns-clause-read_fault
returns-clause-read_fault g c =
    let count : c.len.result ≡ length c.args.stores.now.items = grind (arith, common_steps) in
    let at : c.lane-lane.result ≡ lane_of c.args.cell (length (map g.S.Store.contents c.args.stores.now.items)) = c.lane-lane.ensures.lane ∙ ap (lane_of c.args.cell) (count ∙ sym (map_length g.S.Store.contents c.args.stores.now.items)) in
    let inside : c.lane-lane.result < length c.args.stores.now.items = grind (arith, common_steps) in
    subst (λ k. c.fetch.result ≡ Err fetching.ReadFault → Rose (store_in (map g.S.Store.contents c.args.stores.now.items) k).faults (store_in (map g.S.Store.contents (slice_set c.args.stores.now.items c.lane-lane.result c.fetch.new.store)) k).faults) at
    (both (λ (a b : Contents). c.fetch.result ≡ Err fetching.ReadFault → Rose a.faults b.faults) _ _ _ _
    (was_store g.S.Store.contents c.args.stores.now.items c.lane-lane.result _ c.index_mut.ensures.value inside) (is_store g.S.Store.contents c.args.stores.now.items c.lane-lane.result c.fetch.new.store inside)
    c.fetch.ensures.read_fault)

pub returns-clause-fits : goal.returns-clause-fits
returns-clause-fits g c =
    let n = voxels_of c.args.geometry.now c.args.cell in
    let size : length c.fetch.new.out ≡ c.args.frame.now.len = grind (arith, common_steps) in
    rw (whole c.args.frame.now.len c.fetch.new.out _ size)
    (map_ok c.fetch.result _ _ (λ fits i lt. subst (λ x. x ≤ greatest_of (kind_of c.args.geometry.now c.args.cell)) (taken_at n c.fetch.new.out i lt) (fits i)) c.fetch.ensures.fits)

pub returns-clause-called : goal.returns-clause-called
returns-clause-called g c =
    let count : c.len.result ≡ length c.args.stores.now.items = grind (arith, common_steps) in
    let inside : c.lane-lane.result < length c.args.stores.now.items = grind (arith, common_steps) in
    let at : c.lane-lane.result ≡ lane_of c.args.cell (length (map g.S.Store.contents c.args.stores.now.items)) = c.lane-lane.ensures.lane ∙ ap (lane_of c.args.cell) (count ∙ sym (map_length g.S.Store.contents c.args.stores.now.items)) in
    subst (λ k. (calls : List StoreCall) × AreFetch c.args.geometry.now c.args.keys.now k c.args.cell c.fetch.result calls × AreCalled calls (map g.S.Store.contents c.args.stores.now.items) (map g.S.Store.contents (slice_set c.args.stores.now.items c.lane-lane.result c.fetch.new.store))) at
    (subst (λ (l : List Contents). (calls : List StoreCall) × AreFetch c.args.geometry.now c.args.keys.now c.lane-lane.result c.args.cell c.fetch.result calls × AreCalled calls (map g.S.Store.contents c.args.stores.now.items) l) (sym (map-set g.S.Store.contents c.args.stores.now.items c.lane-lane.result c.fetch.new.store))
    (fetch_called c.args.geometry.now c.args.keys.now c.args.cell c.lane-lane.result _ _ _ c.fetch.result _ (shown_at g.S.Store.contents c.args.stores.now.items c.lane-lane.result _ c.index_mut.ensures.value inside) c.fetch.ensures.asked))
