use Rattle.std.proofs.Common.{◌≡◌, ◌≤◌, List, [], length, map, sym, subst}
use Rattle.std.specs.Vec.{vec_capacity}
use Rattle.cell_store.specs.Store.{Contents}
use Rattle.arr_history.specs.Tally.{tally_of}
use Rattle.sole_cache.proofs.Lanes.{map_length}
use Rattle.sole_cache.proofs.Opens.{kept_fresh, is_opened, zero_tally}
use Rattle.sole_cache.proofs.cache.SoleCache.new.Goals as goal

pub invariant_of-result : goal.invariant_of-result
invariant_of-result g c =
    let e = c.in-Ok.ensures in
    let shown : List Contents = map g.S.Store.contents c.args.stores.items in
    let count : length shown ≡ length c.args.stores.items = map_length g.S.Store.contents c.args.stores.items in
    let zeros : c.default.result ≡ tally_of [] [] = zero_tally c.default.result c.default.ensures in
    rw (e.table, e.slots, e.pinned, e.order, e.unsaved) (kept_fresh c.args.geometry c.args.keys shown c.args.slots c.default.result e.pyramid c.requires.made c.requires.some_slots c.requires.few_slots (subst (λ k. 1 ≤ k) (sym count) c.requires.some_stores)
    (subst (λ k. k ≤ 16) (sym count) c.requires.few_stores) zeros c.in-Ok.parts.spare.items c.in-Ok.parts.put.items (vec_capacity c.in-Ok.parts.unsaved) e.spare e.put e.room)

pub returns-in-Ok-clause-opened : goal.returns-in-Ok-clause-opened
returns-in-Ok-clause-opened g c =
    let e = c.in-Ok.ensures in
    let shown : List Contents = map g.S.Store.contents c.args.stores.items in
    let count : length shown ≡ length c.args.stores.items = map_length g.S.Store.contents c.args.stores.items in
    let zeros : c.default.result ≡ tally_of [] [] = zero_tally c.default.result c.default.ensures in
    rw (e.table, e.slots, e.order, e.unsaved) (is_opened c.args.geometry c.args.keys shown c.args.slots c.default.result e.pyramid c.requires.made c.requires.some_slots c.requires.few_slots (subst (λ k. 1 ≤ k) (sym count) c.requires.some_stores)
    (subst (λ k. k ≤ 16) (sym count) c.requires.few_stores) zeros c.plain-plain.ensures.keys)
