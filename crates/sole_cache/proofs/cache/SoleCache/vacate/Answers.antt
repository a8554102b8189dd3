use Rattle.std.proofs.Common.{◌≡◌, ◌<◌, IsTrue, Some, None, take, slice_set, sym, subst, refl, map}
use Rattle.std.specs.Vec.{vec_capacity}
use Rattle.sole_cache.specs.Slot.{emptied}
use Rattle.sole_cache.specs.Cached.{Cached, slot_of, slot_at, store_of}
use Rattle.sole_cache.specs.Value.{vacated}
use Rattle.cell_grid.specs.Pyramid.{cells_of, voxels_of}
use Rattle.sole_cache.specs.Cached.{stands}
use Rattle.sole_cache.proofs.Leaves.{MayLeave, cache_gone}
use Rattle.sole_cache.proofs.Still.{same_stores}
use Rattle.sole_cache.proofs.Kept.{kept_emptied}
use Rattle.sole_cache.proofs.Inside.{value_of}
use Rattle.sole_cache.proofs.cache.SoleCache.vacate.Goals as goal

pub invariant_of-self : goal.invariant_of-self
invariant_of-self g c =
    let cached = value_of g.S.Store.contents c.self.inside in
    let is : cached ≡ c.args.self.now = c.self.view_is in
    let kept = c.self.invariant in
    let live : slot_of cached c.args.cell ≡ Some c.args.slot = subst (λ (x : Cached). slot_of x c.args.cell ≡ Some c.args.slot) (sym is) c.requires.live in
    let owned = kept.cache.seated.in_slot c.args.cell c.args.slot live in
    let unpinned : (slot_at cached c.args.slot).pins ≡ 0 = subst (λ (x : Cached). (slot_at x c.args.slot).pins ≡ 0) (sym is) c.requires.unpinned in
    let stood = subst (λ (x : Cached). IsTrue (store_of x c.args.cell).told → stands x c.args.cell ≡ Some (take (voxels_of x.levels c.args.cell) (slot_at x c.args.slot).frame)) (sym is) c.requires.stood in
    let may : MayLeave cached c.args.cell c.args.slot cached.shown c.leave.new.self = record { live = live; unpinned = unpinned; ordered = c.leave.ensures.left; listed = c.leave.ensures.listed; same = same_stores cached c.args.cell; saved = stood } in
    let done : c.empty_slot.new.slots.items ≡ slice_set c.self.inside.slots.items c.args.slot (emptied (slot_at cached c.args.slot)) = c.empty_slot.ensures in
    rw (done, c.min-self-inside.ensures) (kept_emptied cached c.self.inside.pinned.items c.self.inside.free_from c.self.inside.spare.items c.self.inside.put.items (vec_capacity c.self.inside.unsaved) kept c.args.slot (slice_set c.self.inside.table.items c.args.cell None) cached.shown c.leave.new.self cached.tally c.self.inside.put.items owned.0 unpinned refl
    (cache_gone cached c.args.cell c.args.slot cached.shown c.leave.new.self cached.tally kept.cache.counted kept.cache may))

pub returns-clause-left : goal.returns-clause-left
returns-clause-left g c =
    let cached = value_of g.S.Store.contents c.self.inside in
    let is : cached ≡ c.args.self.now = c.self.view_is in
    let done : c.empty_slot.new.slots.items ≡ slice_set c.self.inside.slots.items c.args.slot (emptied (slot_at cached c.args.slot)) = c.empty_slot.ensures in
    subst (λ (x : Cached). record { levels = c.self.inside.geometry; keys = c.self.inside.keys; shown = map g.S.Store.contents c.self.inside.stores.items; table = (slice_set c.self.inside.table.items c.args.cell None); slots = c.empty_slot.new.slots.items; order = c.leave.new.self; tally = c.self.inside.tally; unsaved = c.self.inside.unsaved.items } ≡ vacated x c.args.cell c.args.slot) is
    (rw (done, c.leave.ensures.left) refl)

pub returns-clause-valid : goal.returns-clause-valid
returns-clause-valid g c =
    let cached = value_of g.S.Store.contents c.self.inside in
    let is : cached ≡ c.args.self.now = c.self.view_is in
    let kept = c.self.invariant in
    let live : slot_of cached c.args.cell ≡ Some c.args.slot = subst (λ (x : Cached). slot_of x c.args.cell ≡ Some c.args.slot) (sym is) c.requires.live in
    let unpinned : (slot_at cached c.args.slot).pins ≡ 0 = subst (λ (x : Cached). (slot_at x c.args.slot).pins ≡ 0) (sym is) c.requires.unpinned in
    let stood = subst (λ (x : Cached). IsTrue (store_of x c.args.cell).told → stands x c.args.cell ≡ Some (take (voxels_of x.levels c.args.cell) (slot_at x c.args.slot).frame)) (sym is) c.requires.stood in
    let may : MayLeave cached c.args.cell c.args.slot cached.shown c.leave.new.self = record { live = live; unpinned = unpinned; ordered = c.leave.ensures.left; listed = c.leave.ensures.listed; same = same_stores cached c.args.cell; saved = stood } in
    let done : c.empty_slot.new.slots.items ≡ slice_set c.self.inside.slots.items c.args.slot (emptied (slot_at cached c.args.slot)) = c.empty_slot.ensures in
    rw done (cache_gone cached c.args.cell c.args.slot cached.shown c.leave.new.self cached.tally kept.cache.counted kept.cache may)
