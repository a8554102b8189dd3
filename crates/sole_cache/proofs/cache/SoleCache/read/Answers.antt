use Rattle.std.proofs.Common.{◌≡◌, ◌<◌, length, sym, subst, arith}
use Rattle.sole_cache.specs.Cached.{Cached, slot_at}
use Rattle.sole_cache.specs.Cached.{Cached}
use Rattle.cell_grid.specs.Pyramid.{cells_of, voxels_of}
use Rattle.cell_grid.proofs.FrameLemmas.{frame_bounds}
use Rattle.sole_cache.specs.Slot.{slot_in}
use Rattle.sole_cache.specs.Handle.{Handle, IsHandleOf}
use Rattle.sole_cache.proofs.Still.{in_range}
use Rattle.sole_cache.proofs.Inside.{value_of}
use Rattle.sole_cache.proofs.cache.SoleCache.read.Goals as goal

pub value_of-requires-clause-at : goal.value_of-requires-clause-at
value_of-requires-clause-at g c =
    let cached = value_of g.S.Store.contents c.self.inside in
    let is : cached ≡ c.args.self.now = c.self.view_is in
    let kept = c.self.invariant in
    let h : Handle = c.args.h.now in
    let ish : IsHandleOf cached h = subst (λ (x : Cached). IsHandleOf x h) (sym is) c.requires.handle in
    let owned = kept.cache.seated.in_slot h.cell h.slot ish.live in
    let at : c.args.at < voxels_of cached.levels h.cell = subst (λ (x : Cached). c.args.at < voxels_of x.levels h.cell) (sym is) c.requires.at in
    let range : h.cell < cells_of cached.levels = in_range cached h.cell h.slot kept.cache ish.live in
    let fit : c.args.at < length (slot_at cached h.slot).frame = let bound = frame_bounds cached.levels h.cell range in let size = kept.cache.framed.frames h.slot owned.0 in omega (arith, at, bound, size) in
    subst (λ l. c.args.at < length (slot_in l c.slot.result).frame) (sym c.as_slice.ensures.value) (subst (λ i. c.args.at < length (slot_in cached.slots i).frame) (sym c.slot.ensures) fit)
