use Rattle.std.proofs.Common.{◌≡◌, ◌<◌, ◌≤◌, ◌^◌, ℕ, List, length, sym, subst, arith}
use Rattle.cell_grid.specs.Pyramid.{cells_of, voxels_of}
use Rattle.cell_grid.proofs.FrameLemmas.{frame_bounds, frame_small}
use Rattle.sole_cache.specs.Cached.{Cached, slot_at}
use Rattle.sole_cache.specs.Slot.{slot_in}
use Rattle.sole_cache.specs.Handle.{Handle, IsHandleOf}
use Rattle.sole_cache.proofs.Still.{in_range}
use Rattle.sole_cache.proofs.Inside.{value_of}
use Rattle.sole_cache.proofs.cache.SoleCache.frame.Goals as goal

pub returns-clause-whole : goal.returns-clause-whole
returns-clause-whole g c =
    let cached = value_of g.S.Store.contents c.self.inside in
    let is : cached ≡ c.args.self.now = c.self.view_is in
    let kept = c.self.invariant in
    let h : Handle = c.args.h.now in
    let ish : IsHandleOf cached h = subst (λ (x : Cached). IsHandleOf x h) (sym is) c.requires.handle in
    let owned = kept.cache.seated.in_slot h.cell h.slot ish.live in
    let range : h.cell < cells_of cached.levels = in_range cached h.cell h.slot kept.cache ish.live in
    let long : voxels_of cached.levels h.cell ≤ length (slot_at cached h.slot).frame = omega (arith, frame_bounds cached.levels h.cell range, kept.cache.framed.frames h.slot owned.0) in
    subst (λ (x : Cached). voxels_of x.levels h.cell ≤ length c.frame_of.result.now) is
    (subst (λ (f : List ℕ). voxels_of cached.levels h.cell ≤ length f) (sym c.frame_of.ensures)
    (subst (λ l. voxels_of cached.levels h.cell ≤ length (slot_in l c.slot.result).frame) (sym c.as_slice.ensures.value)
    (subst (λ i. voxels_of cached.levels h.cell ≤ length (slot_in cached.slots i).frame) (sym c.slot.ensures) long)))

pub returns-clause-small : goal.returns-clause-small
returns-clause-small g c =
    let cached = value_of g.S.Store.contents c.self.inside in
    let kept = c.self.invariant in
    let h : Handle = c.args.h.now in
    let ish : IsHandleOf cached h = subst (λ (x : Cached). IsHandleOf x h) (sym c.self.view_is) c.requires.handle in
    let owned = kept.cache.seated.in_slot h.cell h.slot ish.live in
    let short : length (slot_at cached h.slot).frame ≤ 2 ^ 32 = omega (arith, frame_small cached.levels kept.cache.fitted.pyramid, kept.cache.framed.frames h.slot owned.0) in
    subst (λ (f : List ℕ). length f ≤ 2 ^ 32) (sym c.frame_of.ensures)
    (subst (λ l. length (slot_in l c.slot.result).frame ≤ 2 ^ 32) (sym c.as_slice.ensures.value) (subst (λ i. length (slot_in cached.slots i).frame ≤ 2 ^ 32) (sym c.slot.ensures) short))
