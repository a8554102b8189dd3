use Rattle.std.proofs.Common.{◌≡◌, ◌∙◌, ◌<◌, ◌≤◌, [], ◌∷◌, length, slice_set, sym, ap, subst, refl, arith, map}
use Rattle.std.specs.Vec.{vec_capacity}
use Rattle.arr_history.specs.declared.event.Event.TheVariants as happening
use Rattle.sole_cache.specs.Slot.{slot_with_value}
use Rattle.sole_cache.specs.Cached.{Cached, slot_at}
use Rattle.sole_cache.specs.Cached.{Cached}
use Rattle.sole_cache.specs.Moves.{Runs}
use Rattle.cell_grid.specs.Pyramid.{cells_of, voxels_of, kind_of}
use Rattle.cell_grid.specs.Kind.{greatest_of}
use Rattle.cell_grid.proofs.FrameLemmas.{frame_bounds}
use Rattle.arr_history.proofs.Counts.{raised_none}
use Rattle.sole_cache.specs.Slot.{slot_in}
use Rattle.sole_cache.specs.Handle.{Handle, IsHandleOf}
use Rattle.sole_cache.proofs.Still.{in_range}
use Rattle.sole_cache.proofs.Steps.{cache_kept}
use Rattle.sole_cache.proofs.Still.{may_write, moves_write, uncounted_write}
use Rattle.sole_cache.proofs.Kept.{kept_value}
use Rattle.sole_cache.proofs.Stood.{stood}
use Rattle.sole_cache.proofs.Inside.{value_of}
use Rattle.sole_cache.proofs.cache.SoleCache.write.Goals as goal

pub set_value-requires-clause-at : goal.set_value-requires-clause-at
set_value-requires-clause-at g c =
    let cached = value_of g.S.Store.contents c.self.inside in
    let is : cached ≡ c.args.self.now = c.self.view_is in
    let kept = c.self.invariant in
    let h : Handle = c.args.h.now in
    let ish : IsHandleOf cached h = subst (λ (x : Cached). IsHandleOf x h) (sym is) c.requires.handle in
    let owned = kept.cache.seated.in_slot h.cell h.slot ish.live in
    let at : c.args.at < voxels_of cached.levels h.cell = subst (λ (x : Cached). c.args.at < voxels_of x.levels h.cell) (sym is) c.requires.at in
    let range : h.cell < cells_of cached.levels = in_range cached h.cell h.slot kept.cache ish.live in
    let fit : c.args.at < length (slot_at cached h.slot).frame = let bound = frame_bounds cached.levels h.cell range in let size = kept.cache.framed.frames h.slot owned.0 in omega (arith, at, bound, size) in
    subst (λ i. c.args.at < length (slot_in cached.slots i).frame) (sym c.slot.ensures) fit

pub invariant_of-self : goal.invariant_of-self
invariant_of-self g c =
    let cached = value_of g.S.Store.contents c.self.inside in
    let is : cached ≡ c.args.self.now = c.self.view_is in
    let kept = c.self.invariant in
    let h : Handle = c.args.h.now in
    let ish : IsHandleOf cached h = subst (λ (x : Cached). IsHandleOf x h) (sym is) c.requires.handle in
    let owned = kept.cache.seated.in_slot h.cell h.slot ish.live in
    let at : c.args.at < voxels_of cached.levels h.cell = subst (λ (x : Cached). c.args.at < voxels_of x.levels h.cell) (sym is) c.requires.at in
    let range : h.cell < cells_of cached.levels = in_range cached h.cell h.slot kept.cache ish.live in
    let fit : c.args.at < length (slot_at cached h.slot).frame = let bound = frame_bounds cached.levels h.cell range in let size = kept.cache.framed.frames h.slot owned.0 in omega (arith, at, bound, size) in
    let value : c.args.value ≤ greatest_of (kind_of cached.levels h.cell) = subst (λ (x : Cached). c.args.value ≤ greatest_of (kind_of x.levels h.cell)) (sym is) c.requires.value in
    let t = slot_with_value (slot_at cached h.slot) c.args.at c.args.value in
    let done : c.set_value.new.slots.items ≡ slice_set c.self.inside.slots.items h.slot t = c.set_value.ensures ∙ ap (λ i. slice_set c.self.inside.slots.items i (slot_with_value (slot_at cached i) c.args.at c.args.value)) c.slot.ensures in
    let may = may_write cached h.cell h.slot c.args.at c.args.value kept.cache ish.live fit value in
    rw done (kept_value cached c.self.inside.pinned.items c.self.inside.free_from c.self.inside.spare.items c.self.inside.put.items (vec_capacity c.self.inside.unsaved) kept h.slot t cached.shown cached.order cached.tally owned.0 refl refl
    (cache_kept cached h.cell h.slot t cached.shown cached.order cached.tally kept.cache.counted kept.cache may))

pub returns-clause-runs : goal.returns-clause-runs
returns-clause-runs g c =
    let cached = value_of g.S.Store.contents c.self.inside in
    let is : cached ≡ c.args.self.now = c.self.view_is in
    let kept = c.self.invariant in
    let h : Handle = c.args.h.now in
    let ish : IsHandleOf cached h = subst (λ (x : Cached). IsHandleOf x h) (sym is) c.requires.handle in
    let owned = kept.cache.seated.in_slot h.cell h.slot ish.live in
    let at : c.args.at < voxels_of cached.levels h.cell = subst (λ (x : Cached). c.args.at < voxels_of x.levels h.cell) (sym is) c.requires.at in
    let range : h.cell < cells_of cached.levels = in_range cached h.cell h.slot kept.cache ish.live in
    let fit : c.args.at < length (slot_at cached h.slot).frame = let bound = frame_bounds cached.levels h.cell range in let size = kept.cache.framed.frames h.slot owned.0 in omega (arith, at, bound, size) in
    let value : c.args.value ≤ greatest_of (kind_of cached.levels h.cell) = subst (λ (x : Cached). c.args.value ≤ greatest_of (kind_of x.levels h.cell)) (sym is) c.requires.value in
    let t = slot_with_value (slot_at cached h.slot) c.args.at c.args.value in
    let done : c.set_value.new.slots.items ≡ slice_set c.self.inside.slots.items h.slot t = c.set_value.ensures ∙ ap (λ i. slice_set c.self.inside.slots.items i (slot_with_value (slot_at cached i) c.args.at c.args.value)) c.slot.ensures in
    let may = may_write cached h.cell h.slot c.args.at c.args.value kept.cache ish.live fit value in
    subst (λ (x : Cached). Runs x (happening.Mark 0 h.cell ∷ happening.Write 0 h.cell c.args.at c.args.value ∷ []) (record { levels = c.self.inside.geometry; keys = c.self.inside.keys; shown = map g.S.Store.contents c.self.inside.stores.items; table = c.self.inside.table.items; slots = c.set_value.new.slots.items; order = c.self.inside.recency; tally = c.self.inside.tally; unsaved = c.self.inside.unsaved.items })) is
    (rw done (record {
      moves = moves_write cached h.cell h.slot c.args.at c.args.value cached.tally kept.cache.counted kept.cache ish.live ish.pinned at fit value;
      tally = sym (raised_none cached.tally (happening.Mark 0 h.cell ∷ happening.Write 0 h.cell c.args.at c.args.value ∷ []) kept.cache.counted (uncounted_write h.cell c.args.at c.args.value));
    }))

pub returns-clause-stood : goal.returns-clause-stood
returns-clause-stood g c =
    let cached = value_of g.S.Store.contents c.self.inside in
    let is : cached ≡ c.args.self.now = c.self.view_is in
    let kept = c.self.invariant in
    let h : Handle = c.args.h.now in
    let ish : IsHandleOf cached h = subst (λ (x : Cached). IsHandleOf x h) (sym is) c.requires.handle in
    let owned = kept.cache.seated.in_slot h.cell h.slot ish.live in
    let at : c.args.at < voxels_of cached.levels h.cell = subst (λ (x : Cached). c.args.at < voxels_of x.levels h.cell) (sym is) c.requires.at in
    let range : h.cell < cells_of cached.levels = in_range cached h.cell h.slot kept.cache ish.live in
    let fit : c.args.at < length (slot_at cached h.slot).frame = let bound = frame_bounds cached.levels h.cell range in let size = kept.cache.framed.frames h.slot owned.0 in omega (arith, at, bound, size) in
    let value : c.args.value ≤ greatest_of (kind_of cached.levels h.cell) = subst (λ (x : Cached). c.args.value ≤ greatest_of (kind_of x.levels h.cell)) (sym is) c.requires.value in
    let t = slot_with_value (slot_at cached h.slot) c.args.at c.args.value in
    let done : c.set_value.new.slots.items ≡ slice_set c.self.inside.slots.items h.slot t = c.set_value.ensures ∙ ap (λ i. slice_set c.self.inside.slots.items i (slot_with_value (slot_at cached i) c.args.at c.args.value)) c.slot.ensures in
    let may = may_write cached h.cell h.slot c.args.at c.args.value kept.cache ish.live fit value in
    stood (record { levels = c.self.inside.geometry; keys = c.self.inside.keys; shown = map g.S.Store.contents c.self.inside.stores.items; table = c.self.inside.table.items; slots = c.set_value.new.slots.items; order = c.self.inside.recency; tally = c.self.inside.tally; unsaved = c.self.inside.unsaved.items }) (rw done (cache_kept cached h.cell h.slot t cached.shown cached.order cached.tally kept.cache.counted kept.cache may))
