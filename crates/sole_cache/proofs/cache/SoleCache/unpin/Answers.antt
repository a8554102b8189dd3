use Rattle.std.proofs.Common.{◌≡◌, ◌≢◌, ◌∙◌, ◌-◌, ◌<◌, [], ◌∷◌, Some, None, nat_lt, slice_set, sym, ap, subst, refl, arith, map}
use Rattle.std.proofs.lemmas.Grind.{common_steps}
use Rattle.std.specs.Vec.{vec_capacity}
use Rattle.arr_history.specs.declared.event.Event.TheVariants as happening
use Rattle.sole_cache.specs.Slot.{slot_with_pins}
use Rattle.sole_cache.specs.Cached.{Cached, slot_of, slot_at}
use Rattle.sole_cache.specs.Cached.{Cached}
use Rattle.sole_cache.specs.Moves.{Runs}
use Rattle.sole_cache.proofs.Steps.{none_some, cache_kept}
use Rattle.sole_cache.proofs.Still.{may_pin, moves_unpin, uncounted_unpin}
use Rattle.sole_cache.proofs.Kept.{kept_set, one_more_than}
use Rattle.arr_history.proofs.Counts.{raised_none}
use Rattle.sole_cache.proofs.Inside.{value_of}
use Rattle.sole_cache.proofs.cache.SoleCache.unpin.Goals as goal

pub invariant_of-self : goal.invariant_of-self
invariant_of-self g c =
    let cached = value_of g.S.Store.contents c.self.inside in
    let is : cached ≡ c.args.self.now = c.self.view_is in
    let kept = c.self.invariant in
    let live : slot_of cached c.args.cell ≡ Some c.args.slot = subst (λ (x : Cached). slot_of x c.args.cell ≡ Some c.args.slot) (sym is) c.requires.live in
    let owned = kept.cache.seated.in_slot c.args.cell c.args.slot live in
    let pins : c.pins_of-pins.result ≡ (slot_at cached c.args.slot).pins = grind (arith, common_steps) in
    let some_pins : 0 < (slot_at cached c.args.slot).pins = subst (λ (x : Cached). 0 < (slot_at x c.args.slot).pins) (sym is) c.requires.pinned in
    let t = slot_with_pins (slot_at cached c.args.slot) ((slot_at cached c.args.slot).pins - 1) in
    let done : c.set_pins.new.slots.items ≡ slice_set c.self.inside.slots.items c.args.slot t = c.set_pins.ensures ∙ ap (λ p. slice_set c.self.inside.slots.items c.args.slot (slot_with_pins (slot_at cached c.args.slot) (p - 1))) pins in
    let may = may_pin cached c.args.cell c.args.slot ((slot_at cached c.args.slot).pins - 1) cached.order kept.cache live refl (λ _. refl) in
    let some : t.cell ≢ None = λ e. absurd (none_some c.args.cell (sym e ∙ owned.1)) in
    let more : nat_lt 1 c.pins_of-pins.result ≡ nat_lt 0 t.pins = ap (nat_lt 1) pins ∙ one_more_than (slot_at cached c.args.slot).pins in
    rw done (kept_set cached c.self.inside.pinned.items c.self.inside.free_from c.self.inside.spare.items c.self.inside.put.items (vec_capacity c.self.inside.unsaved) kept c.args.slot t _ c.self.inside.table.items cached.shown cached.order cached.tally c.self.inside.spare.items owned.0 some more refl
    (cache_kept cached c.args.cell c.args.slot t cached.shown cached.order cached.tally kept.cache.counted kept.cache may))

pub returns-clause-runs : goal.returns-clause-runs
returns-clause-runs g c =
    let cached = value_of g.S.Store.contents c.self.inside in
    let is : cached ≡ c.args.self.now = c.self.view_is in
    let kept = c.self.invariant in
    let live : slot_of cached c.args.cell ≡ Some c.args.slot = subst (λ (x : Cached). slot_of x c.args.cell ≡ Some c.args.slot) (sym is) c.requires.live in
    let owned = kept.cache.seated.in_slot c.args.cell c.args.slot live in
    let pins : c.pins_of-pins.result ≡ (slot_at cached c.args.slot).pins = grind (arith, common_steps) in
    let some_pins : 0 < (slot_at cached c.args.slot).pins = subst (λ (x : Cached). 0 < (slot_at x c.args.slot).pins) (sym is) c.requires.pinned in
    let t = slot_with_pins (slot_at cached c.args.slot) ((slot_at cached c.args.slot).pins - 1) in
    let done : c.set_pins.new.slots.items ≡ slice_set c.self.inside.slots.items c.args.slot t = c.set_pins.ensures ∙ ap (λ p. slice_set c.self.inside.slots.items c.args.slot (slot_with_pins (slot_at cached c.args.slot) (p - 1))) pins in
    let may = may_pin cached c.args.cell c.args.slot ((slot_at cached c.args.slot).pins - 1) cached.order kept.cache live refl (λ _. refl) in
    subst (λ (x : Cached). Runs x (happening.Unpin 0 c.args.cell ∷ []) (record { levels = c.self.inside.geometry; keys = c.self.inside.keys; shown = map g.S.Store.contents c.self.inside.stores.items; table = c.self.inside.table.items; slots = c.set_pins.new.slots.items; order = c.self.inside.recency; tally = c.self.inside.tally; unsaved = c.self.inside.unsaved.items })) is
    (rw done (record {
      moves = moves_unpin cached c.args.cell c.args.slot cached.tally kept.cache.counted kept.cache live some_pins;
      tally = sym (raised_none cached.tally (happening.Unpin 0 c.args.cell ∷ []) kept.cache.counted (uncounted_unpin c.args.cell));
    }))

pub returns-clause-valid : goal.returns-clause-valid
returns-clause-valid g c =
    let cached = value_of g.S.Store.contents c.self.inside in
    let is : cached ≡ c.args.self.now = c.self.view_is in
    let kept = c.self.invariant in
    let live : slot_of cached c.args.cell ≡ Some c.args.slot = subst (λ (x : Cached). slot_of x c.args.cell ≡ Some c.args.slot) (sym is) c.requires.live in
    let owned = kept.cache.seated.in_slot c.args.cell c.args.slot live in
    let pins : c.pins_of-pins.result ≡ (slot_at cached c.args.slot).pins = grind (arith, common_steps) in
    let some_pins : 0 < (slot_at cached c.args.slot).pins = subst (λ (x : Cached). 0 < (slot_at x c.args.slot).pins) (sym is) c.requires.pinned in
    let t = slot_with_pins (slot_at cached c.args.slot) ((slot_at cached c.args.slot).pins - 1) in
    let done : c.set_pins.new.slots.items ≡ slice_set c.self.inside.slots.items c.args.slot t = c.set_pins.ensures ∙ ap (λ p. slice_set c.self.inside.slots.items c.args.slot (slot_with_pins (slot_at cached c.args.slot) (p - 1))) pins in
    let may = may_pin cached c.args.cell c.args.slot ((slot_at cached c.args.slot).pins - 1) cached.order kept.cache live refl (λ _. refl) in
    rw done (cache_kept cached c.args.cell c.args.slot t cached.shown cached.order cached.tally kept.cache.counted kept.cache may)
