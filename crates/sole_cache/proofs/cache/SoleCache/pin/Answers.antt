use Rattle.std.proofs.Common.{◌≡◌, ◌≢◌, ◌∙◌, ◌+◌, ◌<◌, true, [], ◌∷◌, Some, None, length, nat_lt, slice_set, sym, ap, subst, refl, arith, map}
use Rattle.std.proofs.lemmas.Grind.{common_steps}
use Rattle.std.specs.Vec.{vec_capacity}
use Rattle.recency.specs.Order.{Order}
use Rattle.arr_history.specs.Tally.{IsTally}
use Rattle.arr_history.specs.declared.event.Event.TheVariants as happening
use Rattle.arr_history.proofs.Counts.{raised_fits}
use Rattle.sole_cache.specs.Slot.{slot_with_pins}
use Rattle.sole_cache.specs.Cached.{Cached, slot_of, slot_at}
use Rattle.sole_cache.specs.Cached.{Cached}
use Rattle.sole_cache.specs.Moves.{Runs}
use Rattle.sole_cache.proofs.Steps.{none_some, touched_slots, cache_kept}
use Rattle.sole_cache.proofs.Still.{may_pin, moves_pin}
use Rattle.sole_cache.proofs.Kept.{kept_set, some_now}
use Rattle.sole_cache.proofs.Inside.{value_of}
use Rattle.sole_cache.proofs.cache.SoleCache.pin.Goals as goal

pub pins_of-pins-requires : goal.pins_of-pins-requires
pins_of-pins-requires g c =
    let cached = value_of g.S.Store.contents c.self.inside in
    let is : cached ≡ c.args.self.now = c.self.view_is in
    let kept = c.self.invariant in
    let live : slot_of cached c.args.cell ≡ Some c.args.slot = subst (λ (x : Cached). slot_of x c.args.cell ≡ Some c.args.slot) (sym is) c.requires.live in
    let owned = kept.cache.seated.in_slot c.args.cell c.args.slot live in
    let inside_slots : c.args.slot < length c.self.inside.slots.items = owned.0 in
    grind (arith, common_steps)

pub invariant_of-self : goal.invariant_of-self
invariant_of-self g c =
    let cached = value_of g.S.Store.contents c.self.inside in
    let is : cached ≡ c.args.self.now = c.self.view_is in
    let kept = c.self.invariant in
    let live : slot_of cached c.args.cell ≡ Some c.args.slot = subst (λ (x : Cached). slot_of x c.args.cell ≡ Some c.args.slot) (sym is) c.requires.live in
    let owned = kept.cache.seated.in_slot c.args.cell c.args.slot live in
    let pins : c.pins_of-pins.result ≡ (slot_at cached c.args.slot).pins = grind (arith, common_steps) in
    let t = slot_with_pins (slot_at cached c.args.slot) ((slot_at cached c.args.slot).pins + 1) in
    let done : c.set_pins.new.slots.items ≡ slice_set c.self.inside.slots.items c.args.slot t = c.set_pins.ensures ∙ ap (λ p. slice_set c.self.inside.slots.items c.args.slot (slot_with_pins (slot_at cached c.args.slot) (p + 1))) pins in
    let fits : IsTally c.with_event-self-inside.result = subst IsTally (sym c.with_event-self-inside.ensures) (raised_fits c.self.inside.tally (happening.Pin 0 c.args.cell ∷ []) []) in
    let ordered = ap (λ (o : Order). o.slots) c.touch.ensures.touched ∙ touched_slots c.self.inside.recency c.args.slot in
    let may = may_pin cached c.args.cell c.args.slot ((slot_at cached c.args.slot).pins + 1) c.touch.new.self kept.cache live ordered c.touch.ensures.listed in
    let some : t.cell ≢ None = λ e. absurd (none_some c.args.cell (sym e ∙ owned.1)) in
    let flag : true ≡ nat_lt 0 t.pins = some_now (slot_at cached c.args.slot).pins in
    rw done (kept_set cached c.self.inside.pinned.items c.self.inside.free_from c.self.inside.spare.items c.self.inside.put.items (vec_capacity c.self.inside.unsaved) kept c.args.slot t true c.self.inside.table.items cached.shown c.touch.new.self c.with_event-self-inside.result c.self.inside.spare.items owned.0 some flag refl
    (cache_kept cached c.args.cell c.args.slot t cached.shown c.touch.new.self c.with_event-self-inside.result fits kept.cache may))

pub returns-clause-runs : goal.returns-clause-runs
returns-clause-runs g c =
    let cached = value_of g.S.Store.contents c.self.inside in
    let is : cached ≡ c.args.self.now = c.self.view_is in
    let kept = c.self.invariant in
    let live : slot_of cached c.args.cell ≡ Some c.args.slot = subst (λ (x : Cached). slot_of x c.args.cell ≡ Some c.args.slot) (sym is) c.requires.live in
    let owned = kept.cache.seated.in_slot c.args.cell c.args.slot live in
    let pins : c.pins_of-pins.result ≡ (slot_at cached c.args.slot).pins = grind (arith, common_steps) in
    let t = slot_with_pins (slot_at cached c.args.slot) ((slot_at cached c.args.slot).pins + 1) in
    let done : c.set_pins.new.slots.items ≡ slice_set c.self.inside.slots.items c.args.slot t = c.set_pins.ensures ∙ ap (λ p. slice_set c.self.inside.slots.items c.args.slot (slot_with_pins (slot_at cached c.args.slot) (p + 1))) pins in
    let fits : IsTally c.with_event-self-inside.result = subst IsTally (sym c.with_event-self-inside.ensures) (raised_fits c.self.inside.tally (happening.Pin 0 c.args.cell ∷ []) []) in
    let ordered = ap (λ (o : Order). o.slots) c.touch.ensures.touched ∙ touched_slots c.self.inside.recency c.args.slot in
    let may = may_pin cached c.args.cell c.args.slot ((slot_at cached c.args.slot).pins + 1) c.touch.new.self kept.cache live ordered c.touch.ensures.listed in
    subst (λ (x : Cached). Runs x (happening.Pin 0 c.args.cell ∷ []) (record { levels = c.self.inside.geometry; keys = c.self.inside.keys; shown = map g.S.Store.contents c.self.inside.stores.items; table = c.self.inside.table.items; slots = c.set_pins.new.slots.items; order = c.touch.new.self; tally = c.with_event-self-inside.result; unsaved = c.self.inside.unsaved.items })) is
    (rw done (record {
      moves = moves_pin cached c.args.cell c.args.slot c.touch.new.self c.with_event-self-inside.result fits kept.cache live c.touch.ensures.touched ordered c.touch.ensures.listed;
      tally = c.with_event-self-inside.ensures;
    }))

pub returns-clause-valid : goal.returns-clause-valid
returns-clause-valid g c =
    let cached = value_of g.S.Store.contents c.self.inside in
    let is : cached ≡ c.args.self.now = c.self.view_is in
    let kept = c.self.invariant in
    let live : slot_of cached c.args.cell ≡ Some c.args.slot = subst (λ (x : Cached). slot_of x c.args.cell ≡ Some c.args.slot) (sym is) c.requires.live in
    let owned = kept.cache.seated.in_slot c.args.cell c.args.slot live in
    let pins : c.pins_of-pins.result ≡ (slot_at cached c.args.slot).pins = grind (arith, common_steps) in
    let t = slot_with_pins (slot_at cached c.args.slot) ((slot_at cached c.args.slot).pins + 1) in
    let done : c.set_pins.new.slots.items ≡ slice_set c.self.inside.slots.items c.args.slot t = c.set_pins.ensures ∙ ap (λ p. slice_set c.self.inside.slots.items c.args.slot (slot_with_pins (slot_at cached c.args.slot) (p + 1))) pins in
    let fits : IsTally c.with_event-self-inside.result = subst IsTally (sym c.with_event-self-inside.ensures) (raised_fits c.self.inside.tally (happening.Pin 0 c.args.cell ∷ []) []) in
    let ordered = ap (λ (o : Order). o.slots) c.touch.ensures.touched ∙ touched_slots c.self.inside.recency c.args.slot in
    let may = may_pin cached c.args.cell c.args.slot ((slot_at cached c.args.slot).pins + 1) c.touch.new.self kept.cache live ordered c.touch.ensures.listed in
    rw done (cache_kept cached c.args.cell c.args.slot t cached.shown c.touch.new.self c.with_event-self-inside.result fits kept.cache may)
