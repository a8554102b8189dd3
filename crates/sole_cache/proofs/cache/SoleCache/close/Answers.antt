use Rattle.std.proofs.Common.{◌≡◌, ◌∙◌, ◌<◌, List, [], ◌∷◌, ◌++◌, Some, Err, length, sym, ap, subst}
use Rattle.arr_history.specs.declared.event.Event.TheVariants as happening
use Rattle.arr_history.proofs.Counts.{raised_fits}
use Rattle.sole_cache.specs.Slot.{SlotValue}
use Rattle.sole_cache.specs.Cached.{slot_at, Cached}
use Rattle.sole_cache.specs.Cached.{Cached}
use Rattle.sole_cache.specs.Valid.{IsCache}
use Rattle.arr_history.specs.declared.closed.Unsaved.{Unsaved}
use Rattle.arr_history.specs.Tally.{tally_raised}
use Rattle.sole_cache.specs.Shut.{ClosesSlot}
use Rattle.sole_cache.proofs.Shuts.{closes_none, closes_gone, closes_back}
use Rattle.sole_cache.proofs.Handles.{cache_counted}
use Rattle.sole_cache.proofs.cache.SoleCache.close.Goals as goal

pub returns-in_default-clause-closed : goal.returns-in_default-clause-closed
returns-in_default-clause-closed g c = closes_none c.args.self.now c.args.slot c.args.self.now.unsaved c.owner.ensures.valid (sym c.in_default.ensures.owner)

pub name_unsaved-requires : goal.name_unsaved-requires
name_unsaved-requires g c =
    subst (λ (u : List Unsaved). length u < length c.turn_out.new.self.slots) (sym c.turn_out.ensures.unsaved) (subst (λ (l : List SlotValue). length c.args.self.now.unsaved < length l) (sym c.in-Err.ensures.stayed.1) c.requires.room)

pub returns-in-Ok-clause-closed : goal.returns-in-Ok-clause-closed
returns-in-Ok-clause-closed g c =
    let old = c.args.self.now in
    let mid = c.turn_out.new.self in
    let cell : (slot_at old c.args.slot).cell ≡ Some c.in-Some.cell = sym c.in-Some.ensures.owner in
    subst (λ (x : Cached). ClosesSlot old x c.args.slot c.args.self.now.unsaved x.unsaved) (sym c.count_closing.ensures)
    (subst (λ (u : List Unsaved). ClosesSlot old (record { levels = mid.levels; keys = mid.keys; shown = mid.shown; table = mid.table; slots = mid.slots; order = mid.order; tally = tally_raised mid.tally [] (happening.Gone 0 c.in-Some.cell c.is_marked-saved.result ∷ []); unsaved = mid.unsaved }) c.args.slot c.args.self.now.unsaved u) (sym c.turn_out.ensures.unsaved)
    (closes_gone old mid c.args.slot c.in-Some.cell c.is_marked-saved.result c.args.self.now.unsaved cell c.is_marked-saved.ensures.marked c.in-Ok.ensures.gone c.turn_out.ensures.tally c.in-Ok.ensures.asked))

pub returns-in-Ok-clause-valid : goal.returns-in-Ok-clause-valid
returns-in-Ok-clause-valid g c =
    let mid = c.turn_out.new.self in
    subst (λ (x : Cached). IsCache x) (sym c.count_closing.ensures)
    (cache_counted mid (tally_raised mid.tally [] (happening.Gone 0 c.in-Some.cell c.is_marked-saved.result ∷ [])) mid.unsaved c.turn_out.ensures.valid (raised_fits mid.tally [] (happening.Gone 0 c.in-Some.cell c.is_marked-saved.result ∷ [])))

pub returns-in-Err-clause-closed : goal.returns-in-Err-clause-closed
returns-in-Err-clause-closed g c =
    let old = c.args.self.now in
    let mid = c.turn_out.new.self in
    let cell : (slot_at old c.args.slot).cell ≡ Some c.in-Some.cell = sym c.in-Some.ensures.owner in
    let named : Unsaved = record { cell = c.in-Some.cell; memory = c.wants_memory.result } in
    subst (λ (x : Cached). ClosesSlot old x c.args.slot c.args.self.now.unsaved x.unsaved) (sym c.name_unsaved.ensures)
    (subst (λ (u : List Unsaved). ClosesSlot old (record { levels = mid.levels; keys = mid.keys; shown = mid.shown; table = mid.table; slots = mid.slots; order = mid.order; tally = mid.tally; unsaved = mid.unsaved ++ named ∷ [] }) c.args.slot c.args.self.now.unsaved (u ++ named ∷ [])) (sym c.turn_out.ensures.unsaved)
    (closes_back old mid c.args.slot c.in-Some.cell c.wants_memory.result c.args.self.now.unsaved (mid.unsaved ++ named ∷ []) c.owner.ensures.valid cell c.in-Err.ensures.marked c.in-Err.ensures.back c.turn_out.ensures.tally (λ f. c.turn_out.ensures.write_fault (c.in-Err.is ∙ ap Err (c.wants_memory.ensures.fault f))) c.in-Err.refusal c.wants_memory.ensures.memory c.wants_memory.ensures.fault c.in-Err.ensures.asked))

pub returns-in-Err-clause-valid : goal.returns-in-Err-clause-valid
returns-in-Err-clause-valid g c =
    let mid = c.turn_out.new.self in
    subst (λ (x : Cached). IsCache x) (sym c.name_unsaved.ensures)
    (cache_counted mid mid.tally (mid.unsaved ++ record { cell = c.in-Some.cell; memory = c.wants_memory.result } ∷ []) c.turn_out.ensures.valid c.turn_out.ensures.valid.counted)
