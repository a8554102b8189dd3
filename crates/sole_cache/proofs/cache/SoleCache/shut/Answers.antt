use Rattle.std.proofs.Common.{◌≡◌, ◌∙◌, ◌<◌, ◌≤◌, List, length, map, sym, ap, subst, arith}
use Rattle.std.proofs.lemmas.Grind.{common_steps}
use Rattle.arr_history.specs.declared.tally.Tally.{Tally}
use Rattle.sole_cache.specs.Slot.{SlotValue}
use Rattle.sole_cache.specs.Cached.{Cached}
use Rattle.arr_history.specs.declared.closed.Unsaved.{Unsaved}
use Rattle.sole_cache.specs.Shut.{IsShut}
use Rattle.sole_cache.proofs.Shuts.{shut_one, shut_done, no_pin, room_left}
use Rattle.sole_cache.proofs.cache.SoleCache.shut.Goals as goal

pub close-requires-clause-room : goal.close-requires-clause-room
close-requires-clause-room g c =
    let start = c.args.self in
    let now = c.loop-slot.cache in
    let size : c.slots-slot-end.result ≡ length c.args.self.slots = c.slots-slot-end.ensures.slots ∙ ap (λ (x : Cached). length x.slots) c.forget_unsaved.ensures in
    let lt : c.loop-slot.slot < length c.args.self.slots = grind (arith, common_steps) in
    room_left start now c.loop-slot.cache.unsaved c.loop-slot.slot lt c.loop-slot.invariant

pub close-requires-clause-unpinned : goal.close-requires-clause-unpinned
close-requires-clause-unpinned g c =
    let start = c.args.self in
    let now = c.loop-slot.cache in
    let size : c.slots-slot-end.result ≡ length c.args.self.slots = c.slots-slot-end.ensures.slots ∙ ap (λ (x : Cached). length x.slots) c.forget_unsaved.ensures in
    let lt : c.loop-slot.slot < length c.args.self.slots = grind (arith, common_steps) in
    ap (λ (s : SlotValue). s.pins) (c.loop-slot.invariant.others c.loop-slot.slot (omega arith)) ∙ no_pin start c.loop-slot.slot lt c.requires

pub loop-slot-preserved : goal.loop-slot-preserved
loop-slot-preserved g c =
    let start = c.args.self in
    let now = c.loop-slot.cache in
    let size : c.slots-slot-end.result ≡ length c.args.self.slots = c.slots-slot-end.ensures.slots ∙ ap (λ (x : Cached). length x.slots) c.forget_unsaved.ensures in
    let lt : c.loop-slot.slot < length c.args.self.slots = grind (arith, common_steps) in
    shut_one start now c.close.new.self c.loop-slot.cache.unsaved c.close.new.self.unsaved c.loop-slot.slot lt c.loop-slot.invariant c.close.ensures.closed c.close.ensures.others c.close.ensures.slots c.close.ensures.valid

pub returns : goal.returns
returns g c =
    let start = c.args.self in
    let now = c.loop-slot.cache in
    let size : c.slots-slot-end.result ≡ length c.args.self.slots = c.slots-slot-end.ensures.slots ∙ ap (λ (x : Cached). length x.slots) c.forget_unsaved.ensures in
    let all : length c.args.self.slots ≤ c.loop-slot.slot = grind (arith, common_steps) in
    let done = shut_done start now c.loop-slot.cache.unsaved c.loop-slot.slot all c.loop-slot.invariant in
    subst (λ (u : List Unsaved). IsShut start (map g.S.Store.contents c.into_closed.result.stores.items) u c.into_closed.result.tally) (sym c.into_closed.ensures.unsaved)
    (subst (λ (t : Tally). IsShut start (map g.S.Store.contents c.into_closed.result.stores.items) c.loop-slot.cache.unsaved t) (sym c.into_closed.ensures.tally)
    (subst (λ s. IsShut start s c.loop-slot.cache.unsaved c.loop-slot.cache.tally) (sym c.into_closed.ensures.stores) done))
