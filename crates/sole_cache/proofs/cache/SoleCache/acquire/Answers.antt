use Rattle.std.proofs.Common.{◌≡◌, ◌∙◌, List, [], ◌∷◌, Some, None, sym, ap, subst}
use Rattle.recency.specs.Order.{Order}
use Rattle.arr_history.specs.declared.event.Event.TheVariants as happening
use Rattle.sole_cache.specs.Slot.{SlotValue, slot_with_pins, slot_with_value, loaded_with, emptied}
use Rattle.sole_cache.specs.Cached.{Cached, slot_of}
use Rattle.sole_cache.specs.Cached.{Cached}
use Rattle.sole_cache.specs.Moves.{Runs}
use Rattle.sole_cache.specs.Room.{IsFull, IsLowestFree, IsVictim, pinned}
use Rattle.recency.specs.Order.{victim_of}
use Rattle.sole_cache.proofs.Stood.{stood}
use Rattle.sole_cache.proofs.Acquires.{counted, acquired_hit, acquired_free, acquired_replaced, acquired_full, caused_by}
use Rattle.sole_cache.proofs.Handles.{held_on}
use Rattle.sole_cache.proofs.cache.SoleCache.acquire.Goals as goal

pub returns-in-Some-clause-stood : goal.returns-in-Some-clause-stood
returns-in-Some-clause-stood g c = stood c.pin.new.self c.pin.ensures.valid

pub returns-in-Some-lowest_free-clause-acquires : goal.returns-in-Some-lowest_free-clause-acquires
returns-in-Some-lowest_free-clause-acquires g c =
    let old = c.args.self.now in
    let mid = c.lowest_free.new.self in
    let miss : Runs old (happening.Miss 0 c.args.cell ∷ []) mid = subst (λ (x : Cached). Runs old (happening.Miss 0 c.args.cell ∷ []) x) (sym c.lowest_free.ensures.same) c.miss.ensures.runs in
    let slots : c.miss.new.self.slots ≡ c.args.self.now.slots = ap (λ (x : Cached). x.slots) c.miss.ensures.stays in
    let lowest : IsLowestFree c.args.self.now.slots (Some c.in-Some-lowest_free.slot) = subst (λ l. IsLowestFree l (Some c.in-Some-lowest_free.slot)) slots c.in-Some-lowest_free.ensures.lowest in
    let absent : slot_of old c.args.cell ≡ None = sym c.in_default.ensures.slot in
    let e = c.load_free.ensures in
    let is : mid ≡ counted old c.miss.new.self.tally = (c.lowest_free.ensures.same ∙ c.miss.ensures.stays) in
    acquired_free old mid c.load_free.new.self c.miss.new.self.tally c.args.cell c.in-Some-lowest_free.slot c.load_free.result is absent lowest miss e.handle e.loaded e.dropped e.asked e.valid

pub returns-in-Some-lowest_free-clause-stood : goal.returns-in-Some-lowest_free-clause-stood
returns-in-Some-lowest_free-clause-stood g c = stood c.load_free.new.self c.load_free.ensures.valid

pub returns-in-Some-owner-clause-acquires : goal.returns-in-Some-owner-clause-acquires
returns-in-Some-owner-clause-acquires g c =
    let old = c.args.self.now in
    let mid = c.lowest_free.new.self in
    let miss : Runs old (happening.Miss 0 c.args.cell ∷ []) mid = subst (λ (x : Cached). Runs old (happening.Miss 0 c.args.cell ∷ []) x) (sym c.lowest_free.ensures.same) c.miss.ensures.runs in
    let slots : c.miss.new.self.slots ≡ c.args.self.now.slots = ap (λ (x : Cached). x.slots) c.miss.ensures.stays in
    let absent : slot_of old c.args.cell ≡ None = sym c.in_default.ensures.slot in
    let both = ap (λ (x : Cached). x.slots) c.lowest_free.ensures.same ∙ slots in
    let order = ap (λ (x : Cached). x.order) (c.lowest_free.ensures.same ∙ c.miss.ensures.stays) in
    let victim : IsVictim old c.in-Some-victim.slot c.in-Some-owner.due = (
      subst (λ (l : List SlotValue). IsLowestFree l None) slots c.in_default-lowest_free.ensures.lowest,
      subst (λ (l : List SlotValue). victim_of c.args.self.now.order (pinned l) ≡ Some c.in-Some-victim.slot) both (subst (λ (o : Order). victim_of o (pinned c.lowest_free.new.self.slots) ≡ Some c.in-Some-victim.slot) order (sym c.in-Some-victim.ensures.first)),
      ap (λ (l : List SlotValue). (Rattle.sole_cache.specs.Slot.slot_in l c.in-Some-victim.slot).cell) (sym both) ∙ sym c.in-Some-owner.ensures.owner,
    ) in
    let is : mid ≡ counted old c.miss.new.self.tally = (c.lowest_free.ensures.same ∙ c.miss.ensures.stays) in
    acquired_replaced old mid c.replace.new.self c.miss.new.self.tally c.args.cell c.in-Some-owner.due c.in-Some-victim.slot c.replace.result is absent victim miss c.replace.ensures.replaced c.replace.ensures.valid

pub returns-in-Some-owner-clause-caused : goal.returns-in-Some-owner-clause-caused
returns-in-Some-owner-clause-caused g c =
    let old = c.args.self.now in
    let mid = c.lowest_free.new.self in
    let miss : Runs old (happening.Miss 0 c.args.cell ∷ []) mid = subst (λ (x : Cached). Runs old (happening.Miss 0 c.args.cell ∷ []) x) (sym c.lowest_free.ensures.same) c.miss.ensures.runs in
    let slots : c.miss.new.self.slots ≡ c.args.self.now.slots = ap (λ (x : Cached). x.slots) c.miss.ensures.stays in
    let both = ap (λ (x : Cached). x.slots) c.lowest_free.ensures.same ∙ slots in
    let order = ap (λ (x : Cached). x.order) (c.lowest_free.ensures.same ∙ c.miss.ensures.stays) in
    let victim : IsVictim old c.in-Some-victim.slot c.in-Some-owner.due = (
      subst (λ (l : List SlotValue). IsLowestFree l None) slots c.in_default-lowest_free.ensures.lowest,
      subst (λ (l : List SlotValue). victim_of c.args.self.now.order (pinned l) ≡ Some c.in-Some-victim.slot) both (subst (λ (o : Order). victim_of o (pinned c.lowest_free.new.self.slots) ≡ Some c.in-Some-victim.slot) order (sym c.in-Some-victim.ensures.first)),
      ap (λ (l : List SlotValue). (Rattle.sole_cache.specs.Slot.slot_in l c.in-Some-victim.slot).cell) (sym both) ∙ sym c.in-Some-owner.ensures.owner,
    ) in
    caused_by old mid c.replace.new.self c.args.cell c.in-Some-owner.due c.in-Some-victim.slot c.replace.result victim miss c.replace.ensures.caused

pub returns-in-Some-owner-clause-held : goal.returns-in-Some-owner-clause-held
returns-in-Some-owner-clause-held g c =
    let old = c.args.self.now in
    let slots : c.miss.new.self.slots ≡ c.args.self.now.slots = ap (λ (x : Cached). x.slots) c.miss.ensures.stays in
    let both = ap (λ (x : Cached). x.slots) c.lowest_free.ensures.same ∙ slots in
    held_on old c.replace.new.self c.in-Some-victim.slot c.slot_of.ensures.valid c.replace.ensures.valid (λ j ne. c.replace.ensures.others j ne ∙ ap (λ l. Rattle.sole_cache.specs.Slot.slot_in l j) both)
    (subst (λ (l : List SlotValue). (Rattle.sole_cache.specs.Slot.slot_in l c.in-Some-victim.slot).pins ≡ 0) both c.in-Some-victim.ensures.some.1.0)

pub returns-in-Some-owner-clause-stood : goal.returns-in-Some-owner-clause-stood
returns-in-Some-owner-clause-stood g c = stood c.replace.new.self c.replace.ensures.valid

pub returns-in-None-clause-stood : goal.returns-in-None-clause-stood
returns-in-None-clause-stood g c = stood c.lowest_free.new.self c.victim.ensures.valid

pub returns-in-Some-clause-acquires : goal.returns-in-Some-clause-acquires
returns-in-Some-clause-acquires g c =
    let old = c.args.self.now in
    let live : slot_of old c.args.cell ≡ Some c.in-Some.slot = sym c.in-Some.ensures.slot in
    acquired_hit old c.pin.new.self c.args.cell c.in-Some.slot _ live c.on.ensures c.pin.ensures.runs c.pin.ensures.stores c.pin.ensures.valid

pub returns-in-None-clause-acquires : goal.returns-in-None-clause-acquires
returns-in-None-clause-acquires g c =
    let old = c.args.self.now in
    let mid = c.lowest_free.new.self in
    let miss : Runs old (happening.Miss 0 c.args.cell ∷ []) mid = subst (λ (x : Cached). Runs old (happening.Miss 0 c.args.cell ∷ []) x) (sym c.lowest_free.ensures.same) c.miss.ensures.runs in
    let is : mid ≡ counted old c.miss.new.self.tally = (c.lowest_free.ensures.same ∙ c.miss.ensures.stays) in
    let absent : slot_of old c.args.cell ≡ None = sym c.in_default.ensures.slot in
    acquired_full old mid c.args.cell absent (subst IsFull is c.in-None.ensures.none) miss (ap (λ (x : Cached). x.shown) is) c.victim.ensures.valid
