use Rattle.std.proofs.Common.{◌≢◌, ◌∙◌, ◌<◌, ℕ, List, Option, None, length, sym, ap, subst}
use Rattle.cell_file.specs.declared.errors.SaveErr.TheVariants as saving
use Rattle.sole_cache.specs.Slot.{SlotValue, emptied}
use Rattle.sole_cache.specs.Cached.{slot_at}
use Rattle.sole_cache.specs.Valid.{IsCache}
use Rattle.sole_cache.specs.Slot.{slot_in}
use Rattle.std.proofs.lemmas.List.{length-set}
use Rattle.std.proofs.Common.{slice_index_or}
use Rattle.sole_cache.proofs.Replaces.{still_absent, now_free, others_taken, replaced, seated_after, pinned_after, unpinned_after, held_back, caused_on, others_after, granted_after, refused_after}
use Rattle.sole_cache.proofs.cache.SoleCache.replace.Goals as goal

pub refill-requires-clause-cell : goal.refill-requires-clause-cell
refill-requires-clause-cell g c =
    let old = c.args.self.now in
    let left = c.in-Ok.ensures.left in
    subst (λ (t : List (Option ℕ)). c.args.cell < length t) (sym left.0) (subst (λ k. c.args.cell < k) (sym (length-set old.table c.args.due None)) c.requires.cell)

pub refill-requires-clause-absent : goal.refill-requires-clause-absent
refill-requires-clause-absent g c =
    let old = c.args.self.now in
    let sound : IsCache old = c.evict.ensures.sound in
    let left = c.in-Ok.ensures.left in
    ap (λ (t : List (Option ℕ)). slice_index_or t c.args.cell None) left.0 ∙ still_absent old c.args.cell c.args.due c.args.slot sound c.requires.absent c.requires.due

pub refill-requires-clause-slot : goal.refill-requires-clause-slot
refill-requires-clause-slot g c =
    let old = c.args.self.now in
    let sound : IsCache old = c.evict.ensures.sound in
    let left = c.in-Ok.ensures.left in
    let first : c.args.slot < length old.slots = (sound.seated.in_slot c.args.due c.args.slot c.requires.due).0 in
    subst (λ (l : List SlotValue). c.args.slot < length l) (sym left.1) (subst (λ k. c.args.slot < k) (sym (length-set old.slots c.args.slot (emptied (slot_at old c.args.slot)))) first)

pub refill-requires-clause-free : goal.refill-requires-clause-free
refill-requires-clause-free g c =
    let old = c.args.self.now in
    let sound : IsCache old = c.evict.ensures.sound in
    let left = c.in-Ok.ensures.left in
    ap (λ (l : List SlotValue). (slot_in l c.args.slot).cell) left.1 ∙ now_free old c.args.due c.args.slot sound c.requires.due

pub refill-requires-clause-one : goal.refill-requires-clause-one
refill-requires-clause-one g c =
    let old = c.args.self.now in
    let left = c.in-Ok.ensures.left in
    subst (λ (l : List SlotValue). (i : ℕ) → i < length l → i ≢ c.args.slot → (slot_in l i).cell ≢ None) (sym left.1) (others_taken old c.args.slot c.requires.taken)

pub returns-in-Ok-clause-replaced : goal.returns-in-Ok-clause-replaced
returns-in-Ok-clause-replaced g c =
    let old = c.args.self.now in
    let mid = c.evict.new.self in
    let e = c.refill.ensures in
    replaced old mid c.refill.new.self c.args.cell c.args.due c.args.slot c.refill.result c.requires.absent c.requires.due c.in-Ok.ensures.gone c.in-Ok.ensures.asked e.handle e.loaded e.dropped e.asked

pub returns-in-Ok-clause-seated : goal.returns-in-Ok-clause-seated
returns-in-Ok-clause-seated g c =
    let old = c.args.self.now in
    let mid = c.evict.new.self in
    let sound : IsCache old = c.evict.ensures.sound in
    let left = c.in-Ok.ensures.left in
    let first : c.args.slot < length old.slots = (sound.seated.in_slot c.args.due c.args.slot c.requires.due).0 in
    let inside = subst (λ (t : List (Option ℕ)). c.args.cell < length t) (sym left.0) (subst (λ k. c.args.cell < k) (sym (length-set old.table c.args.due None)) c.requires.cell) in
    seated_after old mid c.refill.new.self c.args.cell c.args.slot c.refill.result first inside left.1 c.refill.ensures.handle c.refill.ensures.seated

pub returns-in-Err-WriteFault-clause-replaced : goal.returns-in-Err-WriteFault-clause-replaced
returns-in-Err-WriteFault-clause-replaced g c =
    held_back c.args.self.now c.evict.new.self c.args.cell c.args.due c.args.slot c.in-Err-WriteFault.field-0 saving.WriteFault c.in-Err-WriteFault.field-0-is c.evict.ensures.sound c.requires.cell c.requires.absent c.requires.due c.in-Err-WriteFault.ensures.marked c.in-Err-WriteFault.ensures.back c.in-Err-WriteFault.ensures.asked

pub returns-in-Err-Memory-clause-replaced : goal.returns-in-Err-Memory-clause-replaced
returns-in-Err-Memory-clause-replaced g c =
    held_back c.args.self.now c.evict.new.self c.args.cell c.args.due c.args.slot c.in-Err-Memory.field-0 saving.Memory c.in-Err-Memory.field-0-is c.evict.ensures.sound c.requires.cell c.requires.absent c.requires.due c.in-Err-Memory.ensures.marked c.in-Err-Memory.ensures.back c.in-Err-Memory.ensures.asked

pub returns-in-Ok-clause-caused : goal.returns-in-Ok-clause-caused
returns-in-Ok-clause-caused g c = caused_on c.args.self.now c.evict.new.self c.refill.new.self c.args.cell c.args.due c.args.slot _ c.refill.result c.in-Ok.ensures.gone c.refill.ensures.caused c.refill.ensures.own

pub returns-in-Ok-clause-others : goal.returns-in-Ok-clause-others
returns-in-Ok-clause-others g c = others_after c.args.self.now c.evict.new.self c.refill.new.self c.args.cell c.args.slot c.refill.result c.in-Ok.ensures.left.1 c.refill.ensures.seated c.refill.ensures.stayed

pub returns-in-Ok-clause-granted : goal.returns-in-Ok-clause-granted
returns-in-Ok-clause-granted g c =
    let old = c.args.self.now in
    let mid = c.evict.new.self in
    let sound : IsCache old = c.evict.ensures.sound in
    let left = c.in-Ok.ensures.left in
    let first : c.args.slot < length old.slots = (sound.seated.in_slot c.args.due c.args.slot c.requires.due).0 in
    granted_after old mid c.refill.new.self c.args.cell c.args.slot c.refill.result first c.requires.unpinned left.1 c.refill.ensures.seated

pub returns-in-Ok-clause-refused : goal.returns-in-Ok-clause-refused
returns-in-Ok-clause-refused g c =
    let old = c.args.self.now in
    let mid = c.evict.new.self in
    let sound : IsCache old = c.evict.ensures.sound in
    let left = c.in-Ok.ensures.left in
    let first : c.args.slot < length old.slots = (sound.seated.in_slot c.args.due c.args.slot c.requires.due).0 in
    refused_after old mid c.refill.new.self c.args.slot c.refill.result first c.requires.unpinned left.1 c.refill.ensures.stayed

pub returns-in-Ok-clause-one_pin : goal.returns-in-Ok-clause-one_pin
returns-in-Ok-clause-one_pin g c =
    let old = c.args.self.now in
    let mid = c.evict.new.self in
    let sound : IsCache old = c.evict.ensures.sound in
    let left = c.in-Ok.ensures.left in
    let first : c.args.slot < length old.slots = (sound.seated.in_slot c.args.due c.args.slot c.requires.due).0 in
    pinned_after old mid c.refill.new.self c.args.cell c.args.slot c.refill.result first left.1 c.refill.ensures.seated

pub returns-in-Ok-clause-no_pin : goal.returns-in-Ok-clause-no_pin
returns-in-Ok-clause-no_pin g c =
    let old = c.args.self.now in
    let mid = c.evict.new.self in
    let sound : IsCache old = c.evict.ensures.sound in
    let left = c.in-Ok.ensures.left in
    let first : c.args.slot < length old.slots = (sound.seated.in_slot c.args.due c.args.slot c.requires.due).0 in
    unpinned_after old mid c.refill.new.self c.args.slot c.refill.result first left.1 c.refill.ensures.stayed
