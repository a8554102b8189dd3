-- The puts of shutting, one after another.
use Rattle.std.proofs.Common.{◌≡◌, ◌∙◌, ℕ, ◌+◌, ◌<◌, Bool, true, false, cond, List, [], ◌∷◌, ◌++◌, length, take, Err, refl, sym, ap, subst}
use Rattle.std.proofs.lemmas.List.{append-nil, append_assoc, take_more}
use Rattle.cell_grid.specs.declared.level.Level.{Level}
use Rattle.cell_grid.specs.Pyramid.{lane_of, voxels_of}
use Rattle.cell_store.specs.declared.store.Put.{Put}
use Rattle.cell_store.specs.declared.store.Put.TheVariants as put
use Rattle.store_calls.specs.Calls.{StoreCall}
use Rattle.cell_file.specs.Asks.{save_answer, save_call}
use Rattle.cell_file.specs.declared.errors.SaveErr.{SaveErr}
use Rattle.cell_file.specs.declared.errors.SaveErr.TheVariants as saving
use Rattle.arr_history.specs.declared.closed.Unsaved.{Unsaved}
use Rattle.sole_cache.specs.Slot.{SlotValue, no_slot, slot_in}
use Rattle.sole_cache.specs.Puts.{named_by, IsPutWhere, IsPutSlot, ArePut}

-- one slot more was closed
put_last : (levels : List Level) (lanes : ℕ) (slots : List SlotValue) (s : SlotValue) (u v : List Unsaved) (k l : List StoreCall) → ArePut levels lanes slots u k → IsPutSlot levels lanes s v l → ArePut levels lanes (slots ++ s ∷ []) (u ++ v) (k ++ l)
put_last levels lanes [] s u v k l h one = (v, [], l, [], one, (refl, refl), ap (λ x. x ++ v) h.0 ∙ sym (append-nil v), ap (λ x. x ++ l) h.1 ∙ sym (append-nil l))
put_last levels lanes (x ∷ slots) s u v k l (first, more, asked, rest, here, others, pu, pk) one = (
  first,
  more ++ v,
  asked,
  rest ++ l,
  here,
  put_last levels lanes slots s more v rest l others one,
  ap (λ y. y ++ v) pu ∙ append_assoc first more v,
  ap (λ y. y ++ l) pk ∙ append_assoc asked rest l,
)

pub put_more : (levels : List Level) (lanes : ℕ) (slots : List SlotValue) (i : ℕ) (u v : List Unsaved) (k l : List StoreCall) → i < length slots → ArePut levels lanes (take i slots) u k → IsPutSlot levels lanes (slot_in slots i) v l
    → ArePut levels lanes (take (i + 1) slots) (u ++ v) (k ++ l)
put_more levels lanes slots i u v k l lt h one =
    subst (λ x. ArePut levels lanes x (u ++ v) (k ++ l)) (sym (take_more slots i no_slot lt)) (put_last levels lanes (take i slots) (slot_in slots i) u v k l h one)

-- the put of a slot whose cell is gone
pub put_gone : (levels : List Level) (lanes : ℕ) (marked : Bool) (cell : ℕ) (frame : List ℕ) (calls : List StoreCall)
    → calls ≡ cond marked (save_call levels (lane_of cell lanes) cell (take (voxels_of levels cell) frame) put.Done ∷ []) [] → IsPutWhere levels lanes marked cell frame [] calls
put_gone levels lanes false cell frame calls h = (refl, h)
put_gone levels lanes true cell frame calls h = (put.Done, refl, h)

-- a cell that could not be put is named by the answer to its put
pub named : (cell : ℕ) (memory : Bool) (cause : SaveErr) (answer : Put) → (memory ≡ true → cause ≡ saving.Memory) → (memory ≡ false → cause ≡ saving.WriteFault) → Err cause ≡ save_answer answer
    → record { cell = cell; memory = memory } ∷ [] ≡ named_by cell answer
named cell memory cause put.Done m f e = absurd (cc)
named cell true cause put.Failed m f e = let wanting = m refl in absurd (cc)
named cell false cause put.Failed m f e = refl
named cell true cause put.NoMemory m f e = refl
named cell false cause put.NoMemory m f e = let failed = f refl in absurd (cc)
