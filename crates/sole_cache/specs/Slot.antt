-- A slot: the cell in it, its pins, its mark, and its frame.
use Rattle.std.specs.Prelude.{ℕ, Bool, true, false, List, [], Option, None, Some, slice_index_or, slice_set}

pub record SlotValue : Type 0 where
  pub cell : Option ℕ
  pub pins : ℕ
  pub marked : Bool
  pub frame : List ℕ

-- a slot out of range
abbrev pub no_slot : SlotValue
no_slot = record { cell = None; pins = 0; marked = false; frame = [] }

abbrev pub slot_in : List SlotValue → ℕ → SlotValue
slot_in slots i = slice_index_or slots i no_slot

-- a slot with another number of pins
abbrev pub slot_with_pins : SlotValue → ℕ → SlotValue
slot_with_pins s pins = record { cell = s.cell; pins = pins; marked = s.marked; frame = s.frame }

-- a slot with the mark, and another number at an offset of its frame
abbrev pub slot_with_value : SlotValue → ℕ → ℕ → SlotValue
slot_with_value s i x = record { cell = s.cell; pins = s.pins; marked = true; frame = slice_set s.frame i x }

-- a slot into which a cell is loaded, with one pin
abbrev pub loaded_with : ℕ → List ℕ → SlotValue
loaded_with n frame = record { cell = Some n; pins = 1; marked = false; frame = frame }

-- a slot that its cell has left
abbrev pub emptied : SlotValue → SlotValue
emptied s = record { cell = None; pins = 0; marked = false; frame = s.frame }
