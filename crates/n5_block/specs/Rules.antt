-- The rules that a block's bytes keep, in their order.
use Rattle.std.specs.Prelude.{ℕ, ◌+◌, ◌*◌, ◌==◌, nat_lt, not, ◌||◌, List, [], ◌∷◌, length, take, drop, Option, None, Some, if◌then◌else◌, slice_index}
use Rattle.std.specs.Option.{option_or}
use Rattle.voxel_box.specs.BigEndian.{value_of}
use Rattle.voxel_box.specs.Box.{volume}
use Rattle.n5_block.specs.declared.block_err.BlockErr.{BlockErr}
use Rattle.n5_block.specs.declared.block_err.BlockErr.TheVariants.{Short, Mode, Axes, Side, Trailing}

-- the number in some bytes
abbrev pub number_at : List ℕ → ℕ → ℕ → ℕ
number_at bytes start width = value_of (take width (drop start bytes))

-- the sides that a block's bytes give
abbrev pub sides_in : List ℕ → List ℕ
sides_in bytes = number_at bytes 4 4 ∷ number_at bytes 8 4 ∷ number_at bytes 12 4 ∷ []

abbrev pub side_outside : ℕ → ℕ → ℕ → ℕ → Option BlockErr
side_outside axis low high side = if nat_lt side low || nat_lt high side then Some (Side axis side) else None

abbrev pub wrong_length : ℕ → ℕ → Option BlockErr
wrong_length len need = if nat_lt len need then Some (Short len need) else if nat_lt need len then Some (Trailing len need) else None

-- the first rule that a block's bytes break
abbrev pub broken_block_rule : ℕ → List ℕ → List ℕ → List ℕ → Option BlockErr
broken_block_rule width need full bytes =
    if nat_lt (length bytes) 16 then Some (Short (length bytes) 16) else
    if not (number_at bytes 0 2 == 0) then Some (Mode (number_at bytes 0 2)) else
    if not (number_at bytes 2 2 == 3) then Some (Axes (number_at bytes 2 2)) else
    option_or (side_outside 0 (slice_index need 0) (slice_index full 0) (number_at bytes 4 4))
    (option_or (side_outside 1 (slice_index need 1) (slice_index full 1) (number_at bytes 8 4))
    (option_or (side_outside 2 (slice_index need 2) (slice_index full 2) (number_at bytes 12 4))
    (wrong_length (length bytes) (16 + width * volume (sides_in bytes)))))
