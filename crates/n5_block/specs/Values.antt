-- The values that a block's bytes give a cell, as a function of the bytes.
use Rattle.std.specs.Prelude.{ℕ, List, drop, map, Option, None, Some}
use Rattle.std.specs.List.{range_with_len}
use Rattle.voxel_box.specs.Box.{volume, number, position_of}
use Rattle.n5_block.specs.declared.block_err.BlockErr.{BlockErr}
use Rattle.n5_block.specs.Rules.{sides_in, broken_block_rule}
use Rattle.n5_block.specs.Rows.{element_of}

-- the elements at the positions that are needed, in the order of the cell's own numbers
abbrev pub needed_values : ℕ → List ℕ → List ℕ → List ℕ
needed_values width need bytes = map (λ n. element_of width (drop 16 bytes) (number (position_of n need) (sides_in bytes))) (range_with_len 0 (volume need))

-- these values where no rule is broken
abbrev pub values_unless : Option BlockErr → List ℕ → Option (List ℕ)
values_unless None values = Some values
values_unless (Some err) values = None

-- the values that bytes give a cell of these cropped and full sides, where they are a good block
unfoldable pub values_in : ℕ → List ℕ → List ℕ → List ℕ → Option (List ℕ)
values_in width need full bytes = values_unless (broken_block_rule width need full bytes) (needed_values width need bytes)
