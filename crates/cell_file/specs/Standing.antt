-- What a store stands for at a cell: the values of the block that decides, or zeros where there is none.
use Rattle.std.specs.Prelude.{ℕ, ◌+◌, ◌*◌, Bool, true, false, List, length, replicate, Option, None, Some, nat_lt, if◌then◌else◌}
use Rattle.voxel_box.specs.Box.{volume}
use Rattle.cell_grid.specs.declared.level.Level.{Level}
use Rattle.cell_grid.specs.Kind.{bytes_of}
use Rattle.cell_grid.specs.Pyramid.{sides_of, full_of, voxels_of, kind_of}
use Rattle.n5_block.specs.declared.block_err.BlockErr.{BlockErr}
use Rattle.n5_block.specs.Rules.{broken_block_rule}
use Rattle.n5_block.specs.Values.{values_in}
use Rattle.cell_file.specs.declared.errors.FetchErr.{FetchErr}
use Rattle.cell_file.specs.declared.errors.FetchErr.TheVariants.{Malformed, TooLong}
use Rattle.cell_file.specs.Keys.{KeyNames, edited_key, base_key}

-- the bytes of an element of a cell's blocks, and the most bytes that a block of it may have
abbrev pub width_of : List Level → ℕ → ℕ
width_of levels cell = bytes_of (kind_of levels cell)

abbrev pub limit_of : List Level → ℕ → ℕ
limit_of levels cell = 16 + width_of levels cell * volume (full_of levels cell)

-- the values that a block gives a cell, and the first rule of blocks that bytes break
abbrev pub block_values : List Level → ℕ → List ℕ → Option (List ℕ)
block_values levels cell bytes = values_in (width_of levels cell) (sides_of levels cell) (full_of levels cell) bytes

abbrev pub block_rule : List Level → ℕ → List ℕ → Option BlockErr
block_rule levels cell bytes = broken_block_rule (width_of levels cell) (sides_of levels cell) (full_of levels cell) bytes

-- the values that the bytes that decide give, where they are no longer than allowed and a good block
abbrev pub values_of : List Level → ℕ → List ℕ → Option (List ℕ)
values_of levels cell bytes = if nat_lt (limit_of levels cell) (length bytes) then None else block_values levels cell bytes

-- Where the edited key is held its bytes decide, else those under the base key; where neither is held the values are zeros.
abbrev pub stands_by : List Level → ℕ → Option (List ℕ) → Option (List ℕ) → Option (List ℕ)
stands_by levels cell (Some edited) base = values_of levels cell edited
stands_by levels cell None (Some base) = values_of levels cell base
stands_by levels cell None None = Some (replicate (voxels_of levels cell) 0)

-- what a store that holds this stands for at a cell; where it is nothing the cell is void
unfoldable pub standing : List Level → KeyNames → (List ℕ → Option (List ℕ)) → ℕ → Option (List ℕ)
standing levels keys held cell = stands_by levels cell (held (edited_key levels cell)) (held (base_key levels keys cell))

-- why the bytes that decide are refused
abbrev pub malformed : Bool → Option BlockErr → Option FetchErr
malformed edited None = None
malformed edited (Some err) = Some (Malformed edited err)

abbrev pub refusal_by : List Level → ℕ → Bool → List ℕ → Option FetchErr
refusal_by levels cell edited bytes =
    if nat_lt (limit_of levels cell) (length bytes) then Some (TooLong edited (length bytes) (limit_of levels cell))
    else malformed edited (block_rule levels cell bytes)

abbrev pub refused_by : List Level → ℕ → Option (List ℕ) → Option (List ℕ) → Option FetchErr
refused_by levels cell (Some edited) base = refusal_by levels cell true edited
refused_by levels cell None (Some base) = refusal_by levels cell false base
refused_by levels cell None None = None

-- why what a store holds is refused at a cell
unfoldable pub refusal_of : List Level → KeyNames → (List ℕ → Option (List ℕ)) → ℕ → Option FetchErr
refusal_of levels keys held cell = refused_by levels cell (held (edited_key levels cell)) (held (base_key levels keys cell))
