-- The kinds of voxels.
use Rattle.std.specs.Prelude.{ℕ, ◌-◌, ◌^◌}
use Rattle.cell_grid.specs.declared.kind.Kind.{Kind}
use Rattle.cell_grid.specs.declared.kind.Kind.TheVariants.{U8, U16, U32, U64}

-- bytes of a voxel
abbrev pub bytes_of : Kind → ℕ
bytes_of U8 = 1
bytes_of U16 = 2
bytes_of U32 = 4
bytes_of U64 = 8

-- the greatest value of a voxel
abbrev pub greatest_of : Kind → ℕ
greatest_of U8 = 2 ^ 8 - 1
greatest_of U16 = 2 ^ 16 - 1
greatest_of U32 = 2 ^ 32 - 1
greatest_of U64 = 2 ^ 64 - 1
