-- The widths of kinds.
use Rattle.std.proofs.Common.{inl, inr, ℕ, ◌*◌, ◌^◌, ◌<◌, ◌≤◌, refl, arith}
use Rattle.cell_grid.specs.Kind.{bytes_of, greatest_of}
use Rattle.cell_grid.specs.declared.kind.Kind.{Kind}
use Rattle.cell_grid.specs.declared.kind.Kind.TheVariants.{U8, U16, U32, U64}
use Rattle.n5_block.specs.Block.{IsWidth}

pub bytes_are_width : (kind : Kind) → IsWidth (bytes_of kind)
bytes_are_width U8 = inl refl
bytes_are_width U16 = inr (inl refl)
bytes_are_width U32 = inr (inr (inl refl))
bytes_are_width U64 = inr (inr (inr refl))

pub bytes_le : (kind : Kind) (volume : ℕ) → bytes_of kind * volume ≤ 8 * volume
bytes_le U8 volume = omega arith
bytes_le U16 volume = omega arith
bytes_le U32 volume = omega arith
bytes_le U64 volume = omega arith

-- the values of a kind fit into its bytes
pub greatest_fits : (kind : Kind) (value : ℕ) → value ≤ greatest_of kind → value < 256 ^ bytes_of kind
greatest_fits U8 value h = omega arith
greatest_fits U16 value h = omega arith
greatest_fits U32 value h = omega arith
greatest_fits U64 value h = omega arith

pub fits_greatest : (kind : Kind) (value : ℕ) → value < 256 ^ bytes_of kind → value ≤ greatest_of kind
fits_greatest U8 value h = omega arith
fits_greatest U16 value h = omega arith
fits_greatest U32 value h = omega arith
fits_greatest U64 value h = omega arith
