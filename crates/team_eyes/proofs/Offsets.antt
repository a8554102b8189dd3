-- The offset of a walk that has gone so many columns.
use Rattle.std.proofs.Common.{◌≡◌, ◌∙◌, ℕ, ℤ, ◌+◌, ◌<◌, ◌≤◌, ◌^◌, sym, ap, subst, arith, add-zero}
use Rattle.std.specs.Prelude.{unsigned_abs}
use Rattle.pin_rule.specs.declared.pins.Pins.{Pins}
use Rattle.pin_rule.specs.Calls.{cell_count, voxel_count}
use Rattle.whole_affine.specs.declared.offset_walk.OffsetWalk.{OffsetWalk}
use Rattle.whole_affine.specs.Parts.{LiesIn}
use Rattle.whole_affine.specs.Offsets.{offset_ahead, place_ahead}

-- the walk stands at this column of the one that it began as
pub stands_at : (from now : OffsetWalk) (n : ℕ) → ((k : ℕ) → offset_ahead now k ≡ offset_ahead from (n + k)) → offset_ahead now 0 ≡ offset_ahead from n
stands_at from now n ahead = ahead 0 ∙ ap (offset_ahead from) (add-zero n)

-- and lies where that one does there
pub lies_there : (from now : OffsetWalk) (n few most : ℕ) → ((k : ℕ) → offset_ahead now k ≡ offset_ahead from (n + k)) → LiesIn (offset_ahead from n) 0 few → few ≤ most → LiesIn (offset_ahead now 0) 0 most
lies_there from now n few most ahead lies le = record { at = lies.at; is = stands_at from now n ahead ∙ lies.is; below = omega (arith, lies.below, le) }

-- an offset as an index
pub index_below : (walk : OffsetWalk) (most : ℕ) → LiesIn (offset_ahead walk 0) 0 most → place_ahead walk 0 < most
index_below walk most lies = subst (λ (v : ℤ). unsigned_abs v < most) (sym lies.is) (omega (arith, lies.below))

-- a column further on
pub next_ahead : (from now next : OffsetWalk) (n : ℕ) → ((k : ℕ) → offset_ahead now k ≡ offset_ahead from (n + k)) → ((k : ℕ) → offset_ahead next k ≡ offset_ahead now (k + 1)) → (k : ℕ) → offset_ahead next k ≡ offset_ahead from (n + 1 + k)
next_ahead from now next n ahead on k = on k ∙ ahead (k + 1) ∙ ap (offset_ahead from) (omega arith)

-- offsets in a cell fit a word of 32 bits
pub few_voxels : {S : Type 0} (t : Pins S) (cell : ℕ) → cell < cell_count t → voxel_count t cell ≤ 2 ^ 32
few_voxels t cell inside = omega (arith, t.whole.made.fits cell inside, t.whole.made.small_frame)
