-- The pixels of a row that are painted together.
use Rattle.std.specs.Prelude.{◌≡◌, ◌⊎◌, ◌<◌, ◌≤◌, ℕ, List, ◌++◌, Option, None, Some}
use Rattle.cell_grid.specs.declared.level.Level.{Level}
use Rattle.scale_pick.specs.declared.view.View.{View}
use Rattle.scale_pick.specs.Picture.{Pixels}
use Rattle.whole_affine.specs.Affine.{Map}
use Rattle.hier_paint.specs.declared.hand.InHand.{InHand}
use Rattle.hier_paint.specs.Boxes.{IsInBox}
use Rattle.hier_paint.specs.Visits.{Visit}
use Rattle.hier_paint.specs.Ways.{IsRowWay}

-- Visits that carry a row on, from a column in one picture to a column in another.
abbrev pub IsSpanWay : List Level → View → ℕ → Pixels → ℕ → Pixels → ℕ → List Visit → Type 0
IsSpanWay levels view y picture x picture' x' visits = (before : List Visit) → IsRowWay levels view picture y x before → IsRowWay levels view picture' y x' (before ++ visits)

-- A span of a row goes on as long as the nearest voxel lies in a box: from a column on, to the end of the row or to the first
-- column where it doesn't.
pub record IsSpan (Inside : ℕ → Type 0) (from end width : ℕ) : Type 0 where
  pub inside : (x : ℕ) → from ≤ x → x < end → Inside x
  pub ends : (end ≡ width) ⊎ (¬ Inside end)

-- The span that the cell in a hand shows. An empty hand shows none.
abbrev pub IsHeldSpan : {H : Type 0} → Map → List ℕ → ℕ → ℕ → Option (InHand H) → ℕ → ℕ → ℕ → Type 0
IsHeldSpan affine factor level y None from end width = end ≡ from
IsHeldSpan affine factor level y (Some h) from end width = IsSpan (λ x. IsInBox affine factor level x y h.bounds) from end width
