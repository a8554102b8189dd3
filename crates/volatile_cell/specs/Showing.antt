-- How a run of pixels is shown by a cell.
use Rattle.std.specs.Prelude.{ℕ, zero, suc, List, [], ◌∷◌, ◌++◌}
use Rattle.arr_history.specs.declared.event.Event.{Event}
use Rattle.arr_history.specs.declared.event.Event.TheVariants as event
use Rattle.whole_affine.specs.Offsets.{place_ahead}
use Rattle.whole_affine.specs.declared.offset_walk.OffsetWalk.{OffsetWalk}
use Rattle.scale_pick.specs.Picture.{Pixels}
use Rattle.scale_pick.specs.Runs.{ShowsRun}
use Rattle.scale_pick.specs.Shade.{shown}
use Rattle.scale_pick.specs.declared.run.Run.{Run}
use Rattle.scale_pick.specs.declared.shade.Shades.{Shades}
use Rattle.volatile_cell.specs.Front.{Front}

-- the reads of so many voxels of a cell, at the offsets of a walk
abbrev pub reads_along : ℕ → ℕ → OffsetWalk → (ℕ → ℕ) → ℕ → List Event
reads_along pass cell walk number zero = []
reads_along pass cell walk number (suc n) = reads_along pass cell walk number n ++ (event.Read pass cell (place_ahead walk n) (number n) ∷ [])

-- The voxels of a cell at the offsets of a walk are read, one for each pixel of a run, and the run shows their numbers.
pub record ShowsCell {E : Type 0} (front : Front E) (e : E) (cell : ℕ) (walk : OffsetWalk) (shades : Shades) (run : Run) (p : Pixels) (e' : E) (q : Pixels) : Type 0 where
  pub number : ℕ → ℕ
  pub led : front.leads e (reads_along (front.looker e).pass cell walk number run.columns) [] e'
  pub shows : ShowsRun p q run (λ k. shown (number k) shades.low shades.high)
