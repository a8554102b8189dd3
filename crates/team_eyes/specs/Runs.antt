-- How far eyes are in a run of pixels.
use Rattle.std.specs.Prelude.{ℕ}
use Rattle.pin_words.specs.declared.doing.Doing.{Doing}
use Rattle.pin_words.specs.Plan.{Plan}
use Rattle.whole_affine.specs.declared.offset_walk.OffsetWalk.{OffsetWalk}
use Rattle.scale_pick.specs.declared.run.Run.{Run}
use Rattle.scale_pick.specs.declared.shade.Shades.{Shades}
use Rattle.scale_pick.specs.Picture.{Pixels}
use Rattle.scale_pick.specs.Runs.{ShowsRun}
use Rattle.scale_pick.specs.Shade.{shown}
use Rattle.volatile_cell.specs.Showing.{reads_along}
use Rattle.team_eyes.specs.Teammate.{GoesPinned}

-- the first so many pixels of a run
abbrev pub first_of : ℕ → Run → Run
first_of n run = record { first = run.first; columns = n; level = run.level }

-- A pass read a cell at the first so many offsets of a walk, and as many pixels of a run show the numbers.
pub record ShowsFirst {S M : Type 0} (p : Plan S M) (cell : ℕ) (walk : OffsetWalk) (shades : Shades) (run : Run) (n : ℕ) (d : Doing S M) (old : Pixels) (d' : Doing S M) (new : Pixels) : Type 0 where
  pub number : ℕ → ℕ
  pub goes : GoesPinned p d (reads_along d.number cell walk number n) d'
  pub shows : ShowsRun old new (first_of n run) (λ k. shown (number k) shades.low shades.high)
