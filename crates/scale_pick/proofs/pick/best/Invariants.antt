use Rattle.std.proofs.Common.{◌≡◌, ℕ, ◌<◌, false, slice_index_or}
use Rattle.cell_grid.specs.declared.level.Level.{Level}
use Rattle.scale_pick.specs.Wanted.{covers}
use Rattle.scale_pick.proofs.pick.best.Given as goal

abbrev pub invariant-loop-level : goal.invariant-loop-level
invariant-loop-level l = (k : ℕ) (d : Level) → k < l.level → covers l.affine (slice_index_or l.geometry k d) ≡ false
