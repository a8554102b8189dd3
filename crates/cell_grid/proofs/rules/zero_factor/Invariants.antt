use Rattle.std.proofs.Common.{◌≡◌, drop}
use Rattle.cell_grid.specs.GridErr.{zero_factor}
use Rattle.cell_grid.proofs.rules.zero_factor.Given as goal

-- no level so far has a factor that is zero
abbrev pub invariant-loop-level : goal.invariant-loop-level
invariant-loop-level l = zero_factor 0 l.levels ≡ zero_factor l.level (drop l.level l.levels)
