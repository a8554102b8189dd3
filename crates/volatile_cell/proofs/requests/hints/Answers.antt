use Rattle.std.proofs.Common.{ap, arith}
use Rattle.volatile_cell.proofs.Levels.{level_left}
use Rattle.volatile_cell.proofs.requests.hints.Goals as goal

pub overflow_sub-result-2 : goal.overflow_sub-result-2
overflow_sub-result-2 c =
    let level = level_left c.args.geometry.now c.args.cell c.grid_of-level.result.0 c.requires (ap (λ p. p.0) c.grid_of-level.ensures) in
    omega (arith, level, c.levels.ensures.count)
