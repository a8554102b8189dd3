use Rattle.std.proofs.Common.{◌≡◌, ◌≢◌, ◌<◌, length, refl, arith, below_more, get_or-set_other, get_or-set_same, Some, slice_get, slice_index, slice_set}
use Rattle.std.proofs.lemmas.Option.{slice_get_read, slice_get_within}
use Rattle.std.proofs.Math.ListN.{length-set}
use Rattle.cell_grid.specs.Pyramid.{first_cell}
use Rattle.cell_grid.proofs.PyramidLemmas.{first_cell_more, grids_more}
use Rattle.cell_grid.proofs.kept.firsts.Goals as goal

pub loop-level-preserved : goal.loop-level-preserved
loop-level-preserved c =
    let levels = c.args.levels.now in
    let level = c.loop-level.level in
    let shape = c.index-levels-level.result in
    let before = c.loop-level.invariant in
    let read : slice_get levels level ≡ Some shape = slice_get_read levels _ level shape refl c.loop-level-test.true c.index-levels-level.is in
    record {
      eight = rw length-set before.eight;
      next = omega (arith, before.next, c.cells-first.ensures.count, first_cell_more levels level shape read);
      firsts = below_more (λ k. slice_index (slice_set c.loop-level.firsts level c.loop-level.first) k ≡ first_cell levels k) level
          (λ k lt. let ne : k ≢ level = omega arith in rw get_or-set_other (before.firsts k lt))
          (let lt : level < length c.loop-level.firsts = omega (arith, before.eight) in rw get_or-set_same before.next);
      grids = grids_more levels level shape read before.grids c.cells-first.ensures.limits;
    }

pub returns-clause-grids : goal.returns-clause-grids
returns-clause-grids c = λ level shape e. c.loop-level.invariant.grids level shape (omega (arith, slice_get_within c.args.levels.now level shape e, c.loop-level-test.false)) e
