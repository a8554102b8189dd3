-- Each level is within its limits, and its line follows those of the levels before it.
use Rattle.std.proofs.Common.{◌≡◌, ◌++◌, [], ◌∷◌, ap, arith, take}
use Rattle.std.specs.List.{enumerate_from}
use Rattle.run_report.specs.Info.{counts_line, numbered_line}
use Rattle.run_report.proofs.InfoLemmas.{levels_all, next_line}
use Rattle.run_report.proofs.info.info_text.Goals as goal

pub description_of-level-requires : goal.description_of-level-requires
description_of-level-requires c = c.level.ensures.pyramid.grids _ _ c.level.ensures.level

pub loop-number-preserved : goal.loop-number-preserved
loop-number-preserved c =
    next_line numbered_line _ _ _ _ _ (counts_line c.args.geometry.now) _ c.level.ensures.level c.loop-number.invariant c.in_ok-writeln-2.ensures.bytes (ap (λ text. text ++ 10 ∷ []) c.description_of-level.ensures)

pub returns : goal.returns
returns c =
    let all : take c.loop-number.number (enumerate_from 0 c.args.geometry.now) ≡ enumerate_from 0 c.args.geometry.now
    = levels_all c.args.geometry.now c.loop-number.number (omega (arith, c.levels-levels.ensures.count)) in
    rw all at c.loop-number.invariant
