use Rattle.std.proofs.Common.{◌∙◌, ap}
use Rattle.team_passes.proofs.Teaming.{drew_one}
use Rattle.team_passes.proofs.passes.split_pass.Goals as goal

pub returns-clause-first : goal.returns-clause-first
returns-clause-first g c = let was = c.requires.first in let kept = c.in_ok-pass.ensures.kept in let asked = c.split-asks.ensures.kept in record {
  pass = record { cells = c.split.ensures.pass; free = ap (λ d. d.pins) kept ∙ was.pass.free; asks = asked.0 };
  cells_number = ap (λ d. d.number) kept ∙ was.cells_number;
  asks_number = ap (λ d. d.number) asked.1 ∙ was.asks_number;
}

pub returns-clause-drawn : goal.returns-clause-drawn
returns-clause-drawn g c = let given = c.in_ok-pass.ensures.given in let asked = c.split-asks.ensures in
    drew_one c.args.cells.now c.args.queue.now c.args.first.now _ _ c.in_ok-pass.ensures.kept asked.kept.1 (record { cells = given.0; free = ap (λ d. d.pins) given.1; asks = asked.given.0 }) given.1 asked.given.1
