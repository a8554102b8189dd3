use Rattle.std.proofs.Common.{◌∙◌, ap, refl}
use Rattle.team_passes.proofs.passes.join_pass.Goals as goal

pub returns-clause-first : goal.returns-clause-first
returns-clause-first g c = let was = c.requires.first in let joined = c.join.ensures.joined in record {
  pass = record { cells = c.join.ensures.pass; free = ap (λ d. d.pins) joined.0 ∙ was.pass.free; asks = c.join-2.ensures.pass };
  cells_number = ap (λ d. d.number) joined.0 ∙ was.cells_number;
  asks_number = ap (λ d. d.number) c.join-2.ensures.joined.is ∙ was.asks_number;
}

pub returns-clause-joined : goal.returns-clause-joined
returns-clause-joined g c = record { cells = (_, c.join.ensures.joined, refl); asks = (_, c.join-2.ensures.joined, refl) }
