use Rattle.std.proofs.Common.{◌↔◌, ◌==◌, IsTrue, sym, subst}
use Rattle.scale_pick.specs.Painted.{IsComplete}
use Rattle.scale_pick.proofs.PaintedLemmas.{complete_is}
use Rattle.scale_pick.proofs.painted.Painted.of.Goals as goal

pub returns-clause-complete : goal.returns-clause-complete
returns-clause-complete c =
    let wanted = c.args.wanted in
    let picture = c.args.picture.now in
    subst (λ n. IsTrue (n == 0) ↔ IsComplete wanted picture) (sym c.not_ready-not_ready.ensures) (complete_is wanted picture)
