use Rattle.std.proofs.Common.{refl, arith}
use Rattle.std.proofs.lemmas.Iterator.{YieldsList-from_range, items_from_collect}
use Rattle.ix_links.proofs.rings.Rings.new.Goals as goal

pub returns-clause-after : goal.returns-clause-after
returns-clause-after c =
    rw c.in_ok-collect.was at (items_from_collect c.collect.result c.collect.ensures.ran (YieldsList-from_range 0 c.args.entries c.args.entries refl (omega arith)))

pub returns-clause-before : goal.returns-clause-before
returns-clause-before c =
    rw c.in_ok-collect-2.was at (items_from_collect c.collect-2.result c.collect-2.ensures.ran (YieldsList-from_range 0 c.args.entries c.args.entries refl (omega arith)))
