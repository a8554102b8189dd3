use Rattle.std.proofs.Common.{[], ◌∷◌}
use Rattle.walk_time.proofs.walked.Goals as goal

pub loop-column-preserved : goal.loop-column-preserved
loop-column-preserved c = c.next-walk.ensures c.args.map.now (c.args.factor ∷ c.args.factor ∷ 1 ∷ []) c.loop-column._column c.args.y 512 c.loop-column.invariant
