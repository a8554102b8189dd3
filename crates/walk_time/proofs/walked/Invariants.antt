-- The walk is at the column.
use Rattle.std.proofs.Common.{[], ◌∷◌}
use Rattle.whole_affine.specs.NearestWalk.{IsAt}
use Rattle.walk_time.proofs.walked.Given as goal

abbrev pub invariant-loop-column : goal.invariant-loop-column
invariant-loop-column l = IsAt l.walk l.map (l.factor ∷ l.factor ∷ 1 ∷ []) l._column l.y 512
