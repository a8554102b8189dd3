use Rattle.sole_cache.proofs.Shuts.{ShutSoFar}
use Rattle.sole_cache.proofs.cache.SoleCache.shut.Given as goal

abbrev pub invariant-loop-slot : goal.invariant-loop-slot
invariant-loop-slot g l = ShutSoFar l.fn.self l.cache l.cache.unsaved l.slot
