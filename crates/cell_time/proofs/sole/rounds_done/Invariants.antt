-- Between two rounds no handle is out.
use Rattle.std.proofs.Common.{◌≡◌}
use Rattle.sole_cache.specs.Cached.{handles_out}
use Rattle.cell_time.proofs.sole.rounds_done.Given as goal

abbrev pub invariant-loop-round : goal.invariant-loop-round
invariant-loop-round l = handles_out l.cache ≡ 0
