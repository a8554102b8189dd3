-- The views of the phases so far are counted.
use Rattle.std.proofs.Common.{◌≡◌, take}
use Rattle.viewrun_calls.specs.Pictures.{view_count}
use Rattle.viewrun_calls.proofs.pictures.view_count.Given as goal

abbrev pub invariant-loop-actors : goal.invariant-loop-actors
invariant-loop-actors l = l.count ≡ view_count (take l.actors-index l.phases)
