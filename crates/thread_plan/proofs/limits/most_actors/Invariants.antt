-- The most actors of the phases so far.
use Rattle.std.proofs.Common.{◌≡◌, ◌≤◌, take}
use Rattle.thread_plan.specs.Limits.{most_actors}
use Rattle.thread_plan.proofs.limits.most_actors.Given as goal

abbrev pub invariant-loop-actors : goal.invariant-loop-actors
invariant-loop-actors l = record { most : l.most ≡ most_actors (take l.actors-index l.phases); few : l.most ≤ 16 }
