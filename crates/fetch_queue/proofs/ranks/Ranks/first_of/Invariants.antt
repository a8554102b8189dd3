use Rattle.std.proofs.Common.{◌≡◌, ℕ, ◌<◌, get_or, []}
use Rattle.fetch_queue.specs.Ranking.{own_of}
use Rattle.fetch_queue.proofs.ranks.Ranks.first_of.Given as goal

abbrev pub invariant-loop-priority : goal.invariant-loop-priority
invariant-loop-priority l = (k : ℕ) → k < l.priority → own_of l.self-inside.cells l.viewer (get_or l.self-inside.order.lists k []) ≡ []
