use Rattle.std.proofs.Common.{◌≡◌, ◌-◌, ◌≤◌, length, min}
use Rattle.fetch_queue.specs.Ranking.{own_of, ranked_nodes, waiting_nodes}
use Rattle.fetch_queue.proofs.Clears.{Moved, Dropped}
use Rattle.fetch_queue.proofs.queues.Queues.clear.Given as goal

abbrev pub invariant-loop-self : goal.invariant-loop-self
invariant-loop-self l = record {
  moves : Moved l.initial.self-inside.ranks l.self-inside.ranks l.viewer l.moved;
  counted : l.self-inside.waiting ≡ length (waiting_nodes l.self-inside.ranks);
  bound : l.self-inside.bound ≡ l.initial.self-inside.bound;
  fewer : l.moved ≤ l.self-inside.waiting;
}

abbrev pub decreases-loop-self : goal.decreases-loop-self
decreases-loop-self l = length (own_of l.self-inside.ranks.cells l.viewer (ranked_nodes l.self-inside.ranks))

abbrev pub invariant-loop-self-2 : goal.invariant-loop-self-2
invariant-loop-self-2 l = record {
  drops : Dropped l.initial.self-inside.ranks l.self-inside.ranks (l.initial.self-inside.waiting - l.self-inside.waiting);
  bound : l.self-inside.bound ≡ l.initial.self-inside.bound;
  below : l.self-inside.waiting ≤ l.initial.self-inside.waiting;
  above : min l.initial.self-inside.waiting l.self-inside.bound ≤ l.self-inside.waiting;
}

abbrev pub decreases-loop-self-2 : goal.decreases-loop-self-2
decreases-loop-self-2 l = l.self-inside.waiting - l.self-inside.bound
