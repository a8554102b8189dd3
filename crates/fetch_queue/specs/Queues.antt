-- What `Queues` stands for: the ranking with its nodes read as requests.
use Rattle.std.specs.Prelude.{◌≡◌, ℕ, ◌≤◌, length, take, map}
use Rattle.ix_links.specs.NodeLists.{list_at}
use Rattle.fetch_queue.specs.declared.queues.Queues.TheInside.{Inside}
use Rattle.fetch_queue.specs.Queue.{Queue}
use Rattle.fetch_queue.specs.Ranking.{Ranking}
use Rattle.fetch_queue.specs.Requests.{requests_of}

abbrev pub queue_of_ranking : Ranking → ℕ → Queue
queue_of_ranking r bound =
    record { viewers = r.viewers; cells = r.cells; bound = bound; lists = map (requests_of r.cells) (take r.priorities r.order.lists); prefetch = requests_of r.cells (list_at r.order r.priorities) }

abbrev pub queue_of : Inside → Queue
queue_of q = queue_of_ranking q.ranks q.bound

-- the count is that of the prefetch list, which is within its bound
pub record IsBounded (q : Inside) : Type 0 where
  pub counted : q.waiting ≡ length (list_at q.ranks.order q.ranks.priorities)
  pub within : q.waiting ≤ q.bound
  pub few : q.bound ≤ 4096
