-- What the two families of links stand for.
use Rattle.std.specs.Prelude.{◌≡◌, ℕ, ◌+◌, ◌*◌, ◌<◌, ◌≤◌, ◌^◌, length}
use Rattle.ix_links.specs.NodeLists.{list_at, IsDisjoint}
use Rattle.fetch_queue.specs.Ranking.{Ranking, own_of}
use Rattle.fetch_queue.specs.declared.ranks.Ranks.TheInside.{Inside}

abbrev pub ranking_of : Inside → Ranking
ranking_of r = record { viewers = r.viewers; cells = r.cells; priorities = r.priorities; order = r.order }

-- each viewer's own list of a priority has the viewer's nodes of that priority, in the same order
pub record IsRanked (r : Inside) : Type 0 where
  pub few_viewers : r.viewers ≤ 16
  pub some_cells : 0 < r.cells
  pub few_cells : r.cells ≤ 2 ^ 18
  pub few_priorities : r.priorities ≤ 8
  pub order_disjoint : IsDisjoint r.order
  pub order_nodes : r.order.nodes ≡ r.viewers * r.cells
  pub order_lists : length r.order.lists ≡ r.priorities + 1
  pub own_disjoint : IsDisjoint r.own
  pub own_nodes : r.own.nodes ≡ r.viewers * r.cells
  pub own_lists : length r.own.lists ≡ r.viewers * r.priorities
  pub own : (viewer priority : ℕ) → viewer < r.viewers → priority < r.priorities → list_at r.own (viewer * r.priorities + priority) ≡ own_of r.cells viewer (list_at r.order priority)
