-- What the links of `Recency` stand for.
use Rattle.std.specs.Prelude.{◌≡◌, ◌/◌, ◌<◌, ◌≤◌, ◌^◌, length}
use Rattle.ix_links.specs.NodeLists.{list_at, IsDisjoint}
use Rattle.recency.specs.Order.{Order}
use Rattle.recency.specs.declared.recency.Recency.TheInside.{Inside}

-- cold is the list 0, and kept the list 1
abbrev pub order_of : Inside → Order
order_of r = record { slots = r.links.nodes; cold = list_at r.links 0; kept = list_at r.links 1 }

-- the two lists are disjoint, and the counts are those of kept
pub record IsCounted (r : Inside) : Type 0 where
  pub disjoint : IsDisjoint r.links
  pub two : length r.links.lists ≡ 2
  pub some_slots : 2 ≤ r.links.nodes
  pub few_slots : r.links.nodes < 2 ^ 31
  pub half : r.most_kept ≡ r.links.nodes / 2
  pub counted : r.kept ≡ length (list_at r.links 1)
  pub bound : r.kept ≤ r.most_kept
