use Rattle.std.proofs.Common.{not, false, get_or}
use Rattle.ix_links.specs.NodeLists.{list_at}
use Rattle.recency.proofs.Walks.{IsWalked, left_at}
use Rattle.recency.proofs.recency.first_unpinned.Given as goal

abbrev pub invariant-loop-slot : goal.invariant-loop-slot
invariant-loop-slot l = IsWalked (λ slot. not (get_or l.pinned slot false)) (list_at l.links l.list) l.slot

abbrev pub decreases-loop-slot : goal.decreases-loop-slot
decreases-loop-slot l = left_at (list_at l.links l.list) l.slot
