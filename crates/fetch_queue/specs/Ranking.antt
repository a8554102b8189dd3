-- The same lists by node numbers: a node is `viewer * cells + cell`, and the list behind the priorities is the prefetch list.
use Rattle.std.specs.Prelude.{◌≡◌, ℕ, ◌/◌, ◌<◌, ◌≤◌, ◌^◌, ◌==◌, Bool, true, false, not, List, [], ◌∷◌, ◌++◌, length, take, drop, filter}
use Rattle.std.specs.List.{flat_map}
use Rattle.ix_links.specs.NodeLists.{NodeLists, list_at, with_list, without_node}

pub record Ranking : Type 0 where
  pub viewers : ℕ
  pub cells : ℕ
  pub priorities : ℕ
  pub order : NodeLists

-- whether a node is of this viewer
abbrev pub is_of : ℕ → ℕ → ℕ → Bool
is_of cells viewer node = node / cells == viewer

-- a viewer's nodes in one list
abbrev pub own_of : ℕ → ℕ → List ℕ → List ℕ
own_of cells viewer nodes = filter (is_of cells viewer) nodes

-- the nodes with a priority, by priority and place
abbrev pub ranked_nodes : Ranking → List ℕ
ranked_nodes r = flat_map (λ nodes. nodes) (take r.priorities r.order.lists)

-- the nodes of the prefetch list
abbrev pub waiting_nodes : Ranking → List ℕ
waiting_nodes r = list_at r.order r.priorities

-- all of them, those of the prefetch list last
abbrev pub all_nodes : Ranking → List ℕ
all_nodes r = ranked_nodes r ++ waiting_nodes r

-- the same with other lists
abbrev pub with_order : Ranking → NodeLists → Ranking
with_order r order = record { viewers = r.viewers; cells = r.cells; priorities = r.priorities; order = order }

-- a node at the front or at the back of a list
abbrev pub joined_nodes : List ℕ → ℕ → Bool → List ℕ
joined_nodes nodes node true = node ∷ nodes
joined_nodes nodes node false = nodes ++ node ∷ []

-- the node is taken out wherever it stands, and put into a priority
abbrev pub put_node : Ranking → ℕ → ℕ → Bool → Ranking
put_node r priority node to_front =
    with_order r (with_list (without_node r.order node) priority (joined_nodes (list_at (without_node r.order node) priority) node to_front))

-- the viewer's first node went to the back of the prefetch list
pub record MovesFirst (old new : Ranking) (viewer : ℕ) : Type 0 where
  pub node : ℕ
  pub first : own_of old.cells viewer (ranked_nodes old) ≡ node ∷ own_of new.cells viewer (ranked_nodes new)
  pub behind : waiting_nodes new ≡ waiting_nodes old ++ node ∷ []
  pub few : length (waiting_nodes new) ≤ 2 ^ 22
  pub others : (priority : ℕ) → priority < old.priorities →
      filter (λ n. not (is_of old.cells viewer n)) (list_at new.order priority) ≡ filter (λ n. not (is_of old.cells viewer n)) (list_at old.order priority)
  pub viewers : new.viewers ≡ old.viewers
  pub cells : new.cells ≡ old.cells
  pub priorities : new.priorities ≡ old.priorities
  pub nodes : new.order.nodes ≡ old.order.nodes
  pub lists : length new.order.lists ≡ length old.order.lists

-- the viewer has no node with a priority, and nothing changed
pub record MovesNone (old new : Ranking) (viewer : ℕ) : Type 0 where
  pub none : own_of old.cells viewer (ranked_nodes old) ≡ []
  pub unchanged : new ≡ old

abbrev pub MovesNodes : Bool → Ranking → Ranking → ℕ → Type 0
MovesNodes true old new viewer = MovesFirst old new viewer
MovesNodes false old new viewer = MovesNone old new viewer

-- the prefetch list lost its first node, and nothing else changed
pub record DropsFirst (old new : Ranking) : Type 0 where
  pub waiting : waiting_nodes new ≡ drop 1 (waiting_nodes old)
  pub rows : take new.priorities new.order.lists ≡ take old.priorities old.order.lists
  pub viewers : new.viewers ≡ old.viewers
  pub cells : new.cells ≡ old.cells
  pub priorities : new.priorities ≡ old.priorities
