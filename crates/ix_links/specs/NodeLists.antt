-- Lists of node numbers, each list by its number.
use Rattle.std.specs.Prelude.{◌≡◌, ℕ, ◌+◌, ◌<◌, Bool, true, List, [], Option, Some, map, slice_set, slice_get, slice_index_or}
use Rattle.std.specs.List.{list_any, position}
use Rattle.ix_links.specs.NodeList.{contains, without, is_distinct}

-- how many nodes there are, and the lists that some of them are in
pub record NodeLists : Type 0 where
  pub nodes : ℕ
  pub lists : List (List ℕ)

-- the list of this number
abbrev pub list_at : NodeLists → ℕ → List ℕ
list_at l list = slice_index_or l.lists list []

-- the same with one list replaced
abbrev pub with_list : NodeLists → ℕ → List ℕ → NodeLists
with_list l list xs = record { nodes = l.nodes; lists = slice_set l.lists list xs }

-- the same with the node taken out of the list that it is in
abbrev pub without_node : NodeLists → ℕ → NodeLists
without_node l node = record { nodes = l.nodes; lists = map (λ xs. without xs node) l.lists }

-- whether the node is in a list
abbrev pub is_linked : NodeLists → ℕ → Bool
is_linked l node = list_any (λ xs. contains xs node) l.lists

-- the number of the list that the node is in
abbrev pub list_of_node : NodeLists → ℕ → Option ℕ
list_of_node l node = position (λ xs. contains xs node) l.lists

-- what stands behind the node in its list, wherever that is
abbrev pub Follows : NodeLists → ℕ → Option ℕ → Type 0
Follows l node behind =
    (list place : ℕ) → slice_get (list_at l list) place ≡ Some node → behind ≡ slice_get (list_at l list) (place + 1)

-- only nodes are in the lists, and each at most once
pub record IsDisjoint (l : NodeLists) : Type 0 where
  pub within : (list node : ℕ) → contains (list_at l list) node ≡ true → node < l.nodes
  pub apart : (list other node : ℕ) → contains (list_at l list) node ≡ true → contains (list_at l other) node ≡ true → list ≡ other
  pub once : (list : ℕ) → is_distinct (list_at l list) ≡ true
