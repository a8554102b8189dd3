-- How two arrays of links hold lists. A list is a ring through its head: behind the nodes each list has an entry of its own,
-- after which its first node stands and before which its last one stands.
use Rattle.std.specs.Prelude.{◌≡◌, ℕ, ◌+◌, ◌^◌, ◌<◌, ◌==◌, ◌&&◌, nat_lt, Bool, true, false, zero, suc, List, [], ◌∷◌, Option, None, Some, length, map, slice_index, slice_index_or, if◌then◌else◌}
use Rattle.std.specs.List.{range_with_len}
use Rattle.ix_links.specs.NodeList.{contains, is_distinct}

-- whether `after` leads from one entry through these to the last one, and `before` leads back
abbrev pub leads : List ℕ → List ℕ → ℕ → List ℕ → ℕ → Bool
leads after before from [] last = (slice_index after from == last) && (slice_index before last == from)
leads after before from (x ∷ xs) last = ((slice_index after from == x) && (slice_index before x == from)) && leads after before x xs last

-- the nodes from an entry on, until an entry that is no node; at most so many
abbrev pub walk : List ℕ → ℕ → ℕ → ℕ → List ℕ
walk after nodes zero entry = []
walk after nodes (suc most) entry =
    if nat_lt entry nodes then entry ∷ walk after nodes most (slice_index after entry) else []

-- the list of each head
abbrev pub walks : List ℕ → ℕ → ℕ → List (List ℕ)
walks after nodes count = map (λ list. walk after nodes nodes (slice_index after (nodes + list))) (range_with_len 0 count)

-- whether this is the owner's list
abbrev pub owns_node : Option ℕ → ℕ → Bool
owns_node None list = false
owns_node (Some owner) list = owner == list

-- the links of each list are a ring through its head, and each node's owner is the list that it is in
pub record IsLinked (nodes count : ℕ) (after before : List ℕ) (owners : List (Option ℕ)) (lists : List (List ℕ)) : Type 0 where
  pub long_after : length after ≡ nodes + count
  pub long_before : length before ≡ nodes + count
  pub long_owners : length owners ≡ nodes
  pub long_lists : length lists ≡ count
  pub few : nodes + count < 2 ^ 32
  pub ring : (list : ℕ) → list < count → leads after before (nodes + list) (slice_index_or lists list []) (nodes + list) ≡ true
  pub owned : (list node : ℕ) → contains (slice_index_or lists list []) node ≡ owns_node (slice_index_or owners node None) list
  pub once : (list : ℕ) → is_distinct (slice_index_or lists list []) ≡ true
