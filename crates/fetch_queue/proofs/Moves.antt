-- A viewer's first node moved to the back of the prefetch list.
use Rattle.std.proofs.Common.{◌≡◌, ℕ, ◌*◌, ◌<◌, ◌≤◌, inl, inr, true, false, not, List, [], ◌∷◌, ◌++◌, length, get_or, take, drop, filter, map, min, refl, sym, ap, subst, ◌∙◌, get_or-take, length-take, length-set, get_or-set_same, get_or-set_other, arith}
use Rattle.std.specs.Prelude.{◌==◌, Some}
use Rattle.std.proofs.lemmas.Bool.{true≢false, cases_lt, false_from_ne_true, not_from_true}
use Rattle.std.proofs.lemmas.List.{length-map, take-set, take-map, get_or_past}
use Rattle.ix_links.specs.NodeList.{contains, without, is_distinct, first}
use Rattle.ix_links.specs.NodeLists.{NodeLists, list_at, with_list, without_node, IsDisjoint}
use Rattle.ix_links.proofs.Membership.{contains_head, distinct_head, without_none, without_at}
use Rattle.std.proofs.lemmas.Map.Steps.{length-le_from_distinct_below}
use Rattle.std.proofs.Math.Nat.{mul-le-mul}
use Rattle.std.specs.Prelude.{◌^◌}
use Rattle.ix_links.proofs.Rows.{Found, row_found, row_without, IsDistinct-from_distinct}
use Rattle.fetch_queue.specs.Ranking.{is_of, own_of, ranked_nodes, with_order, MovesFirst}
use Rattle.fetch_queue.specs.Ranks.{ranking_of, IsRanked}
use Rattle.fetch_queue.specs.declared.ranks.Ranks.TheInside.{Inside}
use Rattle.fetch_queue.proofs.Filters.{flat, filter_swap, filter_flat, filter-without, contains-filter, filter_passes, distinct-filter, contains_flat, distinct_flat}
use Rattle.fetch_queue.proofs.Own.{AreOwn, own_without, own_behind, ranked_change}

first_parts : (xs : List ℕ) (node : ℕ) → Some node ≡ first xs → xs ≡ node ∷ drop 1 xs
first_parts [] node h = cc
first_parts (x ∷ xs) node h = let same : x ≡ node = cc in ap (λ (v : ℕ). v ∷ xs) same

-- a viewer's node with a priority
pub record IsFirst (i : Inside) (viewer node : ℕ) : Type 0 where
  pub parts : own_of i.cells viewer (ranked_nodes (ranking_of i)) ≡ node ∷ drop 1 (own_of i.cells viewer (ranked_nodes (ranking_of i)))
  pub mine : is_of i.cells viewer node ≡ true
  pub once : is_distinct (ranked_nodes (ranking_of i)) ≡ true
  pub within : node < i.order.nodes
  pub elsewhere : contains (list_at i.order i.priorities) node ≡ false

pub first_is : (i : Inside) → IsRanked i → (viewer node : ℕ) → Some node ≡ first (own_of i.cells viewer (ranked_nodes (ranking_of i))) → IsFirst i viewer node
first_is i r viewer node h = record {
  parts = first_parts own node h;
  mine = filter_passes (is_of i.cells viewer) ranked node has;
  once = distinct_flat rows (λ k. row_case k (λ (xs : List ℕ). is_distinct xs ≡ true) (r.order_disjoint.once k) refl) apart;
  within = r.order_disjoint.within found.list node at;
  elsewhere = false_from_ne_true (contains (list_at i.order i.priorities) node) (λ also. not_last (r.order_disjoint.apart found.list i.priorities node at also));
}
  where
    rows : List (List ℕ)
    rows = take i.priorities i.order.lists

    ranked : List ℕ
    ranked = flat (take i.priorities i.order.lists)

    own : List ℕ
    own = own_of i.cells viewer (flat (take i.priorities i.order.lists))

    has : contains (own_of i.cells viewer (flat (take i.priorities i.order.lists))) node ≡ true
    has = subst (λ (xs : List ℕ). contains xs node ≡ true) (sym (first_parts (own_of i.cells viewer (flat (take i.priorities i.order.lists))) node h))
        (contains_head node (drop 1 (own_of i.cells viewer (flat (take i.priorities i.order.lists)))))

    found : Found (take i.priorities i.order.lists) node
    found = row_found (take i.priorities i.order.lists) node
        (sym (contains_flat (take i.priorities i.order.lists) node) ∙ contains-filter (is_of i.cells viewer) (flat (take i.priorities i.order.lists)) node has)

    below : found.list < i.priorities
    below = let long : length (take i.priorities i.order.lists) ≡ min i.priorities (length i.order.lists) = length-take i.priorities i.order.lists in
        let within : found.list < length (take i.priorities i.order.lists) = found.within in omega arith

    at : contains (list_at i.order found.list) node ≡ true
    at = subst (λ (xs : List ℕ). contains xs node ≡ true) (get_or-take i.priorities i.order.lists found.list [] below) found.has

    not_last : found.list ≡ i.priorities → ⊥
    not_last e = let b : found.list < i.priorities = below in absurd (omega arith)

    row_case : (k : ℕ) (P : List ℕ → Type 0) → P (get_or i.order.lists k []) → P [] → P (get_or (take i.priorities i.order.lists) k [])
    row_case k P inside outside = elim (cases_lt k i.priorities) [
      | inl h ↦ subst P (sym (get_or-take i.priorities i.order.lists k [] h)) inside
      | inr h ↦ subst P (sym (get_or_past (take i.priorities i.order.lists) k [] (let long : length (take i.priorities i.order.lists) ≡ min i.priorities (length i.order.lists) = length-take i.priorities i.order.lists in omega arith))) outside
    ]

    row_of : (k n : ℕ) → contains (get_or (take i.priorities i.order.lists) k []) n ≡ true → contains (get_or i.order.lists k []) n ≡ true
    row_of k n = row_case k (λ (xs : List ℕ). contains xs n ≡ true → contains (get_or i.order.lists k []) n ≡ true) (λ g. g) (λ g. absurd (true≢false (sym g)))

    apart : (j k n : ℕ) → contains (get_or (take i.priorities i.order.lists) j []) n ≡ true → contains (get_or (take i.priorities i.order.lists) k []) n ≡ true → j ≡ k
    apart j k n a b = r.order_disjoint.apart j k n (row_of j n a) (row_of k n b)

-- the lists after the move
abbrev pub moved_order : Inside → ℕ → NodeLists
moved_order i node = with_list (without_node i.order node) i.priorities (list_at (without_node i.order node) i.priorities ++ node ∷ [])

pub ranked_moved : (i : Inside) → IsRanked i → (node : ℕ) (order own : NodeLists) → IsDisjoint order → IsDisjoint own → order ≡ moved_order i node → own ≡ without_node i.own node →
    IsRanked (record { viewers = i.viewers; cells = i.cells; priorities = i.priorities; order = order; own = own })
ranked_moved i r node order own d e a b =
    ranked_change i r order own d e (ap (λ (l : NodeLists). l.nodes) a) (ap (λ (l : NodeLists). l.nodes) b)
    (ap (λ (l : NodeLists). length l.lists) a ∙ length-set (map (λ xs. without xs node) i.order.lists) i.priorities (list_at (without_node i.order node) i.priorities ++ node ∷ [])
    ∙ length-map i.order.lists (λ (xs : List ℕ). without xs node))
    (ap (λ (l : NodeLists). length l.lists) b ∙ length-map i.own.lists (λ (xs : List ℕ). without xs node))
    (subst (λ (l : NodeLists). AreOwn i.viewers i.cells i.priorities l own) (sym a)
    (subst (λ (l : NodeLists). AreOwn i.viewers i.cells i.priorities (moved_order i node) l) (sym b)
    (own_behind i.viewers i.cells i.priorities (without_node i.order node) (without_node i.own node) (list_at (without_node i.order node) i.priorities ++ node ∷ [])
    (own_without i.viewers i.cells i.priorities i.order i.own node r.own))))

pub moves_first : (i : Inside) → IsRanked i → (viewer node : ℕ) → IsFirst i viewer node → IsDisjoint (moved_order i node) → MovesFirst (ranking_of i) (with_order (ranking_of i) (moved_order i node)) viewer
moves_first i r viewer node f d = record {
  node = node;
  first = f.parts ∙ ap (λ (xs : List ℕ). node ∷ xs) (sym left);
  behind = get_or-set_same (map (λ xs. without xs node) i.order.lists) i.priorities (list_at (without_node i.order node) i.priorities ++ node ∷ []) [] last_in
      ∙ ap (λ (xs : List ℕ). xs ++ node ∷ []) (row_without i.order.lists i.priorities node ∙ without_none (list_at i.order i.priorities) node f.elsewhere);
  few = let short : length (list_at (moved_order i node) i.priorities) ≤ i.order.nodes =
      length-le_from_distinct_below (list_at (moved_order i node) i.priorities) i.order.nodes (IsDistinct-from_distinct (list_at (moved_order i node) i.priorities) (d.once i.priorities)) (λ q g. d.within i.priorities q g) in
      let most : i.viewers * i.cells ≤ 16 * 2 ^ 18 = mul-le-mul r.few_viewers r.few_cells in
      let nodes = r.order_nodes in omega arith;
  others = λ priority h.
      ap (λ (xs : List ℕ). filter (λ n. not (is_of i.cells viewer n)) xs)
      (get_or-set_other (map (λ xs. without xs node) i.order.lists) i.priorities priority (list_at (without_node i.order node) i.priorities ++ node ∷ []) [] (λ e. absurd (omega arith)) ∙ row_without i.order.lists priority node)
      ∙ filter-without (λ n. not (is_of i.cells viewer n)) (list_at i.order priority) node (not_from_true (is_of i.cells viewer node) f.mine);
  viewers = refl;
  cells = refl;
  priorities = refl;
  nodes = refl;
  lists = length-set (map (λ xs. without xs node) i.order.lists) i.priorities (list_at (without_node i.order node) i.priorities ++ node ∷ []) ∙ length-map i.order.lists (λ (xs : List ℕ). without xs node);
}
  where
    last_in : i.priorities < length (map (λ (xs : List ℕ). without xs node) i.order.lists)
    last_in = let long : length (map (λ (xs : List ℕ). without xs node) i.order.lists) ≡ length i.order.lists = length-map i.order.lists (λ (xs : List ℕ). without xs node) in
        let count = r.order_lists in omega arith

    own : List ℕ
    own = own_of i.cells viewer (ranked_nodes (ranking_of i))

    left : own_of i.cells viewer (ranked_nodes (with_order (ranking_of i) (moved_order i node))) ≡ drop 1 (own_of i.cells viewer (ranked_nodes (ranking_of i)))
    left =
        ap (λ (rows : List (List ℕ)). own_of i.cells viewer (flat rows))
        (take-set (map (λ (xs : List ℕ). without xs node) i.order.lists) i.priorities (list_at (without_node i.order node) i.priorities ++ node ∷ []) ∙ take-map (λ (xs : List ℕ). without xs node) i.priorities i.order.lists)
        ∙ ap (λ (xs : List ℕ). own_of i.cells viewer xs) (sym (filter_flat (λ y. not (node == y)) (take i.priorities i.order.lists)))
        ∙ filter_swap (is_of i.cells viewer) (λ y. not (node == y)) (ranked_nodes (ranking_of i))
        ∙ ap (λ (xs : List ℕ). without xs node) f.parts
        ∙ without_at [] (drop 1 (own_of i.cells viewer (ranked_nodes (ranking_of i)))) node
        (distinct_head node (drop 1 (own_of i.cells viewer (ranked_nodes (ranking_of i)))) (subst (λ (xs : List ℕ). is_distinct xs ≡ true) f.parts (distinct-filter (is_of i.cells viewer) (ranked_nodes (ranking_of i)) f.once)))
