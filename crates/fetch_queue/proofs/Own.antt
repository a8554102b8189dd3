-- Each viewer's own lists have its nodes in the order of the priorities, whatever is taken out and put in.
use Rattle.std.proofs.Common.{◌≡◌, ◌≢◌, ℕ, ◌+◌, ◌*◌, ◌/◌, ◌%◌, ◌<◌, inl, inr, Bool, true, false, not, cond, List, [], ◌∷◌, ◌++◌, length, get_or, set, filter, map, sym, ap, subst, ◌∙◌, append-nil, mul_comm, length-set, get_or-set_same, get_or-set_other, arith}
use Rattle.std.specs.Prelude.{◌==◌}
use Rattle.std.proofs.lemmas.Bool.{eq-eqb, ne_eqb, cases_eq}
use Rattle.std.proofs.lemmas.Nat.{div-mul-add, mod-mul-add, mul-add-lt, div_below}
use Rattle.std.proofs.lemmas.List.{length-map}
use Rattle.std.proofs.lemmas.List.Elements.{filter-append}
use Rattle.ix_links.specs.NodeList.{without}
use Rattle.ix_links.specs.NodeLists.{NodeLists, list_at, with_list, without_node, IsDisjoint}
use Rattle.ix_links.proofs.Rows.{row_without}
use Rattle.fetch_queue.specs.Ranking.{is_of, own_of, joined_nodes}
use Rattle.fetch_queue.specs.Ranks.{IsRanked}
use Rattle.fetch_queue.specs.declared.ranks.Ranks.TheInside.{Inside}
use Rattle.fetch_queue.proofs.Filters.{filter_swap}

abbrev pub AreOwn : ℕ → ℕ → ℕ → NodeLists → NodeLists → Type 0
AreOwn viewers cells priorities order own =
    (viewer priority : ℕ) → viewer < viewers → priority < priorities → list_at own (viewer * priorities + priority) ≡ own_of cells viewer (list_at order priority)

-- two places in a table of rows
pub row_same : (w a b c d : ℕ) → b < w → d < w → a * w + b ≡ c * w + d → a ≡ c
row_same w a b c d h g e = sym (div-mul-add a w b h) ∙ ap (λ (k : ℕ). k / w) e ∙ div-mul-add c w d g

pub column_same : (w a b c d : ℕ) → b < w → d < w → a * w + b ≡ c * w + d → b ≡ d
column_same w a b c d h g e = sym (mod-mul-add a w b h) ∙ ap (λ (k : ℕ). k % w) e ∙ mod-mul-add c w d g

pub own_without : (viewers cells priorities : ℕ) (order own : NodeLists) (node : ℕ) → AreOwn viewers cells priorities order own →
    AreOwn viewers cells priorities (without_node order node) (without_node own node)
own_without viewers cells priorities order own node are viewer priority v p =
    row_without own.lists (viewer * priorities + priority) node ∙ ap (λ (xs : List ℕ). without xs node) (are viewer priority v p)
    ∙ filter_swap (λ y. not (node == y)) (is_of cells viewer) (list_at order priority)
    ∙ ap (λ (xs : List ℕ). own_of cells viewer xs) (sym (row_without order.lists priority node))

joined_own : (p : ℕ → Bool) (xs : List ℕ) (node : ℕ) (to_front : Bool) → p node ≡ true → filter p (joined_nodes xs node to_front) ≡ joined_nodes (filter p xs) node to_front
joined_own p xs node true passes = rw passes
joined_own p xs node false passes = filter-append p xs (node ∷ []) ∙ ap (λ (b : Bool). filter p xs ++ cond b (node ∷ []) []) passes

joined_other : (p : ℕ → Bool) (xs : List ℕ) (node : ℕ) (to_front : Bool) → p node ≡ false → filter p (joined_nodes xs node to_front) ≡ filter p xs
joined_other p xs node true fails = rw fails
joined_other p xs node false fails = filter-append p xs (node ∷ []) ∙ ap (λ (b : Bool). filter p xs ++ cond b (node ∷ []) []) fails ∙ append-nil (filter p xs)

pub own_put : (viewers cells priorities : ℕ) (order own : NodeLists) (node at : ℕ) (to_front : Bool) → AreOwn viewers cells priorities order own →
    at < priorities → node / cells < viewers → at < length order.lists → (node / cells) * priorities + at < length own.lists →
    AreOwn viewers cells priorities (with_list order at (joined_nodes (list_at order at) node to_front))
    (with_list own ((node / cells) * priorities + at) (joined_nodes (list_at own ((node / cells) * priorities + at)) node to_front))
own_put viewers cells priorities order own node at to_front are at_in owner_in at_within own_within viewer priority v p =
    elim (cases_eq priority at) as (λ _. get_or own' (viewer * priorities + priority) [] ≡ own_of cells viewer (get_or order' priority [])) [
      | inl same ↦ elim (cases_eq viewer (node / cells)) as (λ _. get_or own' (viewer * priorities + priority) [] ≡ own_of cells viewer (get_or order' priority [])) [
        | inl mine ↦
            let place : viewer * priorities + priority ≡ index = ap (λ (k : ℕ). k * priorities + priority) mine ∙ ap (λ (k : ℕ). (node / cells) * priorities + k) same in
            ap (λ (k : ℕ). get_or own' k []) place ∙ get_or-set_same own.lists index (joined_nodes (list_at own index) node to_front) [] own_within
            ∙ ap (λ (xs : List ℕ). joined_nodes xs node to_front) (ap (λ (k : ℕ). get_or own.lists k []) (sym place) ∙ are viewer priority v p ∙ ap (λ (k : ℕ). own_of cells viewer (get_or order.lists k [])) same)
            ∙ sym (joined_own (is_of cells viewer) (list_at order at) node to_front (eq-eqb (node / cells) viewer (sym mine)))
            ∙ ap (λ (xs : List ℕ). own_of cells viewer xs) (sym here ∙ ap (λ (k : ℕ). get_or order' k []) (sym same))
        | inr other ↦
            let apart : viewer * priorities + priority ≢ index = λ e. other (row_same priorities viewer priority (node / cells) at p at_in e) in
            get_or-set_other own.lists index (viewer * priorities + priority) (joined_nodes (list_at own index) node to_front) [] apart
            ∙ are viewer priority v p ∙ ap (λ (k : ℕ). own_of cells viewer (get_or order.lists k [])) same
            ∙ sym (joined_other (is_of cells viewer) (list_at order at) node to_front (ne_eqb (node / cells) viewer (λ e. other (sym e))))
            ∙ ap (λ (xs : List ℕ). own_of cells viewer xs) (sym here ∙ ap (λ (k : ℕ). get_or order' k []) (sym same))
      ]
      | inr different ↦
          let apart : viewer * priorities + priority ≢ index = λ e. different (column_same priorities viewer priority (node / cells) at p at_in e) in
          get_or-set_other own.lists index (viewer * priorities + priority) (joined_nodes (list_at own index) node to_front) [] apart
          ∙ are viewer priority v p
          ∙ ap (λ (xs : List ℕ). own_of cells viewer xs) (sym (get_or-set_other order.lists at priority (joined_nodes (list_at order at) node to_front) [] different))
    ]
  where
    index : ℕ
    index = (node / cells) * priorities + at

    own' : List (List ℕ)
    own' = set own.lists ((node / cells) * priorities + at) (joined_nodes (list_at own ((node / cells) * priorities + at)) node to_front)

    order' : List (List ℕ)
    order' = set order.lists at (joined_nodes (list_at order at) node to_front)

    here : get_or order' at [] ≡ joined_nodes (list_at order at) node to_front
    here = get_or-set_same order.lists at (joined_nodes (list_at order at) node to_front) [] at_within

-- a change of the prefetch list alone
pub own_behind : (viewers cells priorities : ℕ) (order own : NodeLists) (xs : List ℕ) → AreOwn viewers cells priorities order own →
    AreOwn viewers cells priorities (with_list order priorities xs) own
own_behind viewers cells priorities order own xs are viewer priority v p =
    are viewer priority v p ∙ ap (λ (ys : List ℕ). own_of cells viewer ys) (sym (get_or-set_other order.lists priorities priority xs [] (λ e. absurd (omega arith))))

-- the two families of links after a change of both
pub ranked_change : (i : Inside) → IsRanked i → (order own : NodeLists) → IsDisjoint order → IsDisjoint own → order.nodes ≡ i.order.nodes → own.nodes ≡ i.own.nodes →
    length order.lists ≡ length i.order.lists → length own.lists ≡ length i.own.lists → AreOwn i.viewers i.cells i.priorities order own →
    IsRanked (record { viewers = i.viewers; cells = i.cells; priorities = i.priorities; order = order; own = own })
ranked_change i r order own d e order_nodes own_nodes order_lists own_lists are = record {
  few_viewers = r.few_viewers;
  some_cells = r.some_cells;
  few_cells = r.few_cells;
  few_priorities = r.few_priorities;
  order_disjoint = d;
  order_nodes = order_nodes ∙ r.order_nodes;
  order_lists = order_lists ∙ r.order_lists;
  own_disjoint = e;
  own_nodes = own_nodes ∙ r.own_nodes;
  own_lists = own_lists ∙ r.own_lists;
  own = are;
}

pub ranked_without : (i : Inside) → IsRanked i → (node : ℕ) (order own : NodeLists) → IsDisjoint order → IsDisjoint own →
    order ≡ without_node i.order node → own ≡ without_node i.own node →
    IsRanked (record { viewers = i.viewers; cells = i.cells; priorities = i.priorities; order = order; own = own })
ranked_without i r node order own d e a b =
    ranked_change i r order own d e (ap (λ (l : NodeLists). l.nodes) a) (ap (λ (l : NodeLists). l.nodes) b)
    (ap (λ (l : NodeLists). length l.lists) a ∙ length-map i.order.lists (λ (xs : List ℕ). without xs node)) (ap (λ (l : NodeLists). length l.lists) b ∙ length-map i.own.lists (λ (xs : List ℕ). without xs node))
    (subst (λ (l : NodeLists). AreOwn i.viewers i.cells i.priorities l own) (sym a)
    (subst (λ (l : NodeLists). AreOwn i.viewers i.cells i.priorities (without_node i.order node) l) (sym b)
    (own_without i.viewers i.cells i.priorities i.order i.own node r.own)))

pub ranked_put : (i : Inside) → IsRanked i → (priority node : ℕ) (to_front : Bool) (order own : NodeLists) → IsDisjoint order → IsDisjoint own → priority < i.priorities → node < i.order.nodes →
    order ≡ with_list (without_node i.order node) priority (joined_nodes (list_at (without_node i.order node) priority) node to_front) →
    own ≡ with_list (without_node i.own node) ((node / i.cells) * i.priorities + priority) (joined_nodes (list_at (without_node i.own node) ((node / i.cells) * i.priorities + priority)) node to_front) →
    IsRanked (record { viewers = i.viewers; cells = i.cells; priorities = i.priorities; order = order; own = own })
ranked_put i r priority node to_front order own d e at_in node_in a b =
    ranked_change i r order own d e (ap (λ (l : NodeLists). l.nodes) a) (ap (λ (l : NodeLists). l.nodes) b)
    (ap (λ (l : NodeLists). length l.lists) a ∙ length-set (map (λ xs. without xs node) i.order.lists) priority (joined_nodes (list_at (without_node i.order node) priority) node to_front) ∙ order_long)
    (ap (λ (l : NodeLists). length l.lists) b ∙ length-set (map (λ xs. without xs node) i.own.lists) index (joined_nodes (list_at (without_node i.own node) index) node to_front) ∙ own_long)
    (subst (λ (l : NodeLists). AreOwn i.viewers i.cells i.priorities l own) (sym a)
    (subst (λ (l : NodeLists). AreOwn i.viewers i.cells i.priorities (with_list (without_node i.order node) priority (joined_nodes (list_at (without_node i.order node) priority) node to_front)) l) (sym b)
    (own_put i.viewers i.cells i.priorities (without_node i.order node) (without_node i.own node) node priority to_front (own_without i.viewers i.cells i.priorities i.order i.own node r.own)
    at_in owner (let long = r.order_lists in let same = order_long in omega arith) (subst (λ (n : ℕ). index < n) (sym (own_long ∙ r.own_lists ∙ mul_comm i.viewers i.priorities)) (mul-add-lt (node / i.cells) i.priorities priority i.viewers owner at_in)))))
  where
    index : ℕ
    index = (node / i.cells) * i.priorities + priority

    order_long : length (map (λ (xs : List ℕ). without xs node) i.order.lists) ≡ length i.order.lists
    order_long = length-map i.order.lists (λ (xs : List ℕ). without xs node)

    own_long : length (map (λ (xs : List ℕ). without xs node) i.own.lists) ≡ length i.own.lists
    own_long = length-map i.own.lists (λ (xs : List ℕ). without xs node)

    owner : node / i.cells < i.viewers
    owner = div_below node i.cells i.viewers r.some_cells (subst (λ (n : ℕ). node < n) r.order_nodes node_in)
