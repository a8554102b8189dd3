-- The arrays hold their lists: at the start, after a node is put into a list, and after one is taken out.
use Rattle.std.proofs.Common.{◌≡◌, ◌≢◌, ℕ, ◌+◌, ◌<◌, ◌≤◌, inl, inr, Bool, true, false, ◌||◌, List, [], ◌∷◌, ◌++◌, length, get_or, set, replicate, refl, sym, ap, subst, ◌∙◌, append-nil, length-set, get_or-set_same, get_or-set_other, arith}
use Rattle.std.specs.List.{range_with_len}
use Rattle.std.specs.Prelude.{◌==◌, Option, None, Some, slice_index, ◌^◌}
use Rattle.std.proofs.lemmas.Bool.{false≢true, eqb-true, eq-eqb, ne_eqb, or_cases, or_from, or_left, cases_eq, cases_lt, cases_Bool}
use Rattle.std.proofs.lemmas.List.{get_or_past, get_or-replicate, length-replicate}
use Rattle.std.proofs.lemmas.List.FromFn.{fill_by_all, length-range_with_len, get_or-range_with_len}
use Rattle.std.proofs.lemmas.Map.Steps.{length-le_from_distinct_below}
use Rattle.ix_links.specs.NodeList.{contains, is_distinct}
use Rattle.ix_links.specs.NodeLists.{IsDisjoint}
use Rattle.ix_links.specs.Ring.{leads, walk, walks, owns_node, IsLinked}
use Rattle.ix_links.proofs.Membership.{apart_by, contains_head, contains_later, contains-between, distinct-cons, distinct-between}
use Rattle.ix_links.proofs.Paths.{IsPath, path_from_leads, leads_from_path, last_or, first_or, last_or_in, first_or_in, path_same, walk_path, IsPutBetween, put_path}
use Rattle.ix_links.proofs.Rows.{IsDistinct-from_distinct}

-- an entry of the ring of a list: its head or one of its nodes
abbrev pub in_ring : ℕ → List (List ℕ) → ℕ → ℕ → Bool
in_ring nodes ls list entry = contains ((nodes + list) ∷ get_or ls list []) entry

-- ---- what linked arrays say
pub linked_within : {nodes count : ℕ} {after before : List ℕ} {owners : List (Option ℕ)} {ls : List (List ℕ)} → IsLinked nodes count after before owners ls →
    (list node : ℕ) → contains (get_or ls list []) node ≡ true → node < nodes
linked_within {nodes} {count} {after} {before} {owners} {ls} l list node h =
    elim (cases_lt node nodes) [
      | inl below ↦ below
      | inr past ↦
          let none : get_or owners node None ≡ None = get_or_past owners node None (subst (λ v. v ≤ node) (sym l.long_owners) past) in
          absurd (false≢true (sym (ap (λ o. owns_node o list) none) ∙ sym (l.owned list node) ∙ h))
    ]

pub linked_apart : {nodes count : ℕ} {after before : List ℕ} {owners : List (Option ℕ)} {ls : List (List ℕ)} → IsLinked nodes count after before owners ls →
    (list other node : ℕ) → contains (get_or ls list []) node ≡ true → contains (get_or ls other []) node ≡ true → list ≡ other
linked_apart {nodes} {count} {after} {before} {owners} {ls} l list other node h g =
    owner_of_both (get_or owners node None) list other (sym (l.owned list node) ∙ h) (sym (l.owned other node) ∙ g)
  where
    owner_of_both : (o : Option ℕ) (j k : ℕ) → owns_node o j ≡ true → owns_node o k ≡ true → j ≡ k
    owner_of_both None j k p q = absurd (false≢true p)
    owner_of_both (Some i) j k p q = sym (eqb-true i j p) ∙ eqb-true i k q

pub disjoint_from_linked : {nodes count : ℕ} {after before : List ℕ} {owners : List (Option ℕ)} {ls : List (List ℕ)} → IsLinked nodes count after before owners ls →
    IsDisjoint (record { nodes = nodes; lists = ls })
disjoint_from_linked l = record { within = linked_within l; apart = linked_apart l; once = l.once }

pub linked_path : {nodes count : ℕ} {after before : List ℕ} {owners : List (Option ℕ)} {ls : List (List ℕ)} → IsLinked nodes count after before owners ls →
    (list : ℕ) → list < count → IsPath (λ k. slice_index after k) (λ k. slice_index before k) (nodes + list) (get_or ls list []) (nodes + list)
linked_path {nodes} {count} {after} {before} {owners} {ls} l list h = path_from_leads after before (nodes + list) (get_or ls list []) (nodes + list) (l.ring list h)

pub head_apart : {nodes count : ℕ} {after before : List ℕ} {owners : List (Option ℕ)} {ls : List (List ℕ)} → IsLinked nodes count after before owners ls →
    (list other : ℕ) → contains (get_or ls other []) (nodes + list) ≡ false
head_apart {nodes} {count} {after} {before} {owners} {ls} l list other =
    elim (cases_Bool (contains (get_or ls other []) (nodes + list))) [
      | inl has ↦ let below : nodes + list < nodes = linked_within l other (nodes + list) has in absurd (omega arith)
      | inr lacks ↦ lacks
    ]

-- a ring from its head on, and to its head
pub ring_once : {nodes count : ℕ} {after before : List ℕ} {owners : List (Option ℕ)} {ls : List (List ℕ)} → IsLinked nodes count after before owners ls →
    (list : ℕ) → is_distinct ((nodes + list) ∷ get_or ls list []) ≡ true
ring_once {nodes} {count} {after} {before} {owners} {ls} l list = distinct-cons (nodes + list) (get_or ls list []) (head_apart l list list) (l.once list)

pub ring_once_back : {nodes count : ℕ} {after before : List ℕ} {owners : List (Option ℕ)} {ls : List (List ℕ)} → IsLinked nodes count after before owners ls →
    (list : ℕ) → is_distinct (get_or ls list [] ++ (nodes + list) ∷ []) ≡ true
ring_once_back {nodes} {count} {after} {before} {owners} {ls} l list =
    distinct-between (get_or ls list []) [] (nodes + list)
    (subst (λ (zs : List ℕ). contains zs (nodes + list) ≡ false) (sym (append-nil (get_or ls list []))) (head_apart l list list))
    (subst (λ (zs : List ℕ). is_distinct zs ≡ true) (sym (append-nil (get_or ls list []))) (l.once list))

pub ring_back : (xs : List ℕ) (head entry : ℕ) → contains (xs ++ head ∷ []) entry ≡ true → contains (head ∷ xs) entry ≡ true
ring_back xs head entry h =
    subst (λ (zs : List ℕ). ((entry == head) || contains zs entry) ≡ true) (append-nil xs) (sym (contains-between xs [] head entry) ∙ h)

pub ring_below : {nodes count : ℕ} {after before : List ℕ} {owners : List (Option ℕ)} {ls : List (List ℕ)} → IsLinked nodes count after before owners ls →
    (list entry : ℕ) → list < count → in_ring nodes ls list entry ≡ true → entry < nodes + count
ring_below {nodes} {count} {after} {before} {owners} {ls} l list entry below h =
    elim (or_cases (entry == nodes + list) (contains (get_or ls list []) entry) h) [
      | inl e ↦ let is : entry ≡ nodes + list = eqb-true entry (nodes + list) e in omega arith
      | inr has ↦ let w : entry < nodes = linked_within l list entry has in omega arith
    ]

-- rings share no entry
pub rings_apart : {nodes count : ℕ} {after before : List ℕ} {owners : List (Option ℕ)} {ls : List (List ℕ)} → IsLinked nodes count after before owners ls →
    (list other a b : ℕ) → other ≢ list → in_ring nodes ls list a ≡ true → in_ring nodes ls other b ≡ true → b ≢ a
rings_apart {nodes} {count} {after} {before} {owners} {ls} l list other a b ne h g e =
    elim (or_cases (a == nodes + list) (contains (get_or ls list []) a) h) [
      | inl head_a ↦
          let is_a : a ≡ nodes + list = eqb-true a (nodes + list) head_a in
          elim (or_cases (b == nodes + other) (contains (get_or ls other []) b) g) [
            | inl head_b ↦ let is_b : b ≡ nodes + other = eqb-true b (nodes + other) head_b in ne (omega arith)
            | inr has_b ↦ let w : b < nodes = linked_within l other b has_b in absurd (omega arith)
          ]
      | inr has_a ↦
          let w : a < nodes = linked_within l list a has_a in
          elim (or_cases (b == nodes + other) (contains (get_or ls other []) b) g) [
            | inl head_b ↦ let is_b : b ≡ nodes + other = eqb-true b (nodes + other) head_b in absurd (omega arith)
            | inr has_b ↦ ne (linked_apart l other list b has_b (subst (λ v. contains (get_or ls list []) v ≡ true) (sym e) has_a))
          ]
    ]

pub free_apart : {nodes count : ℕ} {after before : List ℕ} {owners : List (Option ℕ)} {ls : List (List ℕ)} → IsLinked nodes count after before owners ls →
    (node list : ℕ) → node < nodes → contains (get_or ls list []) node ≡ false → in_ring nodes ls list node ≡ false
free_apart {nodes} {count} {after} {before} {owners} {ls} l node list below lacks =
    or_from (node == nodes + list) (contains (get_or ls list []) node) (ne_eqb node (nodes + list) (λ e. absurd (omega arith))) lacks

-- the lists that the links hold are those that a walk finds
pub linked_walks : {nodes count : ℕ} {after before : List ℕ} {owners : List (Option ℕ)} {ls : List (List ℕ)} → IsLinked nodes count after before owners ls →
    ls ≡ walks after nodes count
linked_walks {nodes} {count} {after} {before} {owners} {ls} l =
    fill_by_all (λ list. walk after nodes nodes (slice_index after (nodes + list))) ls count [] l.long_lists
    (λ list h. sym (walk_path after (λ k. slice_index before k) nodes nodes (nodes + list) (get_or ls list []) (nodes + list)
    (omega arith) (length-le_from_distinct_below (get_or ls list []) nodes (IsDistinct-from_distinct (get_or ls list []) (l.once list)) (λ q g. linked_within l list q g))
    (λ k g. linked_within l list k g) (linked_path l list h)))

-- ---- at the start
pub linked_new : (nodes count : ℕ) → nodes + count < 2 ^ 32 →
    IsLinked nodes count (range_with_len 0 (nodes + count)) (range_with_len 0 (nodes + count)) (replicate {A = Option ℕ} nodes None) (replicate {A = List ℕ} count [])
linked_new nodes count few = record {
  long_after = length-range_with_len 0 (nodes + count);
  long_before = length-range_with_len 0 (nodes + count);
  long_owners = length-replicate {A = Option ℕ} nodes None;
  long_lists = length-replicate {A = List ℕ} count [];
  few = few;
  ring = λ list h.
      let at : get_or (range_with_len 0 (nodes + count)) (nodes + list) 0 ≡ 0 + (nodes + list) = get_or-range_with_len 0 (nodes + count) (nodes + list) 0 (omega arith) in
      subst (λ (xs : List ℕ). leads (range_with_len 0 (nodes + count)) (range_with_len 0 (nodes + count)) (nodes + list) xs (nodes + list) ≡ true) (sym (empty list))
      (leads_from_path (range_with_len 0 (nodes + count)) (range_with_len 0 (nodes + count)) (nodes + list) [] (nodes + list) (omega arith, omega arith));
  owned = λ list node.
      subst (λ (xs : List ℕ). contains xs node ≡ owns_node (get_or (replicate {A = Option ℕ} nodes None) node None) list) (sym (empty list))
      (sym (ap (λ o. owns_node o list) (unowned node)));
  once = λ list. subst (λ (xs : List ℕ). is_distinct xs ≡ true) (sym (empty list)) refl;
}
  where
    empty : (list : ℕ) → get_or {A = List ℕ} (replicate {A = List ℕ} count []) list [] ≡ []
    empty list = elim (cases_lt list count) [
      | inl h ↦ get_or-replicate count list [] [] h
      | inr h ↦ get_or_past (replicate {A = List ℕ} count []) list [] (subst (λ v. v ≤ list) (sym (length-replicate {A = List ℕ} count [])) h)
    ]

    unowned : (node : ℕ) → get_or {A = Option ℕ} (replicate {A = Option ℕ} nodes None) node None ≡ None
    unowned node = elim (cases_lt node nodes) [
      | inl h ↦ get_or-replicate nodes node None None h
      | inr h ↦ get_or_past (replicate {A = Option ℕ} nodes None) node None (subst (λ v. v ≤ node) (sym (length-replicate {A = Option ℕ} nodes None)) h)
    ]

-- ---- a node put into a list
sets_put : (after before : List ℕ) (p n q : ℕ) → p ≢ n → q ≢ n → p < length after → q < length before → n < length after → n < length before →
    IsPutBetween (λ k. slice_index after k) (λ k. slice_index before k) (λ k. slice_index (set (set after p n) n q) k) (λ k. slice_index (set (set before q n) n p) k) p n q
sets_put after before p n q pn qn p_in q_in n_in n_in' = record {
  after_place = get_or-set_other (set after p n) n p q 0 pn ∙ get_or-set_same after p n 0 p_in;
  after_new = get_or-set_same (set after p n) n q 0 (subst (λ v. n < v) (sym (length-set after p n)) n_in);
  after_others = λ k kp kn. get_or-set_other (set after p n) n k q 0 kn ∙ get_or-set_other after p k n 0 kp;
  before_place = get_or-set_other (set before q n) n q p 0 qn ∙ get_or-set_same before q n 0 q_in;
  before_new = get_or-set_same (set before q n) n p 0 (subst (λ v. n < v) (sym (length-set before q n)) n_in');
  before_others = λ k kq kn. get_or-set_other (set before q n) n k p 0 kn ∙ get_or-set_other before q k n 0 kq;
}

-- where a node is put: between two parts of a list
pub record IsPlace (nodes count : ℕ) (owners : List (Option ℕ)) (ls : List (List ℕ)) (list node place next : ℕ) (xs ys : List ℕ) : Type 0 where
  pub list_below : list < count
  pub node_below : node < nodes
  pub free : (k : ℕ) → contains (get_or ls k []) node ≡ false
  pub parts : get_or ls list [] ≡ xs ++ ys
  pub place_is : place ≡ last_or (nodes + list) xs
  pub next_is : next ≡ first_or (nodes + list) ys

pub last_in_ring : (head : ℕ) (xs ys : List ℕ) → contains (head ∷ (xs ++ ys)) (last_or head xs) ≡ true
last_in_ring head [] ys = contains_head head ys
last_in_ring head (x ∷ xs) ys = contains_later head (last_or x xs) (x ∷ (xs ++ ys)) (last_or_in x xs ys)

pub first_in_ring : (head : ℕ) (xs ys : List ℕ) → contains (head ∷ (xs ++ ys)) (first_or head ys) ≡ true
first_in_ring head xs ys = ring_back (xs ++ ys) head (first_or head ys) (first_or_in head xs ys)

pub place_in_ring : {nodes count : ℕ} {owners : List (Option ℕ)} {ls : List (List ℕ)} {list node place next : ℕ} {xs ys : List ℕ} →
    IsPlace nodes count owners ls list node place next xs ys → in_ring nodes ls list place ≡ true
place_in_ring {nodes} {count} {owners} {ls} {list} {node} {place} {next} {xs} {ys} w =
    subst (λ (zs : List ℕ). contains ((nodes + list) ∷ zs) place ≡ true) (sym w.parts)
    (subst (λ v. contains ((nodes + list) ∷ (xs ++ ys)) v ≡ true) (sym w.place_is) (last_in_ring (nodes + list) xs ys))

pub next_in_ring : {nodes count : ℕ} {owners : List (Option ℕ)} {ls : List (List ℕ)} {list node place next : ℕ} {xs ys : List ℕ} →
    IsPlace nodes count owners ls list node place next xs ys → in_ring nodes ls list next ≡ true
next_in_ring {nodes} {count} {owners} {ls} {list} {node} {place} {next} {xs} {ys} w =
    subst (λ (zs : List ℕ). contains ((nodes + list) ∷ zs) next ≡ true) (sym w.parts)
    (subst (λ v. contains ((nodes + list) ∷ (xs ++ ys)) v ≡ true) (sym w.next_is) (first_in_ring (nodes + list) xs ys))

pub linked_put : {nodes count : ℕ} {after before : List ℕ} {owners : List (Option ℕ)} {ls : List (List ℕ)} {list node place next : ℕ} {xs ys : List ℕ} →
    IsLinked nodes count after before owners ls → IsPlace nodes count owners ls list node place next xs ys →
    IsLinked nodes count (set (set after place node) node next) (set (set before next node) node place) (set owners node (Some list)) (set ls list (xs ++ node ∷ ys))
linked_put {nodes} {count} {after} {before} {owners} {ls} {list} {node} {place} {next} {xs} {ys} l w = record {
  long_after = length-set (set after place node) node next ∙ length-set after place node ∙ l.long_after;
  long_before = length-set (set before next node) node place ∙ length-set before next node ∙ l.long_before;
  long_owners = length-set owners node (Some list) ∙ l.long_owners;
  long_lists = length-set ls list (xs ++ node ∷ ys) ∙ l.long_lists;
  few = l.few;
  ring = λ k h. leads_from_path (set (set after place node) node next) (set (set before next node) node place) (nodes + k) (get_or (set ls list (xs ++ node ∷ ys)) k []) (nodes + k) (path k h);
  owned = owned;
  once = once;
}
  where
    ringed : (k : ℕ) → in_ring nodes ls k node ≡ false
    ringed k = free_apart l node k w.node_below (w.free k)

    here : get_or (set ls list (xs ++ node ∷ ys)) list [] ≡ xs ++ node ∷ ys
    here = get_or-set_same ls list (xs ++ node ∷ ys) [] (subst (λ v. list < v) (sym l.long_lists) w.list_below)

    away : (k : ℕ) → k ≢ list → get_or (set ls list (xs ++ node ∷ ys)) k [] ≡ get_or ls k []
    away k ne = get_or-set_other ls list k (xs ++ node ∷ ys) [] ne

    lacks : contains (xs ++ ys) node ≡ false
    lacks = subst (λ (zs : List ℕ). contains zs node ≡ false) w.parts (w.free list)

    put : IsPutBetween (λ k. slice_index after k) (λ k. slice_index before k) (λ k. slice_index (set (set after place node) node next) k) (λ k. slice_index (set (set before next node) node place) k) place node next
    put =
        let place_below : place < nodes + count = ring_below l list place w.list_below (place_in_ring w) in
        let next_below : next < nodes + count = ring_below l list next w.list_below (next_in_ring w) in
        let node_below : node < nodes = w.node_below in
        let long : length after ≡ nodes + count = l.long_after in
        let long' : length before ≡ nodes + count = l.long_before in
        sets_put after before place node next
        (λ e. apart_by ((nodes + list) ∷ get_or ls list []) node place (ringed list) (place_in_ring w) (sym e))
        (λ e. apart_by ((nodes + list) ∷ get_or ls list []) node next (ringed list) (next_in_ring w) (sym e))
        (omega arith) (omega arith) (omega arith) (omega arith)

    path : (k : ℕ) → k < count → IsPath (λ j. slice_index (set (set after place node) node next) j) (λ j. slice_index (set (set before next node) node place) j) (nodes + k) (get_or (set ls list (xs ++ node ∷ ys)) k []) (nodes + k)
    path k h = elim (cases_eq k list) as (λ _. IsPath (λ j. slice_index (set (set after place node) node next) j) (λ j. slice_index (set (set before next node) node place) j) (nodes + k) (get_or (set ls list (xs ++ node ∷ ys)) k []) (nodes + k)) [
      | inl e ↦ subst (λ (i : ℕ). IsPath (λ j. slice_index (set (set after place node) node next) j) (λ j. slice_index (set (set before next node) node place) j) (nodes + i) (get_or (set ls list (xs ++ node ∷ ys)) i []) (nodes + i)) (sym e)
          (subst (λ (zs : List ℕ). IsPath (λ j. slice_index (set (set after place node) node next) j) (λ j. slice_index (set (set before next node) node place) j) (nodes + list) zs (nodes + list)) (sym here)
          (put_path put (nodes + list) xs ys (nodes + list) w.place_is w.next_is
          (subst (λ (zs : List ℕ). contains ((nodes + list) ∷ zs) node ≡ false) w.parts (ringed list))
          (contains-between (xs ++ ys) [] (nodes + list) node ∙
          subst (λ (zs : List ℕ). ((node == nodes + list) || contains zs node) ≡ false) (w.parts ∙ sym (append-nil (xs ++ ys))) (ringed list))
          (subst (λ (zs : List ℕ). is_distinct ((nodes + list) ∷ zs) ≡ true) w.parts (ring_once l list))
          (subst (λ (zs : List ℕ). is_distinct (zs ++ (nodes + list) ∷ []) ≡ true) w.parts (ring_once_back l list))
          (subst (λ (zs : List ℕ). IsPath (λ j. slice_index after j) (λ j. slice_index before j) (nodes + list) zs (nodes + list)) w.parts (linked_path l list w.list_below))))
      | inr ne ↦ subst (λ (zs : List ℕ). IsPath (λ j. slice_index (set (set after place node) node next) j) (λ j. slice_index (set (set before next node) node place) j) (nodes + k) zs (nodes + k)) (sym (away k ne))
          (path_same (λ j. slice_index after j) (λ j. slice_index before j) (λ j. slice_index (set (set after place node) node next) j) (λ j. slice_index (set (set before next node) node place) j) (nodes + k) (get_or ls k []) (nodes + k)
          (λ i g. put.after_others i (rings_apart l list k place i ne (place_in_ring w) g) (λ e. apart_by ((nodes + k) ∷ get_or ls k []) node i (ringed k) g (sym e)))
          (λ i g. put.before_others i (rings_apart l list k next i ne (next_in_ring w) (ring_back (get_or ls k []) (nodes + k) i g)) (λ e. apart_by ((nodes + k) ∷ get_or ls k []) node i (ringed k) (ring_back (get_or ls k []) (nodes + k) i g) (sym e)))
          (linked_path l k h))
    ]

    new_owner : get_or (set owners node (Some list)) node None ≡ Some list
    new_owner = get_or-set_same owners node (Some list) None (subst (λ v. node < v) (sym l.long_owners) w.node_below)

    old_owner : (x : ℕ) → x ≢ node → get_or (set owners node (Some list)) x None ≡ get_or owners x None
    old_owner x ne = get_or-set_other owners node x (Some list) None ne

    owned : (k x : ℕ) → contains (get_or (set ls list (xs ++ node ∷ ys)) k []) x ≡ owns_node (get_or (set owners node (Some list)) x None) k
    owned k x = elim (cases_eq k list) as (λ _. contains (get_or (set ls list (xs ++ node ∷ ys)) k []) x ≡ owns_node (get_or (set owners node (Some list)) x None) k) [
      | inl e ↦ ap (λ (j : ℕ). contains (get_or (set ls list (xs ++ node ∷ ys)) j []) x) e ∙ ap (λ (zs : List ℕ). contains zs x) here ∙ contains-between xs ys node x ∙
          elim (cases_eq x node) as (λ _. ((x == node) || contains (xs ++ ys) x) ≡ owns_node (get_or (set owners node (Some list)) x None) k) [
            | inl is ↦ or_left (x == node) (contains (xs ++ ys) x) (eq-eqb x node is) ∙ sym (ap (λ (v : ℕ). owns_node (get_or (set owners node (Some list)) v None) k) is ∙ ap (λ o. owns_node o k) new_owner ∙ eq-eqb list k (sym e))
            | inr other ↦ ap (λ (b : Bool). b || contains (xs ++ ys) x) (ne_eqb x node other) ∙ ap (λ (zs : List ℕ). contains zs x) (sym w.parts) ∙ l.owned list x ∙ ap (λ (j : ℕ). owns_node (get_or owners x None) j) (sym e) ∙ sym (ap (λ o. owns_node o k) (old_owner x other))
          ]
      | inr ne ↦ ap (λ (zs : List ℕ). contains zs x) (away k ne) ∙
          elim (cases_eq x node) as (λ _. contains (get_or ls k []) x ≡ owns_node (get_or (set owners node (Some list)) x None) k) [
            | inl is ↦ ap (λ (v : ℕ). contains (get_or ls k []) v) is ∙ w.free k ∙ sym (ap (λ (v : ℕ). owns_node (get_or (set owners node (Some list)) v None) k) is ∙ ap (λ o. owns_node o k) new_owner ∙ ne_eqb list k (λ same. ne (sym same)))
            | inr other ↦ l.owned k x ∙ sym (ap (λ o. owns_node o k) (old_owner x other))
          ]
    ]

    once : (k : ℕ) → is_distinct (get_or (set ls list (xs ++ node ∷ ys)) k []) ≡ true
    once k = elim (cases_eq k list) as (λ _. is_distinct (get_or (set ls list (xs ++ node ∷ ys)) k []) ≡ true) [
      | inl e ↦ ap (λ (j : ℕ). is_distinct (get_or (set ls list (xs ++ node ∷ ys)) j [])) e ∙ ap (λ (zs : List ℕ). is_distinct zs) here ∙
          distinct-between xs ys node lacks (subst (λ (zs : List ℕ). is_distinct zs ≡ true) w.parts (l.once list))
      | inr ne ↦ ap (λ (zs : List ℕ). is_distinct zs) (away k ne) ∙ l.once k
    ]
