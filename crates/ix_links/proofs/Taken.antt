-- The arrays hold their lists after a node is taken out, and what a link beside a node is.
use Rattle.std.proofs.Common.{◌≡◌, ◌≢◌, ℕ, ◌+◌, ◌<◌, ◌≤◌, inl, inr, Bool, true, false, not, ◌&&◌, List, [], ◌∷◌, ◌++◌, length, get_or, set, map, zero, suc, refl, sym, ap, subst, ◌∙◌, length-set, get_or-set_same, get_or-set_other, arith}
use Rattle.std.specs.List.{slice_get}
use Rattle.std.specs.Prelude.{◌==◌, Option, None, Some, nat_lt, slice_index, if◌then◌else◌}
use Rattle.std.proofs.lemmas.Bool.{eq-eqb, ne_eqb, cases_eq, cases_Bool, lt-ltb, le-ltb}
use Rattle.std.proofs.lemmas.List.{length-map}
use Rattle.ix_links.specs.NodeList.{contains, without, is_distinct, first}
use Rattle.ix_links.specs.Ring.{owns_node, IsLinked}
use Rattle.ix_links.proofs.Membership.{Parted, part_at, contains_head, contains_later, contains-append_right, contains-without, distinct_middle, without_none, without_at}
use Rattle.ix_links.proofs.Paths.{IsPath, leads_from_path, last_or, first_or, path_same, path_at, path_middle, IsTakenBetween, take_path}
use Rattle.ix_links.proofs.Rows.{row_within, row_without, distinct-without}
use Rattle.ix_links.proofs.Whole.{in_ring, linked_within, linked_apart, linked_path, ring_once, ring_once_back, ring_back, ring_below, rings_apart, last_in_ring}

-- a node that is in a list, and the entries beside it
pub record IsTaken (nodes : ℕ) (after before : List ℕ) (ls : List (List ℕ)) (list node : ℕ) : Type 0 where
  pub xs : List ℕ
  pub ys : List ℕ
  pub parts : get_or ls list [] ≡ xs ++ node ∷ ys
  pub next_is : slice_index after node ≡ first_or (nodes + list) ys
  pub previous_is : slice_index before node ≡ last_or (nodes + list) xs

pub taken_at : {nodes count : ℕ} {after before : List ℕ} {owners : List (Option ℕ)} {ls : List (List ℕ)} → IsLinked nodes count after before owners ls →
    (list node : ℕ) → contains (get_or ls list []) node ≡ true → IsTaken nodes after before ls list node
taken_at {nodes} {count} {after} {before} {owners} {ls} l list node has =
    let p : Parted (get_or ls list []) node = part_at (get_or ls list []) node has in
    let below : list < count = subst (λ v. list < v) l.long_lists (row_within ls list node has) in
    let m = path_middle (λ k. slice_index after k) (λ k. slice_index before k) (nodes + list) p.ahead node p.behind (nodes + list)
    (subst (λ (zs : List ℕ). IsPath (λ k. slice_index after k) (λ k. slice_index before k) (nodes + list) zs (nodes + list)) p.is (linked_path l list below)) in
    record { xs = p.ahead; ys = p.behind; parts = p.is; next_is = m.0; previous_is = m.1 }

pub previous_in_ring : {nodes : ℕ} {after before : List ℕ} {ls : List (List ℕ)} {list node : ℕ} → IsTaken nodes after before ls list node →
    in_ring nodes ls list (slice_index before node) ≡ true
previous_in_ring {nodes} {after} {before} {ls} {list} {node} t =
    subst (λ (zs : List ℕ). contains ((nodes + list) ∷ zs) (slice_index before node) ≡ true) (sym t.parts)
    (subst (λ v. contains ((nodes + list) ∷ (t.xs ++ node ∷ t.ys)) v ≡ true) (sym t.previous_is) (last_in_ring (nodes + list) t.xs (node ∷ t.ys)))

first_behind : (head : ℕ) (xs : List ℕ) (node : ℕ) (ys : List ℕ) → contains (head ∷ (xs ++ node ∷ ys)) (first_or head ys) ≡ true
first_behind head xs node [] = contains_head head (xs ++ node ∷ [])
first_behind head xs node (y ∷ ys) = contains_later head y (xs ++ node ∷ y ∷ ys) (contains-append_right xs (node ∷ y ∷ ys) y (contains_later node y (y ∷ ys) (contains_head y ys)))

pub next_in_ring_of : {nodes : ℕ} {after before : List ℕ} {ls : List (List ℕ)} {list node : ℕ} → IsTaken nodes after before ls list node →
    in_ring nodes ls list (slice_index after node) ≡ true
next_in_ring_of {nodes} {after} {before} {ls} {list} {node} t =
    subst (λ (zs : List ℕ). contains ((nodes + list) ∷ zs) (slice_index after node) ≡ true) (sym t.parts)
    (subst (λ v. contains ((nodes + list) ∷ (t.xs ++ node ∷ t.ys)) v ≡ true) (sym t.next_is) (first_behind (nodes + list) t.xs node t.ys))

sets_taken : (after before : List ℕ) (p q : ℕ) → p < length after → q < length before →
    IsTakenBetween (λ k. slice_index after k) (λ k. slice_index before k) (λ k. slice_index (set after p q) k) (λ k. slice_index (set before q p) k) p q
sets_taken after before p q p_in q_in = record {
  after_place = get_or-set_same after p q 0 p_in;
  after_others = λ k kp. get_or-set_other after p k q 0 kp;
  before_place = get_or-set_same before q p 0 q_in;
  before_others = λ k kq. get_or-set_other before q k p 0 kq;
}

pub linked_take : {nodes count : ℕ} {after before : List ℕ} {owners : List (Option ℕ)} {ls : List (List ℕ)} {list node : ℕ} →
    IsLinked nodes count after before owners ls → contains (get_or ls list []) node ≡ true → IsTaken nodes after before ls list node →
    IsLinked nodes count (set after (slice_index before node) (slice_index after node)) (set before (slice_index after node) (slice_index before node))
    (set owners node None) (map (λ xs. without xs node) ls)
linked_take {nodes} {count} {after} {before} {owners} {ls} {list} {node} l has t = record {
  long_after = length-set after (slice_index before node) (slice_index after node) ∙ l.long_after;
  long_before = length-set before (slice_index after node) (slice_index before node) ∙ l.long_before;
  long_owners = length-set owners node None ∙ l.long_owners;
  long_lists = length-map ls (λ (xs : List ℕ). without xs node) ∙ l.long_lists;
  few = l.few;
  ring = λ k h. leads_from_path (set after (slice_index before node) (slice_index after node)) (set before (slice_index after node) (slice_index before node)) (nodes + k) (get_or (map (λ xs. without xs node) ls) k []) (nodes + k) (path k h);
  owned = owned;
  once = λ k. subst (λ (zs : List ℕ). is_distinct zs ≡ true) (sym (row_without ls k node)) (distinct-without (get_or ls k []) node (l.once k));
}
  where
    below : list < count
    below = subst (λ v. list < v) l.long_lists (row_within ls list node has)

    taken : IsTakenBetween (λ k. slice_index after k) (λ k. slice_index before k) (λ k. slice_index (set after (slice_index before node) (slice_index after node)) k) (λ k. slice_index (set before (slice_index after node) (slice_index before node)) k) (slice_index before node) (slice_index after node)
    taken = sets_taken after before (slice_index before node) (slice_index after node)
        (subst (λ v. slice_index before node < v) (sym l.long_after) (ring_below l list (slice_index before node) below (previous_in_ring t)))
        (subst (λ v. slice_index after node < v) (sym l.long_before) (ring_below l list (slice_index after node) below (next_in_ring_of t)))

    away : (k : ℕ) → k ≢ list → contains (get_or ls k []) node ≡ false
    away k ne = elim (cases_Bool (contains (get_or ls k []) node)) [
      | inl also ↦ absurd (ne (linked_apart l k list node also has))
      | inr lacks ↦ lacks
    ]

    path : (k : ℕ) → k < count → IsPath (λ j. slice_index (set after (slice_index before node) (slice_index after node)) j) (λ j. slice_index (set before (slice_index after node) (slice_index before node)) j) (nodes + k) (get_or (map (λ xs. without xs node) ls) k []) (nodes + k)
    path k h = subst (λ (zs : List ℕ). IsPath (λ j. slice_index (set after (slice_index before node) (slice_index after node)) j) (λ j. slice_index (set before (slice_index after node) (slice_index before node)) j) (nodes + k) zs (nodes + k)) (sym (row_without ls k node))
        (elim (cases_eq k list) as (λ _. IsPath (λ j. slice_index (set after (slice_index before node) (slice_index after node)) j) (λ j. slice_index (set before (slice_index after node) (slice_index before node)) j) (nodes + k) (without (get_or ls k []) node) (nodes + k)) [
          | inl e ↦
              let once : is_distinct (t.xs ++ node ∷ t.ys) ≡ true = subst (λ (zs : List ℕ). is_distinct zs ≡ true) t.parts (l.once list) in
              let left : without (get_or ls list []) node ≡ t.xs ++ t.ys = ap (λ (zs : List ℕ). without zs node) t.parts ∙ without_at t.xs t.ys node (distinct_middle t.xs t.ys node once) in
              subst (λ (i : ℕ). IsPath (λ j. slice_index (set after (slice_index before node) (slice_index after node)) j) (λ j. slice_index (set before (slice_index after node) (slice_index before node)) j) (nodes + i) (without (get_or ls i []) node) (nodes + i)) (sym e)
              (subst (λ (zs : List ℕ). IsPath (λ j. slice_index (set after (slice_index before node) (slice_index after node)) j) (λ j. slice_index (set before (slice_index after node) (slice_index before node)) j) (nodes + list) zs (nodes + list)) (sym left)
              (take_path taken (nodes + list) t.xs node t.ys (nodes + list) t.previous_is t.next_is
              (subst (λ (zs : List ℕ). is_distinct ((nodes + list) ∷ zs) ≡ true) t.parts (ring_once l list))
              (subst (λ (zs : List ℕ). is_distinct (zs ++ (nodes + list) ∷ []) ≡ true) t.parts (ring_once_back l list))
              (subst (λ (zs : List ℕ). IsPath (λ j. slice_index after j) (λ j. slice_index before j) (nodes + list) zs (nodes + list)) t.parts (linked_path l list below))))
          | inr ne ↦ subst (λ (zs : List ℕ). IsPath (λ j. slice_index (set after (slice_index before node) (slice_index after node)) j) (λ j. slice_index (set before (slice_index after node) (slice_index before node)) j) (nodes + k) zs (nodes + k)) (sym (without_none (get_or ls k []) node (away k ne)))
              (path_same (λ j. slice_index after j) (λ j. slice_index before j) (λ j. slice_index (set after (slice_index before node) (slice_index after node)) j) (λ j. slice_index (set before (slice_index after node) (slice_index before node)) j) (nodes + k) (get_or ls k []) (nodes + k)
              (λ i g. taken.after_others i (rings_apart l list k (slice_index before node) i ne (previous_in_ring t) g))
              (λ i g. taken.before_others i (rings_apart l list k (slice_index after node) i ne (next_in_ring_of t) (ring_back (get_or ls k []) (nodes + k) i g)))
              (linked_path l k h))
        ])

    new_owner : get_or (set owners node None) node None ≡ None
    new_owner = get_or-set_same owners node None None (subst (λ v. node < v) (sym l.long_owners) (linked_within l list node has))

    owned : (k x : ℕ) → contains (get_or (map (λ xs. without xs node) ls) k []) x ≡ owns_node (get_or (set owners node None) x None) k
    owned k x = ap (λ (zs : List ℕ). contains zs x) (row_without ls k node) ∙ contains-without (get_or ls k []) node x ∙
        elim (cases_eq x node) as (λ _. (not (node == x) && contains (get_or ls k []) x) ≡ owns_node (get_or (set owners node None) x None) k) [
          | inl is ↦ ap (λ (b : Bool). not b && contains (get_or ls k []) x) (eq-eqb node x (sym is)) ∙ sym (ap (λ (v : ℕ). owns_node (get_or (set owners node None) v None) k) is ∙ ap (λ o. owns_node o k) new_owner)
          | inr other ↦ ap (λ (b : Bool). not b && contains (get_or ls k []) x) (ne_eqb node x (λ e. other (sym e))) ∙ l.owned k x ∙ sym (ap (λ o. owns_node o k) (get_or-set_other owners node x None None other))
        ]

-- ---- the node that a link names
pub node_of_first : (nodes head : ℕ) (ys : List ℕ) → nodes ≤ head → ((k : ℕ) → contains ys k ≡ true → k < nodes) →
    (if nat_lt (first_or head ys) nodes then Some (first_or head ys) else None) ≡ first ys
node_of_first nodes head [] beyond within = rw (le-ltb head nodes beyond)
node_of_first nodes head (y ∷ ys) beyond within = rw (lt-ltb y nodes (within y (contains_head y ys)))

pub front_is : {nodes count : ℕ} {after before : List ℕ} {owners : List (Option ℕ)} {ls : List (List ℕ)} → IsLinked nodes count after before owners ls →
    (list : ℕ) → list < count → (if nat_lt (slice_index after (nodes + list)) nodes then Some (slice_index after (nodes + list)) else None) ≡ first (get_or ls list [])
front_is {nodes} {count} {after} {before} {owners} {ls} l list h =
    let at : slice_index after (nodes + list) ≡ first_or (nodes + list) (get_or ls list []) =
    (path_at (λ k. slice_index after k) (λ k. slice_index before k) (nodes + list) [] (get_or ls list []) (nodes + list) (linked_path l list h)).0 in
    rw at (node_of_first nodes (nodes + list) (get_or ls list []) (omega arith) (λ k g. linked_within l list k g))

-- a list parted at a place
record PartedAt (zs : List ℕ) (place node : ℕ) : Type 0 where
  xs : List ℕ
  ys : List ℕ
  is : zs ≡ xs ++ node ∷ ys
  behind : slice_get zs (suc place) ≡ first ys

part_at_place : (zs : List ℕ) (place node : ℕ) → slice_get zs place ≡ Some node → PartedAt zs place node
part_at_place [] place node h = cc
part_at_place (z ∷ zs) zero node h = let same : z ≡ node = cc in record { xs = []; ys = zs; is = ap (λ v. v ∷ zs) same; behind = refl }
part_at_place (z ∷ zs) (suc place) node h =
    let p : PartedAt zs place node = part_at_place zs place node h in
    record { xs = z ∷ p.xs; ys = p.ys; is = ap (λ (ws : List ℕ). z ∷ ws) p.is; behind = p.behind }

pub next_is : {nodes count : ℕ} {after before : List ℕ} {owners : List (Option ℕ)} {ls : List (List ℕ)} → IsLinked nodes count after before owners ls →
    (list place node : ℕ) → list < count → slice_get (get_or ls list []) place ≡ Some node →
    (if nat_lt (slice_index after node) nodes then Some (slice_index after node) else None) ≡ slice_get (get_or ls list []) (place + 1)
next_is {nodes} {count} {after} {before} {owners} {ls} l list place node h at =
    let p : PartedAt (get_or ls list []) place node = part_at_place (get_or ls list []) place node at in
    let m = path_middle (λ k. slice_index after k) (λ k. slice_index before k) (nodes + list) p.xs node p.ys (nodes + list)
    (subst (λ (zs : List ℕ). IsPath (λ k. slice_index after k) (λ k. slice_index before k) (nodes + list) zs (nodes + list)) p.is (linked_path l list h)) in
    let is : slice_index after node ≡ first_or (nodes + list) p.ys = m.0 in
    rw is (node_of_first nodes (nodes + list) p.ys (omega arith)
    (λ k g. linked_within l list k (subst (λ (zs : List ℕ). contains zs k ≡ true) (sym p.is) (contains-append_right p.xs (node ∷ p.ys) k (contains_later node k p.ys g))))
    ∙ sym p.behind ∙ ap (λ (v : ℕ). slice_get (get_or ls list []) v) (omega arith))
