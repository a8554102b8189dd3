-- What the calls of `Links` need of the linked arrays, for the lists v that callers see.
use Rattle.std.proofs.Common.{◌≡◌, ◌≢◌, ℕ, ◌+◌, ◌<◌, inl, inr, Bool, true, false, not, ◌&&◌, List, [], ◌∷◌, ◌++◌, length, get_or, set, map, refl, sym, ap, subst, ◌∙◌, append-nil, arith}
use Rattle.std.specs.List.{position, range_with_len}
use Rattle.std.specs.Prelude.{Option, None, Some, slice_index, replicate, ◌^◌}
use Rattle.std.proofs.lemmas.Bool.{eq-eqb, ne_eqb, cases_Bool}
use Rattle.std.proofs.lemmas.List.{set-get_or, get_or_default}
use Rattle.ix_links.specs.NodeList.{contains, without, is_distinct, first, rest}
use Rattle.ix_links.specs.NodeLists.{NodeLists, list_at, with_list, without_node, is_linked, IsDisjoint}
use Rattle.ix_links.specs.Ring.{walks, owns_node, IsLinked}
use Rattle.ix_links.proofs.Membership.{contains_head, contains-without}
use Rattle.ix_links.proofs.Paths.{IsPath, last_or, path_at}
use Rattle.ix_links.proofs.Rows.{row_free, row_free_from, Found, row_found, row_within, row_without, row_without_first, position_is, position_none}
use Rattle.ix_links.proofs.Whole.{linked_path, linked_walks, linked_within, disjoint_from_linked, ring_below, IsPlace, place_in_ring, next_in_ring, linked_put, linked_new}
use Rattle.ix_links.proofs.Taken.{IsTaken, taken_at, previous_in_ring, next_in_ring_of, linked_take}

-- arrays that hold lists hold those that a walk finds
pub walked : {nodes count : ℕ} {after before : List ℕ} {owners : List (Option ℕ)} {ls : List (List ℕ)} → IsLinked nodes count after before owners ls →
    IsLinked nodes count after before owners (walks after nodes count)
walked {nodes} {count} {after} {before} {owners} {ls} l = subst (λ (xs : List (List ℕ)). IsLinked nodes count after before owners xs) (linked_walks l) l

-- arrays that hold the lists v, as callers see them
pub record Holds (nodes count : ℕ) (after before : List ℕ) (owners : List (Option ℕ)) (v : NodeLists) : Type 0 where
  pub whole : IsLinked nodes count after before owners (walks after nodes count)
  pub view_is : record { nodes = nodes; lists = walks after nodes count } ≡ v
  pub disjoint : IsDisjoint (record { nodes = nodes; lists = walks after nodes count })

pub holds : {nodes count : ℕ} {after before : List ℕ} {owners : List (Option ℕ)} {ls : List (List ℕ)} → IsLinked nodes count after before owners ls →
    Holds nodes count after before owners (record { nodes = nodes; lists = ls })
holds {nodes} {count} {after} {before} {owners} {ls} l = record {
  whole = walked l;
  view_is = ap view (sym (linked_walks l));
  disjoint = disjoint_from_linked (walked l);
}
  where
    view : List (List ℕ) → NodeLists
    view xs = record { nodes = nodes; lists = xs }

-- the front of a list is a place for a node
pub front_place : {nodes count : ℕ} {after before : List ℕ} {owners : List (Option ℕ)} {ls : List (List ℕ)} → IsLinked nodes count after before owners ls →
    (v : NodeLists) → record { nodes = nodes; lists = ls } ≡ v → (list node : ℕ) → list < length v.lists → node < v.nodes → is_linked v node ≡ false →
    IsPlace nodes count owners ls list node (nodes + list) (slice_index after (nodes + list)) [] (get_or ls list [])
front_place {nodes} {count} {after} {before} {owners} {ls} l v is list node list_in node_in free =
    let below : list < count = subst (λ (n : ℕ). list < n) (ap (λ (w : NodeLists). length w.lists) (sym is) ∙ l.long_lists) list_in in
    record {
      list_below = below;
      node_below = subst (λ (w : NodeLists). node < w.nodes) (sym is) node_in;
      free = row_free ls node (subst (λ (w : NodeLists). is_linked w node ≡ false) (sym is) free);
      parts = refl;
      place_is = refl;
      next_is = (path_at (λ k. slice_index after k) (λ k. slice_index before k) (nodes + list) [] (get_or ls list []) (nodes + list) (linked_path l list below)).0;
    }

-- and so is its back
pub back_place : {nodes count : ℕ} {after before : List ℕ} {owners : List (Option ℕ)} {ls : List (List ℕ)} → IsLinked nodes count after before owners ls →
    (v : NodeLists) → record { nodes = nodes; lists = ls } ≡ v → (list node : ℕ) → list < length v.lists → node < v.nodes → is_linked v node ≡ false →
    IsPlace nodes count owners ls list node (slice_index before (nodes + list)) (slice_index after (slice_index before (nodes + list))) (get_or ls list []) []
back_place {nodes} {count} {after} {before} {owners} {ls} l v is list node list_in node_in free =
    let below : list < count = subst (λ (n : ℕ). list < n) (ap (λ (w : NodeLists). length w.lists) (sym is) ∙ l.long_lists) list_in in
    let at = path_at (λ k. slice_index after k) (λ k. slice_index before k) (nodes + list) (get_or ls list []) [] (nodes + list)
    (subst (λ (zs : List ℕ). IsPath (λ k. slice_index after k) (λ k. slice_index before k) (nodes + list) zs (nodes + list)) (sym (append-nil (get_or ls list []))) (linked_path l list below)) in
    let last : slice_index before (nodes + list) ≡ last_or (nodes + list) (get_or ls list []) = at.1 in
    let behind : slice_index after (last_or (nodes + list) (get_or ls list [])) ≡ nodes + list = at.0 in
    record {
      list_below = below;
      node_below = subst (λ (w : NodeLists). node < w.nodes) (sym is) node_in;
      free = row_free ls node (subst (λ (w : NodeLists). is_linked w node ≡ false) (sym is) free);
      parts = sym (append-nil (get_or ls list []));
      place_is = last;
      next_is = ap (λ (k : ℕ). slice_index after k) last ∙ behind;
    }

-- entries beside a place are within the arrays
pub place_below : {nodes count : ℕ} {after before : List ℕ} {owners : List (Option ℕ)} {ls : List (List ℕ)} {list node place next : ℕ} {xs ys : List ℕ} →
    IsLinked nodes count after before owners ls → IsPlace nodes count owners ls list node place next xs ys → place < nodes + count
place_below l w = ring_below l _ _ w.list_below (place_in_ring w)

pub next_below : {nodes count : ℕ} {after before : List ℕ} {owners : List (Option ℕ)} {ls : List (List ℕ)} {list node place next : ℕ} {xs ys : List ℕ} →
    IsLinked nodes count after before owners ls → IsPlace nodes count owners ls list node place next xs ys → next < nodes + count
next_below l w = ring_below l _ _ w.list_below (next_in_ring w)

-- ---- a node put into a list
pub pushed_at : {nodes count : ℕ} {after before : List ℕ} {owners : List (Option ℕ)} {ls : List (List ℕ)} {list node place next : ℕ} {xs ys : List ℕ} →
    IsLinked nodes count after before owners ls → IsPlace nodes count owners ls list node place next xs ys →
    (v : NodeLists) → record { nodes = nodes; lists = ls } ≡ v →
    (after' before' : List ℕ) → after' ≡ set (set after place node) node next → before' ≡ set (set before next node) node place →
    Holds nodes count after' before' (set owners node (Some list)) (with_list v list (xs ++ node ∷ ys))
pushed_at {nodes} {count} {after} {before} {owners} {ls} {list} {node} {place} {next} {xs} {ys} l w v is after' before' a b =
    subst (λ (u : NodeLists). Holds nodes count after' before' (set owners node (Some list)) (with_list u list (xs ++ node ∷ ys))) is
    (subst (λ (f : List ℕ). Holds nodes count f before' (set owners node (Some list)) (record { nodes = nodes; lists = set ls list (xs ++ node ∷ ys) })) (sym a)
    (subst (λ (g : List ℕ). Holds nodes count (set (set after place node) node next) g (set owners node (Some list)) (record { nodes = nodes; lists = set ls list (xs ++ node ∷ ys) })) (sym b)
    (holds (linked_put l w))))

pub pushed_front : {nodes count : ℕ} {after before : List ℕ} {owners : List (Option ℕ)} {ls : List (List ℕ)} → IsLinked nodes count after before owners ls →
    (v : NodeLists) → record { nodes = nodes; lists = ls } ≡ v → (list node : ℕ) → list < length v.lists → node < v.nodes → is_linked v node ≡ false →
    (after' before' : List ℕ) → after' ≡ set (set after (nodes + list) node) node (slice_index after (nodes + list)) →
    before' ≡ set (set before (slice_index after (nodes + list)) node) node (nodes + list) →
    Holds nodes count after' before' (set owners node (Some list)) (with_list v list (node ∷ list_at v list))
pushed_front {nodes} {count} {after} {before} {owners} {ls} l v is list node list_in node_in free after' before' a b =
    subst (λ (u : NodeLists). Holds nodes count after' before' (set owners node (Some list)) (with_list v list (node ∷ list_at u list))) is
    (pushed_at l (front_place l v is list node list_in node_in free) v is after' before' a b)

pub pushed_back : {nodes count : ℕ} {after before : List ℕ} {owners : List (Option ℕ)} {ls : List (List ℕ)} → IsLinked nodes count after before owners ls →
    (v : NodeLists) → record { nodes = nodes; lists = ls } ≡ v → (list node place : ℕ) → list < length v.lists → node < v.nodes → is_linked v node ≡ false →
    place ≡ slice_index before (nodes + list) →
    (after' before' : List ℕ) → after' ≡ set (set after place node) node (slice_index after place) →
    before' ≡ set (set before (slice_index after place) node) node place →
    Holds nodes count after' before' (set owners node (Some list)) (with_list v list (list_at v list ++ node ∷ []))
pushed_back {nodes} {count} {after} {before} {owners} {ls} l v is list node place list_in node_in free at after' before' a b =
    let last : ℕ = slice_index before (nodes + list) in
    subst (λ (u : NodeLists). Holds nodes count after' before' (set owners node (Some list)) (with_list v list (list_at u list ++ node ∷ []))) is
    (pushed_at l (back_place l v is list node list_in node_in free) v is after' before'
    (a ∙ ap (λ (k : ℕ). set (set after k node) node (slice_index after k)) at)
    (b ∙ ap (λ (k : ℕ). set (set before (slice_index after k) node) node k) at))

-- the entry before the head, as it was read
pub last_read : {nodes count : ℕ} {after before : List ℕ} {owners : List (Option ℕ)} {ls : List (List ℕ)} → IsLinked nodes count after before owners ls →
    (v : NodeLists) → record { nodes = nodes; lists = ls } ≡ v → (list last : ℕ) → list < length v.lists → last ≡ get_or before (nodes + list) last →
    last ≡ slice_index before (nodes + list)
last_read {nodes} {count} {after} {before} {owners} {ls} l v is list last list_in read =
    let below : list < count = subst (λ (n : ℕ). list < n) (ap (λ (w : NodeLists). length w.lists) (sym is) ∙ l.long_lists) list_in in
    let long : length before ≡ nodes + count = l.long_before in
    let within : nodes + list < length before = omega arith in
    read ∙ get_or_default before (nodes + list) last 0 within

pub back_below : {nodes count : ℕ} {after before : List ℕ} {owners : List (Option ℕ)} {ls : List (List ℕ)} → IsLinked nodes count after before owners ls →
    (v : NodeLists) → record { nodes = nodes; lists = ls } ≡ v → (list node last : ℕ) → list < length v.lists → node < v.nodes → is_linked v node ≡ false →
    last ≡ slice_index before (nodes + list) → (last < nodes + count) × (slice_index after last < nodes + count)
back_below {nodes} {count} {after} {before} {owners} {ls} l v is list node last list_in node_in free at =
    subst (λ (k : ℕ). (k < nodes + count) × (slice_index after k < nodes + count)) (sym at)
    (place_below l (back_place l v is list node list_in node_in free), next_below l (back_place l v is list node list_in node_in free))

-- a node's owner is the number of its list
pub list_of_is : {nodes count : ℕ} {after before : List ℕ} {owners : List (Option ℕ)} {ls : List (List ℕ)} → IsLinked nodes count after before owners ls →
    (node : ℕ) → get_or owners node None ≡ position (λ xs. contains xs node) ls
list_of_is {nodes} {count} {after} {before} {owners} {ls} l node = by_owner (get_or owners node None) (λ k. l.owned k node)
  where
    by_owner : (o : Option ℕ) → ((k : ℕ) → contains (get_or ls k []) node ≡ owns_node o k) → o ≡ position (λ xs. contains xs node) ls
    by_owner None owned = sym (position_none ls node owned)
    by_owner (Some j) owned =
        let has : contains (get_or ls j []) node ≡ true = owned j ∙ eq-eqb j j refl in
        sym (position_is ls j node (row_within ls j node has) has (λ k h. owned k ∙ ne_eqb j k (λ e. absurd (omega arith))))

-- ---- a node taken out of its list
pub taken_free : (v : NodeLists) (node : ℕ) → is_linked (without_node v node) node ≡ false
taken_free v node = row_free_from (map (λ xs. without xs node) v.lists) node
    (λ k. ap (λ (zs : List ℕ). contains zs node) (row_without v.lists k node) ∙ contains-without (list_at v k) node node ∙ ap (λ (b : Bool). not b && contains (list_at v k) node) (eq-eqb node node refl))

-- ---- the first node of a list taken out
first_parts : (xs : List ℕ) (node : ℕ) → first xs ≡ Some node → xs ≡ node ∷ rest xs
first_parts [] node h = cc
first_parts (x ∷ xs) node h = let same : x ≡ node = cc in ap (λ (v : ℕ). v ∷ xs) same

pub first_linked : (v : NodeLists) (list node : ℕ) → first (list_at v list) ≡ Some node → contains (list_at v list) node ≡ true
first_linked v list node h = subst (λ (xs : List ℕ). contains xs node ≡ true) (sym (first_parts (list_at v list) node h)) (contains_head node (rest (list_at v list)))

pub popped : (v : NodeLists) → IsDisjoint v → (list node : ℕ) → list < length v.lists → first (list_at v list) ≡ Some node →
    without_node v node ≡ with_list v list (rest (list_at v list))
popped v d list node within h =
    let is : list_at v list ≡ node ∷ rest (list_at v list) = first_parts (list_at v list) node h in
    let lists : map (λ ys. without ys node) v.lists ≡ set v.lists list (rest (list_at v list)) =
    row_without_first v.lists list node (rest (list_at v list)) within is (subst (λ (xs : List ℕ). is_distinct xs ≡ true) is (d.once list)) alone in
    ap (λ (ls : List (List ℕ)). view ls) lists
  where
    view : List (List ℕ) → NodeLists
    view ls = record { nodes = v.nodes; lists = ls }

    alone : (k : ℕ) → k ≢ list → contains (get_or v.lists k []) node ≡ false
    alone k ne = elim (cases_Bool (contains (get_or v.lists k []) node)) [
      | inl also ↦ absurd (ne (d.apart k list node also (first_linked v list node h)))
      | inr lacks ↦ lacks
    ]

-- an empty list loses nothing
pub popped_none : (v : NodeLists) (list : ℕ) → first (list_at v list) ≡ None → v ≡ with_list v list (rest (list_at v list))
popped_none v list h =
    let empty : rest (list_at v list) ≡ list_at v list = none_behind (list_at v list) h in
    let same : set v.lists list (rest (list_at v list)) ≡ v.lists = ap (λ (xs : List ℕ). set v.lists list xs) empty ∙ set-get_or v.lists list [] in
    ap (λ (ls : List (List ℕ)). view ls) (sym same)
  where
    view : List (List ℕ) → NodeLists
    view ls = record { nodes = v.nodes; lists = ls }

    none_behind : (xs : List ℕ) → first xs ≡ None → rest xs ≡ xs
    none_behind [] e = refl
    none_behind (x ∷ xs) e = cc

-- the arrays after a node is taken out
pub removed : {nodes count : ℕ} {after before : List ℕ} {owners : List (Option ℕ)} {ls : List (List ℕ)} → IsLinked nodes count after before owners ls →
    (v : NodeLists) → record { nodes = nodes; lists = ls } ≡ v → (node : ℕ) → is_linked v node ≡ true →
    (after' before' : List ℕ) → after' ≡ set after (slice_index before node) (slice_index after node) →
    before' ≡ set before (slice_index after node) (slice_index before node) →
    Holds nodes count after' before' (set owners node None) (without_node v node)
removed {nodes} {count} {after} {before} {owners} {ls} l v is node linked after' before' a b =
    let f : Found ls node = row_found ls node (subst (λ (u : NodeLists). is_linked u node ≡ true) (sym is) linked) in
    subst (λ (u : NodeLists). Holds nodes count after' before' (set owners node None) (without_node u node)) is
    (subst (λ (g : List ℕ). Holds nodes count g before' (set owners node None) (record { nodes = nodes; lists = map (λ xs. without xs node) ls })) (sym a)
    (subst (λ (g : List ℕ). Holds nodes count (set after (slice_index before node) (slice_index after node)) g (set owners node None) (record { nodes = nodes; lists = map (λ xs. without xs node) ls })) (sym b)
    (holds (linked_take l f.has (taken_at l f.list node f.has)))))

-- a node in a list, and the entries beside it, are within the arrays
pub record IsWithin (nodes count : ℕ) (after before : List ℕ) (node : ℕ) : Type 0 where
  pub node_below : node < nodes
  pub next_below : slice_index after node < nodes + count
  pub previous_below : slice_index before node < nodes + count

pub linked_node : {nodes count : ℕ} {after before : List ℕ} {owners : List (Option ℕ)} {ls : List (List ℕ)} → IsLinked nodes count after before owners ls →
    (v : NodeLists) → record { nodes = nodes; lists = ls } ≡ v → (node : ℕ) → is_linked v node ≡ true → IsWithin nodes count after before node
linked_node {nodes} {count} {after} {before} {owners} {ls} l v is node linked =
    let f : Found ls node = row_found ls node (subst (λ (u : NodeLists). is_linked u node ≡ true) (sym is) linked) in
    let t : IsTaken nodes after before ls f.list node = taken_at l f.list node f.has in
    let below : f.list < count = subst (λ (n : ℕ). f.list < n) l.long_lists f.within in
    record {
      node_below = linked_within l f.list node f.has;
      next_below = ring_below l f.list (slice_index after node) below (next_in_ring_of t);
      previous_below = ring_below l f.list (slice_index before node) below (previous_in_ring t);
    }

-- ---- the arrays at the start
pub made : (nodes count : ℕ) → nodes < 2 ^ 31 → count < 2 ^ 31 → (after before : List ℕ) (owners : List (Option ℕ)) →
    after ≡ range_with_len 0 (nodes + count) → before ≡ range_with_len 0 (nodes + count) → owners ≡ replicate {A = Option ℕ} nodes None →
    Holds nodes count after before owners (record { nodes = nodes; lists = replicate {A = List ℕ} count [] })
made nodes count few few' after before owners a b o =
    subst (λ (f : List ℕ). Holds nodes count f before owners (record { nodes = nodes; lists = replicate {A = List ℕ} count [] })) (sym a)
    (subst (λ (g : List ℕ). Holds nodes count (range_with_len 0 (nodes + count)) g owners (record { nodes = nodes; lists = replicate {A = List ℕ} count [] })) (sym b)
    (subst (λ (os : List (Option ℕ)). Holds nodes count (range_with_len 0 (nodes + count)) (range_with_len 0 (nodes + count)) os (record { nodes = nodes; lists = replicate {A = List ℕ} count [] })) (sym o)
    (holds (linked_new nodes count (omega arith)))))
