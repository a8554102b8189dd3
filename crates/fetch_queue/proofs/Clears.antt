-- The loops of a clear: a viewer's nodes move to the prefetch list one by one, and its front is dropped down to the bound.
use Rattle.std.proofs.Common.{◌≡◌, ℕ, ◌+◌, ◌-◌, ◌<◌, Bool, not, List, [], ◌∷◌, ◌++◌, length, get_or, take, drop, filter, map, min, zero, suc, refl, sym, ap, subst, ◌∙◌, append_assoc, append-nil, length-take, get_or-take, arith}
use Rattle.std.specs.Prelude.{◌==◌}
use Rattle.std.proofs.lemmas.List.{length-map, map-append, drop-map, drop-drop, ext_get_or}
use Rattle.std.proofs.lemmas.List.Elements.{filter-append}
use Rattle.ix_links.specs.NodeLists.{list_at}
use Rattle.fetch_queue.specs.declared.request.Request.{Request}
use Rattle.fetch_queue.specs.Queue as queue
use Rattle.fetch_queue.specs.Ranking.{Ranking, is_of, own_of, ranked_nodes, waiting_nodes, MovesFirst, DropsFirst}
use Rattle.fetch_queue.specs.Requests.{request_of, requests_of}
use Rattle.fetch_queue.specs.Queues.{queue_of_ranking}
use Rattle.fetch_queue.proofs.Filters.{flat, filter_none}
use Rattle.fetch_queue.proofs.Requests.{map-filter, map-flat}

-- so many of the viewer's nodes have moved
pub record Moved (old new : Ranking) (viewer moved : ℕ) : Type 0 where
  pub waiting : waiting_nodes new ++ own_of old.cells viewer (ranked_nodes new) ≡ waiting_nodes old ++ own_of old.cells viewer (ranked_nodes old)
  pub others : (priority : ℕ) → priority < old.priorities →
      filter (λ n. not (is_of old.cells viewer n)) (list_at new.order priority) ≡ filter (λ n. not (is_of old.cells viewer n)) (list_at old.order priority)
  pub counted : moved + length (own_of old.cells viewer (ranked_nodes new)) ≡ length (own_of old.cells viewer (ranked_nodes old))
  pub viewers : new.viewers ≡ old.viewers
  pub cells : new.cells ≡ old.cells
  pub priorities : new.priorities ≡ old.priorities
  pub lists : length new.order.lists ≡ length old.order.lists

pub moved_none : (r : Ranking) (viewer : ℕ) → Moved r r viewer 0
moved_none r viewer = record {
  waiting = refl;
  others = λ priority h. refl;
  counted = omega arith;
  viewers = refl;
  cells = refl;
  priorities = refl;
  lists = refl;
}

pub moved_more : (old r new : Ranking) (viewer moved : ℕ) → Moved old r viewer moved → MovesFirst r new viewer → Moved old new viewer (moved + 1)
moved_more old r new viewer moved m f = record {
  waiting = ap (λ (xs : List ℕ). xs ++ own_of old.cells viewer (ranked_nodes new)) f.behind
      ∙ append_assoc (waiting_nodes r) (f.node ∷ []) (own_of old.cells viewer (ranked_nodes new))
      ∙ ap (λ (xs : List ℕ). waiting_nodes r ++ xs) (sym own) ∙ m.waiting;
  others = λ priority h. same_others priority h ∙ m.others priority h;
  counted = let one : length (own_of old.cells viewer (ranked_nodes r)) ≡ suc (length (own_of old.cells viewer (ranked_nodes new))) = ap (λ (xs : List ℕ). length xs) own in
      let before = m.counted in omega arith;
  viewers = f.viewers ∙ m.viewers;
  cells = f.cells ∙ m.cells;
  priorities = f.priorities ∙ m.priorities;
  lists = f.lists ∙ m.lists;
}
  where
    own : own_of old.cells viewer (ranked_nodes r) ≡ f.node ∷ own_of old.cells viewer (ranked_nodes new)
    own = ap (λ (c : ℕ). own_of c viewer (ranked_nodes r)) (sym m.cells) ∙ f.first ∙ ap (λ (c : ℕ). f.node ∷ own_of c viewer (ranked_nodes new)) (f.cells ∙ m.cells)

    same_others : (priority : ℕ) → priority < old.priorities →
        filter (λ n. not (is_of old.cells viewer n)) (list_at new.order priority) ≡ filter (λ n. not (is_of old.cells viewer n)) (list_at r.order priority)
    same_others priority h = subst (λ (c : ℕ). filter (λ n. not (is_of c viewer n)) (list_at new.order priority) ≡ filter (λ n. not (is_of c viewer n)) (list_at r.order priority)) m.cells
        (f.others priority (subst (λ (p : ℕ). priority < p) (sym m.priorities) h))

-- so many have been dropped from the front of the prefetch list
pub record Dropped (old new : Ranking) (count : ℕ) : Type 0 where
  pub waiting : waiting_nodes new ≡ drop count (waiting_nodes old)
  pub rows : take new.priorities new.order.lists ≡ take old.priorities old.order.lists
  pub viewers : new.viewers ≡ old.viewers
  pub cells : new.cells ≡ old.cells
  pub priorities : new.priorities ≡ old.priorities

pub dropped_none : (r : Ranking) (count : ℕ) → count ≡ 0 → Dropped r r count
dropped_none r count none = record {
  waiting = ap (λ (k : ℕ). drop k (waiting_nodes r)) (sym none);
  rows = refl;
  viewers = refl;
  cells = refl;
  priorities = refl;
}

pub dropped_more : (old r new : Ranking) (count more : ℕ) → Dropped old r count → DropsFirst r new → more ≡ count + 1 → Dropped old new more
dropped_more old r new count more d f is = record {
  waiting = f.waiting ∙ ap (λ (xs : List ℕ). drop 1 xs) d.waiting ∙ drop-drop 1 count (waiting_nodes old) ∙ ap (λ (k : ℕ). drop k (waiting_nodes old)) (sym is);
  rows = f.rows ∙ d.rows;
  viewers = f.viewers ∙ d.viewers;
  cells = f.cells ∙ d.cells;
  priorities = f.priorities ∙ d.priorities;
}

-- ---- at the end
none_left : (p : ℕ → Bool) (ls : List (List ℕ)) → filter p (flat ls) ≡ [] → (k : ℕ) → filter p (get_or ls k []) ≡ []
none_left p [] h k = refl
none_left p (xs ∷ ls) h zero = front_nil (filter p xs) (filter p (flat ls)) (sym (filter-append p xs (flat ls)) ∙ h)
  where
    front_nil : (front bs : List ℕ) → front ++ bs ≡ [] → front ≡ []
    front_nil [] bs e = refl
    front_nil (a ∷ front) bs e = cc
none_left p (xs ∷ ls) h (suc k) = none_left p ls (rest_nil (filter p xs) (filter p (flat ls)) (sym (filter-append p xs (flat ls)) ∙ h)) k
  where
    rest_nil : (front bs : List ℕ) → front ++ bs ≡ [] → bs ≡ []
    rest_nil [] bs e = e
    rest_nil (a ∷ front) bs e = cc

row_filtered : (p : ℕ → Bool) (ls : List (List ℕ)) (k : ℕ) → get_or (map (λ xs. filter p xs) ls) k [] ≡ filter p (get_or ls k [])
row_filtered p [] k = refl
row_filtered p (xs ∷ ls) zero = refl
row_filtered p (xs ∷ ls) (suc k) = row_filtered p ls k

-- the priorities have the other viewers' nodes
pub moved_rows : (old new : Ranking) (viewer moved : ℕ) → Moved old new viewer moved → own_of old.cells viewer (ranked_nodes new) ≡ [] →
    take new.priorities new.order.lists ≡ map (λ xs. filter (λ n. not (is_of old.cells viewer n)) xs) (take old.priorities old.order.lists)
moved_rows old new viewer moved m none =
    ext_get_or {A = List ℕ} [] (take new.priorities new.order.lists) (map (λ xs. filter (λ n. not (is_of old.cells viewer n)) xs) (take old.priorities old.order.lists))
    (long ∙ sym (length-map (take old.priorities old.order.lists) (λ (xs : List ℕ). filter (λ n. not (is_of old.cells viewer n)) xs)))
    (λ k h. sym (filter_none (is_of old.cells viewer) (get_or (take new.priorities new.order.lists) k []) (none_left (is_of old.cells viewer) (take new.priorities new.order.lists) none k))
    ∙ ap (λ (xs : List ℕ). filter (λ n. not (is_of old.cells viewer n)) xs) (get_or-take new.priorities new.order.lists k [] (inside k h))
    ∙ m.others k (subst (λ (p : ℕ). k < p) m.priorities (inside k h))
    ∙ ap (λ (xs : List ℕ). filter (λ n. not (is_of old.cells viewer n)) xs) (sym (get_or-take old.priorities old.order.lists k [] (subst (λ (p : ℕ). k < p) m.priorities (inside k h))))
    ∙ sym (row_filtered (λ n. not (is_of old.cells viewer n)) (take old.priorities old.order.lists) k))
  where
    long : length (take new.priorities new.order.lists) ≡ length (take old.priorities old.order.lists)
    long = length-take new.priorities new.order.lists ∙ ap (λ (p : ℕ). min p (length new.order.lists)) m.priorities ∙ ap (λ (n : ℕ). min old.priorities n) m.lists ∙ sym (length-take old.priorities old.order.lists)

    inside : (k : ℕ) → k < length (take new.priorities new.order.lists) → k < new.priorities
    inside k h = let l : length (take new.priorities new.order.lists) ≡ min new.priorities (length new.order.lists) = length-take new.priorities new.order.lists in omega arith

rows_view : (cells viewer : ℕ) (ls : List (List ℕ)) →
    map (requests_of cells) (map (λ xs. filter (λ n. not (is_of cells viewer n)) xs) ls) ≡ map (λ rs. filter (λ (r : Request). not (r.viewer == viewer)) rs) (map (requests_of cells) ls)
rows_view cells viewer [] = refl
rows_view cells viewer (xs ∷ ls) =
    ap (λ (rs : List Request). rs ∷ map (requests_of cells) (map (λ ys. filter (λ n. not (is_of cells viewer n)) ys) ls))
    (map-filter (request_of cells) (λ n. not (is_of cells viewer n)) (λ r. not (r.viewer == viewer)) (λ n. refl) xs)
    ∙ ap (λ (rows : List (List Request)). filter (λ (r : Request). not (r.viewer == viewer)) (requests_of cells xs) ∷ rows) (rows_view cells viewer ls)

-- the viewer's requests are those of its nodes
pub own_view : (r : Ranking) (bound viewer : ℕ) → queue.of_viewer (queue_of_ranking r bound) viewer ≡ requests_of r.cells (own_of r.cells viewer (ranked_nodes r))
own_view r bound viewer =
    ap (λ (rs : List Request). filter (λ (q : Request). q.viewer == viewer) rs) (sym (map-flat (request_of r.cells) (take r.priorities r.order.lists)))
    ∙ sym (map-filter (request_of r.cells) (is_of r.cells viewer) (λ q. q.viewer == viewer) (λ n. refl) (ranked_nodes r))

pub moved_count : (old new : Ranking) (bound viewer moved : ℕ) → Moved old new viewer moved → own_of old.cells viewer (ranked_nodes new) ≡ [] →
    moved ≡ length (queue.of_viewer (queue_of_ranking old bound) viewer)
moved_count old new bound viewer moved m none =
    let left : length (own_of old.cells viewer (ranked_nodes new)) ≡ 0 = ap (λ (xs : List ℕ). length xs) none in
    let counted = m.counted in
    let all : length (requests_of old.cells (own_of old.cells viewer (ranked_nodes old))) ≡ length (own_of old.cells viewer (ranked_nodes old)) = length-map (own_of old.cells viewer (ranked_nodes old)) (request_of old.cells) in
    let seen : length (queue.of_viewer (queue_of_ranking old bound) viewer) ≡ length (requests_of old.cells (own_of old.cells viewer (ranked_nodes old))) = ap (λ (rs : List Request). length rs) (own_view old bound viewer) in
    omega arith

abbrev view : ℕ → ℕ → ℕ → List (List Request) → List Request → queue.Queue
view viewers cells bound rows behind = record { viewers = viewers; cells = cells; bound = bound; lists = rows; prefetch = behind }

pub cleared_view : (old r new : Ranking) (bound viewer moved count : ℕ) → Moved old r viewer moved → own_of old.cells viewer (ranked_nodes r) ≡ [] → Dropped r new count →
    count ≡ length (waiting_nodes r) - bound → queue_of_ranking new bound ≡ queue.cleared (queue_of_ranking old bound) viewer
cleared_view old r new bound viewer moved count m none d is =
    ap (λ (n : ℕ). view n new.cells bound (map (requests_of new.cells) (take new.priorities new.order.lists)) (requests_of new.cells (waiting_nodes new))) (d.viewers ∙ m.viewers)
    ∙ ap (λ (c : ℕ). view old.viewers c bound (map (requests_of c) (take new.priorities new.order.lists)) (requests_of c (waiting_nodes new))) (d.cells ∙ m.cells)
    ∙ ap (λ (ls : List (List ℕ)). view old.viewers old.cells bound (map (requests_of old.cells) ls) (requests_of old.cells (waiting_nodes new))) (d.rows ∙ moved_rows old r viewer moved m none)
    ∙ ap (λ (rows : List (List Request)). view old.viewers old.cells bound rows (requests_of old.cells (waiting_nodes new))) (rows_view old.cells viewer (take old.priorities old.order.lists))
    ∙ ap (λ (rs : List Request). view old.viewers old.cells bound (map (λ qs. filter (λ (q : Request). not (q.viewer == viewer)) qs) (map (requests_of old.cells) (take old.priorities old.order.lists))) rs) behind
  where
    all : List Request
    all = requests_of old.cells (waiting_nodes old) ++ queue.of_viewer (queue_of_ranking old bound) viewer

    moved_all : requests_of old.cells (waiting_nodes r) ≡ requests_of old.cells (waiting_nodes old) ++ queue.of_viewer (queue_of_ranking old bound) viewer
    moved_all =
        ap (λ (xs : List ℕ). requests_of old.cells xs) (sym (append-nil (waiting_nodes r)) ∙ ap (λ (xs : List ℕ). waiting_nodes r ++ xs) (sym none) ∙ m.waiting)
        ∙ map-append (request_of old.cells) (waiting_nodes old) (own_of old.cells viewer (ranked_nodes old))
        ∙ ap (λ (rs : List Request). requests_of old.cells (waiting_nodes old) ++ rs) (sym (own_view old bound viewer))

    long : length (waiting_nodes r) ≡ length (requests_of old.cells (waiting_nodes old) ++ queue.of_viewer (queue_of_ranking old bound) viewer)
    long = sym (length-map (waiting_nodes r) (request_of old.cells)) ∙ ap (λ (rs : List Request). length rs) moved_all

    behind : requests_of old.cells (waiting_nodes new) ≡ queue.last_ones bound (requests_of old.cells (waiting_nodes old) ++ queue.of_viewer (queue_of_ranking old bound) viewer)
    behind =
        ap (λ (xs : List ℕ). requests_of old.cells xs) d.waiting ∙ sym (drop-map (request_of old.cells) count (waiting_nodes r))
        ∙ ap (λ (rs : List Request). drop count rs) moved_all
        ∙ ap (λ (k : ℕ). drop k (requests_of old.cells (waiting_nodes old) ++ queue.of_viewer (queue_of_ranking old bound) viewer)) (is ∙ ap (λ (n : ℕ). n - bound) long)
