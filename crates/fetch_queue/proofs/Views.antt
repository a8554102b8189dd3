-- What callers see of the ranking after a call.
use Rattle.std.proofs.Common.{◌≡◌, ℕ, ◌+◌, ◌-◌, ◌<◌, Bool, true, false, List, [], ◌∷◌, ◌++◌, length, get_or, set, take, map, min, length-take, zero, suc, refl, sym, ap, subst, ◌∙◌, get_or-take, get_or-set_other, arith}
use mir.Val.{bool_byte}
use Rattle.std.specs.List.{slice_get}
use Rattle.std.specs.Prelude.{None, Some}
use Rattle.std.proofs.lemmas.List.{map-append, map-set, take-map, length-map}
use Rattle.std.proofs.Math.Seq.{take-set-lt}
use Rattle.ix_links.specs.NodeList.{contains, without, is_distinct, first}
use Rattle.ix_links.specs.NodeLists.{list_at, with_list, without_node}
use Rattle.ix_links.proofs.Membership.{without_none}
use Rattle.ix_links.proofs.Rows.{row_without, length-without}
use Rattle.fetch_queue.specs.declared.request.Request.{Request}
use Rattle.fetch_queue.specs.Queue as queue
use Rattle.fetch_queue.specs.Ranking.{Ranking, ranked_nodes, waiting_nodes, all_nodes, with_order, joined_nodes, put_node}
use Rattle.fetch_queue.specs.Requests.{request_of, requests_of}
use Rattle.fetch_queue.specs.Queues.{queue_of_ranking, IsBounded}
use Rattle.fetch_queue.specs.declared.queues.Queues.TheInside.{Inside}
use Rattle.fetch_queue.proofs.Filters.{flat}
use Rattle.fetch_queue.proofs.Requests.{map-flat, requests-without, requests-joined_nodes, rows-without}

abbrev view : ℕ → ℕ → ℕ → List (List Request) → List Request → queue.Queue
view viewers cells bound rows behind = record { viewers = viewers; cells = cells; bound = bound; lists = rows; prefetch = behind }

row_requests : (cells : ℕ) (ls : List (List ℕ)) (k : ℕ) → get_or (map (requests_of cells) ls) k [] ≡ requests_of cells (get_or ls k [])
row_requests cells [] k = refl
row_requests cells (xs ∷ ls) zero = refl
row_requests cells (xs ∷ ls) (suc k) = row_requests cells ls k

pub dropped_view : (r : Ranking) (bound node : ℕ) → queue_of_ranking (with_order r (without_node r.order node)) bound ≡ queue.dropped (queue_of_ranking r bound) (request_of r.cells node)
dropped_view r bound node =
    ap (λ (rows : List (List Request)). view r.viewers r.cells bound rows (requests_of r.cells (list_at (without_node r.order node) r.priorities)))
    (ap (λ (ls : List (List ℕ)). map (requests_of r.cells) ls) (take-map (λ (xs : List ℕ). without xs node) r.priorities r.order.lists) ∙ rows-without r.cells (take r.priorities r.order.lists) node)
    ∙ ap (λ (rs : List Request). view r.viewers r.cells bound (map (λ qs. queue.without_request qs (request_of r.cells node)) (map (requests_of r.cells) (take r.priorities r.order.lists))) rs)
    (ap (λ (xs : List ℕ). requests_of r.cells xs) (row_without r.order.lists r.priorities node) ∙ requests-without r.cells (list_at r.order r.priorities) node)

pub added_view : (r : Ranking) (bound priority node : ℕ) (to_front : Bool) → priority < r.priorities →
    queue_of_ranking (with_order r (with_list r.order priority (joined_nodes (list_at r.order priority) node to_front))) bound ≡ queue.added (queue_of_ranking r bound) (request_of r.cells node) priority to_front
added_view r bound priority node to_front h =
    ap (λ (rows : List (List Request)). view r.viewers r.cells bound rows (requests_of r.cells (get_or (set r.order.lists priority (joined_nodes (list_at r.order priority) node to_front)) r.priorities [])))
    (ap (λ (ls : List (List ℕ)). map (requests_of r.cells) ls) (take-set-lt r.priorities r.order.lists priority (joined_nodes (list_at r.order priority) node to_front) h)
    ∙ map-set (requests_of r.cells) (take r.priorities r.order.lists) priority (joined_nodes (list_at r.order priority) node to_front)
    ∙ ap (λ (rs : List Request). set (map (requests_of r.cells) (take r.priorities r.order.lists)) priority rs)
    (requests-joined_nodes r.cells (list_at r.order priority) node to_front
    ∙ ap (λ (rs : List Request). queue.joined rs (request_of r.cells node) to_front)
    (ap (λ (xs : List ℕ). requests_of r.cells xs) (sym (get_or-take r.priorities r.order.lists priority [] h)) ∙ sym (row_requests r.cells (take r.priorities r.order.lists) priority))))
    ∙ ap (λ (rs : List Request). view r.viewers r.cells bound (set (map (requests_of r.cells) (take r.priorities r.order.lists)) priority (queue.joined (get_or (map (requests_of r.cells) (take r.priorities r.order.lists)) priority []) (request_of r.cells node) to_front)) rs)
    (ap (λ (xs : List ℕ). requests_of r.cells xs) (get_or-set_other r.order.lists priority r.priorities (joined_nodes (list_at r.order priority) node to_front) [] (λ e. absurd (omega arith))))

pub put_view : (r : Ranking) (bound priority node : ℕ) (to_front : Bool) → priority < r.priorities →
    queue_of_ranking (put_node r priority node to_front) bound ≡ queue.put_request (queue_of_ranking r bound) (request_of r.cells node) priority to_front
put_view r bound priority node to_front h =
    added_view (with_order r (without_node r.order node)) bound priority node to_front h
    ∙ ap (λ (q : queue.Queue). queue.added q (request_of r.cells node) priority to_front) (dropped_view r bound node)

-- ---- the next request
joined_view : (r : Ranking) (bound : ℕ) → flat (queue_of_ranking r bound).lists ++ (queue_of_ranking r bound).prefetch ≡ requests_of r.cells (all_nodes r)
joined_view r bound =
    ap (λ (rs : List Request). rs ++ requests_of r.cells (waiting_nodes r)) (sym (map-flat (request_of r.cells) (take r.priorities r.order.lists)))
    ∙ sym (map-append (request_of r.cells) (ranked_nodes r) (waiting_nodes r))

first_request : (cells : ℕ) (xs : List ℕ) (node : ℕ) → Some node ≡ first xs → slice_get (requests_of cells xs) 0 ≡ Some (request_of cells node)
first_request cells [] node h = cc
first_request cells (x ∷ xs) node h = let same : x ≡ node = cc in ap (λ (n : ℕ). Some (request_of cells n)) same

no_request : (cells : ℕ) (xs : List ℕ) → None ≡ first xs → slice_get (requests_of cells xs) 0 ≡ None
no_request cells [] h = refl
no_request cells (x ∷ xs) h = cc

pub next_some : (r : Ranking) (bound node : ℕ) → Some node ≡ first (all_nodes r) → queue.next_request (queue_of_ranking r bound) ≡ Some (request_of r.cells node)
next_some r bound node h = ap (λ (rs : List Request). slice_get rs 0) (joined_view r bound) ∙ first_request r.cells (all_nodes r) node h

pub next_none : (r : Ranking) (bound : ℕ) → None ≡ first (all_nodes r) → queue.next_request (queue_of_ranking r bound) ≡ None
next_none r bound h = ap (λ (rs : List Request). slice_get rs 0) (joined_view r bound) ∙ no_request r.cells (all_nodes r) h

-- ---- the count of the prefetch list
pub waiting_removed : (r : Ranking) (node : ℕ) → waiting_nodes (with_order r (without_node r.order node)) ≡ without (waiting_nodes r) node
waiting_removed r node = row_without r.order.lists r.priorities node

pub waiting_put : (r : Ranking) (priority node : ℕ) (to_front : Bool) → priority < r.priorities → waiting_nodes (put_node r priority node to_front) ≡ without (waiting_nodes r) node
waiting_put r priority node to_front h =
    get_or-set_other (map (λ xs. without xs node) r.order.lists) priority r.priorities (joined_nodes (list_at (without_node r.order node) priority) node to_front) [] (λ e. absurd (omega arith))
    ∙ row_without r.order.lists r.priorities node

pub fewer : (xs : List ℕ) (node : ℕ) (b : Bool) → is_distinct xs ≡ true → b ≡ contains xs node → length (without xs node) + bool_byte b ≡ length xs
fewer xs node true once is = length-without xs node (sym is) once
fewer xs node false once is = let same : length (without xs node) ≡ length xs = ap (λ (ys : List ℕ). length ys) (without_none xs node (sym is)) in omega arith

-- the count after a node was taken out
pub IsBounded_fewer : (q : Inside) → IsBounded q → (node taken : ℕ) (b : Bool) (new : Ranking) → is_distinct (waiting_nodes q.ranks) ≡ true → b ≡ contains (waiting_nodes q.ranks) node → taken ≡ bool_byte b →
    waiting_nodes new ≡ without (waiting_nodes q.ranks) node → IsBounded (record { ranks = new; bound = q.bound; waiting = q.waiting - taken })
IsBounded_fewer q s node taken b new once is byte left =
    let one : length (without (waiting_nodes q.ranks) node) + bool_byte b ≡ length (waiting_nodes q.ranks) = fewer (waiting_nodes q.ranks) node b once is in
    let long : length (waiting_nodes new) ≡ length (without (waiting_nodes q.ranks) node) = ap (λ (xs : List ℕ). length xs) left in
    let counted = s.counted in
    let within = s.within in
    record { counted = omega arith; within = omega arith; few = s.few }

-- a priority that callers see is one of the ranking's
pub priority_below : (r : Ranking) (bound : ℕ) (q : queue.Queue) → queue_of_ranking r bound ≡ q → (priority : ℕ) → priority < length q.lists → priority < r.priorities
priority_below r bound q is priority h =
    let rows : length (map (requests_of r.cells) (take r.priorities r.order.lists)) ≡ length (take r.priorities r.order.lists) = length-map (take r.priorities r.order.lists) (requests_of r.cells) in
    let long : length (take r.priorities r.order.lists) ≡ min r.priorities (length r.order.lists) = length-take r.priorities r.order.lists in
    let within : priority < length (map (requests_of r.cells) (take r.priorities r.order.lists)) = subst (λ (p : queue.Queue). priority < length p.lists) (sym is) h in
    omega arith
