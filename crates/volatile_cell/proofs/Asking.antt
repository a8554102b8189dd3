-- Where calls of a queue lead.
use Rattle.std.proofs.Common.{◌≡◌, ◌∙◌, ℕ, ◌-◌, ◌<◌, nat_lt, ◌&&◌, Bool, true, false, cond, List, [], ◌∷◌, ◌++◌, length, Option, refl, sym, ap, subst, arith}
use Rattle.std.proofs.lemmas.Bool.Decides.{nat_tests}
use Rattle.cell_grid.specs.declared.level.Level.{Level}
use Rattle.cell_grid.specs.Pyramid.{cells_of, grid_of}
use Rattle.fetch_queue.specs.declared.request.Request.{Request}
use Rattle.fetch_queue.specs.Queue.{Queue, pair, put_request, next_request, without_next, of_viewer, cleared}
use Rattle.volatile_cell.specs.declared.queue_call.QueueCall.TheVariants as call
use Rattle.volatile_cell.specs.declared.queue_reply.QueueReply.TheVariants as reply
use Rattle.volatile_cell.specs.Asked.{Asked, asked, puts_request, after_call, AskedFrom}
use Rattle.volatile_cell.specs.Requests.{priority_of, request_for, IsQueueFor}
use Rattle.volatile_cell.specs.StrategyRule.{clearing}
use Rattle.volatile_cell.proofs.Levels.{level_exists}

below : (m n : ℕ) → m < n → nat_lt m n ≡ true
below m n h = grind (arith, nat_tests)

in_range : (q : Queue) (viewer cell priority : ℕ) → viewer < q.viewers → cell < q.cells → priority < length q.lists → puts_request q viewer cell priority ≡ true
in_range q viewer cell priority v c p =
    ap (λ b. b && nat_lt cell q.cells && nat_lt priority (length q.lists)) (below viewer q.viewers v)
    ∙ ap (λ b. b && nat_lt priority (length q.lists)) (below cell q.cells c) ∙ below priority (length q.lists) p

-- a put in range
pub asked_put : (q q' : Queue) (viewer cell priority : ℕ) (to_front : Bool) → viewer < q.viewers → cell < q.cells → priority < length q.lists
    → q' ≡ put_request q (pair viewer cell) priority to_front → AskedFrom q (asked (call.Put viewer cell priority to_front) reply.Done ∷ []) q'
asked_put q q' viewer cell priority to_front v c p is =
    (refl, ap (λ b. cond b (put_request q (pair viewer cell) priority to_front) q) (in_range q viewer cell priority v c p) ∙ sym is)

-- the request for a cell
pub asked_request : (q q' : Queue) (levels : List Level) (viewer cell : ℕ) → viewer < q.viewers → IsQueueFor q levels → cell < cells_of levels
    → q' ≡ put_request q (pair viewer cell) (priority_of levels cell) false → AskedFrom q (request_for viewer levels cell ∷ []) q'
asked_request q q' levels viewer cell v right inside is =
    let below : length levels - 1 - (grid_of levels cell).0 < length levels = omega (arith, level_exists levels cell inside) in
    asked_put q q' viewer cell (priority_of levels cell) false v (subst (λ n. cell < n) (sym right.cells) inside) (subst (λ n. priority_of levels cell < n) (sym right.priorities) below) is

-- a take
pub asked_take : (q q' : Queue) (r : Option Request) → r ≡ next_request q → q' ≡ without_next q r → AskedFrom q (asked call.Take (reply.Taken r) ∷ []) q'
asked_take q q' r is after = (ap reply.Taken is, ap (without_next q) (sym is) ∙ sym after)

-- a clear in range
pub asked_clear : (q q' : Queue) (viewer count : ℕ) → viewer < q.viewers → count ≡ length (of_viewer q viewer) → q' ≡ cleared q viewer → AskedFrom q (clearing viewer count ∷ []) q'
asked_clear q q' viewer count v is after = (
  ap reply.Cleared (is ∙ sym (ap (λ b. cond b (length (of_viewer q viewer)) 0) (below viewer q.viewers v))),
  ap (λ b. cond b (cleared q viewer) q) (below viewer q.viewers v) ∙ sym after,
)

-- calls that lead on from where others led
pub asked_after : (a b c : Queue) (u v : List Asked) → AskedFrom a u b → AskedFrom b v c → AskedFrom a (u ++ v) c
asked_after a b c [] v g h = subst (λ (q : Queue). AskedFrom q v c) (sym g) h
asked_after a b c (x ∷ u) v g h = (g.0, asked_after (after_call a x.call) b c u v g.1 h)
