use Rattle.std.proofs.Common.{◌≡◌, sym, ap, ◌∙◌, rules}
use Rattle.std.specs.Prelude.{Some, None}
use Rattle.fetch_queue.specs.declared.request.Request.{Request}
use Rattle.fetch_queue.specs.Queue.{Queue, dropped, next_request}
use Rattle.fetch_queue.specs.Ranking.{Ranking, waiting_nodes}
use Rattle.fetch_queue.specs.Requests.{request_of}
use Rattle.fetch_queue.specs.Queues.{queue_of_ranking}
use Rattle.fetch_queue.proofs.Views.{dropped_view, next_some, next_none, waiting_removed, IsBounded_fewer}
use Rattle.fetch_queue.proofs.queues.Queues.take.Goals as goal

pub returns-in_err-node-clause-taken : goal.returns-in_err-node-clause-taken
returns-in_err-node-clause-taken c =
    let none : c.from_residual.result ≡ None = search rules in
    none ∙ sym (ap (λ (q : Queue). next_request q) (sym c.self.view_is) ∙ next_none c.self.inside.ranks c.self.inside.bound c.in_err-node.ensures.first)

pub invariant_of-self : goal.invariant_of-self
invariant_of-self c =
    IsBounded_fewer c.self.inside c.self.invariant c.in_ok-node.node c.from.result c.is_waiting.result c.remove.new.self c.is_waiting.ensures.once c.is_waiting.ensures.waiting c.from.ensures
    (ap (λ (r : Ranking). waiting_nodes r) c.remove.ensures ∙ waiting_removed c.self.inside.ranks c.in_ok-node.node)

pub returns-clause-taken : goal.returns-clause-taken
returns-clause-taken c =
    ap (λ (r : Request). Some r) (c.request.ensures.request ∙ ap (λ (r : Ranking). request_of r.cells c.in_ok-node.node) c.remove.ensures)
    ∙ sym (next_some c.self.inside.ranks c.self.inside.bound c.in_ok-node.node c.in_ok-node.ensures.first) ∙ ap (λ (q : Queue). next_request q) c.self.view_is

pub returns-clause-removed : goal.returns-clause-removed
returns-clause-removed c =
    ap (λ (r : Ranking). queue_of_ranking r c.self.inside.bound) c.remove.ensures
    ∙ dropped_view c.self.inside.ranks c.self.inside.bound c.in_ok-node.node
    ∙ ap (λ (q : Queue). dropped q (request_of c.self.inside.ranks.cells c.in_ok-node.node)) c.self.view_is
    ∙ ap (λ (r : Request). dropped c.args.self.now r) (sym (c.request.ensures.request ∙ ap (λ (r : Ranking). request_of r.cells c.in_ok-node.node) c.remove.ensures))
