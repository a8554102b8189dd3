use Rattle.std.proofs.Common.{ℕ, ◌<◌, sym, ap, subst, ◌∙◌}
use Rattle.fetch_queue.specs.declared.request.Request.{Request}
use Rattle.fetch_queue.specs.Queue.{Queue, put_request, pair}
use Rattle.fetch_queue.specs.Ranking.{Ranking, waiting_nodes}
use Rattle.fetch_queue.specs.Requests.{request_of}
use Rattle.fetch_queue.specs.Queues.{queue_of_ranking}
use Rattle.fetch_queue.proofs.Requests.{request_of_pair}
use Rattle.fetch_queue.proofs.Views.{put_view, waiting_put, priority_below, IsBounded_fewer}
use Rattle.fetch_queue.proofs.queues.Queues.put.Goals as goal

pub invariant_of-self : goal.invariant_of-self
invariant_of-self c =
    let at : c.from-2.result < c.self.inside.ranks.priorities =
    subst (λ (k : ℕ). k < c.self.inside.ranks.priorities) (sym c.from-2.ensures) (priority_below c.self.inside.ranks c.self.inside.bound c.args.self.now c.self.view_is c.args.priority c.requires.priority_in_range) in
    IsBounded_fewer c.self.inside c.self.invariant c.node-node.result c.from.result c.is_waiting.result c.put.new.self c.is_waiting.ensures.once c.is_waiting.ensures.waiting c.from.ensures
    (ap (λ (r : Ranking). waiting_nodes r) c.put.ensures ∙ waiting_put c.self.inside.ranks c.from-2.result c.node-node.result c.args.to_front at)

pub returns : goal.returns
returns c =
    let at : c.from-2.result < c.self.inside.ranks.priorities =
    subst (λ (k : ℕ). k < c.self.inside.ranks.priorities) (sym c.from-2.ensures) (priority_below c.self.inside.ranks c.self.inside.bound c.args.self.now c.self.view_is c.args.priority c.requires.priority_in_range) in
    let cell_in : c.args.cell < c.self.inside.ranks.cells = subst (λ (q : Queue). c.args.cell < q.cells) (sym c.self.view_is) c.requires.cell_in_range in
    ap (λ (r : Ranking). queue_of_ranking r c.self.inside.bound) c.put.ensures
    ∙ put_view c.self.inside.ranks c.self.inside.bound c.from-2.result c.node-node.result c.args.to_front at
    ∙ ap (λ (r : Request). put_request (queue_of_ranking c.self.inside.ranks c.self.inside.bound) r c.from-2.result c.args.to_front)
    (ap (λ (n : ℕ). request_of c.self.inside.ranks.cells n) c.node-node.ensures.node ∙ request_of_pair c.self.inside.ranks.cells c.args.viewer c.args.cell cell_in)
    ∙ ap (λ (k : ℕ). put_request (queue_of_ranking c.self.inside.ranks c.self.inside.bound) (pair c.args.viewer c.args.cell) k c.args.to_front) c.from-2.ensures
    ∙ ap (λ (q : Queue). put_request q (pair c.args.viewer c.args.cell) c.args.priority c.args.to_front) c.self.view_is
