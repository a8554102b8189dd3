use Rattle.std.proofs.Common.{◌≡◌, ℕ, ◌-◌, ◌≤◌, [], length, min, sym, ap, subst, ◌∙◌, arith}
use Rattle.fetch_queue.specs.Queue.{Queue, of_viewer, cleared}
use Rattle.fetch_queue.specs.Ranking.{Ranking, own_of, ranked_nodes, waiting_nodes}
use Rattle.fetch_queue.specs.Queues.{queue_of_ranking}
use Rattle.fetch_queue.proofs.Clears.{Dropped, moved_count, cleared_view}
use Rattle.fetch_queue.proofs.queues.Queues.clear.Goals as goal

pub returns-clause-moved : goal.returns-clause-moved
returns-clause-moved c =
    let none : own_of c.self.inside.ranks.cells c.args.viewer (ranked_nodes c.loop-self.self-inside.ranks) ≡ [] =
    ap (λ (k : ℕ). own_of k c.args.viewer (ranked_nodes c.loop-self.self-inside.ranks)) (sym c.loop-self.invariant.moves.cells) ∙ c.loop-self-test.ensures.none in
    moved_count c.self.inside.ranks c.loop-self.self-inside.ranks c.self.inside.bound c.args.viewer c.loop-self.moved c.loop-self.invariant.moves none
    ∙ ap (λ (q : Queue). length (of_viewer q c.args.viewer)) c.self.view_is

pub returns-clause-cleared : goal.returns-clause-cleared
returns-clause-cleared c =
    let none : own_of c.self.inside.ranks.cells c.args.viewer (ranked_nodes c.loop-self.self-inside.ranks) ≡ [] =
    ap (λ (k : ℕ). own_of k c.args.viewer (ranked_nodes c.loop-self.self-inside.ranks)) (sym c.loop-self.invariant.moves.cells) ∙ c.loop-self-test.ensures.none in
    let count : ℕ = c.loop-self.self-inside.waiting - c.loop-self-2.self-inside.waiting in
    let dropped : Dropped c.loop-self.self-inside.ranks c.loop-self-2.self-inside.ranks count =
    subst (λ (r : Ranking). Dropped r c.loop-self-2.self-inside.ranks count) c.loop-self-test.ensures.unchanged c.loop-self-2.invariant.drops in
    let bound : c.loop-self-2.self-inside.bound ≡ c.self.inside.bound = c.loop-self-2.invariant.bound ∙ c.loop-self.invariant.bound in
    let counted : c.loop-self.self-inside.waiting ≡ length (waiting_nodes c.loop-self.self-inside.ranks) = c.loop-self.invariant.counted in
    let above : min c.loop-self.self-inside.waiting c.loop-self-2.self-inside.bound ≤ c.loop-self-2.self-inside.waiting = c.loop-self-2.invariant.above in
    let below : c.loop-self-2.self-inside.waiting ≤ c.loop-self.self-inside.waiting = c.loop-self-2.invariant.below in
    let within : c.loop-self-2.self-inside.waiting ≤ c.loop-self-2.self-inside.bound = c.loop-self-2-test.false in
    let is : count ≡ length (waiting_nodes c.loop-self.self-inside.ranks) - c.self.inside.bound = omega arith in
    ap (λ (b : ℕ). queue_of_ranking c.loop-self-2.self-inside.ranks b) bound
    ∙ cleared_view c.self.inside.ranks c.loop-self.self-inside.ranks c.loop-self-2.self-inside.ranks c.self.inside.bound c.args.viewer c.loop-self.moved count c.loop-self.invariant.moves none dropped is
    ∙ ap (λ (q : Queue). cleared q c.args.viewer) c.self.view_is
