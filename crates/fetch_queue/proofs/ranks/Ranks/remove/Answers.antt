use Rattle.fetch_queue.proofs.Own.{ranked_without}
use Rattle.fetch_queue.proofs.ranks.Ranks.remove.Goals as goal

pub invariant_of-self : goal.invariant_of-self
invariant_of-self c =
    ranked_without c.self.inside c.self.invariant c.args.node c.take_out.new.links c.take_out-2.new.links c.take_out.ensures.disjoint c.take_out-2.ensures.disjoint
    c.take_out.ensures.removed c.take_out-2.ensures.removed
