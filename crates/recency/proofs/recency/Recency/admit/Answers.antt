use Rattle.std.proofs.Common.{◌≡◌, sym, subst, rules}
use Rattle.recency.specs.Order.{Order, IsOrder, admitted}
use Rattle.recency.specs.Recency.{order_of}
use Rattle.recency.proofs.Orders.{seen_sound, admitted_sound}
use Rattle.recency.proofs.recency.Recency.admit.Goals as goal

pub returns-clause-sound : goal.returns-clause-sound
returns-clause-sound c =
    let is : order_of (record { links = c.push_back.new.self; most_kept = c.self.inside.most_kept; kept = c.self.inside.kept }) ≡ admitted c.args.self.now c.args.slot = search rules in
    subst (λ (o : Order). IsOrder o) (sym is)
    (admitted_sound c.args.self.now c.args.slot
    (seen_sound c.self.inside.links c.self.inside.most_kept c.self.inside.kept c.self.invariant.disjoint c.self.invariant.half c.self.invariant.counted c.self.invariant.bound c.args.self.now c.self.view_is)
    c.requires.in_range c.requires.free)
