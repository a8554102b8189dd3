use Rattle.std.proofs.Common.{◌+◌, ◌<◌, arith}
use Rattle.std.specs.Prelude.{slice_index}
use Rattle.ix_links.proofs.Calls.{front_place, next_below, pushed_front}
use Rattle.ix_links.proofs.links.Links.push_front.Goals as goal

pub insert-requires-clause-next_in_range : goal.insert-requires-clause-next_in_range
insert-requires-clause-next_in_range c =
    let below : slice_index c.self.inside.rings.after.items (c.self.inside.nodes + c.args.list) < c.self.inside.nodes + c.self.inside.lists =
    next_below c.self.invariant (front_place c.self.invariant c.args.self.now c.self.view_is c.args.list c.args.node c.requires.list_in_range c.requires.node_in_range c.requires.free) in
    let long = c.self.invariant.long_before in
    omega arith

pub invariant_of-self : goal.invariant_of-self
invariant_of-self c =
    (pushed_front c.self.invariant c.args.self.now c.self.view_is c.args.list c.args.node c.requires.list_in_range c.requires.node_in_range c.requires.free
    c.insert.new.self.after.items c.insert.new.self.before.items c.insert.ensures.after c.insert.ensures.before).whole

pub returns-clause-pushed : goal.returns-clause-pushed
returns-clause-pushed c =
    (pushed_front c.self.invariant c.args.self.now c.self.view_is c.args.list c.args.node c.requires.list_in_range c.requires.node_in_range c.requires.free
    c.insert.new.self.after.items c.insert.new.self.before.items c.insert.ensures.after c.insert.ensures.before).view_is

pub returns-clause-disjoint : goal.returns-clause-disjoint
returns-clause-disjoint c =
    (pushed_front c.self.invariant c.args.self.now c.self.view_is c.args.list c.args.node c.requires.list_in_range c.requires.node_in_range c.requires.free
    c.insert.new.self.after.items c.insert.new.self.before.items c.insert.ensures.after c.insert.ensures.before).disjoint
