use Rattle.std.proofs.Common.{arith}
use Rattle.ix_links.proofs.Calls.{back_below, last_read, pushed_back}
use Rattle.ix_links.proofs.links.Links.push_back.Goals as goal

pub insert-requires-clause-place_in_range : goal.insert-requires-clause-place_in_range
insert-requires-clause-place_in_range c =
    let b = back_below c.self.invariant c.args.self.now c.self.view_is c.args.list c.args.node c.index-last.result.now c.requires.list_in_range c.requires.node_in_range c.requires.free
    (last_read c.self.invariant c.args.self.now c.self.view_is c.args.list c.index-last.result.now c.requires.list_in_range c.index-last.ensures) in
    let long = c.self.invariant.long_after in
    omega (arith, b.0)

pub insert-requires-clause-next_in_range : goal.insert-requires-clause-next_in_range
insert-requires-clause-next_in_range c =
    let b = back_below c.self.invariant c.args.self.now c.self.view_is c.args.list c.args.node c.index-last.result.now c.requires.list_in_range c.requires.node_in_range c.requires.free
    (last_read c.self.invariant c.args.self.now c.self.view_is c.args.list c.index-last.result.now c.requires.list_in_range c.index-last.ensures) in
    let long = c.self.invariant.long_before in
    omega (arith, b.1)

pub invariant_of-self : goal.invariant_of-self
invariant_of-self c =
    (pushed_back c.self.invariant c.args.self.now c.self.view_is c.args.list c.args.node c.index-last.result.now c.requires.list_in_range c.requires.node_in_range c.requires.free
    (last_read c.self.invariant c.args.self.now c.self.view_is c.args.list c.index-last.result.now c.requires.list_in_range c.index-last.ensures)
    c.insert.new.self.after.items c.insert.new.self.before.items c.insert.ensures.after c.insert.ensures.before).whole

pub returns-clause-pushed : goal.returns-clause-pushed
returns-clause-pushed c =
    (pushed_back c.self.invariant c.args.self.now c.self.view_is c.args.list c.args.node c.index-last.result.now c.requires.list_in_range c.requires.node_in_range c.requires.free
    (last_read c.self.invariant c.args.self.now c.self.view_is c.args.list c.index-last.result.now c.requires.list_in_range c.index-last.ensures)
    c.insert.new.self.after.items c.insert.new.self.before.items c.insert.ensures.after c.insert.ensures.before).view_is

pub returns-clause-disjoint : goal.returns-clause-disjoint
returns-clause-disjoint c =
    (pushed_back c.self.invariant c.args.self.now c.self.view_is c.args.list c.args.node c.index-last.result.now c.requires.list_in_range c.requires.node_in_range c.requires.free
    (last_read c.self.invariant c.args.self.now c.self.view_is c.args.list c.index-last.result.now c.requires.list_in_range c.index-last.ensures)
    c.insert.new.self.after.items c.insert.new.self.before.items c.insert.ensures.after c.insert.ensures.before).disjoint
