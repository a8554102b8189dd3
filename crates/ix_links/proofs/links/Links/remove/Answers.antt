use Rattle.std.proofs.Common.{ap, ◌∙◌, arith}
use Rattle.ix_links.specs.NodeLists.{is_linked, NodeLists}
use Rattle.ix_links.proofs.Calls.{linked_node, removed, taken_free}
use Rattle.ix_links.proofs.links.Links.remove.Goals as goal

pub remove-requires-clause-entry_after : goal.remove-requires-clause-entry_after
remove-requires-clause-entry_after c =
    let below = (linked_node c.self.invariant c.args.self.now c.self.view_is c.args.node c.requires).node_below in
    let long = c.self.invariant.long_after in
    omega (arith, below)

pub remove-requires-clause-entry_before : goal.remove-requires-clause-entry_before
remove-requires-clause-entry_before c =
    let below = (linked_node c.self.invariant c.args.self.now c.self.view_is c.args.node c.requires).node_below in
    let long = c.self.invariant.long_before in
    omega (arith, below)

pub remove-requires-clause-next_in_range : goal.remove-requires-clause-next_in_range
remove-requires-clause-next_in_range c =
    let below = (linked_node c.self.invariant c.args.self.now c.self.view_is c.args.node c.requires).next_below in
    let long = c.self.invariant.long_before in
    omega (arith, below)

pub remove-requires-clause-previous_in_range : goal.remove-requires-clause-previous_in_range
remove-requires-clause-previous_in_range c =
    let below = (linked_node c.self.invariant c.args.self.now c.self.view_is c.args.node c.requires).previous_below in
    let long = c.self.invariant.long_after in
    omega (arith, below)

pub index_mut-requires : goal.index_mut-requires
index_mut-requires c =
    let below = (linked_node c.self.invariant c.args.self.now c.self.view_is c.args.node c.requires).node_below in
    let long = c.self.invariant.long_owners in
    omega (arith, below)

pub invariant_of-self : goal.invariant_of-self
invariant_of-self c =
    (removed c.self.invariant c.args.self.now c.self.view_is c.args.node c.requires
    c.remove.new.self.after.items c.remove.new.self.before.items c.remove.ensures.after c.remove.ensures.before).whole

pub returns-clause-removed : goal.returns-clause-removed
returns-clause-removed c =
    (removed c.self.invariant c.args.self.now c.self.view_is c.args.node c.requires
    c.remove.new.self.after.items c.remove.new.self.before.items c.remove.ensures.after c.remove.ensures.before).view_is

pub returns-clause-free : goal.returns-clause-free
returns-clause-free c =
    ap (λ (v : NodeLists). is_linked v c.args.node) (removed c.self.invariant c.args.self.now c.self.view_is c.args.node c.requires
    c.remove.new.self.after.items c.remove.new.self.before.items c.remove.ensures.after c.remove.ensures.before).view_is
    ∙ taken_free c.args.self.now c.args.node

pub returns-clause-disjoint : goal.returns-clause-disjoint
returns-clause-disjoint c =
    (removed c.self.invariant c.args.self.now c.self.view_is c.args.node c.requires
    c.remove.new.self.after.items c.remove.new.self.before.items c.remove.ensures.after c.remove.ensures.before).disjoint
