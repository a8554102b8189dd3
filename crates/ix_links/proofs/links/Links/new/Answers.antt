use Rattle.std.proofs.Common.{rules}
use Rattle.ix_links.proofs.Calls.{made}
use Rattle.ix_links.proofs.links.Links.new.Goals as goal

pub invariant_of-result : goal.invariant_of-result
invariant_of-result c =
    (made c.args.nodes c.args.lists c.requires.few_nodes c.requires.few_lists c.in_ok-new.field-0.after.items c.in_ok-new.field-0.before.items c.in_ok-vec.field-0.items
    c.in_ok-new.ensures.after c.in_ok-new.ensures.before (c.in_ok-vec.ensures.items_if_clones_equal (λ y h. search rules))).whole

pub returns-clause-made : goal.returns-clause-made
returns-clause-made c =
    (made c.args.nodes c.args.lists c.requires.few_nodes c.requires.few_lists c.in_ok-new.field-0.after.items c.in_ok-new.field-0.before.items c.in_ok-vec.field-0.items
    c.in_ok-new.ensures.after c.in_ok-new.ensures.before (c.in_ok-vec.ensures.items_if_clones_equal (λ y h. search rules))).view_is

pub returns-clause-disjoint : goal.returns-clause-disjoint
returns-clause-disjoint c =
    (made c.args.nodes c.args.lists c.requires.few_nodes c.requires.few_lists c.in_ok-new.field-0.after.items c.in_ok-new.field-0.before.items c.in_ok-vec.field-0.items
    c.in_ok-new.ensures.after c.in_ok-new.ensures.before (c.in_ok-vec.ensures.items_if_clones_equal (λ y h. search rules))).disjoint
