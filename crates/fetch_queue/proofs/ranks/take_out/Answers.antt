use Rattle.std.proofs.Common.{sym, ◌∙◌}
use Rattle.fetch_queue.proofs.Taking.{listed_some, listed_none, without_free}
use Rattle.fetch_queue.proofs.ranks.take_out.Goals as goal

pub remove-requires : goal.remove-requires
remove-requires c = listed_some c.args.links.now c.args.node c.list_of.result c.list_of.ensures (sym c.is_some.ensures ∙ c.if-is_some.true)

pub returns-else-is_some-clause-removed : goal.returns-else-is_some-clause-removed
returns-else-is_some-clause-removed c =
    without_free c.args.links.now c.args.node
    (listed_none c.args.links.now c.args.node c.requires.disjoint c.list_of.result c.list_of.ensures (sym c.is_some.ensures ∙ c.if-is_some.false))

pub returns-else-is_some-clause-free : goal.returns-else-is_some-clause-free
returns-else-is_some-clause-free c =
    listed_none c.args.links.now c.args.node c.requires.disjoint c.list_of.result c.list_of.ensures (sym c.is_some.ensures ∙ c.if-is_some.false)
