use Rattle.std.proofs.Common.{◌≡◌, ◌<◌, sym, subst, ◌∙◌}
use Rattle.std.specs.Prelude.{Some}
use Rattle.ix_links.specs.NodeList.{first}
use Rattle.ix_links.specs.NodeLists.{NodeLists, list_at}
use Rattle.ix_links.proofs.Rows.{row_at}
use Rattle.ix_links.proofs.Calls.{popped, first_linked}
use Rattle.ix_links.proofs.links.Links.pop_front.Goals as goal

pub remove-requires : goal.remove-requires
remove-requires c =
    let at : first (list_at c.args.self.now c.args.list) ≡ Some c.in_ok-node.node = sym c.in_ok-node.ensures.front in
    row_at c.args.self.now.lists c.args.list c.in_ok-node.node (first_linked c.args.self.now c.args.list c.in_ok-node.node at)

pub returns-clause-kept : goal.returns-clause-kept
returns-clause-kept c =
    let at : first (list_at c.args.self.now c.args.list) ≡ Some c.in_ok-node.node = sym c.in_ok-node.ensures.front in
    c.remove.ensures.removed ∙ popped c.args.self.now c.in_ok-node.ensures.disjoint c.args.list c.in_ok-node.node c.requires at

pub returns-clause-node : goal.returns-clause-node
returns-clause-node c =
    let at : first (list_at c.args.self.now c.args.list) ≡ Some c.in_ok-node.node = sym c.in_ok-node.ensures.front in
    subst (λ (v : NodeLists). c.in_ok-node.node < v.nodes) (sym c.remove.ensures.removed)
    (c.in_ok-node.ensures.disjoint.within c.args.list c.in_ok-node.node (first_linked c.args.self.now c.args.list c.in_ok-node.node at))
