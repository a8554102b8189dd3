use Rattle.std.proofs.Common.{◌≡◌, ◌<◌, length, ap, ◌∙◌, arith}
use Rattle.std.specs.Prelude.{None}
use Rattle.std.proofs.lemmas.List.{get_or_default}
use Rattle.ix_links.specs.NodeLists.{NodeLists, list_of_node}
use Rattle.ix_links.proofs.Calls.{list_of_is}
use Rattle.ix_links.proofs.links.Links.list_of.Goals as goal

pub returns : goal.returns
returns c =
    let nodes : c.self.inside.nodes ≡ c.args.self.now.nodes = ap (λ (v : NodeLists). v.nodes) c.self.view_is in
    let within : c.args.node < length c.self.inside.owners.items = let long = c.self.invariant.long_owners in omega arith in
    c.index.ensures ∙ get_or_default c.self.inside.owners.items c.args.node c.index.result.now None within
    ∙ list_of_is c.self.invariant c.args.node ∙ ap (λ (v : NodeLists). list_of_node v c.args.node) c.self.view_is
