use Rattle.std.proofs.Common.{◌≡◌, ℕ, ◌+◌, ◌<◌, length, sym, ap, subst, ◌∙◌, arith}
use Rattle.std.specs.List.{slice_get}
use Rattle.std.specs.Prelude.{Some, None, nat_lt, slice_index, if◌then◌else◌}
use Rattle.std.proofs.lemmas.List.{get_or_default}
use Rattle.ix_links.specs.NodeLists.{NodeLists, list_at}
use Rattle.ix_links.specs.Links.{lists_of}
use Rattle.ix_links.proofs.Membership.{contains_place}
use Rattle.ix_links.proofs.Rows.{row_within}
use Rattle.ix_links.proofs.Taken.{next_is}
use Rattle.ix_links.proofs.Calls.{IsWithin, linked_node}
use Rattle.ix_links.proofs.links.Links.next.Goals as goal

pub index-requires : goal.index-requires
index-requires c =
    let w : IsWithin c.self.inside.nodes c.self.inside.lists c.self.inside.rings.after.items c.self.inside.rings.before.items c.args.node =
    linked_node c.self.invariant c.args.self.now c.self.view_is c.args.node c.requires in
    let long = c.self.invariant.long_after in
    omega arith

pub returns : goal.returns
returns c = λ list place at.
    let nodes : c.self.inside.nodes ≡ c.args.self.now.nodes = ap (λ (v : NodeLists). v.nodes) c.self.view_is in
    let w : IsWithin c.self.inside.nodes c.self.inside.lists c.self.inside.rings.after.items c.self.inside.rings.before.items c.args.node =
    linked_node c.self.invariant c.args.self.now c.self.view_is c.args.node c.requires in
    let within : c.args.node < length c.self.inside.rings.after.items = let long = c.self.invariant.long_after in omega arith in
    let here : slice_get (list_at (lists_of c.self.inside) list) place ≡ Some c.args.node = subst (λ (v : NodeLists). slice_get (list_at v list) place ≡ Some c.args.node) (sym c.self.view_is) at in
    let below : list < c.self.inside.lists = subst (λ (n : ℕ). list < n) c.self.invariant.long_lists
    (row_within (lists_of c.self.inside).lists list c.args.node (contains_place (list_at (lists_of c.self.inside) list) place c.args.node here)) in
    let is : c.index.result.now ≡ slice_index c.self.inside.rings.after.items c.args.node =
    c.index.ensures ∙ get_or_default c.self.inside.rings.after.items c.args.node c.index.result.now 0 within in
    c.node_at.ensures
    ∙ ap (λ (n : ℕ). if nat_lt c.index.result.now n then Some c.index.result.now else None) (sym nodes)
    ∙ ap (λ (k : ℕ). if nat_lt k c.self.inside.nodes then Some k else None) is
    ∙ next_is c.self.invariant list place c.args.node below here
    ∙ ap (λ (v : NodeLists). slice_get (list_at v list) (place + 1)) c.self.view_is
