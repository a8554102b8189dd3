use Rattle.std.proofs.Common.{◌≡◌, ℕ, ◌+◌, ◌<◌, length, sym, ap, subst, ◌∙◌, arith}
use Rattle.std.specs.Prelude.{Some, None, nat_lt, slice_index, if◌then◌else◌}
use Rattle.std.proofs.lemmas.List.{get_or_default}
use Rattle.ix_links.specs.NodeList.{first}
use Rattle.ix_links.specs.NodeLists.{NodeLists, list_at}
use Rattle.ix_links.proofs.Taken.{front_is}
use Rattle.ix_links.proofs.links.Links.front.Goals as goal

pub returns-clause-front : goal.returns-clause-front
returns-clause-front c =
    let head : ℕ = c.self.inside.nodes + c.args.list in
    let nodes : c.self.inside.nodes ≡ c.args.self.now.nodes = ap (λ (v : NodeLists). v.nodes) c.self.view_is in
    let many : length c.args.self.now.lists ≡ c.self.inside.lists = ap (λ (v : NodeLists). length v.lists) (sym c.self.view_is) ∙ c.self.invariant.long_lists in
    let below : c.args.list < c.self.inside.lists = subst (λ (n : ℕ). c.args.list < n) many c.requires in
    let within : head < length c.self.inside.rings.after.items = let long = c.self.invariant.long_after in omega arith in
    let at : c.index.result.now ≡ slice_index c.self.inside.rings.after.items head =
    c.index.ensures ∙ get_or_default c.self.inside.rings.after.items head c.index.result.now 0 within in
    c.node_at.ensures
    ∙ ap (λ (n : ℕ). if nat_lt c.index.result.now n then Some c.index.result.now else None) (sym nodes)
    ∙ ap (λ (k : ℕ). if nat_lt k c.self.inside.nodes then Some k else None) at
    ∙ front_is c.self.invariant c.args.list below
    ∙ ap (λ (v : NodeLists). first (list_at v c.args.list)) c.self.view_is
