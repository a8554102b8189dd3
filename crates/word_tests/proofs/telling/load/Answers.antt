use Rattle.std.proofs.Common.{rules, ◌<◌, sym, subst}
use Rattle.cell_store.specs.MemStore.{contents_of}
use Rattle.pin_rule.specs.Calls.{view, made_of}
use Rattle.pin_rule.proofs.Telling.{fetched, told_load}
use Rattle.word_tests.proofs.telling.load.Goals as goal

pub publish-requires-clause-lane : goal.publish-requires-clause-lane
publish-requires-clause-lane g c = let t = c.requires.tried.0 in let near = subst (λ n. c.args.claim.cell < n) (sym t.cells) c.requires.tried.1 in
    (told_load contents_of (made_of c.args.pins.now) c.args.grid.now.0 c.args.grid.now.1 t.over t.known t.lanes (view c.args.pass.now) (view c.try_lane.new.pass) c.in-Ok.lane _ c.fetch.new.store c.args.claim.cell _ c.fetch.new.out near c.requires.loading.0.claims c.in-Ok.ensures.done c.lane.view_is
    (fetched contents_of (made_of c.args.pins.now) c.args.grid.now.0 c.args.grid.now.1 t.over t.known t.lanes c.cell-cell.result c.args.claim.cell _ c.lane.inside.store c.fetch.new.store c.fetch.new.out c.cell-cell.ensures (search rules)
    c.fetch.ensures.told c.fetch.ensures.told_log c.fetch.ensures.never_falls c.fetch.ensures.held c.in-Ok-fetch.ensures.values c.in-Ok-fetch.ensures.logged)).0

pub publish-requires-clause-home : goal.publish-requires-clause-home
publish-requires-clause-home g c = let t = c.requires.tried.0 in let near = subst (λ n. c.args.claim.cell < n) (sym t.cells) c.requires.tried.1 in λ d k.
    (told_load contents_of (made_of c.args.pins.now) c.args.grid.now.0 c.args.grid.now.1 t.over t.known t.lanes (view c.args.pass.now) (view c.try_lane.new.pass) c.in-Ok.lane _ c.fetch.new.store c.args.claim.cell _ c.fetch.new.out near c.requires.loading.0.claims c.in-Ok.ensures.done c.lane.view_is
    (fetched contents_of (made_of c.args.pins.now) c.args.grid.now.0 c.args.grid.now.1 t.over t.known t.lanes c.cell-cell.result c.args.claim.cell _ c.lane.inside.store c.fetch.new.store c.fetch.new.out c.cell-cell.ensures (search rules)
    c.fetch.ensures.told c.fetch.ensures.told_log c.fetch.ensures.never_falls c.fetch.ensures.held c.in-Ok-fetch.ensures.values c.in-Ok-fetch.ensures.logged)).1 _ d k
