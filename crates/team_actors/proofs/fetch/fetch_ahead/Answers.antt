-- A fetcher's servings are its deed.
use Rattle.std.proofs.Common.{refl}
use Rattle.turn_cell.specs.Turn.{view}
use Rattle.team_eyes.specs.Teammate.{teammate_at}
use Rattle.team_actors.proofs.ServingLemmas.{fetcher_serves}
use Rattle.team_actors.proofs.fetch.fetch_ahead.Goals as goal

pub returns-clause-fetches : goal.returns-clause-fetches
returns-clause-fetches g c =
    let before = teammate_at g.S.Store.contents c.args.cells.now 0 c.args.pass.now (view c.args.asks.now) in
    let after = teammate_at g.S.Store.contents c.args.cells.now 0 c.serve_cells.new.pass (view c.serve_cells.new.asks) in
    fetcher_serves before after refl c.serve_cells.ensures.served
