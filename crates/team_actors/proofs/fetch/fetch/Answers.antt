-- A fetch answers what its servings came to.
use Rattle.turn_cell.specs.Turn.{view}
use Rattle.team_eyes.specs.Teammate.{teammate_at}
use Rattle.team_actors.proofs.ServingLemmas.{fetch_answers}
use Rattle.team_actors.proofs.fetch.fetch.Goals as goal

pub returns-clause-answers : goal.returns-clause-answers
returns-clause-answers g c =
    let before = teammate_at g.S.Store.contents c.args.cells.now c.args.viewer c.args.pass.now (view c.args.asks.now) in
    let after = teammate_at g.S.Store.contents c.args.cells.now c.args.viewer c.fetch_cells.new.pass (view c.fetch_cells.new.asks) in
    fetch_answers before after c.args.count c.answer_of_fetch.result c.fetch_cells.result c.answer_of_fetch.ensures c.fetch_cells.ensures.fetch c.requires.pass.actor.pass.3
