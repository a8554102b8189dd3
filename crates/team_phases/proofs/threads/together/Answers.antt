-- What each actor did at its place, and each fetcher.
use Rattle.std.proofs.Common.{rules, get_or}
use Rattle.team_phases.specs.Working.{HasActed, HasFetched}
use Rattle.team_phases.proofs.Zipping.{zip_by_place, along}
use Rattle.team_phases.proofs.threads.together.Goals as goal

pub returns-clause-acted : goal.returns-clause-acted
returns-clause-acted g c =
    let R = HasActed g.S.Store.contents c.args.cells.now c.args.queue.now in
    let xs = c.args.actors.now in
    let ys = c.beside.new.all in
    zip_by_place R xs ys (search rules) (λ i d l. let at = (c.beside.ensures.worked.each i d l).1 in
    along R at.argument.now at.after_call.now (get_or xs i d) (get_or ys i d) at.argument_is at.left (search (at.call, rules)))

pub returns-clause-fetched : goal.returns-clause-fetched
returns-clause-fetched g c =
    let R = HasFetched g.S.Store.contents c.args.cells.now c.args.queue.now in
    let xs = c.args.fetchers.now in
    let ys = c.beside.new.ahead in
    zip_by_place R xs ys (search rules) (λ i d l. let at = (c.beside.ensures.served.each i d l).1 in
    along R at.argument.now at.after_call.now (get_or xs i d) (get_or ys i d) at.argument_is at.left (search (at.call, rules)))
