-- A phase that was played, and one that was lost.
use Rattle.std.proofs.Common.{◌≡◌, ◌+◌, ◌≤◌, length, arith}
use Rattle.team_phases.proofs.Played.{idle_played, worked_played}
use Rattle.team_phases.proofs.phase.play.Goals as goal

pub enlist-requires-clause-room : goal.enlist-requires-clause-room
enlist-requires-clause-room g c = let still = c.requires.first in record {
  cells_room = omega (arith, still.cells_joined, c.requires.few, c.requires.few_fetchers);
  cells_numbers = omega (arith, c.requires.numbers, c.requires.few, c.requires.few_fetchers);
  asks_room = omega (arith, still.asks_joined, c.requires.few, c.requires.few_fetchers);
  asks_numbers = omega (arith, c.requires.asks_numbers, c.requires.few, c.requires.few_fetchers);
}

pub work-requires-clause-own : goal.work-requires-clause-own
work-requires-clause-own g c κs within = c.in-Ok.ensures.drawn.own

pub returns-in-Ok-clause-first : goal.returns-in-Ok-clause-first
returns-in-Ok-clause-first g c =
    let w = c.work.ensures.worked in
    let count : length c.in-Ok.crew.passes.items ≡ length c.args.parts.items + c.args.fetchers = omega (arith, c.in-Ok.ensures.count) in
    let few : length c.args.parts.items + c.args.fetchers ≤ 32 = omega (arith, c.requires.few, c.requires.few_fetchers) in
    let r = worked_played g.S.Store.contents c.args.cells.now c.args.queue.now c.args.fetchers c.args.first.now c.enlist.new.first c.work.new.first c.args.parts.items c.in-Ok.crew.passes.items w.0 c.in-Ok.ensures.drawn w.2 count few c.requires.first in
    record { first = c.work.ensures.first; cells_joined = r.cells_joined; asks_joined = r.asks_joined }

pub returns-in-Ok-clause-played : goal.returns-in-Ok-clause-played
returns-in-Ok-clause-played g c =
    let w = c.work.ensures.worked in
    let count : length c.in-Ok.crew.passes.items ≡ length c.args.parts.items + c.args.fetchers = omega (arith, c.in-Ok.ensures.count) in
    let few : length c.args.parts.items + c.args.fetchers ≤ 32 = omega (arith, c.requires.few, c.requires.few_fetchers) in
    let r = worked_played g.S.Store.contents c.args.cells.now c.args.queue.now c.args.fetchers c.args.first.now c.enlist.new.first c.work.new.first c.args.parts.items c.in-Ok.crew.passes.items w.0 c.in-Ok.ensures.drawn w.2 count few c.requires.first in
    (w.0, w.1, r.played)

pub returns-in-Err-clause-first : goal.returns-in-Err-clause-first
returns-in-Err-clause-first g c =
    let l = c.lose_all.ensures.lost in
    let r = idle_played g.S.Store.contents c.args.cells.now c.args.queue.now c.args.fetchers c.args.first.now c.enlist.new.first c.args.parts.items l.0 c.in-Err.ensures.idle l.2 c.requires.first in
    record { first = c.enlist.ensures.first; cells_joined = r.cells_joined; asks_joined = r.asks_joined }

pub returns-in-Err-clause-played : goal.returns-in-Err-clause-played
returns-in-Err-clause-played g c =
    let l = c.lose_all.ensures.lost in
    let r = idle_played g.S.Store.contents c.args.cells.now c.args.queue.now c.args.fetchers c.args.first.now c.enlist.new.first c.args.parts.items l.0 c.in-Err.ensures.idle l.2 c.requires.first in
    (l.0, l.1, r.played)
