-- What was paired, what was done and what was joined.
use Rattle.std.proofs.Common.{◌≡◌, ◌∙◌, length, map, sym, ap, refl, arith}
use Rattle.std.proofs.lemmas.List.{length-map}
use Rattle.std.proofs.lemmas.List.Elements.{All-same, length_all_zip}
use Rattle.team_passes.specs.Teams.{IsTeamPass}
use Rattle.team_passes.proofs.Teaming.{taken_on}
use Rattle.team_phases.specs.Working.{HasActed, pass_in, part_in, done_in}
use Rattle.team_phases.proofs.Acting.{all_acted, all_fetched}
use Rattle.team_phases.proofs.Readying.{all_right, all_ready}
use Rattle.thread_plan.specs.declared.part.Part.{Part}
use Rattle.thread_plan.specs.Parts.{IsPartDue}
use Rattle.team_phases.proofs.phase.work.Goals as goal

pub begin-requires-clause-actors : goal.begin-requires-clause-actors
begin-requires-clause-actors g c κs within = all_ready c.args.cells.now c.args.queue.now c.pair.new.actors.items c.pair.new.fetchers.items
    (All-same (IsTeamPass c.args.cells.now c.args.queue.now) _ _ c.pair.ensures.passes c.requires.own) (All-same IsPartDue _ _ c.pair.ensures.parts c.requires.due)

pub begin-requires-clause-fetchers : goal.begin-requires-clause-fetchers
begin-requires-clause-fetchers g c κs within = all_right (IsTeamPass c.args.cells.now c.args.queue.now) (map pass_in c.pair.new.actors.items) c.pair.new.fetchers.items
    (All-same (IsTeamPass c.args.cells.now c.args.queue.now) _ _ c.pair.ensures.passes c.requires.own)

pub dismiss-requires-clause-own : goal.dismiss-requires-clause-own
dismiss-requires-clause-own g c = all_acted g.S.Store.contents c.args.cells.now c.args.queue.now c.pair.new.actors.items c.begin.new.actors.items c.begin.ensures.acted

pub dismiss-requires-clause-room : goal.dismiss-requires-clause-room
dismiss-requires-clause-room g c =
    let same = length_all_zip (HasActed g.S.Store.contents c.args.cells.now c.args.queue.now) c.pair.new.actors.items c.begin.new.actors.items c.begin.ensures.acted in
    let parts : length c.pair.new.actors.items ≡ length c.args.parts.items = sym (length-map c.pair.new.actors.items part_in) ∙ ap (length {A = Part}) c.pair.ensures.parts in
    omega (arith, c.requires.room, same, parts)

pub returns-clause-count : goal.returns-clause-count
returns-clause-count g c =
    let same = length_all_zip (HasActed g.S.Store.contents c.args.cells.now c.args.queue.now) c.pair.new.actors.items c.begin.new.actors.items c.begin.ensures.acted in
    let parts : length c.pair.new.actors.items ≡ length c.args.parts.items = sym (length-map c.pair.new.actors.items part_in) ∙ ap (length {A = Part}) c.pair.ensures.parts in
    omega (arith, c.dismiss.ensures.count, same, parts)

pub take_back-requires-clause-own : goal.take_back-requires-clause-own
take_back-requires-clause-own g c = all_fetched g.S.Store.contents c.args.cells.now c.args.queue.now c.pair.new.fetchers.items c.begin.new.fetchers.items c.begin.ensures.fetched

pub returns-clause-worked : goal.returns-clause-worked
returns-clause-worked g c = (
  map done_in c.begin.new.actors.items,
  c.dismiss.ensures.done,
  record {
    actors = c.pair.new.actors.items;
    fetchers = c.pair.new.fetchers.items;
    parts_are = c.pair.ensures.parts;
    passes_are = c.pair.ensures.passes;
    actors_then = c.begin.new.actors.items;
    fetchers_then = c.begin.new.fetchers.items;
    acted = c.begin.ensures.acted;
    fetched = c.begin.ensures.fetched;
    left_are = refl;
    took = taken_on c.args.first.now c.dismiss.new.first c.take_back.new.first (map pass_in c.begin.new.actors.items) c.begin.new.fetchers.items c.dismiss.ensures.joined c.take_back.ensures.joined;
  },
)
