-- The phases so far were played.
use Rattle.std.proofs.Common.{◌≡◌, ◌≤◌, ◌+◌, ◌*◌, ◌++◌, All, List, length, sum_by, vec_len}
use Rattle.std.specs.Prelude.{vec_capacity}
use Rattle.team_passes.specs.Teams.{cells_in, asks_in}
use Rattle.team_phases.specs.declared.actor.PartDone.{PartDone}
use Rattle.team_phases.specs.Playing.{IsStill}
use Rattle.team_phases.proofs.AllPlayed.{EachPlayed}
use Rattle.thread_plan.specs.Parts.{IsSceneDue}
use Rattle.thread_plan.specs.Scenes.{flat}
use Rattle.team_phases.proofs.all_phases.play_all.Given as goal

abbrev pub invariant-loop-scene : goal.invariant-loop-scene
invariant-loop-scene g l =
    let rest = l.scene-iterator.rest.items in
    record {
      can : (goal.iterator-loop-scene g).can_next l.scene-iterator;
      finite : (goal.iterator-loop-scene g).is_finite l.scene-iterator;
      first : IsStill l.cells l.queue l.first;
      all : l.fn.scenes.items ≡ l.yielded ++ rest;
      due : All IsSceneDue rest;
      numbers : (cells_in l.first).drawn ≤ 1 + 32 * length l.yielded;
      asks_numbers : (asks_in l.first).drawn ≤ 1 + 32 * length l.yielded;
      played : (left : List (List PartDone)) × (l.done.items ≡ l.fn.done.items ++ flat left) × EachPlayed g.S.Store.contents l.cells l.queue l.fetchers l.fn.first l.yielded left l.first;
      room : vec_len l.done + sum_by (λ scene. length scene.parts.items) rest ≤ vec_capacity l.done;
    }
