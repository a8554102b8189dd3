-- The parts so far have their passes; then the passes that are left are kept.
use Rattle.std.proofs.Common.{◌≡◌, ◌≤◌, ◌+◌, ◌++◌, [], length, map}
use Rattle.std.specs.Prelude.{vec_capacity}
use Rattle.team_phases.specs.Working.{pass_in, part_in}
use Rattle.team_phases.proofs.crew.pair.Given as goal

abbrev pub invariant-loop-part : goal.invariant-loop-part
invariant-loop-part g l =
    let rest = l.part-iterator.rest.items in
    let others = l.passes.rest.items in
    record {
      can : (goal.iterator-loop-part g).can_next l.part-iterator;
      finite : (goal.iterator-loop-part g).is_finite l.part-iterator;
      parts : l.fn.parts.items ≡ map part_in l.actors.items ++ rest;
      passes : l.fn.passes.items ≡ map pass_in l.actors.items ++ others;
      enough : length rest ≤ length others;
      room : length l.actors.items + length rest ≤ vec_capacity l.actors;
      left : l.fetchers.items ≡ [];
      left_room : length l.fn.passes.items ≤ vec_capacity l.fetchers;
    }

abbrev pub invariant-loop-pass : goal.invariant-loop-pass
invariant-loop-pass g l =
    let rest = l.pass-iterator.rest.items in
    record {
      can : (goal.iterator-loop-pass g).can_next l.pass-iterator;
      finite : (goal.iterator-loop-pass g).is_finite l.pass-iterator;
      parts : l.fn.parts.items ≡ map part_in l.actors.items;
      passes : l.fn.passes.items ≡ map pass_in l.actors.items ++ (l.fetchers.items ++ rest);
      room : length l.fetchers.items + length rest ≤ vec_capacity l.fetchers;
    }
