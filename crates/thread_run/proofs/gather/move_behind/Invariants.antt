-- The elements so far were moved, and there is room for the others.
use Rattle.std.proofs.Common.{◌≡◌, ◌+◌, ◌≤◌, ◌++◌, length, vec_len}
use Rattle.std.specs.Prelude.{vec_capacity}
use Rattle.thread_run.proofs.gather.move_behind.Given as goal

abbrev pub invariant-loop-one : goal.invariant-loop-one
invariant-loop-one g l =
    let rest = l.one-iterator.rest.items in
    record {
      can : (goal.iterator-loop-one g).can_next l.one-iterator;
      finite : (goal.iterator-loop-one g).is_finite l.one-iterator;
      all : l.fn.more.items ≡ l.yielded ++ rest;
      moved : l.all.items ≡ l.fn.all.items ++ l.yielded;
      room : vec_len l.all + length rest ≤ vec_capacity l.all;
      count : vec_len l.all + length rest ≡ vec_len l.fn.all + vec_len l.fn.more;
      capacity : vec_capacity l.fn.all ≤ vec_capacity l.all;
    }
