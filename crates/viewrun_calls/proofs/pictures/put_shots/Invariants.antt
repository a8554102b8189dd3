-- The first shots were put, and there is room for the names of all.
use Rattle.std.proofs.Common.{◌≤◌, take, vec_capacity}
use Rattle.viewrun_calls.specs.Pictures.{PutsShots}
use Rattle.viewrun_calls.proofs.pictures.put_shots.Given as goal

abbrev pub invariant-loop-shot : goal.invariant-loop-shot
invariant-loop-shot g l = record {
  puts : PutsShots (take l.shot-index l.shots) (g.S.Store.contents l.fn.store) (g.S.Store.contents l.store) l.unwritten.items;
  capacity : vec_capacity l.fn.unwritten ≤ vec_capacity l.unwritten;
}
