-- What was drawn, and what is drawn from here on, is all that is drawn.
use Rattle.std.proofs.Common.{◌≡◌, ◌-◌, ◌++◌, length}
use Rattle.demo_volume.specs.Voxels.{drawn}
use Rattle.demo_volume.proofs.generator.drawn.Given as goal

abbrev pub invariant-loop : goal.invariant-loop
invariant-loop l = record {
  drawn_so : l.voxels.items ++ drawn (l.steps - l.counter) l.state ≡ drawn l.steps l.fn.state;
  count : length l.voxels.items ≡ l.counter;
}
