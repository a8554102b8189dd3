-- The bytes so far, and those that are left, are those of the source.
use Rattle.std.proofs.Common.{◌≡◌, ◌≤◌, ◌++◌, ◌-◌, vec_len}
use Rattle.std.specs.Prelude.{IsTrue}
use Rattle.viewrun_calls.specs.Script.{limit}
use Rattle.viewrun_calls.proofs.source.read_bytes.Given as goal

abbrev pub invariant-loop-piece : goal.invariant-loop-piece
invariant-loop-piece g l =
    let before = g.R.Source.stream l.fn.source in
    let now = g.R.Source.stream l.source in
    record {
      told : now.told ≡ before.told;
      bytes : IsTrue before.told → before.bytes ≡ l.bytes.items ++ now.bytes;
      few : vec_len l.bytes ≤ limit;
      never_falls : before.faults ≤ now.faults;
    }

abbrev pub decreases-loop-piece : goal.decreases-loop-piece
decreases-loop-piece g l = limit - vec_len l.bytes
