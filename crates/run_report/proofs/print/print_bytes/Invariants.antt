-- The sink holds the text but for the bytes that are left.
use Rattle.std.proofs.Common.{◌≡◌, ◌≤◌, ◌++◌, List, ℕ, length}
use Rattle.std.specs.Prelude.{IsTrue}
use Rattle.run_report.proofs.print.print_bytes.Given as goal

abbrev pub invariant-loop-rest : goal.invariant-loop-rest
invariant-loop-rest g l =
    let before = g.K.Sink.stream l.fn.out in
    let now = g.K.Sink.stream l.out in
    record {
      told : now.told ≡ before.told;
      held : IsTrue before.told → (part : List ℕ) × (l.fn.text ≡ part ++ l.rest) × (now.bytes ≡ before.bytes ++ part);
      never_falls : before.faults ≤ now.faults;
    }

abbrev pub decreases-loop-rest : goal.decreases-loop-rest
decreases-loop-rest g l = length l.rest
