-- How much of a text a sink holds.
use Rattle.std.specs.Prelude.{◌≡◌, ℕ, ◌≤◌, List, ◌++◌, Result, Ok, Err, IsTrue, IsErrOf}
use Rattle.cell_store.specs.Faults.{Rose}
use Rattle.cell_store.specs.Stream.{Stream}
use Rattle.run_report.specs.declared.print.PrintErr.{PrintErr}
use Rattle.run_report.specs.declared.print.PrintErr.TheVariants.{Failed, Memory}

-- after an `Ok` the text stands behind the bytes, after an `Err` a part from its front
abbrev pub Holds : {U : Type 0} → List ℕ → List ℕ → List ℕ → Result U PrintErr → Type 0
Holds old new text (Ok u) = new ≡ old ++ text
Holds old new text (Err e) = (part : List ℕ) × (rest : List ℕ) × (text ≡ part ++ rest) × (new ≡ old ++ part)

-- what the printing of a text does to a sink
pub record Prints {U : Type 0} (old new : Stream) (text : List ℕ) (printed : Result U PrintErr) : Type 0 where
  pub holds : IsTrue old.told → Holds old.bytes new.bytes text printed
  pub told : new.told ≡ old.told
  pub never_falls : old.faults ≤ new.faults
  pub failed : IsErrOf printed Failed → Rose old.faults new.faults

-- the status of a call whose text is not printed whole
abbrev pub status_of_print : PrintErr → ℕ
status_of_print Failed = 6
status_of_print Memory = 7
