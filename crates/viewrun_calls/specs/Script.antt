-- What is read of a script's source, and what it says.
use Rattle.std.specs.Prelude.{◌≡◌, ℕ, ◌+◌, ◌^◌, ◌≤◌, List, length, take, IsTrue, Result, Ok, Err, Vec}
use Rattle.std.specs.declared.alloc.Global.{Global}
use Rattle.cell_store.specs.Faults.{Rose}
use Rattle.cell_store.specs.Stream.{Stream}
use Rattle.run_report.specs.declared.stop.Stop.{Stop}
use Rattle.run_report.specs.declared.stop.Stop.TheVariants as stop
use Rattle.view_script.specs.declared.script.Script.{Script}
use Rattle.view_script.specs.declared.script_error.ScriptErr.TheVariants.{At}
use Rattle.view_script.specs.Meaning.{script_in}

-- one byte more than a script may have
abbrev pub limit : ℕ
limit = 2 ^ 20 + 1

-- At most so many bytes were read of a source.
abbrev pub TakesFew : Stream → Stream → Type 0
TakesFew old new = IsTrue old.told → length old.bytes ≤ length new.bytes + limit

-- These bytes are all of a source, or its first ones up to the limit.
abbrev pub AreFirst : Stream → List ℕ → Type 0
AreFirst source bytes = IsTrue source.told → bytes ≡ take limit source.bytes

-- what reading a source answers: its bytes up to the limit, a fault of the source, or want of memory
abbrev pub ReadsBytes : Stream → Stream → Result (Vec ℕ Global) Stop → Type 0
ReadsBytes old new (Ok bytes) = AreFirst old bytes.items
ReadsBytes old new (Err stop.ReadFault) = Rose old.faults new.faults
ReadsBytes old new (Err stop.Memory) = Unit {0}
ReadsBytes old new (Err other) = ⊥

-- what reading a script answers: what its bytes say, the first rule that they break, a fault of the source, or want of memory
abbrev pub ReadsScript : Stream → Stream → Result Script Stop → Type 0
ReadsScript old new (Ok script) = (bytes : List ℕ) × (AreFirst old bytes × (script_in bytes ≡ Ok script))
ReadsScript old new (Err (stop.Script line kind)) = (bytes : List ℕ) × (AreFirst old bytes × (script_in bytes ≡ Err (At line kind)))
ReadsScript old new (Err stop.ReadFault) = Rose old.faults new.faults
ReadsScript old new (Err stop.Memory) = Unit {0}
ReadsScript old new (Err other) = ⊥
