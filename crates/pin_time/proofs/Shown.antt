-- What the program's store shows.
use Rattle.std.proofs.Common.{ℕ}
use Rattle.cell_store.specs.Store.{Contents, untold}
use Rattle.cell_store.specs.MemStore.{contents_of}
use Rattle.pin_time.specs.declared.table.Quiet.{Quiet}

abbrev pub faults : Quiet → ℕ
faults s = (contents_of s.store).faults

abbrev pub shown : Quiet → Contents
shown s = untold (faults s)
