-- What contracts see of a store in memory.
use Rattle.std.specs.Prelude.{true}
use Rattle.cell_store.specs.Calls.{CallCount}
use Rattle.cell_store.specs.Held.{texts_in, entries_of}
use Rattle.cell_store.specs.Store.{Contents}
use Rattle.cell_store.specs.declared.mem_store.MemStore.{MemStore}

-- it tells all
abbrev pub contents_of : MemStore → Contents
contents_of m = record { told = true; texts = texts_in m.held; told_log = true; log = entries_of m.log.items; faults = m.calls.faults }

-- its calls so far, and which fail
abbrev pub calls_of : MemStore → CallCount
calls_of m = m.calls
