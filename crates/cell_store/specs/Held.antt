-- What a map of texts holds, and what a list of lines logs.
use Rattle.std.specs.Prelude.{ℕ, List, map, Option, string_bytes}
use Rattle.std.specs.declared.alloc.Global.{Global}
use Rattle.std.specs.declared.vec.Vec.{Vec}
use Rattle.std.specs.declared.string.String.{String}
use Rattle.std.specs.BTreeMap.{BTreeMap}
use Rattle.cell_store.specs.Store.{Entry, bytes_under}
use Rattle.cell_store.specs.declared.logged.Logged.{Logged}

-- the keys of a map of texts with their bytes, and what it holds under these bytes
abbrev pub texts_in : BTreeMap (String Global) (Vec ℕ Global) → List (List ℕ × List ℕ)
texts_in texts = map (λ (e : String Global × Vec ℕ Global). (string_bytes e.0, e.1.items)) texts.entries

abbrev pub held_in : BTreeMap (String Global) (Vec ℕ Global) → List ℕ → Option (List ℕ)
held_in texts key = bytes_under (texts_in texts) key

abbrev pub entry_of : Logged → Entry
entry_of line = record { put = line.put; key = string_bytes line.key; ok = line.ok }

abbrev pub entries_of : List Logged → List Entry
entries_of lines = map entry_of lines
