-- What the fields of a cache show.
use Rattle.std.specs.Prelude.{map}
use Rattle.cell_store.specs.Store.{Contents}
use Rattle.sole_cache.specs.declared.cache.SoleCache.TheInside.{Inside}
use Rattle.sole_cache.specs.Cached.{Cached}
use Rattle.std.proofs.Common.{map}

abbrev pub value_of : {S : Type 0} → (S → Contents) → Inside S → Cached
value_of contents c = record { levels = c.geometry; keys = c.keys; shown = map contents c.stores.items; table = c.table.items; slots = c.slots.items; order = c.recency; tally = c.tally; unsaved = c.unsaved.items }
