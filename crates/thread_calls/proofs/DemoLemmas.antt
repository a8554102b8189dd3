-- The making of the demonstration's pyramid: where no memory was found it may have put nothing, and each store comes back.
use Rattle.std.proofs.Common.{◌≡◌, inr, ℕ, List, [], ◌++◌, Result, Ok, Err, length, refl}
use Rattle.cell_store.specs.Store.{Contents}
use Rattle.demo_volume.specs.declared.make_err.MakeErr.{MakeErr}
use Rattle.demo_volume.specs.declared.make_err.MakeErr.TheVariants.{Memory}
use Rattle.demo_volume.specs.Puts.{MadeKey, Makes}
use Rattle.store_calls.proofs.Parts.{called_lanes}

pub nothing_made : (due : List MadeKey) (stores : List Contents) → Makes due stores stores (Err Memory)
nothing_made due stores = record { calls = []; called = refl; answered = inr ([], due, refl, refl) }

pub as_many : (due : List MadeKey) (old new : List Contents) (result : Result (Unit {0}) MakeErr) → Makes due old new result → length new ≡ length old
as_many due old new result makes = called_lanes makes.calls old new makes.called
