-- What a fetch says, in the words of a load.
use Rattle.std.proofs.Common.{◌≡◌, ℕ, ◌≤◌, List, Some, Result, Ok, Err, OnOk, IfErr, ap}
use Rattle.std.specs.Prelude.{IsTrue}
use Rattle.cell_store.specs.Store.{Contents, held_of}
use Rattle.cell_store.specs.Faults.{Rose}
use Rattle.cell_grid.specs.declared.level.Level.{Level}
use Rattle.cell_file.specs.Keys.{KeyNames, edited_key, base_key}
use Rattle.cell_file.specs.Standing.{standing, refusal_of}
use Rattle.cell_file.specs.File.{IsCauseOf, LogsFetch, LogsRefusedFetch}
use Rattle.cell_file.specs.declared.errors.FetchErr.{FetchErr}
use Rattle.cell_file.specs.declared.errors.FetchErr.TheVariants as fetching
use Rattle.stood_arrays.specs.Moves.{FetchesMove, RefusedFetchesMove}
use Rattle.live_cells.specs.Fetching.{HasGot, HasGotNone}

module _ (levels : List Level) (keys : KeyNames) (cell : ℕ) (old new : Contents) (told : new.told ≡ old.told) (told_log : new.told_log ≡ old.told_log) (never : old.faults ≤ new.faults) (held : IsTrue old.told → held_of new ≡ held_of old) where
  pub got_ok : {X : Type 0} (r : Result X FetchErr) (values : List ℕ) → FetchesMove → (IsTrue old.told_log → OnOk r (LogsFetch old.log new.log (edited_key levels cell) (base_key levels keys cell)))
      → (IsTrue old.told → OnOk r (standing levels keys (held_of old) cell ≡ Some values)) → OnOk r (HasGot levels keys cell old new values)
  got_ok (Ok x) values law logs gave = record { fetched = law (edited_key levels cell) (base_key levels keys cell) old new (record { told = told; told_log = told_log; never_falls = never }) held logs; gave = gave }
  got_ok (Err e) values law logs gave = tt

  pub got_err : {X : Type 0} (r : Result X FetchErr) → RefusedFetchesMove → (IsTrue old.told_log → IfErr r (λ err. LogsRefusedFetch old.log new.log (edited_key levels cell) (base_key levels keys cell) err))
      → (IsTrue old.told → IfErr r (λ err. IsCauseOf (refusal_of levels keys (held_of old) cell) err)) → (r ≡ Err fetching.ReadFault → Rose old.faults new.faults) → IfErr r (λ err. HasGotNone levels keys cell old new err)
  got_err {X} (Ok x) law logs refused fault = tt
  got_err {X} (Err e) law logs refused fault = record { fetched = law (edited_key levels cell) (base_key levels keys cell) e old new (record { told = told; told_log = told_log; never_falls = never }) held logs; refused = refused; read_fault = λ is. fault (ap Err is) }
