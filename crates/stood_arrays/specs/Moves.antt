-- What a fetch and a save of a cell did to its store: to what it holds, and to the counts of its log.
use Rattle.std.specs.Prelude.{◌≡◌, ℕ, ◌+◌, ◌≤◌, Bool, true, false, cond, IsTrue, List, [], ◌∷◌, ◌++◌}
use Rattle.std.specs.List.{count_by}
use Rattle.std.specs.Str.{bytes_eq}
use Rattle.cell_store.specs.Store.{Contents, SameElsewhere, held_of}
use Rattle.cell_file.specs.declared.errors.FetchErr.{FetchErr}
use Rattle.cell_file.specs.declared.errors.SaveErr.{SaveErr}
use Rattle.cell_file.specs.File.{put_entry, LogsFetch, LogsRefusedFetch, LogsRefusedSave}
use Rattle.stood_arrays.specs.Entries.{is_put, is_get}

-- What a store shows before and after: whether it tells is the same, and its count of faults never falls.
pub record StoreMoves (old new : Contents) : Type 0 where
  pub told : new.told ≡ old.told
  pub told_log : new.told_log ≡ old.told_log
  pub never_falls : old.faults ≤ new.faults

-- What getting a cell's block did to its store: nothing that is held, no put, and where it gave values a get under the edited key.
pub record Fetched (key : List ℕ) (gave : Bool) (old new : Contents) : Type 0 where
  pub moves : StoreMoves old new
  pub held : IsTrue old.told → (held_of new) ≡ (held_of old)
  pub no_put : (other : List ℕ) → IsTrue old.told_log → count_by (is_put other) new.log ≡ count_by (is_put other) old.log
  pub gets : (other : List ℕ) → IsTrue old.told_log → count_by (is_get other) old.log ≤ count_by (is_get other) new.log
  pub got : IsTrue gave → IsTrue old.told_log → count_by (is_get key) old.log + 1 ≤ count_by (is_get key) new.log

-- What putting a cell's block did to its store: no other key, no get, and where it was done a put under the edited key.
pub record Saved (key : List ℕ) (done : Bool) (old new : Contents) : Type 0 where
  pub moves : StoreMoves old new
  pub held : IsTrue old.told → (other : List ℕ) → bytes_eq key other ≡ false → (held_of new) other ≡ (held_of old) other
  pub gets : (other : List ℕ) → IsTrue old.told_log → count_by (is_get other) new.log ≡ count_by (is_get other) old.log
  pub other_puts : (other : List ℕ) → bytes_eq key other ≡ false → IsTrue old.told_log → count_by (is_put other) new.log ≡ count_by (is_put other) old.log
  pub puts : IsTrue old.told_log → count_by (is_put key) new.log ≡ count_by (is_put key) old.log + cond done 1 0

-- A fetch and a save, by what they logged.
abbrev pub FetchesMove : Type 0
FetchesMove = (key base : List ℕ) (old new : Contents) → StoreMoves old new → (IsTrue old.told → (held_of new) ≡ (held_of old)) → (IsTrue old.told_log → LogsFetch old.log new.log key base) → Fetched key true old new

abbrev pub RefusedFetchesMove : Type 0
RefusedFetchesMove = (key base : List ℕ) (err : FetchErr) (old new : Contents) → StoreMoves old new → (IsTrue old.told → (held_of new) ≡ (held_of old)) → (IsTrue old.told_log → LogsRefusedFetch old.log new.log key base err) → Fetched key false old new

abbrev pub SavesMove : Type 0
SavesMove = (key : List ℕ) (old new : Contents) → StoreMoves old new → (IsTrue old.told → SameElsewhere (held_of old) (held_of new) key) → (IsTrue old.told_log → new.log ≡ old.log ++ put_entry key true ∷ []) → Saved key true old new

abbrev pub RefusedSavesMove : Type 0
RefusedSavesMove = (key : List ℕ) (err : SaveErr) (old new : Contents) → StoreMoves old new → (IsTrue old.told → SameElsewhere (held_of old) (held_of new) key) → (IsTrue old.told_log → LogsRefusedSave old.log new.log key err) → Saved key false old new
