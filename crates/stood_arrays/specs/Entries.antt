-- How often a log has gets and puts under a key that were done.
use Rattle.std.specs.Prelude.{◌≡◌, ℕ, ◌+◌, ◌&&◌, not, Bool, List, ◌++◌}
use Rattle.std.specs.List.{count_by}
use Rattle.std.specs.Str.{bytes_eq}
use Rattle.cell_store.specs.Store.{Entry}

-- an entry of a log that is a put, or a get, under a key, and was done
abbrev pub is_put : List ℕ → Entry → Bool
is_put key e = e.put && (e.ok && bytes_eq key e.key)

abbrev pub is_get : List ℕ → Entry → Bool
is_get key e = not e.put && (e.ok && bytes_eq key e.key)

-- how many puts, and gets, under a key were done
abbrev pub puts_under : List ℕ → List Entry → ℕ
puts_under key = count_by (is_put key)

abbrev pub gets_under : List ℕ → List Entry → ℕ
gets_under key = count_by (is_get key)

-- Counts of a log that grew are those of both parts.
abbrev pub LogsAddUp : Type 0
LogsAddUp = (key : List ℕ) (log more : List Entry) → (puts_under key (log ++ more) ≡ puts_under key log + puts_under key more) × (gets_under key (log ++ more) ≡ gets_under key log + gets_under key more)
