-- From caches that are alike, calls that ask the same and whose calls of the stores fail alike do the same, answer the same, and lead to caches
-- that are alike.
use Rattle.std.specs.Prelude.{◌≡◌, ℕ, ◌<◌, false, List, [], ◌∷◌, ◌++◌, length, Result}
use Rattle.std.specs.List.{list_any}
use Rattle.cell_grid.specs.Pyramid.{cells_of}
use Rattle.cell_file.specs.declared.errors.AcquireErr.{AcquireErr}
use Rattle.cell_file.specs.declared.errors.CellErr.{CellErr}
use Rattle.store_calls.specs.Calls.{StoreCall, AreCalled, FailAlike}
use Rattle.cell_store.specs.Store.{Contents}
use Rattle.arr_history.specs.declared.closed.Unsaved.{Unsaved}
use Rattle.arr_history.specs.declared.event.Event.{Event}
use Rattle.arr_history.specs.declared.event.Event.TheVariants.{Read}
use Rattle.arr_history.specs.Tally.{is_writeback}
use Rattle.sole_cache.specs.Cached.{Cached}
use Rattle.sole_cache.specs.Handle.{Handle}
use Rattle.sole_cache.specs.Acquires.{Acquires, Quiet, GetsVoxel, SetsVoxel}
use Rattle.sole_cache.specs.Puts.{ArePut}
use Rattle.alike_caches.specs.Alike.{AreAlike, AreAlikeBut}

-- Acquires of a cell give the same answer, by the same events.
abbrev pub AcquiresAreAlike : Type 0
AcquiresAreAlike = (c d c' d' : Cached) (cell : ℕ) (r s : Result Handle AcquireErr) (e f : List Event) (k l m n : List StoreCall)
    → AreAlike c d → cell < cells_of c.levels → Acquires c cell r e k c' → Acquires d cell s f l d' → FailAlike (k ++ m) (l ++ n)
    → (s ≡ r) × (f ≡ e) × AreAlike c' d' × FailAlike m n

-- Reads of a voxel give the same number.
abbrev pub ReadsAreAlike : Type 0
ReadsAreAlike = (c d c' d' : Cached) (cell at x y : ℕ) → AreAlike c d → Quiet c (Read 0 cell at x ∷ []) c' → Quiet d (Read 0 cell at y ∷ []) d' → y ≡ x

-- The same events lead on, where no store is asked and none of them is a leaving with a put.
abbrev pub QuietIsAlike : Type 0
QuietIsAlike = (c d c' d' : Cached) (events : List Event) → list_any is_writeback events ≡ false → AreAlike c d → Quiet c events c' → Quiet d events d' → AreAlike c' d'

-- Gets and sets of a voxel give the same answer.
abbrev pub GetsAreAlike : Type 0
GetsAreAlike = (c d c' d' : Cached) (level : ℕ) (pos : List ℕ) (r s : Result ℕ CellErr) (p q : List Event) (k l m n : List StoreCall)
    → AreAlike c d → GetsVoxel c level pos r p k c' → GetsVoxel d level pos s q l d' → FailAlike (k ++ m) (l ++ n)
    → (s ≡ r) × AreAlike c' d' × FailAlike m n

abbrev pub SetsAreAlike : Type 0
SetsAreAlike = (c d c' d' : Cached) (level : ℕ) (pos : List ℕ) (x : ℕ) (r s : Result (Unit {0}) CellErr) (p q : List Event) (k l m n : List StoreCall)
    → AreAlike c d → SetsVoxel c level pos x r p k c' → SetsVoxel d level pos x s q l d' → FailAlike (k ++ m) (l ++ n)
    → (s ≡ r) × AreAlike c' d' × FailAlike m n

-- The puts by which caches are shut name the same cells, and leave stores that hold the same but under the edited keys of those.
abbrev pub ShutsAreAlike : Type 0
ShutsAreAlike = (c d : Cached) (u v : List Unsaved) (k l m n : List StoreCall) (stores others : List Contents)
    → AreAlike c d → ArePut c.levels (length c.shown) c.slots u k → ArePut d.levels (length d.shown) d.slots v l → AreCalled k c.shown stores → AreCalled l d.shown others → FailAlike (k ++ m) (l ++ n)
    → (v ≡ u) × AreAlikeBut c.levels u stores others × FailAlike m n
