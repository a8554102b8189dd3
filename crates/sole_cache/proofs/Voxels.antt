-- A get and a set, from their steps.
use Rattle.std.proofs.Common.{◌≡◌, ◌∙◌, ℕ, ◌<◌, ◌≤◌, List, [], ◌∷◌, ◌++◌, Ok, Err, refl, subst}
use Rattle.cell_file.specs.declared.errors.AcquireErr.{AcquireErr}
use Rattle.cell_file.specs.declared.errors.CellErr.TheVariants as cell_err
use Rattle.cell_grid.specs.Kind.{greatest_of}
use Rattle.cell_grid.specs.Pyramid.{kind_of, IsVoxelOf}
use Rattle.arr_history.specs.declared.event.Event.{Event}
use Rattle.arr_history.specs.declared.event.Event.TheVariants as event
use Rattle.sole_cache.specs.Cached.{Cached}
use Rattle.sole_cache.specs.Moves.{Runs}
use Rattle.sole_cache.specs.Handle.{Handle}
use Rattle.store_calls.specs.Calls.{StoreCall}
use Rattle.sole_cache.specs.Acquires.{Acquires, Quiet, Visits, GetsVoxel, SetsVoxel}
use Rattle.sole_cache.proofs.Composed.{runs_on}

-- a value above, or not above, the greatest of a kind
pub big : (x most limit : ℕ) → most < x → most ≡ limit → limit < x
big x most limit h e = subst (λ k. k < x) e h

pub fits : (x most limit : ℕ) → x ≤ most → most ≡ limit → x ≤ limit
fits x most limit h e = subst (λ k. x ≤ k) e h

-- what is read or written of a pinned cell asks no store
pub ended_by : (b d e : Cached) (first last : List Event) → Runs b first d → d.shown ≡ b.shown → Quiet d last e → Quiet b (first ++ last) e
ended_by b d e first last runs same quiet = record { runs = runs_on b d e first last runs quiet.runs; shown = quiet.shown ∙ same; valid = quiet.valid }

-- a cell was acquired, and its end is told by the handle
visited : (a b e : Cached) (cell : ℕ) (h : Handle) (piece : List Event) (calls : List StoreCall) (end : ℕ → List Event) → Acquires a cell (Ok h) piece calls b → Quiet b (end h.cell) e
    → Visits a cell (end cell) (piece ++ end cell) calls e × Runs a (piece ++ end cell) e
visited a b e cell h piece calls end acquired quiet =
    let ended = subst (λ n. Quiet b (end n) e) acquired.is.0 quiet in
    (record { handle = h; piece = piece; mid = b; acquired = acquired; ended = ended; events_are = refl }, runs_on a b e piece (end cell) acquired.runs ended.runs)

pub got : (a b d e : Cached) (level : ℕ) (pos : List ℕ) (cell at x : ℕ) (h : Handle) → IsVoxelOf a.levels level pos cell at → (events : List Event) × (calls : List StoreCall) × Acquires a cell (Ok h) events calls b
    → Runs b (event.Read 0 h.cell at x ∷ []) d → d.shown ≡ b.shown → Quiet d (event.Unpin 0 h.cell ∷ []) e → (events : List Event) × (calls : List StoreCall) × GetsVoxel a level pos (Ok x) events calls e × Runs a events e
got a b d e level pos cell at x h place (piece, calls, acquired) read same unpin =
    let both = visited a b e cell h piece calls (λ n. event.Read 0 n at x ∷ event.Unpin 0 n ∷ []) acquired (ended_by b d e (event.Read 0 h.cell at x ∷ []) (event.Unpin 0 h.cell ∷ []) read same unpin) in
    (piece ++ event.Read 0 cell at x ∷ event.Unpin 0 cell ∷ [], calls, (cell, at, place, both.0), both.1)

pub was_set : (a b d e : Cached) (level : ℕ) (pos : List ℕ) (cell at x : ℕ) (h : Handle) → IsVoxelOf a.levels level pos cell at → x ≤ greatest_of (kind_of a.levels cell)
    → (events : List Event) × (calls : List StoreCall) × Acquires a cell (Ok h) events calls b → Runs b (event.Mark 0 h.cell ∷ event.Write 0 h.cell at x ∷ []) d → d.shown ≡ b.shown → Quiet d (event.Unpin 0 h.cell ∷ []) e
    → (events : List Event) × (calls : List StoreCall) × SetsVoxel a level pos x (Ok tt) events calls e × Runs a events e
was_set a b d e level pos cell at x h place small (piece, calls, acquired) write same unpin =
    let both = visited a b e cell h piece calls (λ n. event.Mark 0 n ∷ event.Write 0 n at x ∷ event.Unpin 0 n ∷ []) acquired
    (ended_by b d e (event.Mark 0 h.cell ∷ event.Write 0 h.cell at x ∷ []) (event.Unpin 0 h.cell ∷ []) write same unpin) in
    (piece ++ event.Mark 0 cell ∷ event.Write 0 cell at x ∷ event.Unpin 0 cell ∷ [], calls, (cell, at, place, small, both.0), both.1)

pub not_got : (a b : Cached) (level : ℕ) (pos : List ℕ) (cell at : ℕ) (refusal : AcquireErr) → IsVoxelOf a.levels level pos cell at → (events : List Event) × (calls : List StoreCall) × Acquires a cell (Err refusal) events calls b
    → (events : List Event) × (calls : List StoreCall) × GetsVoxel a level pos (Err (cell_err.Acquire refusal)) events calls b × Runs a events b
not_got a b level pos cell at refusal place (events, calls, acquired) = (events, calls, (cell, at, place, acquired), acquired.runs)

pub not_set : (a b : Cached) (level : ℕ) (pos : List ℕ) (cell at x : ℕ) (refusal : AcquireErr) → IsVoxelOf a.levels level pos cell at → x ≤ greatest_of (kind_of a.levels cell)
    → (events : List Event) × (calls : List StoreCall) × Acquires a cell (Err refusal) events calls b → (events : List Event) × (calls : List StoreCall) × SetsVoxel a level pos x (Err (cell_err.Acquire refusal)) events calls b × Runs a events b
not_set a b level pos cell at x refusal place small (events, calls, acquired) = (events, calls, (cell, at, place, small, acquired), acquired.runs)
