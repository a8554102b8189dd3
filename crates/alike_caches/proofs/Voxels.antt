-- Gets and sets of voxels of caches that are alike.
use Rattle.std.proofs.Common.{◌≡◌, ◌∙◌, ℕ, ◌+◌, ◌-◌, ◌*◌, ◌<◌, ◌≤◌, min, List, [], ◌∷◌, ◌++◌, length, slice_index, Result, refl, sym, ap, subst, arith}
use Rattle.std.specs.declared.result.Result.TheVariants as outcome
use Rattle.cell_grid.specs.declared.level.Level.{Level}
use Rattle.cell_grid.specs.Kind.{greatest_of}
use Rattle.cell_grid.specs.Pyramid.{cells_of, kind_of, IsVoxelOf}
use Rattle.cell_grid.proofs.OneToOne.{one_to_one}
use Rattle.store_calls.specs.Calls.{StoreCall, FailAlike}
use Rattle.cell_file.specs.declared.errors.AcquireErr.{AcquireErr}
use Rattle.cell_file.specs.declared.errors.CellErr.{CellErr}
use Rattle.cell_file.specs.declared.errors.CellErr.TheVariants as cell_err
use Rattle.arr_history.specs.declared.event.Event.{Event}
use Rattle.arr_history.specs.declared.event.Event.TheVariants.{Read, Unpin, Mark, Write}
use Rattle.sole_cache.specs.Cached.{Cached}
use Rattle.sole_cache.specs.Handle.{Handle}
use Rattle.sole_cache.specs.Pieces.{IsOutsideLevel}
use Rattle.sole_cache.specs.Acquires.{Acquires, Quiet, Visits, IsNothing, GetsVoxel, SetsVoxel}
use Rattle.alike_caches.specs.Alike.{AreAlike}
use Rattle.alike_caches.proofs.Acquiring.{acquires_alike}
use Rattle.alike_caches.proofs.After.{quiet_alike}
use Rattle.alike_caches.proofs.Looking.{read_same}

-- a voxel of a level isn't outside it
pub not_outside : (levels : List Level) (level : ℕ) (pos : List ℕ) (cell at : ℕ) → IsVoxelOf levels level pos cell at → IsOutsideLevel levels level pos → ⊥
not_outside levels level pos cell at v outside = outside (v.shape, (v.exists, record { three = ap length v.voxel.position; x = x; y = y; z = z }))
  where
    below : (p g c i d : ℕ) → p ≡ g * c + i → i < min c (d - g * c) → p < d
    below p g c i d e lt = omega arith

    x : slice_index pos 0 < slice_index v.shape.extent.dims 0
    x = below _ (slice_index v.voxel.grid 0) (slice_index v.shape.extent.cell 0) (slice_index v.voxel.inside 0) _ (ap (λ l. slice_index l 0) v.voxel.position) v.voxel.in_cell.x

    y : slice_index pos 1 < slice_index v.shape.extent.dims 1
    y = below _ (slice_index v.voxel.grid 1) (slice_index v.shape.extent.cell 1) (slice_index v.voxel.inside 1) _ (ap (λ l. slice_index l 1) v.voxel.position) v.voxel.in_cell.y

    z : slice_index pos 2 < slice_index v.shape.extent.dims 2
    z = below _ (slice_index v.voxel.grid 2) (slice_index v.shape.extent.cell 2) (slice_index v.voxel.inside 2) _ (ap (λ l. slice_index l 2) v.voxel.position) v.voxel.in_cell.z

-- What calls that end in caches that are alike have in common.
pub record EndAlike {X : Type 0} (x y : X) (c' d' : Cached) (m n : List StoreCall) : Type 0 where
  pub same : y ≡ x
  pub alike : AreAlike c' d'
  pub fail : FailAlike m n

module _ (c d c' d' : Cached) (a : AreAlike c d) (e f : List Event) (k l m n : List StoreCall) (fail : FailAlike (k ++ m) (l ++ n)) where
  place_same : (level : ℕ) (pos : List ℕ) (cell at cell' at' : ℕ) → IsVoxelOf c.levels level pos cell at → IsVoxelOf d.levels level pos cell' at' → (cell' ≡ cell) × (at' ≡ at)
  place_same level pos cell at cell' at' v w = (one_to_one c.levels).one_place level pos cell' at' cell at (subst (λ (x : List Level). IsVoxelOf x level pos cell' at') a.levels w) v

  in_range : (level : ℕ) (pos : List ℕ) (cell at : ℕ) → IsVoxelOf c.levels level pos cell at → cell < cells_of c.levels
  in_range level pos cell at v = ((one_to_one c.levels).in_range level pos cell at v).0

  -- nothing happens in both
  nothing_alike : {X : Type 0} (x y : X) → y ≡ x → IsNothing c e k c' → IsNothing d f l d' → EndAlike x y c' d' m n
  nothing_alike x y same p q = record {
    same = same;
    alike = subst (λ z. AreAlike z d') (sym p.2) (subst (λ z. AreAlike c z) (sym q.2) a);
    fail = subst (λ z. FailAlike (z ++ m) n) p.1 (subst (λ z. FailAlike (k ++ m) (z ++ n)) q.1 fail);
  }

  -- the cell is refused in both, for one reason
  refused_alike : {X : Type 0} (cell cell' : ℕ) (err also : AcquireErr) → cell' ≡ cell → cell < cells_of c.levels → Acquires c cell (outcome.Err err) e k c' → Acquires d cell' (outcome.Err also) f l d'
      → EndAlike {X = Result X CellErr} (outcome.Err (cell_err.Acquire err)) (outcome.Err (cell_err.Acquire also)) c' d' m n
  refused_alike {X} cell cell' err also there inside p q =
      let same = acquires_alike c d c' d' cell (outcome.Err err) (outcome.Err also) e f k l m n a inside p (subst (λ i. Acquires d i (outcome.Err also) f l d') there q) fail in
      record { same = ap (λ e. outcome.Err (cell_err.Acquire e)) (same_refusal err also same.0); alike = same.2; fail = same.3 }
    where
      same_refusal : (e f : AcquireErr) → ◌≡◌ {A = Result Handle AcquireErr} (outcome.Err f) (outcome.Err e) → f ≡ e
      same_refusal e f h = cc

  -- it isn't granted in one and refused in the other
  granted_not_refused : (cell cell' : ℕ) (then : List Event) (err : AcquireErr) → cell' ≡ cell → cell < cells_of c.levels → Visits c cell then e k c' → Acquires d cell' (outcome.Err err) f l d' → ⊥
  granted_not_refused cell cell' then err there inside p q =
      clash p.handle err (acquires_alike c d p.mid d' cell (outcome.Ok p.handle) (outcome.Err err) p.piece f k l m n a inside p.acquired (subst (λ i. Acquires d i (outcome.Err err) f l d') there q) fail).0
    where
      clash : (h : Handle) (e : AcquireErr) → ◌≡◌ {A = Result Handle AcquireErr} (outcome.Err e) (outcome.Ok h) → ⊥
      clash h e f = cc

  refused_not_granted : (cell cell' : ℕ) (then : List Event) (err : AcquireErr) → cell' ≡ cell → cell < cells_of c.levels → Acquires c cell (outcome.Err err) e k c' → Visits d cell' then f l d' → ⊥
  refused_not_granted cell cell' then err there inside p q =
      clash q.handle err (acquires_alike c d c' q.mid cell (outcome.Err err) (outcome.Ok q.handle) e q.piece k l m n a inside p (subst (λ i. Acquires d i (outcome.Ok q.handle) q.piece l q.mid) there q.acquired) fail).0
    where
      clash : (h : Handle) (e : AcquireErr) → ◌≡◌ {A = Result Handle AcquireErr} (outcome.Ok h) (outcome.Err e) → ⊥
      clash h e f = cc

  -- the caches that hold the cell are alike
  mids_alike : (cell : ℕ) (then also : List Event) → cell < cells_of c.levels → (p : Visits c cell then e k c') (q : Visits d cell also f l d') → AreAlike p.mid q.mid × FailAlike m n
  mids_alike cell then also inside p q = let same = acquires_alike c d p.mid q.mid cell (outcome.Ok p.handle) (outcome.Ok q.handle) p.piece q.piece k l m n a inside p.acquired q.acquired fail in (same.2, same.3)

  -- a voxel that is visited in both is read alike, or written alike
  reads_alike : (cell at x y : ℕ) → cell < cells_of c.levels → Visits c cell (Read 0 cell at x ∷ Unpin 0 cell ∷ []) e k c' → Visits d cell (Read 0 cell at y ∷ Unpin 0 cell ∷ []) f l d' → EndAlike x y c' d' m n
  reads_alike cell at x y inside p q =
      let mids = mids_alike cell (Read 0 cell at x ∷ Unpin 0 cell ∷ []) (Read 0 cell at y ∷ Unpin 0 cell ∷ []) inside p q in
      let same = read_same p.mid q.mid cell at x y mids.0 p.ended.runs.moves.led.legal.0 q.ended.runs.moves.led.legal.0 in
      record {
        same = same;
        alike = quiet_alike p.mid q.mid c' d' (Read 0 cell at x ∷ Unpin 0 cell ∷ []) refl mids.0 p.ended (subst (λ z. Quiet q.mid (Read 0 cell at z ∷ Unpin 0 cell ∷ []) d') same q.ended);
        fail = mids.1;
      }

  writes_alike : {X : Type 0} (r : X) (cell at x : ℕ) → cell < cells_of c.levels → Visits c cell (Mark 0 cell ∷ Write 0 cell at x ∷ Unpin 0 cell ∷ []) e k c' → Visits d cell (Mark 0 cell ∷ Write 0 cell at x ∷ Unpin 0 cell ∷ []) f l d' → EndAlike r r c' d' m n
  writes_alike r cell at x inside p q =
      let mids = mids_alike cell (Mark 0 cell ∷ Write 0 cell at x ∷ Unpin 0 cell ∷ []) (Mark 0 cell ∷ Write 0 cell at x ∷ Unpin 0 cell ∷ []) inside p q in
      record { same = refl; alike = quiet_alike p.mid q.mid c' d' (Mark 0 cell ∷ Write 0 cell at x ∷ Unpin 0 cell ∷ []) refl mids.0 p.ended q.ended; fail = mids.1 }

  gets_end : (level : ℕ) (pos : List ℕ) (r s : Result ℕ CellErr) → GetsVoxel c level pos r e k c' → GetsVoxel d level pos s f l d' → EndAlike r s c' d' m n
  gets_end level pos (outcome.Ok x) (outcome.Ok y) p q =
      let place = place_same level pos p.0 p.1 q.0 q.1 p.2 q.2 in
      let ends = reads_alike p.0 p.1 x y (in_range level pos p.0 p.1 p.2) p.3 (subst (λ i. Visits d p.0 (Read 0 p.0 i y ∷ Unpin 0 p.0 ∷ []) f l d') place.1 (subst (λ i. Visits d i (Read 0 i q.1 y ∷ Unpin 0 i ∷ []) f l d') place.0 q.3)) in
      record { same = ap outcome.Ok ends.same; alike = ends.alike; fail = ends.fail }
  gets_end level pos (outcome.Ok x) (outcome.Err cell_err.Outside) p q = absurd (not_outside c.levels level pos p.0 p.1 p.2 (subst (λ (z : List Level). IsOutsideLevel z level pos) a.levels q.0))
  gets_end level pos (outcome.Ok x) (outcome.Err (cell_err.TooLarge value)) p q = absurd q
  gets_end level pos (outcome.Ok x) (outcome.Err (cell_err.Acquire err)) p q =
      absurd (granted_not_refused p.0 q.0 (Read 0 p.0 p.1 x ∷ Unpin 0 p.0 ∷ []) err (place_same level pos p.0 p.1 q.0 q.1 p.2 q.2).0 (in_range level pos p.0 p.1 p.2) p.3 q.3)
  gets_end level pos (outcome.Err cell_err.Outside) (outcome.Ok y) p q = absurd (not_outside d.levels level pos q.0 q.1 q.2 (subst (λ (z : List Level). IsOutsideLevel z level pos) (sym a.levels) p.0))
  gets_end level pos (outcome.Err cell_err.Outside) (outcome.Err cell_err.Outside) p q = nothing_alike _ _ refl p.1 q.1
  gets_end level pos (outcome.Err cell_err.Outside) (outcome.Err (cell_err.TooLarge value)) p q = absurd q
  gets_end level pos (outcome.Err cell_err.Outside) (outcome.Err (cell_err.Acquire err)) p q = absurd (not_outside d.levels level pos q.0 q.1 q.2 (subst (λ (z : List Level). IsOutsideLevel z level pos) (sym a.levels) p.0))
  gets_end level pos (outcome.Err (cell_err.TooLarge value)) s p q = absurd p
  gets_end level pos (outcome.Err (cell_err.Acquire err)) (outcome.Ok y) p q =
      absurd (refused_not_granted p.0 q.0 (Read 0 q.0 q.1 y ∷ Unpin 0 q.0 ∷ []) err (place_same level pos p.0 p.1 q.0 q.1 p.2 q.2).0 (in_range level pos p.0 p.1 p.2) p.3 q.3)
  gets_end level pos (outcome.Err (cell_err.Acquire err)) (outcome.Err cell_err.Outside) p q = absurd (not_outside c.levels level pos p.0 p.1 p.2 (subst (λ (z : List Level). IsOutsideLevel z level pos) a.levels q.0))
  gets_end level pos (outcome.Err (cell_err.Acquire err)) (outcome.Err (cell_err.TooLarge value)) p q = absurd q
  gets_end level pos (outcome.Err (cell_err.Acquire err)) (outcome.Err (cell_err.Acquire also)) p q =
      refused_alike p.0 q.0 err also (place_same level pos p.0 p.1 q.0 q.1 p.2 q.2).0 (in_range level pos p.0 p.1 p.2) p.3 q.3

  -- the greatest value of the cell is the same
  too_large_not_small : (level : ℕ) (pos : List ℕ) (cell at cell' at' x : ℕ) → IsVoxelOf c.levels level pos cell at → IsVoxelOf d.levels level pos cell' at' → greatest_of (kind_of c.levels cell) < x → x ≤ greatest_of (kind_of d.levels cell') → ⊥
  too_large_not_small level pos cell at cell' at' x v w large small = clash _ _ (ap (λ (z : List Level). greatest_of (kind_of z cell')) a.levels ∙ ap (λ i. greatest_of (kind_of c.levels i)) (place_same level pos cell at cell' at' v w).0) large small
    where
      clash : (g h : ℕ) → h ≡ g → g < x → x ≤ h → ⊥
      clash g h e large small = omega arith

  small_not_too_large : (level : ℕ) (pos : List ℕ) (cell at cell' at' x : ℕ) → IsVoxelOf c.levels level pos cell at → IsVoxelOf d.levels level pos cell' at' → x ≤ greatest_of (kind_of c.levels cell) → greatest_of (kind_of d.levels cell') < x → ⊥
  small_not_too_large level pos cell at cell' at' x v w small large = clash _ _ (ap (λ (z : List Level). greatest_of (kind_of z cell')) a.levels ∙ ap (λ i. greatest_of (kind_of c.levels i)) (place_same level pos cell at cell' at' v w).0) small large
    where
      clash : (g h : ℕ) → h ≡ g → x ≤ g → h < x → ⊥
      clash g h e small large = omega arith

  sets_end : (level : ℕ) (pos : List ℕ) (x : ℕ) (r s : Result (Unit {0}) CellErr) → SetsVoxel c level pos x r e k c' → SetsVoxel d level pos x s f l d' → EndAlike r s c' d' m n
  sets_end level pos x (outcome.Ok u) (outcome.Ok v) p q =
      let place = place_same level pos p.0 p.1 q.0 q.1 p.2 q.2 in
      writes_alike _ p.0 p.1 x (in_range level pos p.0 p.1 p.2) p.4 (subst (λ i. Visits d p.0 (Mark 0 p.0 ∷ Write 0 p.0 i x ∷ Unpin 0 p.0 ∷ []) f l d') place.1 (subst (λ i. Visits d i (Mark 0 i ∷ Write 0 i q.1 x ∷ Unpin 0 i ∷ []) f l d') place.0 q.4))
  sets_end level pos x (outcome.Ok u) (outcome.Err cell_err.Outside) p q = absurd (not_outside c.levels level pos p.0 p.1 p.2 (subst (λ (z : List Level). IsOutsideLevel z level pos) a.levels q.0))
  sets_end level pos x (outcome.Ok u) (outcome.Err (cell_err.TooLarge value)) p q = absurd (small_not_too_large level pos p.0 p.1 q.1 q.2 x p.2 q.3 p.3 q.4)
  sets_end level pos x (outcome.Ok u) (outcome.Err (cell_err.Acquire err)) p q =
      absurd (granted_not_refused p.0 q.0 (Mark 0 p.0 ∷ Write 0 p.0 p.1 x ∷ Unpin 0 p.0 ∷ []) err (place_same level pos p.0 p.1 q.0 q.1 p.2 q.2).0 (in_range level pos p.0 p.1 p.2) p.4 q.4)
  sets_end level pos x (outcome.Err cell_err.Outside) (outcome.Ok v) p q = absurd (not_outside d.levels level pos q.0 q.1 q.2 (subst (λ (z : List Level). IsOutsideLevel z level pos) (sym a.levels) p.0))
  sets_end level pos x (outcome.Err cell_err.Outside) (outcome.Err cell_err.Outside) p q = nothing_alike _ _ refl p.1 q.1
  sets_end level pos x (outcome.Err cell_err.Outside) (outcome.Err (cell_err.TooLarge value)) p q = absurd (not_outside d.levels level pos q.1 q.2 q.3 (subst (λ (z : List Level). IsOutsideLevel z level pos) (sym a.levels) p.0))
  sets_end level pos x (outcome.Err cell_err.Outside) (outcome.Err (cell_err.Acquire err)) p q = absurd (not_outside d.levels level pos q.0 q.1 q.2 (subst (λ (z : List Level). IsOutsideLevel z level pos) (sym a.levels) p.0))
  sets_end level pos x (outcome.Err (cell_err.TooLarge value)) (outcome.Ok v) p q = absurd (too_large_not_small level pos p.1 p.2 q.0 q.1 x p.3 q.2 p.4 q.3)
  sets_end level pos x (outcome.Err (cell_err.TooLarge value)) (outcome.Err cell_err.Outside) p q = absurd (not_outside c.levels level pos p.1 p.2 p.3 (subst (λ (z : List Level). IsOutsideLevel z level pos) a.levels q.0))
  sets_end level pos x (outcome.Err (cell_err.TooLarge value)) (outcome.Err (cell_err.TooLarge also)) p q = nothing_alike _ _ (ap (λ z. outcome.Err (cell_err.TooLarge z)) (q.0 ∙ sym p.0)) p.5 q.5
  sets_end level pos x (outcome.Err (cell_err.TooLarge value)) (outcome.Err (cell_err.Acquire err)) p q = absurd (too_large_not_small level pos p.1 p.2 q.0 q.1 x p.3 q.2 p.4 q.3)
  sets_end level pos x (outcome.Err (cell_err.Acquire err)) (outcome.Ok v) p q =
      absurd (refused_not_granted p.0 q.0 (Mark 0 q.0 ∷ Write 0 q.0 q.1 x ∷ Unpin 0 q.0 ∷ []) err (place_same level pos p.0 p.1 q.0 q.1 p.2 q.2).0 (in_range level pos p.0 p.1 p.2) p.4 q.4)
  sets_end level pos x (outcome.Err (cell_err.Acquire err)) (outcome.Err cell_err.Outside) p q = absurd (not_outside c.levels level pos p.0 p.1 p.2 (subst (λ (z : List Level). IsOutsideLevel z level pos) a.levels q.0))
  sets_end level pos x (outcome.Err (cell_err.Acquire err)) (outcome.Err (cell_err.TooLarge value)) p q = absurd (small_not_too_large level pos p.0 p.1 q.1 q.2 x p.2 q.3 p.3 q.4)
  sets_end level pos x (outcome.Err (cell_err.Acquire err)) (outcome.Err (cell_err.Acquire also)) p q =
      refused_alike p.0 q.0 err also (place_same level pos p.0 p.1 q.0 q.1 p.2 q.2).0 (in_range level pos p.0 p.1 p.2) p.4 q.4

pub gets_alike : (c d c' d' : Cached) (level : ℕ) (pos : List ℕ) (r s : Result ℕ CellErr) (e f : List Event) (k l m n : List StoreCall)
    → AreAlike c d → GetsVoxel c level pos r e k c' → GetsVoxel d level pos s f l d' → FailAlike (k ++ m) (l ++ n)
    → (s ≡ r) × AreAlike c' d' × FailAlike m n
gets_alike c d c' d' level pos r s e f k l m n a p q fail = let ends = gets_end c d c' d' a e f k l m n fail level pos r s p q in (ends.same, ends.alike, ends.fail)

pub sets_alike : (c d c' d' : Cached) (level : ℕ) (pos : List ℕ) (x : ℕ) (r s : Result (Unit {0}) CellErr) (e f : List Event) (k l m n : List StoreCall)
    → AreAlike c d → SetsVoxel c level pos x r e k c' → SetsVoxel d level pos x s f l d' → FailAlike (k ++ m) (l ++ n)
    → (s ≡ r) × AreAlike c' d' × FailAlike m n
sets_alike c d c' d' level pos x r s e f k l m n a p q fail = let ends = sets_end c d c' d' a e f k l m n fail level pos x r s p q in (ends.same, ends.alike, ends.fail)
