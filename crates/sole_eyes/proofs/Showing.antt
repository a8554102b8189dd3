-- Reads one after another, of a cell that stays as it is.
use Rattle.std.proofs.Common.{ℕ, zero, suc, ◌<◌, ℤ, unsigned_abs, [], ◌∷◌, sym, subst, arith}
use Rattle.arr_history.specs.declared.event.Event.TheVariants.{Read}
use Rattle.whole_affine.specs.Offsets.{place_ahead}
use Rattle.whole_affine.specs.Parts.{LiesIn}
use Rattle.whole_affine.specs.declared.offset_walk.OffsetWalk.{OffsetWalk}
use Rattle.volatile_cell.specs.Showing.{reads_along}
use Rattle.sole_cache.specs.Cached.{Cached}
use Rattle.sole_eyes.specs.SoleEyes.{EyesLead}
use Rattle.sole_eyes.specs.SoleLaws.{eyes_nowhere, eyes_after}

-- an offset that lies among so many is an index below them
pub place_below : (z : ℤ) (n : ℕ) → LiesIn z 0 n → unsigned_abs z < n
place_below z n h = subst (λ (offset : ℤ). unsigned_abs offset < n) (sym h.is) (omega (arith, h.below))

-- reads that each lead from a cache to itself do so together
pub eyes_along : (c : Cached) (cell : ℕ) (walk : OffsetWalk) (number : ℕ → ℕ) (n : ℕ) → ((k : ℕ) → k < n → EyesLead c (Read 0 cell (place_ahead walk k) (number k) ∷ []) c) → EyesLead c (reads_along 0 cell walk number n) c
eyes_along c cell walk number zero each = eyes_nowhere c
eyes_along c cell walk number (suc n) each =
    eyes_after c c c (reads_along 0 cell walk number n) (Read 0 cell (place_ahead walk n) (number n) ∷ []) (eyes_along c cell walk number n (λ k lt. each k (omega (arith, lt)))) (each n (omega arith))
