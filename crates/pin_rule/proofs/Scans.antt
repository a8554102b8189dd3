-- A scan of the slots, try by try.
use Rattle.std.proofs.Common.{◌≡◌, ℕ, suc, ◌+◌, ◌<◌, subst, arith}
use Rattle.pin_words.specs.declared.doing.Doing.{Doing}
use Rattle.pin_words.specs.Plan.{Plan}
use Rattle.pin_words.specs.Cells.{MissesSlot, MissesSlots, HasScanned}
use Rattle.pin_words.proofs.Scanning.{misses_more, scanned_all as all_scanned}

module _ {S M : Type 0} (p : Plan S M) where
  pub scanned_more : (d e e' : Doing S M) (n : ℕ) → HasScanned p d n e → MissesSlot p e n e' → HasScanned p d (n + 1) e'
  scanned_more d e e' n a m = let one_more : suc n ≡ n + 1 = omega arith in subst (λ (k : ℕ). HasScanned p d k e') one_more (misses_more p d e e' n a m)

  pub scanned_all : (d e : Doing S M) (n slots : ℕ) → n ≡ slots → 0 < slots → HasScanned p d n e → MissesSlots p d slots e
  scanned_all d e n slots is low a = subst (λ (k : ℕ). MissesSlots p d k e) is (all_scanned p d e n a (omega arith))
