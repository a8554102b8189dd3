-- A run of bytes, shown one after another.
use Rattle.std.proofs.Common.{◌≡◌, ◌∙◌, ℕ, ℤ, ◌+◌, ◌-◌, ◌<◌, ◌≤◌, ◌⊎◌, inl, inr, sym, subst, arith, length, slice_index, slice_set, unsigned_abs, List, get_or-set_other}
use Rattle.std.proofs.lemmas.Grind.{common_steps}
use Rattle.whole_affine.specs.Parts.{LiesIn}

-- an offset that lies in a frame lies in a longer one
pub longer : (v w : ℤ) (n m : ℕ) → v ≡ w → n ≤ m → LiesIn w 0 n → LiesIn v 0 m
longer v w n m same le lies = record { at = lies.at; is = same ∙ lies.is; below = let below = lies.below in omega (arith, le, below) }

-- the place of an offset that lies in a frame is one of it
pub placed : (v w : ℤ) (n : ℕ) → v ≡ w → LiesIn w 0 n → unsigned_abs v < n
placed v w n same lies = subst (λ u. unsigned_abs u < n) (sym (same ∙ lies.is)) (let below = lies.below in omega (arith, below))

-- one byte more
pub more : (xs : List ℕ) (first at v : ℕ) (byte : ℕ → ℕ) → first ≤ at → at < length xs → v ≡ byte (at - first) → ((k : ℕ) → first + k < at → slice_index xs (first + k) ≡ byte k) → (k : ℕ) → first + k < at + 1 → slice_index (slice_set xs at v) (first + k) ≡ byte k
more xs first at v byte from inside here before k lt = grind (arith, common_steps)

-- and the bytes beside them stay
pub others : (xs ys : List ℕ) (first at v : ℕ) → first ≤ at → ((i : ℕ) → (i < first) ⊎ (at ≤ i) → slice_index xs i ≡ slice_index ys i) → (i : ℕ) → (i < first) ⊎ (at + 1 ≤ i) → slice_index (slice_set xs at v) i ≡ slice_index ys i
others xs ys first at v from before i (inl low) = get_or-set_other xs at i v 0 (λ e. absurd (omega (arith, e, low, from))) ∙ before i (inl low)
others xs ys first at v from before i (inr high) = get_or-set_other xs at i v 0 (λ e. absurd (omega (arith, e, high))) ∙ before i (inr (omega (arith, high)))
