-- The levels so far are filled, and the others are as before.
use Rattle.std.proofs.Common.{◌≡◌, ◌⊎◌, ℕ, ◌<◌, ◌≤◌, length, slice_index}
use Rattle.scale_pick.proofs.run.fill.Given as goal

abbrev pub invariant-loop-at : goal.invariant-loop-at
invariant-loop-at l = record {
  len : length l.levels ≡ length l.fn.levels;
  filled : (k : ℕ) → l.run.first ≤ k → k < l.at → slice_index l.levels k ≡ l.run.level;
  beside : (i : ℕ) → (i < l.run.first) ⊎ (l.at ≤ i) → slice_index l.levels i ≡ slice_index l.fn.levels i;
}
