-- The walk stands at the place, the bytes so far are shown, and the others are as before.
use Rattle.std.proofs.Common.{◌≡◌, ◌⊎◌, ℕ, ◌+◌, ◌-◌, ◌<◌, ◌≤◌, length, slice_index}
use Rattle.whole_affine.specs.Offsets.{offset_ahead, place_ahead, IsStraight}
use Rattle.scale_pick.specs.Shade.{shown}
use Rattle.scale_pick.proofs.run.show_straight.Given as goal

abbrev pub invariant-loop-at : goal.invariant-loop-at
invariant-loop-at l = record {
  walk : (k : ℕ) → offset_ahead l.walk k ≡ offset_ahead l.fn.walk ((l.at - l.fn.run.first) + k);
  len : length l.values ≡ length l.fn.values;
  shown : (k : ℕ) → l.fn.run.first + k < l.at → slice_index l.values (l.fn.run.first + k) ≡ shown (slice_index l.frame (place_ahead l.fn.walk k)) l.shades.low l.shades.high;
  beside : (i : ℕ) → (i < l.fn.run.first) ⊎ (l.at ≤ i) → slice_index l.values i ≡ slice_index l.fn.values i;
  straight : IsStraight l.walk;
}
