-- The voxels of both levels: how many there are, and that each is small.
use Rattle.std.proofs.Common.{◌≡◌, ℕ, zero, suc, ◌+◌, ◌*◌, ◌/◌, ◌^◌, ◌<◌, List, length, refl, ap, arith, lit<}
use Rattle.std.proofs.lemmas.Nat.{div_below, mod_below}
use Rattle.demo_volume.specs.Voxels.{drawn, fine, mean, mean_at, mean_plane, mean_row, means, next_state}
use Rattle.demo_arrays.proofs.ListLemmas.{AllBelow, each_length, each_small, joined_length, joined_small}

drawn_length : (steps state : ℕ) → length (drawn steps state) ≡ steps
unfolding drawn
drawn_length zero state = refl
drawn_length (suc steps) state = ap suc (drawn_length steps (next_state state))

draw_small : (state : ℕ) → next_state state / 2 ^ 48 < 2 ^ 16
draw_small state = div_below (next_state state) (2 ^ 48) (2 ^ 16) (lit< tt) (mod_below (state * 6364136223846793005 + 1442695040888963407) (2 ^ 64) (lit< tt))

drawn_small : (steps state : ℕ) → AllBelow (2 ^ 16) (drawn steps state)
unfolding drawn
drawn_small zero state i = lit< tt
drawn_small (suc steps) state zero = draw_small state
drawn_small (suc steps) state (suc i) = drawn_small steps (next_state state) i

-- a mean is no greater than what it is of
eighth_small : (a b c d e f g h : ℕ) → a < 65536 → b < 65536 → c < 65536 → d < 65536 → e < 65536 → f < 65536 → g < 65536 → h < 65536
    → (a + b + (c + d) + (e + f + (g + h))) / 8 < 65536
eighth_small a b c d e f g h pa pb pc pd pe pf pg ph = omega arith

mean_at_small : (voxels : List ℕ) (at : ℕ) → AllBelow (2 ^ 16) voxels → mean_at voxels at < 2 ^ 16
mean_at_small voxels at p = eighth_small _ _ _ _ _ _ _ _ (p at) (p (at + 1)) (p (at + 512)) (p (at + 512 + 1)) (p (at + 512 * 512)) (p (at + 512 * 512 + 1)) (p (at + 512 * 512 + 512)) (p (at + 512 * 512 + 512 + 1))

means_length : (voxels : List ℕ) → length (means voxels) ≡ 256 * 256 * 32
means_length voxels = joined_length 32 65536 (λ z. mean_plane voxels z) (λ z _. joined_length 256 256 (λ y. mean_row voxels y z) (λ y _. each_length 256 (λ x. mean voxels x y z)))

means_small : (voxels : List ℕ) → AllBelow (2 ^ 16) voxels → AllBelow (2 ^ 16) (means voxels)
means_small voxels p = joined_small (2 ^ 16) 32 (λ z. mean_plane voxels z) (lit< tt) (λ z _. joined_small (2 ^ 16) 256 (λ y. mean_row voxels y z) (lit< tt)
    (λ y _. each_small (2 ^ 16) 256 (λ x. mean voxels x y z) (lit< tt) (λ x _. mean_at_small voxels (2 * x + 512 * (2 * y + 512 * (2 * z))) p)))

-- whole levels of small voxels
pub record AreLevels (fine coarse : List ℕ) : Type 0 where
  pub fine_length : length fine ≡ 512 * 512 * 64
  pub fine_small : AllBelow (2 ^ 16) fine
  pub coarse_length : length coarse ≡ 256 * 256 * 32
  pub coarse_small : AllBelow (2 ^ 16) coarse

pub are_levels : (number : ℕ) → AreLevels (fine number) (means (fine number))
are_levels number = record {
  fine_length = drawn_length (512 * 512 * 64) number;
  fine_small = drawn_small (512 * 512 * 64) number;
  coarse_length = means_length (fine number);
  coarse_small = means_small (fine number) (drawn_small (512 * 512 * 64) number);
}
