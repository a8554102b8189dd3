-- One step more of the generator.
use Rattle.std.proofs.Common.{◌≡◌, ℕ, suc, ◌+◌, ◌/◌, ◌^◌, List, [], ◌∷◌, ◌++◌, arith, append_assoc, append-nil}
use Rattle.demo_volume.specs.Voxels.{drawn, next_state}

pub drawn_step : (xs : List ℕ) (left next state : ℕ) → left ≡ next + 1 → (xs ++ next_state state / 2 ^ 48 ∷ []) ++ drawn next (next_state state) ≡ xs ++ drawn left state
unfolding drawn
drawn_step xs left next state e =
    let more : left ≡ suc next = omega arith in
    rw more (append_assoc xs (next_state state / 2 ^ 48 ∷ []) (drawn next (next_state state)))

pub drawn_end : (xs : List ℕ) (state : ℕ) → xs ++ drawn 0 state ≡ xs
unfolding drawn
drawn_end xs state = append-nil xs
