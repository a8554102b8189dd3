-- Lists of small numbers.
use Rattle.std.proofs.Common.{ℕ, zero, suc, ◌<◌, List, [], ◌∷◌, ◌++◌, slice_index}

pub small_more : (bound : ℕ) (xs : List ℕ) (x : ℕ) → ((i : ℕ) → slice_index xs i < bound) → x < bound → (i : ℕ) → slice_index (xs ++ x ∷ []) i < bound
small_more bound [] x all here zero = here
small_more bound [] x all here (suc i) = all i
small_more bound (y ∷ xs) x all here zero = all 0
small_more bound (y ∷ xs) x all here (suc i) = small_more bound xs x (λ k. all (suc k)) here i
