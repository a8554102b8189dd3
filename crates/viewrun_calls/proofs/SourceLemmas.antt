-- The bytes that were read are the first of those of the source.
use Rattle.std.proofs.Common.{◌≡◌, ◌≤◌, List, ℕ, [], ◌++◌, length, take, arith}
use Rattle.std.proofs.lemmas.Grind.{common_steps}

pub taken_whole : (all front rest : List ℕ) (n : ℕ) → all ≡ front ++ rest → rest ≡ [] → length front ≤ n → front ≡ take n all
taken_whole all front rest n whole none short = rw (whole, none) (grind (arith, common_steps))

pub taken_front : (all front rest : List ℕ) (n : ℕ) → all ≡ front ++ rest → length front ≤ n → n ≤ length front → front ≡ take n all
taken_front all front rest n whole short long = rw whole (grind (arith, common_steps))
