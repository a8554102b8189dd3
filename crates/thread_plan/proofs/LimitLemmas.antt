-- The most actors of phases, and of one phase more.
use Rattle.std.proofs.Common.{◌≡◌, ℕ, ◌+◌, ◌<◌, List, [], get_or, length, max, take}
use Rattle.std.proofs.lemmas.List.Sums.{fold_more}
use Rattle.thread_plan.specs.Limits.{most_actors}

pub most_more : {A : Type 0} (phases : List (List A)) (i : ℕ) → i < length phases → most_actors (take (i + 1) phases) ≡ max (most_actors (take i phases)) (length (get_or phases i []))
most_more phases i lt = fold_more (λ most actors. max most (length actors)) 0 phases i [] lt
