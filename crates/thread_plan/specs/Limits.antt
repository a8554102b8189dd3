-- The fewest slots of a run by threads.
use Rattle.std.specs.Prelude.{ℕ, ◌+◌, ◌*◌, fold, max, List, length}

-- the most actors of a phase
abbrev pub most_actors : {A : Type 0} → List (List A) → ℕ
most_actors phases = fold (λ most actors. max most (length actors)) 0 phases

-- the fewest slots: two for each actor of a phase, one for each fetcher, and one
abbrev pub low_of : {A : Type 0} → List (List A) → ℕ → ℕ
low_of phases fetchers = max 2 (2 * most_actors phases + fetchers + 1)
