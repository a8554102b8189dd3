-- Commands with their numbers.
use Rattle.std.proofs.Common.{◌≡◌, ℕ, ◌+◌, List, [], ◌∷◌, ◌++◌, All, Option, length, map, refl, sym, ap, arith}
use Rattle.std.specs.List.{enumerate_from, flat_map}
use Rattle.std.proofs.lemmas.List.Elements.{All-append, All-cons, All-nil}
use Rattle.view_script.specs.declared.command.Command.{Command}
use Rattle.view_script.specs.Script.{NumberedCommand, commands_of_actor, commands_of_phase}
use Rattle.team_run.specs.Range.{commands_of_phases, ranged}

-- an actor's command, a phase's actor and a script's phase, each with its number
abbrev pub call_of : Option ℕ → ℕ → ℕ → ℕ × Command → NumberedCommand
call_of top phase actor n = record { phase = phase; actor = actor; call = n.0; command = ranged top n.1 }

abbrev pub actor_of : Option ℕ → ℕ → ℕ × List Command → List NumberedCommand
actor_of top phase n = commands_of_actor phase n.0 (map (ranged top) n.1)

abbrev pub phase_of : Option ℕ → ℕ × List (List Command) → List NumberedCommand
phase_of top n = commands_of_phase n.0 (map (map (ranged top)) n.1)

map_numbers : {X Y Z : Type 0} (f : X → Y) (h : ℕ × Y → Z) (n : ℕ) (xs : List X) → map h (enumerate_from n (map f xs)) ≡ map (λ p. h (p.0, f p.1)) (enumerate_from n xs)
map_numbers f h n [] = refl
map_numbers f h n (x ∷ xs) = ap (λ r. h (n, f x) ∷ r) (map_numbers f h (n + 1) xs)

flat_numbers : {X Y Z : Type 0} (f : X → Y) (h : ℕ × Y → List Z) (n : ℕ) (xs : List X) → flat_map h (enumerate_from n (map f xs)) ≡ flat_map (λ p. h (p.0, f p.1)) (enumerate_from n xs)
flat_numbers f h n [] = refl
flat_numbers f h n (x ∷ xs) = ap (λ r. h (n, f x) ++ r) (flat_numbers f h (n + 1) xs)

pub calls_are : (top : Option ℕ) (phase actor : ℕ) (commands : List Command) → map (call_of top phase actor) (enumerate_from 0 commands) ≡ commands_of_actor phase actor (map (ranged top) commands)
calls_are top phase actor commands = sym (map_numbers (ranged top) _ 0 commands)

pub actors_are : (top : Option ℕ) (phase : ℕ) (actors : List (List Command)) → flat_map (actor_of top phase) (enumerate_from 0 actors) ≡ commands_of_phase phase (map (map (ranged top)) actors)
actors_are top phase actors = sym (flat_numbers (map (ranged top)) (λ n. commands_of_actor phase n.0 n.1) 0 actors)

pub phases_are : (top : Option ℕ) (phases : List (List (List Command))) → flat_map (phase_of top) (enumerate_from 0 phases) ≡ commands_of_phases (map (map (map (ranged top))) phases)
phases_are top phases = sym (flat_numbers (map (map (ranged top))) (λ n. commands_of_phase n.0 n.1) 0 phases)

-- a fact of all, and of one more
pub all_more : {X : Type 0} (P : X → Type 0) (xs : List X) (x : X) → All P xs → P x → All P (xs ++ x ∷ [])
all_more P xs x all one = All-append P xs (x ∷ []) all (All-cons P x [] one (All-nil P))

-- a list without elements
pub none_left : {X : Type 0} (xs : List X) → length xs ≡ 0 → xs ≡ []
none_left [] none = refl
none_left (x ∷ xs) none = absurd (omega (arith, none))
