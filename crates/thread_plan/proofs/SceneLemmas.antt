-- The commands of scenes, with their numbers.
use Rattle.std.proofs.Common.{◌≡◌, ◌∙◌, ℕ, ◌+◌, List, [], ◌∷◌, ◌++◌, Option, length, map, refl, sym, ap, append_assoc, arith}
use Rattle.std.proofs.lemmas.List.{append-nil}
use Rattle.std.specs.List.{enumerate_from, flat_map}
use Rattle.cell_grid.specs.declared.level.Level.{Level}
use Rattle.view_script.specs.declared.command.Command.{Command}
use Rattle.view_script.specs.declared.script.Script.{Script}
use Rattle.view_script.specs.Script.{NumberedCommand, commands_of_actor, commands_of_phase}
use Rattle.team_run.specs.Range.{commands_of_phases, ranged, top_for}
use Rattle.thread_plan.specs.Scenes.{scene_of, scenes_of, scenes_over, flat, ScenesAreCommands}

-- an actor and a phase of a script, each with its number
abbrev pub part_at : Option ℕ → ℕ → ℕ × List Command → List NumberedCommand
part_at top phase n = commands_of_actor phase n.0 (map (ranged top) n.1)

abbrev pub scene_at : Option ℕ → ℕ × List (List Command) → List (List NumberedCommand)
scene_at top n = scene_of n.0 (map (map (ranged top)) n.1)

map_numbers : {X Y Z : Type 0} (f : X → Y) (h : ℕ × Y → Z) (n : ℕ) (xs : List X) → map h (enumerate_from n (map f xs)) ≡ map (λ p. h (p.0, f p.1)) (enumerate_from n xs)
map_numbers f h n [] = refl
map_numbers f h n (x ∷ xs) = ap (λ r. h (n, f x) ∷ r) (map_numbers f h (n + 1) xs)

pub parts_are : (top : Option ℕ) (phase : ℕ) (actors : List (List Command)) → map (part_at top phase) (enumerate_from 0 actors) ≡ scene_of phase (map (map (ranged top)) actors)
parts_are top phase actors = sym (map_numbers (map (ranged top)) (λ n. commands_of_actor phase n.0 n.1) 0 actors)

pub scenes_are : (top : Option ℕ) (phases : List (List (List Command))) → map (scene_at top) (enumerate_from 0 phases) ≡ scenes_of (map (map (map (ranged top))) phases)
scenes_are top phases = sym (map_numbers (map (map (ranged top))) (λ n. scene_of n.0 n.1) 0 phases)

-- the lists of a list of lists, one after another
flat_of_map : {X Y : Type 0} (f : X → List Y) (xs : List X) → flat (map f xs) ≡ flat_map f xs
flat_of_map f [] = refl
flat_of_map f (x ∷ xs) = ap (λ r. f x ++ r) (flat_of_map f xs)

flat_append : {Y : Type 0} (xs ys : List (List Y)) → flat (xs ++ ys) ≡ flat xs ++ flat ys
flat_append [] ys = refl
flat_append (x ∷ xs) ys = ap (λ r. x ++ r) (flat_append xs ys) ∙ sym (append_assoc x (flat xs) (flat ys))

phases_flat : (n : ℕ) (phases : List (List (List Command))) → flat (flat (map (λ m. scene_of m.0 m.1) (enumerate_from n phases))) ≡ flat_map (λ m. commands_of_phase m.0 m.1) (enumerate_from n phases)
phases_flat n [] = refl
phases_flat n (actors ∷ phases) =
    flat_append (scene_of n actors) (flat (map (λ m. scene_of m.0 m.1) (enumerate_from (n + 1) phases)))
    ∙ ap (λ r. r ++ flat (flat (map (λ m. scene_of m.0 m.1) (enumerate_from (n + 1) phases)))) (flat_of_map (λ m. commands_of_actor n m.0 m.1) (enumerate_from 0 actors))
    ∙ ap (λ r. commands_of_phase n actors ++ r) (phases_flat (n + 1) phases)

pub scenes_flat : ScenesAreCommands
scenes_flat levels script = phases_flat 0 (map (map (map (ranged (top_for script.range levels)))) script.phases)

-- a list without elements
pub none_left : {X : Type 0} (xs : List X) → length xs ≡ 0 → xs ≡ []
none_left [] none = refl
none_left (x ∷ xs) none = absurd (omega (arith, none))

-- all phases are planned where none is left
pub scenes_end : (top : Option ℕ) (phases rest : List (List (List Command))) (yielded : List (ℕ × List (List Command))) (count : ℕ) (planned : List (List (List NumberedCommand)))
    → length rest ≡ 0 → enumerate_from 0 phases ≡ yielded ++ enumerate_from count rest → planned ≡ map (scene_at top) yielded → planned ≡ scenes_of (map (map (map (ranged top))) phases)
scenes_end top phases rest yielded count planned none all are =
    let ended : enumerate_from 0 phases ≡ yielded = all ∙ ap (λ (l : List (List (List Command))). yielded ++ enumerate_from count l) (none_left rest none) ∙ append-nil yielded in
    are ∙ ap (map (scene_at top)) (sym ended) ∙ scenes_are top phases
