-- The fewest slots of a script's commands over a volume are those of its phases.
use Rattle.std.proofs.Common.{◌≡◌, ◌∙◌, ℕ, ◌+◌, ◌*◌, List, [], ◌∷◌, fold, length, map, max, refl, ap}
use Rattle.std.proofs.lemmas.List.{length-map}
use Rattle.std.proofs.lemmas.List.Folds.{fold-map}
use Rattle.std.proofs.lemmas.List.FromFn.{length-enumerate_from}
use Rattle.std.specs.List.{enumerate_from}
use Rattle.cell_grid.specs.declared.level.Level.{Level}
use Rattle.team_run.specs.Range.{ranged, top_for}
use Rattle.thread_plan.specs.Limits.{low_of}
use Rattle.thread_plan.specs.Scenes.{scene_of, scenes_over}
use Rattle.view_script.specs.declared.command.Command.{Command}
use Rattle.view_script.specs.declared.script.Script.{Script}
use Rattle.view_script.specs.Script.{commands_of_actor}

-- the most elements of a list, or so many
abbrev longest : {A : Type 0} → ℕ → List (List A) → ℕ
longest most lists = fold (λ m xs. max m (length xs)) most lists

scene_length : (phase : ℕ) (actors : List (List Command)) → length (scene_of phase actors) ≡ length actors
scene_length phase actors = length-map (enumerate_from 0 actors) (λ n. commands_of_actor phase n.0 n.1) ∙ length-enumerate_from 0 actors

scenes_most : (n most : ℕ) (phases : List (List (List Command))) → longest most (map (λ m. scene_of m.0 m.1) (enumerate_from n phases)) ≡ longest most phases
scenes_most n most [] = refl
scenes_most n most (actors ∷ phases) =
    ap (λ k. longest (max most k) (map (λ m. scene_of m.0 m.1) (enumerate_from (n + 1) phases))) (scene_length n actors) ∙ scenes_most (n + 1) (max most (length actors)) phases

-- as many as before, whatever their elements became
mapped_most : {A B : Type 0} (f : A → B) (lists : List (List A)) → longest 0 (map (map f) lists) ≡ longest 0 lists
mapped_most f lists = fold-map (λ m xs. max m (length xs)) (map f) 0 lists ∙ (λ i. fold (λ m xs. max m (length-map xs f i)) 0 lists)

pub same_low : (levels : List Level) (script : Script) (fetchers : ℕ) → low_of (scenes_over levels script) fetchers ≡ low_of script.phases fetchers
same_low levels script fetchers =
    let over = ranged (top_for script.range levels) in
    ap (λ m. max 2 (2 * m + fetchers + 1)) (scenes_most 0 0 (map (map (map over)) script.phases) ∙ mapped_most (map over) script.phases)
