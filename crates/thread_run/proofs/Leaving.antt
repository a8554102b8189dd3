-- Phases that were played leave a reply for each command, and a picture for each view, under its name.
use Rattle.std.proofs.Common.{◌≡◌, ◌∙◌, inl, inr, ℕ, ◌+◌, Bool, false, List, [], ◌∷◌, ◌++◌, cond, length, map, refl, sym, ap, subst, arith}
use Rattle.std.specs.List.{count_by, flat_map, sum_by}
use Rattle.std.proofs.lemmas.Grind.{flat_map-append}
use Rattle.std.proofs.lemmas.List.{append-nil, length-append, length-map, map-append}
use Rattle.std.proofs.lemmas.List.Sums.{sum_by-cons}
use Rattle.arr_history.specs.declared.event.Event.{Event}
use Rattle.cell_grid.specs.declared.level.Level.{Level}
use Rattle.cell_store.specs.Store.{Contents}
use Rattle.fetchers.specs.declared.served.Served.{Served}
use Rattle.live_cells.specs.declared.cells.Cells.{Cells}
use Rattle.run_report.specs.declared.reply.Answer.{Answer}
use Rattle.run_report.specs.declared.reply.Reply.{Reply}
use Rattle.run_report.specs.declared.shot.Shot.{Shot}
use Rattle.team_actors.specs.Deeds.{Deed}
use Rattle.team_passes.specs.declared.team_pass.TeamPass.{TeamPass}
use Rattle.team_phases.specs.declared.actor.PartDone.{PartDone}
use Rattle.team_phases.specs.Phases.{AllLost, AreActorsDeeds, AreLost, ArePlayed, IsLostShot, IsPhaseOf}
use Rattle.team_phases.specs.Playing.{AreAllPlayed}
use Rattle.team_phases.specs.Working.{replies_in, shots_in}
use Rattle.team_run.specs.Commands.{AreCommandsOf, IsCommandOf}
use Rattle.team_run.specs.declared.task.Due.{Due}
use Rattle.team_run.specs.declared.task.Task.{Task}
use Rattle.team_run.specs.declared.task.Task.TheVariants as task
use Rattle.team_run.specs.Task.{command_in, is_view, numbered}
use Rattle.thread_plan.specs.declared.part.Part.{Part}
use Rattle.thread_plan.specs.declared.part.Scene.{Scene}
use Rattle.thread_plan.specs.Counts.{tasks_in, tasks_of, views_in, views_of}
use Rattle.thread_plan.specs.Parts.{commands_in, commands_in_scene}
use Rattle.thread_plan.specs.Scenes.{flat}
use Rattle.view_script.specs.declared.command.Command.{Command}
use Rattle.view_script.specs.declared.command.Command.TheVariants as command
use Rattle.view_script.specs.Script.{NumberedCommand, name_of}
use Rattle.volatile_cell.specs.Asked.{Asked}
use Rattle.volatile_cell.specs.Front.{Looker}
use Rattle.thread_run.proofs.Flattening.{flat_append, flat_mapped}

abbrev pub shot_name : Shot → List ℕ
shot_name shot = shot.name

abbrev pub numbered_name : NumberedCommand → List (List ℕ)
numbered_name c = name_of c.command

-- what commands leave
pub record AreLeft (commands : List NumberedCommand) (replies : List Reply) (shots : List Shot) : Type 0 where
  pub replied : length replies ≡ length commands
  pub pictured : map shot_name shots ≡ flat_map numbered_name commands

none_left : AreLeft [] [] []
none_left = record { replied = refl; pictured = refl }

more_left : (c d : List NumberedCommand) (q r : List Reply) (s t : List Shot) → AreLeft c q s → AreLeft d r t → AreLeft (c ++ d) (q ++ r) (s ++ t)
more_left c d q r s t one two = record {
  replied = (let a = length-append q r in let b = length-append c d in let x = one.replied in let y = two.replied in omega arith);
  pictured = map-append shot_name s t ∙ (ap (λ n. n ++ map shot_name t) one.pictured ∙ (ap (λ n. flat_map numbered_name c ++ n) two.pictured ∙ sym (flat_map-append numbered_name c d)));
}

-- the pictures of a command are called as its views are
one_name : (who : Looker) (c : Command) (told : Answer) (shots : List Shot) (servings : List Served) (events : List Event) (asks : List Asked) → IsCommandOf who c told shots servings events asks → map shot_name shots ≡ name_of c
one_name who (command.Get level pos) told shots servings events asks is = ap (map shot_name) is.1
one_name who (command.Set level pos x) told shots servings events asks is = ap (map shot_name) is.1
one_name who (command.View name view) told shots servings events asks is = ap (map shot_name) is.1 ∙ ap (λ n. n ∷ []) is.2
one_name who (command.Fetch count) told shots servings events asks is = ap (map shot_name) is.1

lost_name : (c : Command) (shots : List Shot) → IsLostShot c shots → map shot_name shots ≡ name_of c
lost_name (command.Get level pos) shots is = ap (map shot_name) is
lost_name (command.Set level pos x) shots is = ap (map shot_name) is
lost_name (command.View name view) shots is = ap (map shot_name) is.1 ∙ ap (λ n. n ∷ []) is.2
lost_name (command.Fetch count) shots is = ap (map shot_name) is

one_left : (c : NumberedCommand) (r : Reply) (shots : List Shot) → map shot_name shots ≡ name_of c.command → AreLeft (c ∷ []) (r ∷ []) shots
one_left c r shots named = record { replied = refl; pictured = named ∙ sym (append-nil (name_of c.command)) }

carried_left : (alone : Bool) (k : ℕ) (levels : List Level) (commands : List NumberedCommand) (replies : List Reply) (shots : List Shot) (servings : List Served) (events : List Event) (asks : List Asked)
    → AreCommandsOf alone k levels commands replies shots servings events asks → AreLeft commands replies shots
carried_left alone k levels [] [] shots servings events asks are = subst (λ s. AreLeft [] [] s) (sym are.0) none_left
carried_left alone k levels [] (r ∷ replies) shots servings events asks are = absurd are
carried_left alone k levels (c ∷ commands) [] shots servings events asks are = absurd are
carried_left alone k levels (c ∷ commands) (r ∷ replies) shots servings events asks are =
    let who : Looker = record { pass = k; alone = alone; viewer = c.actor; levels = levels } in
    subst (λ s. AreLeft (c ∷ commands) (r ∷ replies) s) (sym are.11)
    (more_left (c ∷ []) commands (r ∷ []) replies are.0 are.1 (one_left c r are.0 (one_name who c.command r.answer are.0 are.2 are.4 are.6 are.9)) (carried_left alone k levels commands replies are.1 are.3 are.5 are.7 are.10))

lost_left : (commands : List NumberedCommand) (replies : List Reply) (shots : List Shot) → AreLost commands replies shots → AreLeft commands replies shots
lost_left [] [] shots lost = subst (λ s. AreLeft [] [] s) (sym lost) none_left
lost_left [] (r ∷ replies) shots lost = absurd lost
lost_left (c ∷ commands) [] shots lost = absurd lost
lost_left (c ∷ commands) (r ∷ replies) shots lost =
    subst (λ s. AreLeft (c ∷ commands) (r ∷ replies) s) (sym lost.2)
    (more_left (c ∷ []) commands (r ∷ []) replies lost.0 lost.1 (one_left c r lost.0 (lost_name c.command lost.0 lost.4)) (lost_left commands replies lost.1 lost.5))

-- of a phase's actors
acted_left : (levels : List Level) (k : ℕ) (commands : List (List NumberedCommand)) (replies : List (List Reply)) (shots : List (List Shot)) (deeds : List Deed) → AreActorsDeeds levels k commands replies shots deeds → AreLeft (flat commands) (flat replies) (flat shots)
acted_left levels k [] [] [] [] acts = none_left
acted_left levels k (c ∷ commands) (r ∷ replies) (s ∷ shots) (deed ∷ deeds) acts =
    more_left c (flat commands) r (flat replies) s (flat shots) (carried_left false k levels c r s deed.servings deed.events deed.calls acts.0) (acted_left levels (k + 1) commands replies shots deeds acts.1)
acted_left levels k commands replies shots deeds acts = absurd acts

all_lost_left : (commands : List (List NumberedCommand)) (replies : List (List Reply)) (shots : List (List Shot)) → AllLost commands replies shots → AreLeft (flat commands) (flat replies) (flat shots)
all_lost_left [] [] [] lost = none_left
all_lost_left (c ∷ commands) (r ∷ replies) (s ∷ shots) lost = more_left c (flat commands) r (flat replies) s (flat shots) (lost_left c r s lost.0) (all_lost_left commands replies shots lost.1)
all_lost_left commands replies shots lost = absurd lost

module _ (levels : List Level) (fetchers : ℕ) where
  phase_left : (k : ℕ) (commands : List (List NumberedCommand)) (replies : List (List Reply)) (shots : List (List Shot)) (served : List Served) (deeds : List Deed) → IsPhaseOf levels fetchers k commands replies shots served deeds → AreLeft (flat commands) (flat replies) (flat shots)
  phase_left k commands replies shots served deeds (inl played) = acted_left levels k commands replies shots played.acts played.acted
  phase_left k commands replies shots served deeds (inr lost) = all_lost_left commands replies shots lost.lost

  -- of all phases
  pub played_left : (k : ℕ) (phases : List (List (List NumberedCommand))) (replies : List (List (List Reply))) (shots : List (List (List Shot))) (served : List Served) (deeds : List (List Deed)) → ArePlayed levels fetchers k phases replies shots served deeds
      → AreLeft (flat (flat phases)) (flat (flat replies)) (flat (flat shots))
  played_left k [] [] [] served [] played = none_left
  played_left k (c ∷ phases) (r ∷ replies) (s ∷ shots) served (here ∷ deeds) played =
      subst (λ l. AreLeft l (flat (r ++ flat replies)) (flat (s ++ flat shots))) (sym (flat_append c (flat phases)))
      (subst (λ l. AreLeft (flat c ++ flat (flat phases)) l (flat (s ++ flat shots))) (sym (flat_append r (flat replies)))
      (subst (λ l. AreLeft (flat c ++ flat (flat phases)) (flat r ++ flat (flat replies)) l) (sym (flat_append s (flat shots)))
      (more_left (flat c) (flat (flat phases)) (flat r) (flat (flat replies)) (flat s) (flat (flat shots)) (phase_left k c r s played.0 here played.3) (played_left (k + length here) phases replies shots played.1 deeds played.4))))
  played_left k phases replies shots served deeds played = absurd played

-- a part has a command for each task, and a name for each view
viewed : (t : Task) → length (name_of (command_in t)) ≡ cond (is_view t) 1 0
viewed (task.Get level pos) = refl
viewed (task.Set level pos x) = refl
viewed (task.View name view picture) = refl
viewed (task.Fetch count) = refl

tasks_named : (tasks : List Due) → length (flat_map numbered_name (map numbered tasks)) ≡ count_by (λ (d : Due). is_view d.task) tasks
tasks_named [] = refl
tasks_named (d ∷ tasks) =
    let a = length-append (name_of (command_in d.task)) (flat_map numbered_name (map numbered tasks)) in
    let b = viewed d.task in
    let e : count_by (λ (x : Due). is_view x.task) (d ∷ tasks) ≡ cond (is_view d.task) 1 0 + count_by (λ x. is_view x.task) tasks = sum_by-cons _ d tasks in
    let rest = tasks_named tasks in
    omega arith

parts_counted : (parts : List Part) → length (flat (map commands_in parts)) ≡ sum_by tasks_in parts
parts_counted [] = refl
parts_counted (p ∷ parts) =
    let a = length-append (commands_in p) (flat (map commands_in parts)) in
    let b = length-map p.tasks.items numbered in
    let e = sum_by-cons tasks_in p parts in
    let rest = parts_counted parts in
    omega arith

parts_named : (parts : List Part) → length (flat_map numbered_name (flat (map commands_in parts))) ≡ sum_by views_in parts
parts_named [] = refl
parts_named (p ∷ parts) =
    let more = flat (map commands_in parts) in
    let s = ap (length {A = List ℕ}) (flat_map-append numbered_name (commands_in p) more) in
    let a = length-append (flat_map numbered_name (commands_in p)) (flat_map numbered_name more) in
    let b = tasks_named p.tasks.items in
    let e = sum_by-cons views_in p parts in
    let rest = parts_named parts in
    omega arith

scenes_counted : (scenes : List Scene) → length (flat (flat (map commands_in_scene scenes))) ≡ sum_by tasks_of scenes
scenes_counted [] = refl
scenes_counted (s ∷ scenes) =
    let more = flat (map commands_in_scene scenes) in
    let f = ap (length {A = NumberedCommand}) (flat_append (commands_in_scene s) more) in
    let a = length-append (flat (commands_in_scene s)) (flat more) in
    let b = parts_counted s.parts.items in
    let e = sum_by-cons tasks_of s scenes in
    let rest = scenes_counted scenes in
    omega arith

scenes_named : (scenes : List Scene) → length (flat_map numbered_name (flat (flat (map commands_in_scene scenes)))) ≡ sum_by views_of scenes
scenes_named [] = refl
scenes_named (s ∷ scenes) =
    let more = flat (map commands_in_scene scenes) in
    let f = ap (λ l. length (flat_map numbered_name l)) (flat_append (commands_in_scene s) more) in
    let g = ap (length {A = List ℕ}) (flat_map-append numbered_name (flat (commands_in_scene s)) (flat more)) in
    let a = length-append (flat_map numbered_name (flat (commands_in_scene s))) (flat_map numbered_name (flat more)) in
    let b = parts_named s.parts.items in
    let e = sum_by-cons views_of s scenes in
    let rest = scenes_named scenes in
    omega arith

module _ {S : Type 0} (shows : S → Contents) (t : Cells S) (fetchers : ℕ) (a b : TeamPass S) (scenes : List Scene) (left : List (List PartDone)) (played : AreAllPlayed shows t fetchers a scenes left b) where
  are_left : AreLeft (flat (flat (map commands_in_scene scenes))) (flat (flat (map (map replies_in) left))) (flat (flat (map (map shots_in) left)))
  are_left = played_left _ fetchers _ (map commands_in_scene scenes) (map (map replies_in) left) (map (map shots_in) left) played.served played.deeds played.plays.are

  pub replies_counted : length (flat (map replies_in (flat left))) ≡ sum_by tasks_of scenes
  replies_counted = ap length (flat_mapped replies_in left) ∙ (are_left.replied ∙ scenes_counted scenes)

  pub shots_counted : length (flat (map shots_in (flat left))) ≡ sum_by views_of scenes
  shots_counted =
      let shots = flat (flat (map (map shots_in) left)) in
      ap length (flat_mapped shots_in left) ∙ (sym (length-map shots shot_name) ∙ (ap length are_left.pictured ∙ scenes_named scenes))
