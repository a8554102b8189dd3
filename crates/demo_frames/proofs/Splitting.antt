-- A run by threads of the demonstration's script that refuses no command, phase by phase.
use Rattle.std.proofs.Common.{◌≡◌, ◌∙◌, ℕ, ◌+◌, false, List, [], ◌∷◌, ◌++◌, length, map, sym, ap, subst, append-nil}
use Rattle.std.specs.List.{list_any, AllByRecursion as Each}
use Rattle.std.proofs.lemmas.List.{length-map}
use Rattle.arr_history.specs.declared.event.Event.{Event}
use Rattle.arr_history.specs.History.{pass_of}
use Rattle.cell_store.specs.Store.{Contents}
use Rattle.fetchers.specs.declared.served.Served.{Served}
use Rattle.pass_roster.specs.Phases.{InPhases}
use Rattle.run_report.specs.declared.reply.Reply.{Reply}
use Rattle.run_report.specs.declared.report.Report.{Report}
use Rattle.run_report.specs.declared.shot.Shot.{Shot}
use Rattle.run_report.specs.Reply.{refuses}
use Rattle.run_report.specs.Report.{has_refusal}
use Rattle.team_actors.specs.Deeds.{Deed}
use Rattle.team_phases.specs.Phases.{IsPhaseOf, IsPlayed, events_in}
use Rattle.thread_plan.specs.Scenes.{flat}
use Rattle.thread_run.specs.Run.{IsThreadRun}
use Rattle.thread_run.proofs.Flattening.{flat_append}
use Rattle.demo_volume.specs.Levels.{key_names, levels}
use Rattle.demo_frames.proofs.Each.{each_back, each_front, each_same}
use Rattle.demo_frames.proofs.NoPictures.{phase_leaves_none}
use Rattle.demo_frames.proofs.Phases.{NoneRefused, FirstPhase, first_phase, no_more_phases, none_refused}
use Rattle.demo_frames.proofs.Playing.{edits_played, views_played}
use Rattle.demo_frames.proofs.Scenes.{edit_scene, view_scene, edits_are_sets}

-- Both phases were played: what they left, and where their events stand in the history.
pub record ArePhasesPlayed (fetchers : ℕ) (replies : List Reply) (shots : List Shot) (history : List Event) : Type 0 where
  pub told : List (List Reply)
  pub left : List (List Shot)
  pub now : List Served
  pub here : List Deed
  pub told_then : List (List Reply)
  pub left_then : List (List Shot)
  pub now_then : List Served
  pub here_then : List Deed
  pub none : Each NoneRefused told
  pub none_then : Each NoneRefused told_then
  pub edits : IsPlayed levels fetchers 1 edit_scene told left now here
  pub views : IsPlayed levels fetchers (1 + length (events_in here)) view_scene told_then left_then now_then here_then
  pub stand : InPhases pass_of 1 (events_in here ∷ events_in here_then ∷ []) history
  pub replies_are : replies ≡ flat told ++ flat told_then
  pub shots_are : shots ≡ flat left_then

module _ (slots fetchers : ℕ) (before after : List Contents) (report : Report) (trail : List Event) (run : IsThreadRun levels key_names slots fetchers (edit_scene ∷ view_scene ∷ []) before after report trail) (done : has_refusal report ≡ false) where
  one : FirstPhase levels fetchers 1 edit_scene (view_scene ∷ []) run.replies run.shots run.deeds
  one = first_phase levels fetchers 1 edit_scene (view_scene ∷ []) run.replies run.shots run.servings run.deeds run.played

  two : FirstPhase levels fetchers (1 + length one.here) view_scene [] one.more_told one.more_left one.more
  two = first_phase levels fetchers (1 + length one.here) view_scene [] one.more_told one.more_left one.later one.more one.others

  ended : (two.more_told ≡ []) × (two.more_left ≡ []) × (two.more ≡ [])
  ended = no_more_phases levels fetchers (1 + length one.here + length two.here) two.more_told two.more_left two.later two.more two.others

  replies_are : run.replies ≡ one.told ∷ two.told ∷ []
  replies_are = one.replies_are ∙ ap (λ l. one.told ∷ l) (two.replies_are ∙ ap (λ l. two.told ∷ l) ended.0)

  shots_are : run.shots ≡ one.left ∷ two.left ∷ []
  shots_are = one.shots_are ∙ ap (λ l. one.left ∷ l) (two.shots_are ∙ ap (λ l. two.left ∷ l) ended.1)

  deeds_are : run.deeds ≡ one.here ∷ two.here ∷ []
  deeds_are = one.deeds_are ∙ ap (λ l. one.here ∷ l) (two.deeds_are ∙ ap (λ l. two.here ∷ l) ended.2)

  -- no reply of either phase refuses
  none_all : Each NoneRefused (one.told ++ (two.told ++ []))
  none_all = each_same NoneRefused _ (flat run.replies) (ap flat (sym replies_are)) (none_refused (flat run.replies) (ap (list_any (λ (r : Reply). refuses r.answer)) (sym run.replies_are) ∙ done))

  none_one : Each NoneRefused one.told
  none_one = each_front NoneRefused one.told (two.told ++ []) none_all

  none_two : Each NoneRefused two.told
  none_two = each_front NoneRefused two.told [] (each_back NoneRefused one.told (two.told ++ []) none_all)

  -- the numbers of the second phase's passes follow on those of the first one's
  second : IsPhaseOf levels fetchers (1 + length (events_in one.here)) view_scene two.told two.left two.now two.here
  second = subst (λ n. IsPhaseOf levels fetchers (1 + n) view_scene two.told two.left two.now two.here) (sym (length-map one.here (λ (d : Deed). d.events))) two.phase

  played : IsPlayed levels fetchers 1 edit_scene one.told one.left one.now one.here
  played = edits_played fetchers 1 one.told one.left one.now one.here none_one one.phase

  both_flat : {X : Type 0} (a b : List (List X)) → flat (flat (a ∷ b ∷ [])) ≡ flat a ++ flat b
  both_flat a b = flat_append a (b ++ []) ∙ ap (λ l. flat a ++ flat l) (append-nil b)

  pub phases_played : ArePhasesPlayed fetchers report.replies report.shots run.history
  phases_played = record {
    told = one.told;
    left = one.left;
    now = one.now;
    here = one.here;
    told_then = two.told;
    left_then = two.left;
    now_then = two.now;
    here_then = two.here;
    none = none_one;
    none_then = none_two;
    edits = played;
    views = views_played fetchers (1 + length (events_in one.here)) two.told two.left two.now two.here none_two second;
    stand = subst (λ (l : List (List Deed)). InPhases pass_of 1 (map events_in l) run.history) deeds_are run.stand;
    replies_are = run.replies_are ∙ (ap (λ l. flat (flat l)) replies_are ∙ both_flat one.told two.told);
    shots_are = run.shots_are ∙ (ap (λ l. flat (flat l)) shots_are ∙ (both_flat one.left two.left ∙ ap (λ l. l ++ flat two.left) (phase_leaves_none levels 1 edit_scene one.told one.left played.acts played.acted edits_are_sets)));
  }
