-- Sets leave no pictures.
use Rattle.std.proofs.Common.{◌≡◌, ◌∙◌, ℕ, ◌+◌, false, List, [], ◌∷◌, ◌++◌, refl, ap₂}
use Rattle.std.specs.List.{AllByRecursion as Each}
use Rattle.arr_history.specs.declared.event.Event.{Event}
use Rattle.cell_grid.specs.declared.level.Level.{Level}
use Rattle.fetchers.specs.declared.served.Served.{Served}
use Rattle.run_report.specs.declared.reply.Answer.{Answer}
use Rattle.run_report.specs.declared.reply.Reply.{Reply}
use Rattle.run_report.specs.declared.shot.Shot.{Shot}
use Rattle.team_actors.specs.Deeds.{Deed}
use Rattle.team_phases.specs.Phases.{AreActorsDeeds}
use Rattle.team_run.specs.Commands.{IsCommandOf, AreCommandsOf}
use Rattle.thread_plan.specs.Scenes.{flat}
use Rattle.view_script.specs.declared.command.Command.{Command}
use Rattle.view_script.specs.declared.command.Command.TheVariants.{Get, Set, View, Fetch}
use Rattle.view_script.specs.Script.{NumberedCommand}
use Rattle.volatile_cell.specs.Asked.{Asked}
use Rattle.volatile_cell.specs.Front.{Looker}
use Rattle.demo_frames.proofs.Scenes.{IsSetting}

set_leaves_none : (who : Looker) (one : Command) (told : Answer) (shots : List Shot) (served : List Served) (events : List Event) (asks : List Asked) → IsSetting one → IsCommandOf who one told shots served events asks → shots ≡ []
set_leaves_none who (Set level pos x) told shots served events asks set is = is.1
set_leaves_none who (Get level pos) told shots served events asks set is = absurd set
set_leaves_none who (View name view) told shots served events asks set is = absurd set
set_leaves_none who (Fetch count) told shots served events asks set is = absurd set

module _ (levels : List Level) where
  sets_leave_none : (k : ℕ) (commands : List NumberedCommand) (replies : List Reply) (shots : List Shot) (served : List Served) (events : List Event) (asks : List Asked)
      → AreCommandsOf false k levels commands replies shots served events asks → Each (λ (c : NumberedCommand). IsSetting c.command) commands → shots ≡ []
  sets_leave_none k [] [] shots served events asks are sets = are.0
  sets_leave_none k [] (r ∷ replies) shots served events asks are sets = absurd are
  sets_leave_none k (c ∷ commands) [] shots served events asks are sets = absurd are
  sets_leave_none k (c ∷ commands) (r ∷ replies) shots served events asks (here, later, now, others, first, rest, asked, more, numbers, is, are, shots_are, served_are, split, asks_are) sets =
      shots_are ∙ ap₂ (λ (p q : List Shot). p ++ q)
      (set_leaves_none _ c.command r.answer here now first asked sets.0 is) (sets_leave_none k commands replies later others rest more are sets.1)

  pub phase_leaves_none : (k : ℕ) (commands : List (List NumberedCommand)) (replies : List (List Reply)) (shots : List (List Shot)) (deeds : List Deed) → AreActorsDeeds levels k commands replies shots deeds
      → Each (λ (list : List NumberedCommand). Each (λ c. IsSetting c.command) list) commands → flat shots ≡ []
  phase_leaves_none k [] [] [] [] acted sets = refl
  phase_leaves_none k (c ∷ commands) (r ∷ replies) (s ∷ shots) (d ∷ deeds) acted sets =
      ap₂ (λ (p q : List Shot). p ++ q) (sets_leave_none k c r s d.servings d.events d.calls acted.0 sets.0) (phase_leaves_none (k + 1) commands replies shots deeds acted.1 sets.1)
  phase_leaves_none k commands replies shots deeds acted sets = absurd acted
