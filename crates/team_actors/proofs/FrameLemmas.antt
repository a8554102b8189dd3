-- What a view answers, from the frame that was painted or cut off.
use Rattle.std.proofs.Common.{◌≡◌, true, false, List, [], ◌∷◌, ◌++◌, length, refl, subst, inr, arith}
use Rattle.std.proofs.lemmas.List.{append-nil}
use Rattle.cell_file.specs.declared.errors.AcquireErr.{AcquireErr}
use Rattle.cell_grid.proofs.OneToOne.{cell_in_range}
use Rattle.hier_paint.specs.Frames.{IsFrame, IsCutOff}
use Rattle.pin_rule.proofs.Goings.{goes_still}
use Rattle.queue_desk.specs.Asking.{AsksQueue}
use Rattle.queue_desk.specs.AskingLaws.{asks_nothing}
use Rattle.run_report.specs.declared.reply.Answer.TheVariants as answer
use Rattle.run_report.specs.declared.reply.Refusal.TheVariants as refusal
use Rattle.run_report.specs.declared.shot.Shot.{Shot}
use Rattle.scale_pick.specs.declared.painted.Painted.{Painted}
use Rattle.scale_pick.specs.declared.strategy.Strategy.TheVariants.{Blocking}
use Rattle.scale_pick.specs.declared.view.View.{View}
use Rattle.scale_pick.specs.Painted.{painted_of, IsComplete}
use Rattle.scale_pick.specs.Wanted.{wanted_level}
use Rattle.team_eyes.specs.Teammate.{Teammate, TeamLeads, team_front, plan_in, levels_in}
use Rattle.team_eyes.specs.TeammateLaws.{team_on}
use Rattle.team_run.specs.Views.{HasLevel, LacksLevel}
use Rattle.view_script.specs.declared.command.Command.TheVariants as command
use Rattle.volatile_cell.specs.Asked.{Asked}
use Rattle.team_actors.specs.Answers.{AnswersCommand}
use Rattle.team_actors.specs.Deeds.{nothing}
use Rattle.team_actors.proofs.RefusalLemmas.{IsExplained, later_refusal}
use Rattle.team_actors.proofs.RiseLemmas.{rises_stay}

module _ {S : Type 0} (a b : Teammate S) (view : View) (shot : Shot) where
  pub no_level_answers : LacksLevel (levels_in a) view → shot.shown ≡ false → AnswersCommand a (command.View shot.name view) (answer.Refused refusal.Outside) (shot ∷ []) a
  no_level_answers lacks hidden = record {
    deed = nothing;
    does = record { went = goes_still (plan_in a) a.cells; asked = asks_nothing a.queue };
    is = (shot, refl, refl, refl, (lacks, hidden, refl, refl));
    caused = tt;
    licensed = omega arith;
  }

  pub frame_answers : (painted : Painted) → HasLevel (levels_in a) view → shot.shown ≡ true → painted ≡ painted_of (wanted_level (levels_in a) view) shot.picture
      → (view.strategy ≡ Blocking → IsComplete (wanted_level (levels_in a) view) shot.picture) → IsFrame team_front a b view shot.picture
      → AnswersCommand a (command.View shot.name view) (answer.Frame painted) (shot ∷ []) b
  frame_answers painted exists shown told blocking frame = record {
    deed = record { events = frame.events; calls = frame.calls; servings = [] };
    does = record { went = frame.led.cells.went; asked = frame.led.queue };
    is = (shot, refl, refl, refl, record { exists = exists; shown = shown; told = told; blocking = blocking; painting = frame.painting; rule = frame.rule; visited = frame.visited });
    caused = tt;
    licensed = let stay = rises_stay (plan_in a) a.cells b.cells frame.events frame.led.cells.went in omega (arith, stay);
  }

  pub cut_answers : (err : AcquireErr) → HasLevel (levels_in a) view → shot.shown ≡ false → IsCutOff team_front a b view shot.picture err → length a.cells.rises ≡ (plan_in a).lanes
      → AnswersCommand a (command.View shot.name view) (answer.Refused (refusal.Acquire err)) (shot ∷ []) b
  cut_answers err exists hidden cut each =
      let led : TeamLeads a (cut.events ++ cut.piece) (cut.calls ++ []) b = team_on a cut.between b cut.events cut.piece cut.calls [] cut.led cut.refused in
      let why : IsExplained a b cut.cell err = later_refusal a cut.between b cut.events cut.calls cut.cell err cut.led cut.cause each in
      let voxel = cut.visited.way.cut.cut.voxel in
      record {
        deed = record { events = cut.events ++ cut.piece; calls = cut.calls; servings = [] };
        does = record { went = led.cells.went; asked = subst (λ (u : List Asked). AsksQueue a.queue u b.queue) (append-nil cut.calls) led.queue };
        is = (shot, refl, refl, refl, record { exists = exists; hidden = hidden; before = cut.events; rule = cut.rule; cell = cut.cell; visited = cut.visited; piece = cut.piece; look = cut.look; events_are = refl });
        caused = inr (cut.cell, cell_in_range (levels_in a) cut.visited.level voxel.coordinates cut.cell cut.visited.way.cut.cut.at voxel.voxel, why.caused);
        licensed = omega (arith, why.licensed);
      }
