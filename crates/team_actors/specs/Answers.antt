-- What one command of an actor does, by a pass of shared cells and a pass of their queue.
use Rattle.std.specs.Prelude.{◌≡◌, ℕ, ◌+◌, ◌≤◌, cond, List, [], ◌∷◌, ◌++◌, Result, Ok, Err}
use Rattle.cell_file.specs.declared.errors.CellErr.{CellErr}
use Rattle.cell_file.specs.Keys.{KeyNames}
use Rattle.pin_words.specs.Plan.{shown}
use Rattle.pin_rule.specs.Calls.{made_of}
use Rattle.run_report.specs.declared.reply.Answer.{Answer}
use Rattle.run_report.specs.declared.reply.Answer.TheVariants as answer
use Rattle.run_report.specs.declared.reply.Reply.{Reply}
use Rattle.run_report.specs.declared.shot.Shot.{Shot}
use Rattle.team_eyes.specs.Teammate.{Teammate, plan_in, levels_in, team_front}
use Rattle.team_run.specs.Commands.{IsCommandOf}
use Rattle.team_run.specs.Faults.{is_fault, fault_servings}
use Rattle.team_run.specs.Refusals.{refusal_in}
use Rattle.view_script.specs.declared.command.Command.{Command}
use Rattle.view_script.specs.Script.{NumberedCommand}
use Rattle.team_actors.specs.Causes.{IsCausedReply}
use Rattle.team_actors.specs.Deeds.{Deed, Does}
use Rattle.team_actors.specs.Rises.{rises_of}

-- the answers that tell what a get and a set came to
abbrev pub get_answer : Result ℕ CellErr → Answer
get_answer (Ok x) = answer.Value x
get_answer (Err err) = answer.Refused (refusal_in err)

abbrev pub set_answer : Result (Unit {0}) CellErr → Answer
set_answer (Ok done) = answer.Done
set_answer (Err err) = answer.Refused (refusal_in err)

-- the reply to a command
abbrev pub reply_to : NumberedCommand → Answer → Reply
reply_to c told = record { phase = c.phase; actor = c.actor; call = c.call; answer = told }

module _ {S : Type 0} where
  -- the keys of the cells
  abbrev pub keys_in : Teammate S → KeyNames
  keys_in m = (made_of m.table).keys.value

  -- A command of a viewer was carried out with this answer, and left these shots. What of it tells a fault has a rise of its own.
  pub record AnswersCommand (a : Teammate S) (command : Command) (told : Answer) (shots : List Shot) (b : Teammate S) : Type 0 where
    pub deed : Deed
    pub does : Does (plan_in a) a.cells a.queue deed b.cells b.queue
    pub is : IsCommandOf (team_front.looker a) command told shots deed.servings deed.events deed.calls
    pub caused : IsCausedReply (levels_in a) (keys_in a) (shown (plan_in a)) command told
    pub licensed : rises_of (plan_in a) a.cells + (cond (is_fault told) 1 0 + fault_servings deed.servings) ≤ rises_of (plan_in a) b.cells

  -- A command with its numbers was carried out, and its reply and its shots stand behind those before.
  pub record AddsCommand (a : Teammate S) (command : NumberedCommand) (before after : List Reply) (shots shots' : List Shot) (b : Teammate S) : Type 0 where
    pub told : Answer
    pub left : List Shot
    pub answers : AnswersCommand a command.command told left b
    pub replied : after ≡ before ++ reply_to command told ∷ []
    pub kept : shots' ≡ shots ++ left
