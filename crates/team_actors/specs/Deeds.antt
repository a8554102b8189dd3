-- What a pass of shared cells and its pass of their queue do, for an actor and for a fetcher.
use Rattle.std.specs.Prelude.{ℕ, ◌+◌, ◌≤◌, false, List, []}
use Rattle.arr_history.specs.declared.event.Event.{Event}
use Rattle.cell_file.specs.Keys.{KeyNames}
use Rattle.cell_grid.specs.declared.level.Level.{Level}
use Rattle.fetchers.specs.declared.served.Served.{Served}
use Rattle.pin_rule.specs.Going.{Goes}
use Rattle.pin_words.specs.declared.doing.Doing.{Doing}
use Rattle.pin_words.specs.Plan.{Plan, shown}
use Rattle.queue_desk.specs.Asking.{AskingPass, AsksQueue}
use Rattle.run_report.specs.declared.reply.Reply.{Reply}
use Rattle.run_report.specs.declared.shot.Shot.{Shot}
use Rattle.team_run.specs.Commands.{AreCommandsOf, AreServingsOf}
use Rattle.team_run.specs.Faults.{fault_replies, fault_servings}
use Rattle.view_script.specs.Script.{NumberedCommand}
use Rattle.volatile_cell.specs.Asked.{Asked}
use Rattle.volatile_cell.specs.Front.{Looker}
use Rattle.team_actors.specs.Causes.{AreCausedReplies}
use Rattle.team_actors.specs.Rises.{rises_of}

-- what a pass did: its events, its calls of the queue, and what it served
pub record Deed : Type 0 where
  pub events : List Event
  pub calls : List Asked
  pub servings : List Served

abbrev pub nothing : Deed
nothing = record { events = []; calls = []; servings = [] }

-- a fetcher, whose viewer is 0: it never puts and never clears
abbrev pub fetcher_of : ℕ → List Level → Looker
fetcher_of k levels = record { pass = k; alone = false; viewer = 0; levels = levels }

-- the deed of an actor, whose pass has the number k: its commands, each once and in order, each with its reply
abbrev pub IsActorsDeed : List Level → ℕ → List NumberedCommand → List Reply → List Shot → Deed → Type 0
IsActorsDeed levels k commands replies shots deed = AreCommandsOf false k levels commands replies shots deed.servings deed.events deed.calls

-- the deed of a fetcher: servings of what the queue gave, one after another
abbrev pub IsFetchersDeed : List Level → ℕ → Deed → Type 0
IsFetchersDeed levels k deed = AreServingsOf (fetcher_of k levels) deed.servings deed.events deed.calls

module _ {S M : Type 0} (p : Plan S M) where
  -- The deed of a pass of the cells, which came from d to d', and of its pass of the queue, which came from q to q'. Events and calls of
  -- others may stand between its own.
  pub record Does (d : Doing S M) (q : AskingPass) (deed : Deed) (d' : Doing S M) (q' : AskingPass) : Type 0 where
    pub went : Goes p d deed.events d'
    pub asked : AsksQueue q deed.calls q'

  -- An actor carried its commands out. Each answer that tells a fault has a rise of its own.
  pub record Acts (levels : List Level) (keys : KeyNames) (d : Doing S M) (q : AskingPass) (commands : List NumberedCommand) (replies : List Reply) (shots : List Shot) (d' : Doing S M) (q' : AskingPass) : Type 0 where
    pub deed : Deed
    pub does : Does d q deed d' q'
    pub are : IsActorsDeed levels d.number commands replies shots deed
    pub caused : AreCausedReplies levels keys (shown p) commands replies
    pub licensed : rises_of p d + (fault_replies replies + fault_servings deed.servings) ≤ rises_of p d'

  -- A fetcher served what the queue gave.
  pub record Fetches (levels : List Level) (d : Doing S M) (q : AskingPass) (d' : Doing S M) (q' : AskingPass) : Type 0 where
    pub deed : Deed
    pub does : Does d q deed d' q'
    pub are : IsFetchersDeed levels d.number deed
