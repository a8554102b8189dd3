-- What a call leaves that plays a phase, or phases one after another.
use Rattle.std.specs.Prelude.{◌≡◌, ℕ, ◌≤◌, List, ◌++◌, length, map}
use Rattle.std.specs.List.{AllZip}
use Rattle.fetchers.specs.declared.served.Served.{Served}
use Rattle.cell_store.specs.Store.{Contents}
use Rattle.live_cells.specs.declared.cells.Cells.{Cells}
use Rattle.live_cells.specs.Cells.{table}
use Rattle.pass_roster.specs.Ends.{AllJoined}
use Rattle.pin_rule.specs.Calls.{made_of, plan_at}
use Rattle.pin_words.specs.Words as cells
use Rattle.team_actors.specs.Deeds.{Deed}
use Rattle.team_passes.specs.declared.team_pass.TeamPass.{TeamPass}
use Rattle.team_passes.specs.Teams.{QueueTurn, cells_in, asks_in, IsFirstPass, AreDrawn, AreTakenIn}
use Rattle.team_phases.specs.declared.actor.Actor.{Actor}
use Rattle.team_phases.specs.declared.actor.PartDone.{PartDone}
use Rattle.team_phases.specs.Plays.{Plays, PlaysAll}
use Rattle.team_phases.specs.Working.{replies_in, shots_in, part_in, pass_in, done_in, HasActed, HasFetched}
use Rattle.thread_plan.specs.declared.part.Part.{Part}
use Rattle.thread_plan.specs.declared.part.Scene.{Scene}
use Rattle.thread_plan.specs.Parts.{commands_in, commands_in_scene}
use Rattle.turn_cell.specs.PassView as queue

module _ {S : Type 0} where
  -- the first pass, between two phases: all others were joined into it
  pub record IsStill (t : Cells S) (turn : QueueTurn) (p : TeamPass S) : Type 0 where
    pub first : IsFirstPass t turn p
    pub cells_joined : AllJoined cells.passes (cells_in p)
    pub asks_joined : AllJoined queue.passes (asks_in p)

  -- passes were drawn, and joined again without having done anything
  pub record IsBackIdle (t : Cells S) (turn : QueueTurn) (a b : TeamPass S) : Type 0 where
    pub drawn : List (TeamPass S)
    pub few : length drawn ≤ 32
    pub between : TeamPass S
    pub drew : AreDrawn t turn a drawn between
    pub took : AreTakenIn between drawn b

  -- Actors and fetchers worked by these passes, in order, which were joined into the first one then, those of the actors first.
  pub record HasWorked (shows : S → Contents) (t : Cells S) (turn : QueueTurn) (a : TeamPass S) (parts : List Part) (passes : List (TeamPass S)) (left : List PartDone) (b : TeamPass S) : Type 0 where
    pub actors : List (Actor S)
    pub fetchers : List (TeamPass S)
    pub parts_are : map part_in actors ≡ parts
    pub passes_are : map pass_in actors ++ fetchers ≡ passes
    pub actors_then : List (Actor S)
    pub fetchers_then : List (TeamPass S)
    pub acted : AllZip (HasActed shows t turn) actors actors_then
    pub fetched : AllZip (HasFetched shows t turn) fetchers fetchers_then
    pub left_are : left ≡ map done_in actors_then
    pub took : AreTakenIn a (map pass_in actors_then ++ fetchers_then) b

  -- A phase was played, and left these.
  pub record IsPhasePlayed (shows : S → Contents) (t : Cells S) (fetchers : ℕ) (a : TeamPass S) (parts : List Part) (left : List PartDone) (b : TeamPass S) : Type 0 where
    pub served : List Served
    pub deeds : List Deed
    pub few : length deeds ≤ 32
    pub plays : Plays (plan_at shows (table t)) (made_of (table t)).levels.value (made_of (table t)).keys.value fetchers (cells_in a) (asks_in a) (map commands_in parts)
        (map replies_in left) (map shots_in left) served deeds (cells_in b) (asks_in b)

  -- Phases were played one after another, and left these.
  pub record AreAllPlayed (shows : S → Contents) (t : Cells S) (fetchers : ℕ) (a : TeamPass S) (scenes : List Scene) (left : List (List PartDone)) (b : TeamPass S) : Type 0 where
    pub served : List Served
    pub deeds : List (List Deed)
    pub plays : PlaysAll (plan_at shows (table t)) (made_of (table t)).levels.value (made_of (table t)).keys.value fetchers (cells_in a) (asks_in a) (map commands_in_scene scenes)
        (map (map replies_in) left) (map (map shots_in) left) served deeds (cells_in b) (asks_in b)
