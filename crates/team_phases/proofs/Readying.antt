-- Actors and fetchers that begin, and passes that never were at work.
use Rattle.std.proofs.Common.{◌≡◌, List, [], ◌∷◌, ◌++◌, All, map, refl, arith, length}
use Rattle.std.proofs.lemmas.List.Elements.{All-head, All-tail, All-cons, All-nil}
use Rattle.std.specs.Prelude.{Result, Ok, Err, OnErr}
use Rattle.live_cells.specs.declared.cells.Cells.{Cells}
use Rattle.team_passes.specs.declared.team_pass.TeamPass.{TeamPass}
use Rattle.team_passes.specs.Teams.{QueueTurn, IsTeamPass}
use Rattle.team_passes.proofs.Teaming.{drawn_none, taken_none}
use Rattle.team_phases.specs.declared.actor.Actor.{Actor}
use Rattle.team_phases.specs.Playing.{IsBackIdle}
use Rattle.team_phases.specs.Working.{IsReady, pass_in, part_in}
use Rattle.thread_plan.specs.Parts.{IsPartDue}

-- what holds anyway holds at an error
pub on_err : {X E P : Type 0} (r : Result X E) → P → OnErr r P
on_err (Ok x) p = tt
on_err (Err e) p = p

pub all_right : {X : Type 0} (P : X → Type 0) (xs ys : List X) → All P (xs ++ ys) → All P ys
all_right P [] ys all = all
all_right P (x ∷ xs) ys all = all_right P xs ys (All-tail P x (xs ++ ys) all)

module _ {S : Type 0} (t : Cells S) (turn : QueueTurn) where
  pub all_ready : (actors : List (Actor S)) (others : List (TeamPass S)) → All (IsTeamPass t turn) (map pass_in actors ++ others) → All IsPartDue (map part_in actors) → All (IsReady t turn) actors
  all_ready [] others own due = All-nil (IsReady t turn)
  all_ready (a ∷ actors) others own due = All-cons (IsReady t turn) a actors
      (record { pass = All-head (IsTeamPass t turn) (pass_in a) (map pass_in actors ++ others) own; part = All-head IsPartDue (part_in a) (map part_in actors) due })
      (all_ready actors others (All-tail (IsTeamPass t turn) (pass_in a) (map pass_in actors ++ others) own) (All-tail IsPartDue (part_in a) (map part_in actors) due))

  pub back_none : (a : TeamPass S) → IsBackIdle t turn a a
  back_none a = record { drawn = []; few = (let z : length {A = TeamPass S} [] ≡ 0 = refl in omega arith); between = a; drew = drawn_none t turn a; took = taken_none a }
