-- What a get and a set answer, from what the cells did.
use Rattle.std.proofs.Common.{◌≡◌, ◌+◌, ◌≤◌, ℕ, List, [], length, refl, sym, subst, inr, arith}
use Rattle.std.specs.Prelude.{Result, Ok, Err, Option}
use Rattle.arr_history.specs.declared.event.Event.{Event}
use Rattle.cell_file.specs.declared.errors.CellErr.{CellErr}
use Rattle.cell_file.specs.declared.errors.CellErr.TheVariants as cell_err
use Rattle.pin_words.specs.declared.doing.Doing.{Doing}
use Rattle.pin_rule.specs.declared.made.Made.{Made}
use Rattle.pin_rule.specs.Going.{Goes}
use Rattle.pin_rule.proofs.Goings.{goes_still}
use Rattle.queue_desk.specs.AskingLaws.{asks_nothing}
use Rattle.live_cells.specs.Voxels.{GetsCell, SetsCell}
use Rattle.team_eyes.specs.Teammate.{Teammate, plan_in}
use Rattle.view_script.specs.declared.command.Command.TheVariants as command
use Rattle.team_actors.specs.Answers.{AnswersCommand, get_answer, set_answer}
use Rattle.team_actors.specs.Deeds.{Deed, Does}
use Rattle.team_actors.specs.Rises.{rises_of}
use Rattle.team_actors.proofs.RefusalLemmas.{refused_cause, refused_rise}
use Rattle.team_actors.proofs.RiseLemmas.{rises_stay}

module _ {S : Type 0} (a : Teammate S) (cells : Doing S (Option (Made S))) where
  -- the cells have gone on, and the queue has stayed
  abbrev pub with_cells : Teammate S
  with_cells = record { shows = a.shows; table = a.table; viewer = a.viewer; cells = cells; queue = a.queue }

  abbrev made : List Event → Deed
  made events = record { events = events; calls = []; servings = [] }

  does_alone : (events : List Event) → Goes (plan_in a) a.cells events cells → Does (plan_in a) a.cells a.queue (made events) cells a.queue
  does_alone events went = record { went = went; asked = asks_nothing a.queue }

  stays : cells ≡ a.cells → Goes (plan_in a) a.cells [] cells
  stays same = subst (λ (d : Doing _ _). Goes (plan_in a) a.cells [] d) (sym same) (goes_still (plan_in a) a.cells)

  no_fault : (events : List Event) → Goes (plan_in a) a.cells events cells → rises_of (plan_in a) a.cells + (0 + 0) ≤ rises_of (plan_in a) cells
  no_fault events went = let stay = rises_stay (plan_in a) a.cells cells events went in omega arith

  pub get_answers : (level : ℕ) (pos : List ℕ) (got : Result ℕ CellErr) → GetsCell a.shows a.table a.cells cells level pos got → length a.cells.rises ≡ (plan_in a).lanes
      → AnswersCommand a (command.Get level pos) (get_answer got) [] with_cells
  get_answers level pos (Ok x) (cell, at, voxel, visited) each = record {
    deed = made visited.events;
    does = does_alone visited.events visited.went;
    is = ((cell, at, voxel, visited.visit), refl, refl, refl);
    caused = tt;
    licensed = no_fault visited.events visited.went;
  }
  get_answers level pos (Err cell_err.Outside) (outside, same) each = record {
    deed = made [];
    does = does_alone [] (stays same);
    is = ((outside, refl), refl, refl, refl);
    caused = tt;
    licensed = no_fault [] (stays same);
  }
  get_answers level pos (Err (cell_err.TooLarge value)) got each = absurd got
  get_answers level pos (Err (cell_err.Acquire err)) (cell, at, voxel, acquired) each = record {
    deed = made acquired.events;
    does = does_alone acquired.events acquired.went;
    is = ((cell, at, voxel, acquired.piece), refl, refl, refl);
    caused = inr (cell, at, voxel, refused_cause a.shows a.table cell a.cells cells acquired.events err acquired.caused);
    licensed = let rose = refused_rise a.shows a.table cell a.cells cells acquired.events err acquired.events acquired.caused acquired.went each in omega (arith, rose);
  }

  pub set_answers : (level : ℕ) (pos : List ℕ) (x : ℕ) (put : Result (Unit {0}) CellErr) → SetsCell a.shows a.table a.cells cells level pos x put → length a.cells.rises ≡ (plan_in a).lanes
      → AnswersCommand a (command.Set level pos x) (set_answer put) [] with_cells
  set_answers level pos x (Ok done) (cell, at, voxel, small, visited) each = record {
    deed = made visited.events;
    does = does_alone visited.events visited.went;
    is = ((cell, at, voxel, small, visited.visit), refl, refl, refl);
    caused = tt;
    licensed = no_fault visited.events visited.went;
  }
  set_answers level pos x (Err cell_err.Outside) (outside, same) each = record {
    deed = made [];
    does = does_alone [] (stays same);
    is = ((outside, refl), refl, refl, refl);
    caused = tt;
    licensed = no_fault [] (stays same);
  }
  set_answers level pos x (Err (cell_err.TooLarge value)) (is, cell, at, voxel, large, same) each = record {
    deed = made [];
    does = does_alone [] (stays same);
    is = ((is, cell, at, voxel, large, refl), refl, refl, refl);
    caused = tt;
    licensed = no_fault [] (stays same);
  }
  set_answers level pos x (Err (cell_err.Acquire err)) (cell, at, voxel, small, acquired) each = record {
    deed = made acquired.events;
    does = does_alone acquired.events acquired.went;
    is = ((cell, at, voxel, small, acquired.piece), refl, refl, refl);
    caused = inr (cell, at, voxel, refused_cause a.shows a.table cell a.cells cells acquired.events err acquired.caused);
    licensed = let rose = refused_rise a.shows a.table cell a.cells cells acquired.events err acquired.events acquired.caused acquired.went each in omega (arith, rose);
  }
