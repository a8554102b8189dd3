-- A frame over some eyes, as another front tells it.
use Rattle.std.proofs.Common.{◌≡◌, ℕ, List, [], Result, Ok, Err, subst}
use Rattle.std.specs.Result.{IfErr, OnOk}
use Rattle.cell_file.specs.declared.errors.AcquireErr.{AcquireErr}
use Rattle.arr_history.specs.declared.event.Event.{Event}
use Rattle.scale_pick.specs.declared.painted.Painted.{Painted}
use Rattle.scale_pick.specs.declared.view.View.{View}
use Rattle.scale_pick.specs.Notes.{notes_of}
use Rattle.scale_pick.specs.Painting.{IsPainting}
use Rattle.scale_pick.specs.Picture.{Pixels}
use Rattle.volatile_cell.specs.Asked.{Asked}
use Rattle.volatile_cell.specs.Front.{Looker, Front}
use Rattle.call_events.specs.Pieces.{IsRefused}
use Rattle.hier_paint.specs.Frames.{KeepsRule, IsVisited, IsVisitedTo, IsFrame, IsCutOff}

module _ {E : Type 0} (front : Front E) where
  -- what a frame that was painted and one that was cut off give alike
  pub either_frame : {X : Type 0} (result : Result Painted AcquireErr) (e e' : E) (view : View) (picture : Pixels) → OnOk result (IsFrame front e e' view picture) → IfErr result (λ err. IsCutOff front e e' view picture err)
      → ((events : List Event) (calls : List Asked) → front.leads e events calls e' → X) → ((mid : E) (events piece : List Event) (calls : List Asked) → front.leads e events calls mid → front.leads mid piece [] e' → X) → X
  either_frame (Ok painted) e e' view picture frame cut whole part = whole frame.events frame.calls frame.led
  either_frame (Err err) e e' view picture frame cut whole part = part cut.between cut.events cut.piece cut.calls cut.led cut.refused

module _ {E F : Type 0} (front : Front E) (other : Front F) (f : E → F)
    (moves : (a b : E) (p : List Event) (u : List Asked) → front.leads a p u b → other.leads (f a) p u (f b))
    (causes : (a b : E) (cell : ℕ) (err : AcquireErr) → front.caused a b cell err → other.caused (f a) (f b) cell err) where
  pub frame_as : (result : Result Painted AcquireErr) (e e' : E) (view : View) (picture : Pixels) → front.looker e ≡ other.looker (f e)
      → OnOk result (IsFrame front e e' view picture) → OnOk result (IsFrame other (f e) (f e') view picture)
  frame_as (Err err) e e' view picture same h = tt
  frame_as (Ok painted) e e' view picture same h = record {
    events = h.events;
    calls = h.calls;
    led = moves e e' h.events h.calls h.led;
    painting = subst (λ (who : Looker). IsPainting who.levels view (notes_of view.strategy h.events) picture) same h.painting;
    rule = subst (λ (who : Looker). KeepsRule view who.viewer who.levels h.events h.calls) same h.rule;
    visited = subst (λ (who : Looker). IsVisited who view picture h.events) same h.visited;
  }

  pub cut_as : (result : Result Painted AcquireErr) (e e' : E) (view : View) (picture : Pixels) → front.looker e ≡ other.looker (f e)
      → IfErr result (λ err. IsCutOff front e e' view picture err) → IfErr result (λ err. IsCutOff other (f e) (f e') view picture err)
  cut_as (Ok painted) e e' view picture same h = tt
  cut_as (Err err) e e' view picture same h = record {
    between = f h.between;
    events = h.events;
    calls = h.calls;
    led = moves e h.between h.events h.calls h.led;
    rule = subst (λ (who : Looker). KeepsRule view who.viewer who.levels h.events h.calls) same h.rule;
    cell = h.cell;
    visited = subst (λ (who : Looker). IsVisitedTo who view picture h.cell h.events) same h.visited;
    piece = h.piece;
    refused = moves h.between e' h.piece [] h.refused;
    look = subst (λ (who : Looker). IsRefused who.alone who.pass h.cell err h.piece) same h.look;
    cause = causes h.between e' h.cell err h.cause;
  }
