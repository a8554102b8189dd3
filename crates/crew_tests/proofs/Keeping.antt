-- Calls leave a pass the same to the roster.
use Rattle.std.proofs.Common.{◌≡◌, ℕ, List, ap}
use Rattle.std.specs.Prelude.{Option, Result}
use Rattle.std.specs.declared.result.Result.TheVariants.{Ok, Err}
use Rattle.cell_store.specs.Store.{Contents}
use Rattle.cell_file.specs.declared.errors.CellErr.{CellErr}
use Rattle.cell_file.specs.declared.errors.CellErr.TheVariants.{Outside, TooLarge, Acquire}
use Rattle.arr_history.specs.declared.event.Event.{Event}
use Rattle.pin_words.specs.declared.doing.Doing.{Doing}
use Rattle.pin_words.specs.Plan.{Plan}
use Rattle.pin_rule.specs.declared.made.Made.{Made}
use Rattle.pin_rule.specs.declared.pins.Pins.{Pins}
use Rattle.pin_rule.specs.Going.{Goes}
use Rattle.pin_rule.specs.Trying.{SameRoster}
use Rattle.live_cells.specs.Voxels.{GetsCell, SetsCell}

pub same_after : {S M : Type 0} (p : Plan S M) (d d' : Doing S M) (events : List Event) → Goes p d events d' → SameRoster d d'
same_after p d d' events g = (g.number, g.ended, g.drawn)

same_if : {S M : Type 0} (d d' : Doing S M) → d' ≡ d → SameRoster d d'
same_if {S} {M} d d' e = (ap (λ (w : Doing S M). w.number) e, ap (λ (w : Doing S M). w.ended) e, ap (λ (w : Doing S M). w.drawn) e)

module _ {S : Type 0} (shows : S → Contents) (t : Pins S) (d d' : Doing S (Option (Made S))) where
  pub same_got : (level : ℕ) (pos : List ℕ) (result : Result ℕ CellErr) → GetsCell shows t d d' level pos result → SameRoster d d'
  same_got level pos (Ok x) h = same_after _ d d' _ h.3.went
  same_got level pos (Err Outside) h = same_if d d' h.1
  same_got level pos (Err (TooLarge value)) h = absurd h
  same_got level pos (Err (Acquire err)) h = same_after _ d d' _ h.3.went

  pub same_set : (level : ℕ) (pos : List ℕ) (x : ℕ) (result : Result (Unit {0}) CellErr) → SetsCell shows t d d' level pos x result → SameRoster d d'
  same_set level pos x (Ok done) h = same_after _ d d' _ h.4.went
  same_set level pos x (Err Outside) h = same_if d d' h.1
  same_set level pos x (Err (TooLarge value)) h = same_if d d' h.5
  same_set level pos x (Err (Acquire err)) h = same_after _ d d' _ h.4.went
