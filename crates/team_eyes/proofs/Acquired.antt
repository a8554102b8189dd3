-- What an acquire and a look come to, for eyes.
use Rattle.std.proofs.Common.{◌≡◌, ℕ, false, List, [], ◌∷◌, Option, Result, Ok, Err, subst}
use Rattle.std.specs.Prelude.{IfOk, IfErr, OnOk, OnErr}
use Rattle.cell_file.specs.declared.errors.AcquireErr.{AcquireErr}
use Rattle.arr_history.specs.declared.event.Event.{Event}
use Rattle.arr_history.specs.declared.event.Event.TheVariants.{Pin, Miss}
use Rattle.arr_history.specs.Legal.{LiveIn}
use Rattle.arr_history.specs.History.{after}
use Rattle.call_events.specs.Pieces.{IsAcquired}
use Rattle.pin_words.specs.declared.doing.Doing.{Doing}
use Rattle.pin_words.specs.Plan.{Plan, start_of}
use Rattle.pin_words.specs.Finding.{pin}
use Rattle.pin_words.specs.Tells.{HasSeen}
use Rattle.pin_rule.specs.Parts.{PinnedCell}
use Rattle.pin_rule.specs.Going.{Goes}
use Rattle.pin_rule.specs.declared.made.Made.{Made}
use Rattle.pin_rule.specs.declared.pins.Pins.{Pins}
use Rattle.pin_rule.specs.Calls.{plan_at}
use Rattle.cell_store.specs.Store.{Contents}
use Rattle.live_cells.specs.Cells.{Acquires, IsRefusedFor, IsLiveFor}
use Rattle.team_eyes.specs.Holding.{HoldsStill}
use Rattle.team_eyes.specs.Teammate.{GoesPinned}
use Rattle.team_eyes.proofs.Pieces.{pins_one, misses_none, granted_one, refused_none}
use Rattle.team_eyes.proofs.Holding.{holds_one_more, holds_as_many}

module _ {S M : Type 0} (p : Plan S M) (c : ℕ) (d d' : Doing S M) (seen : HasSeen p d') (still : HoldsStill d) where
  -- the events of an acquire, by its answer
  abbrev pub Pieced : Result PinnedCell AcquireErr → Type 0
  Pieced result = (events : List Event) × Goes p d events d' × IsAcquired (λ (h : PinnedCell). h.loaded) false d.number c result events

  -- the cell of a handle is the one that was asked for
  abbrev pub AtCell : PinnedCell → Type 0
  AtCell h = (h.cell ≡ c) × (d'.pins ≡ pin c h.slot false ∷ d.pins) × IsLiveFor p d' h

  live : (h : PinnedCell) → AtCell h → LiveIn ((after (start_of p) d'.seen).cells c) h.slot
  live h at = subst (λ n. LiveIn ((after (start_of p) d'.seen).cells n) h.slot) at.0 at.2

  pub acquired : (result : Result PinnedCell AcquireErr) → Pieced result → IfOk result AtCell → OnErr result (d'.pins ≡ d.pins)
      → ((events : List Event) × GoesPinned p d events d' × IsAcquired (λ (h : PinnedCell). h.loaded) false d.number c result events) × HoldsStill d'
  acquired (Ok h) a more same =
      let both = holds_one_more p d d' a.0 a.1 seen.legal still c h.slot (granted_one false d.number c h.loaded a.0 a.2) more.1 (live h more) in
      ((a.0, both.0, a.2), both.1)
  acquired (Err err) a more same =
      let both = holds_as_many p d d' a.0 a.1 seen.legal still (refused_none false d.number c err a.0 a.2) same in
      ((a.0, both.0, a.2), both.1)

  pub looked : {E : Type 0} (result : Result PinnedCell E) → OnOk result (Goes p d (Pin d.number c ∷ []) d') → OnErr result (Goes p d (Miss d.number c ∷ []) d') → IfOk result AtCell → OnErr result (d'.pins ≡ d.pins)
      → OnOk result (GoesPinned p d (Pin d.number c ∷ []) d') × OnErr result (GoesPinned p d (Miss d.number c ∷ []) d') × HoldsStill d'
  looked (Ok h) hit missed more same =
      let both = holds_one_more p d d' (Pin d.number c ∷ []) hit seen.legal still c h.slot (pins_one d.number c) more.1 (live h more) in
      (both.0, tt, both.1)
  looked (Err e) hit missed more same =
      let both = holds_as_many p d d' (Miss d.number c ∷ []) missed seen.legal still (misses_none d.number c) same in
      (tt, both.0, both.1)

-- facts of an answer
pub and_ok : {X E : Type 0} (r : Result X E) (P Q R : X → Type 0) → ((x : X) → P x → Q x → R x) → IfOk r P → IfOk r Q → IfOk r R
and_ok (Ok x) P Q R f p q = f x p q
and_ok (Err e) P Q R f p q = tt

pub on_err : {X E : Type 0} (r : Result X E) (A B : Type 0) → (A → B) → OnErr r A → OnErr r B
on_err (Ok x) A B f a = tt
on_err (Err e) A B f a = f a

pub cause_of : {S : Type 0} (shows : S → Contents) (t : Pins S) (c : ℕ) (d d' : Doing S (Option (Made S))) (r : Result PinnedCell AcquireErr) → Acquires shows t c d d' r
    → IfErr r (λ err. (events : List Event) × Goes (plan_at shows t) d events d' × IsRefusedFor shows t c d d' events err)
cause_of shows t c d d' (Ok h) a = tt
cause_of shows t c d d' (Err err) a = (a.events, a.went, a.caused)
