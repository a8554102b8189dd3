-- What loading a claimed cell comes to, call by call.
use Rattle.std.proofs.Common.{◌≡◌, ◌≤◌, ℕ, List, [], ◌∷◌, ◌++◌, Option, subst, sym, arith}
use Rattle.arr_history.specs.declared.event.Event.{Event}
use Rattle.arr_history.specs.declared.event.Event.TheVariants.{Live, Drop}
use Rattle.cell_file.specs.declared.errors.SaveErr.{SaveErr}
use Rattle.cell_file.specs.declared.errors.FetchErr.{FetchErr}
use Rattle.cell_file.specs.declared.errors.FetchErr.TheVariants as fetching
use Rattle.cell_file.specs.declared.errors.AcquireErr.{AcquireErr}
use Rattle.cell_store.specs.Store.{Contents}
use Rattle.pin_words.specs.declared.doing.Doing.{Doing}
use Rattle.pin_words.specs.declared.doing.Try.{Try}
use Rattle.pin_words.specs.Plan.{Plan, lane_of}
use Rattle.pin_words.specs.Account.{rise}
use Rattle.pin_rule.specs.Parts.{PinnedCell}
use Rattle.pin_rule.specs.declared.made.Made.{Made}
use Rattle.pin_rule.specs.declared.pins.Pins.{Pins}
use Rattle.pin_rule.specs.Calls.{plan_at}
use Rattle.pin_rule.specs.Going.{Goes}
use Rattle.pin_rule.proofs.Goings.{goes_by}
use Rattle.call_events.specs.Pieces.{coming_back}
use Rattle.live_cells.specs.Turning.{ScansForEach, MadeRoom, KeptOut}
use Rattle.live_cells.specs.Loads.{IsCauseOfFetch, IsUngot, IsRoomless, IsLoaded, refusal_of_fetch, refusal_of_save}
use Rattle.live_cells.proofs.Rooming.{scanned_later}

module _ {S : Type 0} (shows : S → Contents) (t : Pins S) (c : ℕ) (a b d : Doing S (Option (Made S))) where
  abbrev p : Plan S (Option (Made S))
  p = plan_at shows t

  scans_later : (events : List Event) (more : List Try) → d.tries ≡ more ++ b.tries → ScansForEach p.slots events a b → ScansForEach p.slots events a d
  scans_later events more e h v is = scanned_later p a b d p.slots v more e (h v is)

  pub loaded : (s : ℕ) (h : PinnedCell) → h.slot ≡ s → MadeRoom p a b → Goes p b (Live b.number c s ∷ []) d → IsLoaded shows t c a d h
  loaded s h e r g = record { turn = r.turn; is_turn = r.is_turn; went = subst (λ n. Goes p a (r.turn ++ Live a.number c n ∷ []) d) (sym e) (goes_by p (λ k. Live k c s ∷ []) a b d r.turn r.went g); scans = scans_later r.turn g.tries.0 g.tries.1 r.scans }

  -- a cause that was found later is one of the whole
  caused_since : (err : FetchErr) → ((l : ℕ) → rise l a ≤ rise l b) → IsCauseOfFetch shows t c b d err → IsCauseOfFetch shows t c a d err
  caused_since fetching.ReadFault up k = let u = up (lane_of p c) in omega (arith, u, k)
  caused_since (fetching.Malformed edited err) up k = k
  caused_since (fetching.TooLong edited len limit) up k = k
  caused_since fetching.Memory up k = k

  pub ungot : (err : FetchErr) (e : AcquireErr) → e ≡ refusal_of_fetch err → MadeRoom p a b → Goes p b (Drop b.number c ∷ []) d → IsCauseOfFetch shows t c b d err → IsUngot shows t c a d e
  ungot err e is r g cause = record { err = err; answer = is; turn = r.turn; is_turn = r.is_turn; went = goes_by p (λ k. Drop k c ∷ []) a b d r.turn r.went g; scans = scans_later r.turn g.tries.0 g.tries.1 r.scans; cause = caused_since err r.went.rises cause }

  pub roomless : (err : SaveErr) (e : AcquireErr) → e ≡ refusal_of_save err → KeptOut p a b err → Goes p b (Drop b.number c ∷ []) d → IsRoomless shows t c a d e
  roomless err e is h g = record {
    err = err;
    answer = is;
    victim = h.victim;
    went = goes_by p (λ k. Drop k c ∷ []) a b d (coming_back a.number h.victim) h.went g;
    scans = scanned_later p a b d p.slots h.victim g.tries.0 g.tries.1 h.scans;
    fault = λ q. let w = h.fault q in let u = g.rises (lane_of p h.victim) in omega (arith, w, u);
  }
