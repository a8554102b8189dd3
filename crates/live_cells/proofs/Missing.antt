-- Misses one after another, and what a miss tells.
use Rattle.std.proofs.Common.{◌≡◌, ◌≢◌, ◌∙◌, ℕ, zero, suc, List, [], ◌∷◌, ◌++◌, Option, refl, sym, ap, subst}
use Rattle.arr_history.specs.declared.event.Event.{Event}
use Rattle.arr_history.specs.declared.event.Event.TheVariants.{Miss}
use Rattle.arr_history.specs.declared.cell_state.CellState.{CellState}
use Rattle.arr_history.specs.declared.cell_state.CellState.TheVariants as cell
use Rattle.arr_history.specs.declared.cell_state.Seen.{Seen}
use Rattle.arr_history.specs.declared.cell_state.Seen.TheVariants as seen
use Rattle.arr_history.specs.History.{after, AreLegal}
use Rattle.arr_history.specs.Legal.{IsLive}
use Rattle.arr_history.specs.State.{State}
use Rattle.arr_history.proofs.Leads.{after-append, legal-parts}
use Rattle.call_events.specs.Pieces.{misses}
use Rattle.pin_words.specs.declared.doing.Doing.{Doing}
use Rattle.pin_words.specs.Plan.{Plan, shape_of, start_of}
use Rattle.pin_words.specs.Pins.{seen_of}
use Rattle.pin_rule.specs.declared.made.Made.{Made}
use Rattle.pin_rule.specs.Calls.{IsRefusedPin}

-- one more miss, before what follows
pub missed_more : (k c n : ℕ) (events : List Event) → misses k c n ++ Miss k c ∷ events ≡ misses k c (suc n) ++ events
missed_more k c zero events = refl
missed_more k c (suc n) events = ap (λ x. Miss k c ∷ x) (missed_more k c n events)

pub missed_once : (k c n : ℕ) → misses k c n ++ Miss k c ∷ [] ≡ misses k c (suc n)
missed_once k c zero = refl
missed_once k c (suc n) = ap (λ x. Miss k c ∷ x) (missed_once k c n)

-- a miss is legal only where the cell isn't live
pub missed_not_live : {S : Type 0} (p : Plan S (Option (Made S))) (d d' : Doing S (Option (Made S))) (c : ℕ) (state : Seen) → IsRefusedPin p d c state d' → state ≢ seen.Live
missed_not_live p d d' c state h is = go ((after (start_of p) h.0.seen.0).cells c) missed (sym is ∙ (h.1 ∙ ap seen_of same))
  where
    parts : AreLegal (shape_of p) (start_of p) (h.0.seen.0 ++ Miss d.number c ∷ [])
    parts = subst (AreLegal (shape_of p) (start_of p)) h.0.seen.1 h.0.legal

    missed : ¬ IsLive ((after (start_of p) h.0.seen.0).cells c)
    missed = ((legal-parts (shape_of p) (start_of p) h.0.seen.0 (Miss d.number c ∷ [])).0 parts).1.0.1

    same : (after (start_of p) d'.seen).cells c ≡ (after (start_of p) h.0.seen.0).cells c
    same = ap (λ (x : List Event). (after (start_of p) x).cells c) h.0.seen.1 ∙ ap (λ (x : State). x.cells c) (after-append (start_of p) h.0.seen.0 (Miss d.number c ∷ []))

    go : (s : CellState) → ¬ IsLive s → seen.Live ≡ seen_of s → ⊥
    go cell.Absent missed e = cc
    go (cell.Loading k) missed e = cc
    go (cell.Live slot mark) missed e = missed tt
    go (cell.Leaving k slot mark) missed e = cc
