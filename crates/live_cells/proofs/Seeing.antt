-- What a pass has seen after a step that makes an event, and where a cell is that it has just made live.
use Rattle.std.proofs.Common.{◌≡◌, ◌∙◌, ℕ, List, [], ◌∷◌, Bool, cond, false, eq-eqb, sym, ap, subst, refl}
use Rattle.arr_history.specs.declared.cell_state.CellState.{CellState}
use Rattle.arr_history.specs.declared.cell_state.CellState.TheVariants as cell
use Rattle.arr_history.specs.declared.event.Event.{Event}
use Rattle.arr_history.specs.declared.event.Event.TheVariants.{Live}
use Rattle.arr_history.specs.State.{State}
use Rattle.arr_history.specs.Legal.{LiveIn}
use Rattle.arr_history.specs.History.{after, pass_of}
use Rattle.arr_history.proofs.Leads.{after-append}
use Rattle.pass_roster.specs.History.{entries_by}
use Rattle.pin_words.specs.declared.doing.Doing.{Doing}
use Rattle.pin_words.specs.Plan.{Plan, start_of}
use Rattle.pin_words.specs.Tells.{Adds, HasSeen}
use Rattle.pin_rule.specs.Parts.{PinnedCell}
use Rattle.live_cells.specs.Cells.{IsLiveFor}

module _ {S M : Type 0} (p : Plan S M) where
  pub sees : (d w d' : Doing S M) (e : Event) → Adds p d e w d' → w.number ≡ d.number → HasSeen p d'
  sees d w d' e h same = record {
    legal = h.legal;
    own = subst (λ k. entries_by pass_of k d'.seen ≡ d'.mine) (sym (ap (λ (x : Doing S M). x.number) h.is ∙ same)) h.all_seen;
  }

  made_live : (d w d' : Doing S M) (k c s : ℕ) → Adds p d (Live k c s) w d' → LiveIn ((after (start_of p) d'.seen).cells c) s
  made_live d w d' k c s h = subst (λ (x : CellState). LiveIn x s) (sym here) refl
    where
      before : State
      before = after (start_of p) h.seen.0

      here : (after (start_of p) d'.seen).cells c ≡ cell.Live s false
      here = ap (λ (x : List Event). (after (start_of p) x).cells c) h.seen.1 ∙ (ap (λ (x : State). x.cells c) (after-append (start_of p) h.seen.0 (Live k c s ∷ []))
          ∙ ap (λ (b : Bool). cond b (cell.Live s false) (before.cells c)) (eq-eqb c c refl))

  -- a handle that a publishing gave
  pub published : (d w d' : Doing S M) (k c s : ℕ) (h : PinnedCell) → h.cell ≡ c → h.slot ≡ s → Adds p d (Live k c s) w d' → IsLiveFor p d' h
  published d w d' k c s h cell slot a = subst (λ n. LiveIn ((after (start_of p) d'.seen).cells n) h.slot) (sym cell) (subst (λ n. LiveIn ((after (start_of p) d'.seen).cells c) n) (sym slot) (made_live d w d' k c s a))
