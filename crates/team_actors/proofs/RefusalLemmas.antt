-- Why a cell was refused, by the bytes that its store held before the run; a fault is licensed by a rise.
use Rattle.std.proofs.Common.{◌≡◌, ◌∙◌, ℕ, ◌+◌, ◌≤◌, cond, List, length, sym, subst, subst₂, arith}
use Rattle.std.specs.Prelude.{IsTrue, Some, Option}
use Rattle.std.proofs.lemmas.List.{length-map}
use Rattle.arr_history.specs.declared.event.Event.{Event}
use Rattle.cell_file.specs.Standing.{refusal_of}
use Rattle.cell_file.specs.declared.errors.AcquireErr.{AcquireErr}
use Rattle.cell_file.specs.declared.errors.AcquireErr.TheVariants as cause
use Rattle.cell_file.specs.declared.errors.FetchErr.{FetchErr}
use Rattle.cell_file.specs.declared.errors.FetchErr.TheVariants as fetching
use Rattle.cell_store.specs.Store.{Contents, held_of}
use Rattle.pin_words.specs.declared.doing.Doing.{Doing}
use Rattle.pin_words.specs.Plan.{Plan, lane_of, shown}
use Rattle.pin_rule.specs.declared.made.Made.{Made}
use Rattle.pin_rule.specs.declared.pins.Pins.{Pins}
use Rattle.pin_rule.specs.Calls.{made_of, plan_at}
use Rattle.pin_rule.specs.Going.{Goes}
use Rattle.live_cells.specs.Cells.{IsRefusedFor}
use Rattle.live_cells.specs.Loads.{IsRefusedAtFirst}
use Rattle.stood_arrays.specs.Opening.{is_told, store_for}
use Rattle.team_eyes.specs.Teammate.{Teammate, TeamLeads, IsTeamRefusal, plan_in, levels_in}
use Rattle.team_run.specs.Faults.{is_fault_of}
use Rattle.volatile_cell.specs.Asked.{Asked}
use Rattle.team_actors.specs.Answers.{keys_in}
use Rattle.team_actors.specs.Causes.{IsRefusedBefore, IsCausedBy}
use Rattle.team_actors.specs.Rises.{rises_of}
use Rattle.team_actors.proofs.RiseLemmas.{rises_stay, rises_grow}

module _ {S : Type 0} (shows : S → Contents) (t : Pins S) where
  abbrev plan : Plan S (Option (Made S))
  plan = plan_at shows t

  refused_before : (c : ℕ) (err : FetchErr) → IsRefusedAtFirst shows t c err → IsRefusedBefore (made_of t).levels.value (made_of t).keys.value (shown plan) c err
  refused_before c err h =
      subst (λ n. IsTrue (is_told n (shown plan) c) → refusal_of (made_of t).levels.value (made_of t).keys.value (held_of (store_for n (shown plan) c)) c ≡ Some err) (sym (length-map plan.stores shows)) h

  module _ (c : ℕ) (d d' : Doing S (Option (Made S))) (events : List Event) where
    pub refused_cause : (err : AcquireErr) → IsRefusedFor shows t c d d' events err → IsCausedBy (made_of t).levels.value (made_of t).keys.value (shown plan) c err
    refused_cause cause.ReadFault h = tt
    refused_cause cause.WriteFault h = tt
    refused_cause (cause.Malformed edited err) h = refused_before c (fetching.Malformed edited err) h
    refused_cause (cause.TooLong edited len limit) h = refused_before c (fetching.TooLong edited len limit) h
    refused_cause cause.Full h = h
    refused_cause cause.Memory h = tt

    pub refused_rise : (err : AcquireErr) (own : List Event) → IsRefusedFor shows t c d d' events err → Goes plan d own d' → length d.rises ≡ plan.lanes
        → rises_of plan d + cond (is_fault_of err) 1 0 ≤ rises_of plan d'
    refused_rise cause.ReadFault own h went each = rises_grow plan d d' own went each (lane_of plan c) h
    refused_rise cause.WriteFault own (v, closed, grew) went each = rises_grow plan d d' own went each (lane_of plan v) grew
    refused_rise (cause.Malformed edited err) own h went each = let stay = rises_stay plan d d' own went in omega arith
    refused_rise (cause.TooLong edited len limit) own h went each = let stay = rises_stay plan d d' own went in omega arith
    refused_rise cause.Full own h went each = absurd h
    refused_rise cause.Memory own h went each = let stay = rises_stay plan d d' own went in omega arith

-- a refusal after something led there
pub record IsExplained {S : Type 0} (a b : Teammate S) (cell : ℕ) (err : AcquireErr) : Type 0 where
  pub caused : IsCausedBy (levels_in a) (keys_in a) (shown (plan_in a)) cell err
  pub licensed : rises_of (plan_in a) a.cells + cond (is_fault_of err) 1 0 ≤ rises_of (plan_in a) b.cells

pub later_refusal : {S : Type 0} (a mid b : Teammate S) (events : List Event) (calls : List Asked) (cell : ℕ) (err : AcquireErr) → TeamLeads a events calls mid → IsTeamRefusal mid b cell err → length a.cells.rises ≡ (plan_in a).lanes
    → IsExplained a b cell err
later_refusal {S} a mid b events calls cell err led refused each =
    let own = refused.0 in
    let told : Goes (plan_in a) mid.cells own b.cells × IsRefusedFor a.shows a.table cell mid.cells b.cells own err =
    subst₂ (λ (shows : S → Contents) (t : Pins S). Goes (plan_at shows t) mid.cells own b.cells × IsRefusedFor shows t cell mid.cells b.cells own err) led.shows led.table (refused.1, refused.2) in
    let stay = rises_stay (plan_in a) a.cells mid.cells events led.cells.went in
    let grew = refused_rise a.shows a.table cell mid.cells b.cells own err own told.1 told.0 (led.cells.went.lanes ∙ each) in
    record { caused = refused_cause a.shows a.table cell mid.cells b.cells own err told.1; licensed = omega (arith, stay, grew) }
