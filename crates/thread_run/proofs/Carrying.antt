-- A run by threads, from how it was carried out.
use Rattle.std.proofs.Common.{◌≡◌, ◌∙◌, ℕ, ◌+◌, ◌≤◌, All, List, [], ◌++◌, map, Option, refl, sym, ap, subst, arith}
use Rattle.std.proofs.lemmas.List.{append-nil, append_cancel_left, length-map}
use Rattle.arr_history.specs.declared.event.Event.{Event}
use Rattle.arr_history.specs.History.{AreLegal, pass_of}
use Rattle.cell_file.specs.Keys.{KeyNames}
use Rattle.cell_grid.specs.declared.level.Level.{Level}
use Rattle.cell_store.specs.Store.{Contents}
use Rattle.pass_roster.specs.History.{entries_by}
use Rattle.pass_roster.specs.Phases.{InPhases}
use Rattle.pass_roster.proofs.Gathering.{gather, phases_stand}
use Rattle.pin_rule.specs.declared.made.Made.{Made}
use Rattle.pin_rule.specs.declared.pins.Pins.{Pins}
use Rattle.pin_rule.specs.Calls.{made_of, plan_at}
use Rattle.pin_rule.specs.Going.{Goes}
use Rattle.pin_words.specs.Plan.{Plan}
use Rattle.pin_words.specs.Words as cells
use Rattle.queue_desk.specs.Asking.{asker_of}
use Rattle.queue_desk.specs.Desk.{HistoriesAreAsked}
use Rattle.run_report.specs.declared.reply.Reply.{Reply}
use Rattle.run_report.specs.declared.report.Report.{Report}
use Rattle.stood_arrays.specs.Pyramid.{shape_by, start_by}
use Rattle.team_actors.specs.Causes.{AreCausedReplies}
use Rattle.team_actors.specs.Rises.{rises_of_ended}
use Rattle.team_phases.specs.Phases.{ArePlayed, events_in, entries_in}
use Rattle.team_run.specs.Desk.{first_queue}
use Rattle.team_run.specs.Faults.{fault_replies, fault_servings}
use Rattle.team_run.specs.Headline.{IsFullRefusal, IsHeadline}
use Rattle.thread_plan.specs.Scenes.{flat}
use Rattle.turn_cell.specs.PassView as queue
use Rattle.view_script.specs.Script.{NumberedCommand}
use Rattle.thread_run.specs.Carried.{IsCarriedOut}
use Rattle.thread_run.specs.Frames.{HistoriesShowMoments}
use Rattle.thread_run.specs.Headlines.{ShutCellsHaveHeadline}
use Rattle.thread_run.specs.Run.{IsThreadRun}
use Rattle.thread_run.proofs.NeverFull.{played_not_full}

module _ (shown_moments : HistoriesShowMoments) (machine : HistoriesAreAsked) {S : Type 0} (headlines : ShutCellsHaveHeadline S) (shows : S → Contents) (t : Pins S) (fetchers : ℕ) (phases : List (List (List NumberedCommand))) (stores : List S) (report : Report) (trail : List Event) (r : IsCarriedOut shows t fetchers phases stores report trail) where
  abbrev p : Plan S (Option (Made S))
  p = plan_at shows t

  abbrev levels : List Level
  levels = (made_of t).levels.value

  abbrev keys : KeyNames
  keys = (made_of t).keys.value

  abbrev before : List Contents
  before = map shows (made_of t).stores.value.items

  abbrev closing : List Event
  closing = r.shut.closing

  abbrev went : Goes p r.last closing r.shut.last
  went = r.shut.shut.went

  all : r.shut.last.seen ≡ r.last.seen ++ closing
  all = sym r.shut.seen_is ∙ r.shut.history_is

  -- all of the shutting is the first pass's own
  own : entries_by pass_of 0 closing ≡ closing
  own =
      let number : r.last.number ≡ 0 = (gather cells.passes r.first (map events_in r.deeds) r.last r.plays.cells).number ∙ r.begins.number in
      let same : went.between ≡ closing = append_cancel_left r.last.seen went.between closing (sym went.seen ∙ all) in
      (λ i. entries_by pass_of (sym number i) (sym same i)) ∙ went.own

  stand : InPhases pass_of 1 (map events_in r.deeds) r.last.seen
  stand = phases_stand cells.passes r.first r.last r.shut.last (map events_in r.deeds) closing r.begins r.plays.cells r.shut.whole.whole went.ended all own went.mine went.drawn

  queue_stands : InPhases asker_of 1 (entries_in 1 r.deeds) r.last_asks.seen
  queue_stands = subst (λ (n : ℕ). InPhases asker_of 1 (entries_in n r.deeds) r.last_asks.seen) r.begins_asking.drawn
      (phases_stand queue.passes r.first_asks r.last_asks r.last_asks (entries_in r.first_asks.drawn r.deeds) [] r.begins_asking r.plays.queue r.all_asked refl (sym (append-nil r.last_asks.seen)) refl (sym (append-nil r.last_asks.mine)) refl)

  few : fault_replies report.replies + fault_servings r.served ≤ rises_of_ended p r.last
  few = let a = r.plays.licensed in let e = ap fault_replies r.replied in omega (arith, a, e)

  headline : IsHeadline levels keys (made_of t).slots before (map shows stores) r.last.seen closing r.served report
  headline = headlines shows t r.last stores r.unsaved r.tally trail r.served report r.shut r.tallied r.named r.ascending
      (subst (All (λ (x : Reply). ¬ IsFullRefusal x.answer)) (sym r.replied) (played_not_full levels keys before fetchers r.first.drawn phases r.replies r.shots r.served r.deeds r.plays.are r.plays.caused)) few

  pub run : IsThreadRun levels keys (made_of t).slots fetchers phases before (map shows stores) report trail
  run = record {
    history = r.last.seen;
    closing = closing;
    trail_is = r.shut.history_is;
    servings = r.served;
    headline = headline;
    lanes = length-map stores shows ∙ r.shut.settled.count ∙ sym (length-map (made_of t).stores.value.items shows);
    replies = r.replies;
    shots = r.shots;
    deeds = r.deeds;
    played = subst (λ (n : ℕ). ArePlayed levels fetchers n phases r.replies r.shots r.served r.deeds) r.begins.drawn r.plays.are;
    replies_are = r.replied;
    shots_are = r.pictured;
    caused = subst (AreCausedReplies levels keys before (flat (flat phases))) (sym r.replied) r.plays.caused;
    stand = stand;
    unsaved = r.unsaved;
    shut = r.shut.shut.cells;
    named = r.named;
    queued = r.last_asks.seen;
    last = r.left;
    asked = machine (first_queue levels) r.left r.last_asks.seen r.led;
    queue_stands = queue_stands;
    moments = shown_moments (shape_by levels keys (made_of t).slots before) (start_by levels keys before) levels trail
        (subst (AreLegal (shape_by levels keys (made_of t).slots before) (start_by levels keys before)) (sym r.shut.history_is) headline.legal);
  }
