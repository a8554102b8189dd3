-- The run of a script has its headline: whatever else a call did, it left no report.
use Rattle.std.proofs.Common.{◌≡◌, ◌∙◌, ℕ, List, Option, None, Some, Result, Ok, Err, refl, sym, subst}
use Rattle.std.specs.Prelude.{IfOk}
use Rattle.std.specs.declared.alloc.AllocError.{AllocError}
use Rattle.cell_grid.specs.declared.level.Level.{Level}
use Rattle.cell_store.specs.Store.{Contents}
use Rattle.cell_store.specs.Stream.{Stream}
use Rattle.command_words.specs.Request.{request_in}
use Rattle.command_words.specs.declared.request.Request.{Request}
use Rattle.command_words.specs.declared.request.Request.TheVariants.{Info, Solo, Run, Demo}
use Rattle.n5_meta.specs.declared.open_err.OpenErr.{OpenErr}
use Rattle.run_report.specs.declared.report.Report.{Report}
use Rattle.run_report.specs.declared.report.Unwritten.{Unwritten}
use Rattle.run_report.specs.declared.stop.Stop.{Stop}
use Rattle.run_report.specs.declared.stop.Stop.TheVariants as stop
use Rattle.store_calls.specs.Calls.{StoreCall}
use Rattle.view_script.specs.declared.script.Script.{Script}
use Rattle.viewrun_calls.specs.declared.work.Done.{Done}
use Rattle.viewrun_calls.specs.declared.work.Done.TheVariants.{Ran}
use Rattle.viewrun_calls.specs.Headline.{RunsScript}
use Rattle.viewrun_calls.specs.Script.{ReadsScript}
use Rattle.viewrun_calls.specs.Stores.{FirstChanges}
use Rattle.viewrun_calls.specs.Volume.{OpensVolume}
use Rattle.viewrun_calls.specs.Work.{FollowsOpening, FollowsReading, OpensAndRuns, ReadsAndWorks, RunsAndWrites, RunsOpen, Works, told_of}

no_levels : {A : Type 0} (opened : Result (List Level) OpenErr) (report : Report) (unwritten : List Unwritten) → told_of opened ≡ Ok (Ran report unwritten) → A
no_levels (Ok levels) report unwritten is = absurd (cc)
no_levels (Err err) report unwritten is = absurd (cc)

no_stop : {A : Type 0} (stop : Stop) (report : Report) (unwritten : List Unwritten) (work : Result Done Stop) → work ≡ Err stop → work ≡ Ok (Ran report unwritten) → A
no_stop stop report unwritten work stopped is = absurd (cc)

module _ (words : List (List ℕ)) (source source' : Stream) (old new : List Contents) (work : Result Done Stop) (report : Report) (unwritten : List Unwritten) where
  volume_opened : (script : Script) (slots : ℕ) (mid : List Contents) (more : List StoreCall) (opened : Result (List Level) OpenErr) → FollowsOpening script slots mid new more opened work
      → work ≡ Ok (Ran report unwritten) → (levels : List Level) × (opened ≡ Ok levels) × RunsAndWrites script slots levels mid new more report unwritten
  volume_opened script slots mid more (Ok levels) follows is = (levels, refl, subst (λ (w : Result Done Stop). RunsOpen script slots levels mid new more w) is follows)
  volume_opened script slots mid more (Err err) follows is = no_stop (stop.Dataset err) report unwritten work follows.0 is

  ran : (name : List ℕ) (slots : ℕ) (script : Script) (calls : List StoreCall) → request_in words ≡ Some (Solo name slots) → ReadsScript source source' (Ok script)
      → OpensAndRuns script slots old new calls work → work ≡ Ok (Ran report unwritten) → RunsScript words source source' old new report unwritten
  ran name slots script calls asked reads done is =
      let volume = volume_opened script slots done.mid done.more done.opened done.follows is in
      let all = volume.2 in
      let opens : FirstChanges (λ before after. OpensVolume script.head before after (Ok volume.0)) old done.mid =
      subst (λ (r : Result (List Level) OpenErr). FirstChanges (λ before after. OpensVolume script.head before after r) old done.mid) volume.1 done.opens in
      record {
        name = name;
        slots = slots;
        asked = asked;
        script = script;
        reads = reads;
        levels = volume.0;
        opened = done.mid;
        opens = opens;
        within = all.within;
        run = all.run.completes.trace.events;
        closing = all.run.completes.closing;
        servings = all.run.completes.trace.servings;
        shut = all.mid;
        headline = all.run.headline;
        asks = all.run.completes.trace.calls;
        commands = all.run.commands_are;
        writes = all.writes;
      }

  script_read : (name : List ℕ) (slots : ℕ) (calls : List StoreCall) (read : Result Script Stop) → request_in words ≡ Some (Solo name slots) → ReadsScript source source' read
      → FollowsReading slots old new calls read work → work ≡ Ok (Ran report unwritten) → RunsScript words source source' old new report unwritten
  script_read name slots calls (Ok script) asked reads follows is = ran name slots script calls asked reads follows is
  script_read name slots calls (Err stop) asked reads follows is = no_stop stop report unwritten work follows.0 is

  works_headline : (calls : List StoreCall) (read : Result (Option Request) AllocError) → IfOk read (λ request. request ≡ request_in words) → Works read source source' old new calls work
      → work ≡ Ok (Ran report unwritten) → RunsScript words source source' old new report unwritten
  works_headline calls (Ok None) asked works is = no_stop stop.Usage report unwritten work works.0 is
  works_headline calls (Ok (Some (Info root))) asked works is = no_levels works.0.opened report unwritten (sym works.0.told ∙ is)
  works_headline calls (Ok (Some (Solo name slots))) asked works is = script_read name slots calls works.read (sym asked) works.reads works.follows is
  works_headline calls (Ok (Some (Run name slots fetchers))) asked works is = no_stop stop.Usage report unwritten work works.0 is
  works_headline calls (Ok (Some (Demo number))) asked works is = no_stop stop.Usage report unwritten work works.0 is
  works_headline calls (Err memory) asked works is = no_stop stop.Memory report unwritten work works.0 is

  pub call_headline : (calls : List StoreCall) → ReadsAndWorks words source source' old new calls work → work ≡ Ok (Ran report unwritten) → RunsScript words source source' old new report unwritten
  call_headline calls done is = works_headline calls done.read done.reads done.works is
