-- The run of a script by threads has its headline and its trail: whatever else a call did, it left no report and no trail.
use Rattle.std.proofs.Common.{◌≡◌, ◌⊎◌, inl, inr, ℕ, List, length, Option, None, Some, Result, Ok, Err, refl, sym, subst}
use Rattle.std.specs.Prelude.{IfOk}
use Rattle.std.specs.declared.alloc.AllocError.{AllocError}
use Rattle.arr_history.specs.declared.event.Event.{Event}
use Rattle.cell_grid.specs.declared.level.Level.{Level}
use Rattle.cell_store.specs.Store.{Contents}
use Rattle.cell_store.specs.Stream.{Stream}
use Rattle.command_words.specs.Request.{request_in}
use Rattle.command_words.specs.declared.request.Request.{Request}
use Rattle.command_words.specs.declared.request.Request.TheVariants.{Info, Solo, Run, Demo}
use Rattle.demo_script.specs.Script.{demo_script}
use Rattle.demo_volume.specs.declared.make_err.MakeErr.{MakeErr}
use Rattle.demo_volume.specs.Puts.{Makes, keys_of}
use Rattle.n5_meta.specs.declared.open_err.OpenErr.{OpenErr}
use Rattle.run_report.specs.declared.report.Report.{Report}
use Rattle.run_report.specs.declared.report.Unwritten.{Unwritten}
use Rattle.run_report.specs.declared.stop.Stop.{Stop}
use Rattle.run_report.specs.declared.stop.Stop.TheVariants as stop
use Rattle.view_script.specs.declared.script.Script.{Script}
use Rattle.viewrun_calls.specs.declared.work.Done.{Done}
use Rattle.viewrun_calls.specs.declared.work.Done.TheVariants.{Levels, Ran}
use Rattle.viewrun_calls.specs.Script.{ReadsScript}
use Rattle.viewrun_calls.specs.Stores.{FirstChanges}
use Rattle.viewrun_calls.specs.Volume.{OpensVolume}
use Rattle.thread_calls.specs.Call.{IsTrailed}
use Rattle.thread_calls.specs.Demo.{FollowsMaking, demo_fetchers, demo_slots, stop_of}
use Rattle.thread_calls.specs.Headline.{IsDemoRun, IsReadRun, ThreadsRunScript}
use Rattle.thread_calls.specs.Run.{FollowsOpening, FollowsReading, OpensAndRuns, RunsAndWrites, RunsOpen, StopsAt}
use Rattle.thread_calls.specs.Work.{Works}

pub no_stop : {A : Type 0} (stop : Stop) (report : Report) (unwritten : List Unwritten) (work : Result Done Stop) → work ≡ Err stop → work ≡ Ok (Ran report unwritten) → A
no_stop stop report unwritten work stopped is = absurd (cc)

module _ (words : List (List ℕ)) (source source' : Stream) (old new : List Contents) (work : Result Done Stop) (trail : Option (List Event)) where
  module _ (report : Report) (unwritten : List Unwritten) where
    -- where there is a report there is a trail
    with_trail : (script : Script) (slots fetchers : ℕ) (levels : List Level) (mid : List Contents) (t : Option (List Event)) → RunsOpen script slots fetchers levels mid new (Ok (Ran report unwritten)) t
        → (history : List Event) × (t ≡ Some history) × RunsAndWrites script slots fetchers levels mid new report unwritten history
    with_trail script slots fetchers levels mid None runs = absurd runs
    with_trail script slots fetchers levels mid (Some history) runs = (history, refl, runs)

    volume_opened : (script : Script) (slots fetchers : ℕ) (mid : List Contents) (opened : Result (List Level) OpenErr) → FollowsOpening script slots fetchers mid new opened work trail
        → work ≡ Ok (Ran report unwritten)
        → (levels : List Level) × (opened ≡ Ok levels) × (history : List Event) × (trail ≡ Some history) × RunsAndWrites script slots fetchers levels mid new report unwritten history
    volume_opened script slots fetchers mid (Ok levels) follows is =
        let all = with_trail script slots fetchers levels mid trail (subst (λ (w : Result Done Stop). RunsOpen script slots fetchers levels mid new w trail) is follows) in
        (levels, refl, all.0, all.1, all.2)
    volume_opened script slots fetchers mid (Err err) follows is = no_stop (stop.Dataset err) report unwritten work follows.0 is

    -- a script was there, its volume opened, and it was run
    ran : (script : Script) (slots fetchers : ℕ) (begun : List Contents) → IsReadRun words source source' old begun script slots fetchers ⊎ IsDemoRun words source source' old begun script slots fetchers
        → OpensAndRuns script slots fetchers begun new work trail → work ≡ Ok (Ran report unwritten) → ThreadsRunScript words source source' old new report unwritten trail
    ran script slots fetchers begun asked done is =
        let volume = volume_opened script slots fetchers done.mid done.opened done.follows is in
        let all = volume.4 in
        let opens : FirstChanges (λ before after. OpensVolume script.head before after (Ok volume.0)) begun done.mid =
        subst (λ (r : Result (List Level) OpenErr). FirstChanges (λ before after. OpensVolume script.head before after r) begun done.mid) volume.1 done.opens in
        record {
          script = script;
          slots = slots;
          fetchers = fetchers;
          begun = begun;
          asked = asked;
          levels = volume.0;
          opened = done.mid;
          opens = opens;
          least = all.least;
          most = all.most;
          history = volume.2;
          trail_is = volume.3;
          shut = all.mid;
          run = all.run;
          writes = all.writes;
        }

    script_read : (name : List ℕ) (slots fetchers : ℕ) (read : Result Script Stop) → request_in words ≡ Some (Run name slots fetchers) → ReadsScript source source' read
        → FollowsReading slots fetchers old new read work trail → work ≡ Ok (Ran report unwritten) → ThreadsRunScript words source source' old new report unwritten trail
    script_read name slots fetchers (Ok script) asked reads follows is =
        ran script slots fetchers old (inl (record { name = name; asked = asked; reads = reads; as_given = refl })) follows is
    script_read name slots fetchers (Err stop) asked reads follows is = no_stop stop report unwritten work follows.0 is

    pyramid_made : (number : ℕ) (made : Result (Unit {0}) MakeErr) (mid : List Contents) → request_in words ≡ Some (Demo number) → source' ≡ source → Makes (keys_of number (length old)) old mid made
        → FollowsMaking mid new made work trail → work ≡ Ok (Ran report unwritten) → ThreadsRunScript words source source' old new report unwritten trail
    pyramid_made number (Ok done) mid asked unread makes follows is =
        ran demo_script demo_slots demo_fetchers mid
        (inr (record { number = number; asked = asked; unread = unread; makes = makes; script_is = refl; slots_are = refl; fetchers_are = refl })) follows is
    pyramid_made number (Err err) mid asked unread makes follows is = no_stop (stop_of err) report unwritten work follows.0 is

    pub call_headline : (read : Result (Option Request) AllocError) → IfOk read (λ request. request ≡ request_in words) → Works read source source' old new work trail
        → work ≡ Ok (Ran report unwritten) → ThreadsRunScript words source source' old new report unwritten trail
    call_headline (Ok None) asked works is = no_stop stop.Usage report unwritten work works.0.0 is
    call_headline (Ok (Some (Info root))) asked works is = no_stop stop.Usage report unwritten work works.0.0 is
    call_headline (Ok (Some (Solo name slots))) asked works is = no_stop stop.Usage report unwritten work works.0.0 is
    call_headline (Ok (Some (Run name slots fetchers))) asked works is = script_read name slots fetchers works.read (sym asked) works.reads works.follows is
    call_headline (Ok (Some (Demo number))) asked works is = pyramid_made number works.0.made works.0.mid (sym asked) works.1 works.0.makes works.0.follows is
    call_headline (Err memory) asked works is = no_stop stop.Memory report unwritten work works.0.0 is

-- a stop has no trail
stop_trailed : (stop : Stop) (old new : List Contents) (work : Result Done Stop) (trail : Option (List Event)) → StopsAt stop old new work trail → IsTrailed work trail
stop_trailed stop old new work trail stops = subst (λ (w : Result Done Stop). IsTrailed w trail) (sym stops.0) stops.1

run_trailed : (script : Script) (slots fetchers : ℕ) (levels : List Level) (old new : List Contents) (work : Result Done Stop) (trail : Option (List Event)) → RunsOpen script slots fetchers levels old new work trail → IsTrailed work trail
run_trailed script slots fetchers levels old new (Ok (Ran report unwritten)) (Some history) runs = refl
run_trailed script slots fetchers levels old new (Ok (Ran report unwritten)) None runs = absurd runs
run_trailed script slots fetchers levels old new (Ok (Levels l)) trail runs = absurd runs
run_trailed script slots fetchers levels old new (Err stop) None runs = refl
run_trailed script slots fetchers levels old new (Err (stop.Slots found low high)) (Some history) runs = absurd runs
run_trailed script slots fetchers levels old new (Err stop.Memory) (Some history) runs = absurd runs
run_trailed script slots fetchers levels old new (Err stop.Usage) (Some history) runs = absurd runs
run_trailed script slots fetchers levels old new (Err (stop.Script line kind)) (Some history) runs = absurd runs
run_trailed script slots fetchers levels old new (Err (stop.Dataset err)) (Some history) runs = absurd runs
run_trailed script slots fetchers levels old new (Err stop.WriteFault) (Some history) runs = absurd runs
run_trailed script slots fetchers levels old new (Err stop.ReadFault) (Some history) runs = absurd runs

opening_trailed : (script : Script) (slots fetchers : ℕ) (old new : List Contents) (opened : Result (List Level) OpenErr) (work : Result Done Stop) (trail : Option (List Event))
    → FollowsOpening script slots fetchers old new opened work trail → IsTrailed work trail
opening_trailed script slots fetchers old new (Ok levels) work trail follows = run_trailed script slots fetchers levels old new work trail follows
opening_trailed script slots fetchers old new (Err err) work trail follows = stop_trailed (stop.Dataset err) old new work trail follows

reading_trailed : (slots fetchers : ℕ) (old new : List Contents) (read : Result Script Stop) (work : Result Done Stop) (trail : Option (List Event)) → FollowsReading slots fetchers old new read work trail → IsTrailed work trail
reading_trailed slots fetchers old new (Ok script) work trail done = opening_trailed script slots fetchers done.mid new done.opened work trail done.follows
reading_trailed slots fetchers old new (Err stop) work trail follows = stop_trailed stop old new work trail follows

making_trailed : (old new : List Contents) (made : Result (Unit {0}) MakeErr) (work : Result Done Stop) (trail : Option (List Event)) → FollowsMaking old new made work trail → IsTrailed work trail
making_trailed old new (Ok made) work trail done = opening_trailed demo_script demo_slots demo_fetchers done.mid new done.opened work trail done.follows
making_trailed old new (Err err) work trail follows = stop_trailed (stop_of err) old new work trail follows

pub works_trailed : (read : Result (Option Request) AllocError) (source source' : Stream) (old new : List Contents) (work : Result Done Stop) (trail : Option (List Event)) → Works read source source' old new work trail → IsTrailed work trail
works_trailed (Ok None) source source' old new work trail works = stop_trailed stop.Usage old new work trail works.0
works_trailed (Ok (Some (Info root))) source source' old new work trail works = stop_trailed stop.Usage old new work trail works.0
works_trailed (Ok (Some (Solo name slots))) source source' old new work trail works = stop_trailed stop.Usage old new work trail works.0
works_trailed (Ok (Some (Run name slots fetchers))) source source' old new work trail works = reading_trailed slots fetchers old new works.read work trail works.follows
works_trailed (Ok (Some (Demo number))) source source' old new work trail works = making_trailed works.0.mid new works.0.made work trail works.0.follows
works_trailed (Err memory) source source' old new work trail works = stop_trailed stop.Memory old new work trail works.0
