-- The number of a demonstration decides its line.
use Rattle.std.proofs.Common.{◌≡◌, ◌∙◌, ◌⊎◌, inl, inr, ℕ, ◌+◌, ◌≤◌, ◌==◌, Bool, true, false, IsTrue, List, [], ◌∷◌, ◌++◌, length, map, Option, None, Some, Result, Ok, Err, codes, refl, sym, ap, subst, if◌then◌else◌}
use Rattle.std.specs.Prelude.{IfOk, sum}
use Rattle.std.specs.List.{sum_by}
use Rattle.std.specs.declared.alloc.AllocError.{AllocError}
use Rattle.std.proofs.lemmas.List.Sums.{sum_by-cons}
use Rattle.arr_history.specs.declared.event.Event.{Event}
use Rattle.cell_grid.specs.declared.level.Level.{Level}
use Rattle.cell_store.specs.Store.{Contents}
use Rattle.cell_store.specs.Stream.{Stream}
use Rattle.command_words.specs.Request.{request_in}
use Rattle.command_words.specs.declared.request.Request.{Request}
use Rattle.command_words.specs.declared.request.Request.TheVariants.{Demo, Run}
use Rattle.demo_arrays.specs.Held.{HoldsDemo}
use Rattle.demo_arrays.proofs.HoldsLemmas.{all_made}
use Rattle.demo_arrays.proofs.DrawnLemmas.{are_drawn}
use Rattle.demo_frames.specs.Pictures.{pictures}
use Rattle.demo_frames.specs.Answers.{AreDemoReplies}
use Rattle.demo_frames.proofs.Answering.{demo_answered}
use Rattle.demo_frames.proofs.Showing.{demo_shown}
use Rattle.demo_script.specs.Line.{line_text}
use Rattle.demo_script.specs.Script.{demo_script}
use Rattle.demo_script.specs.Sum.{pixel_sum}
use Rattle.demo_volume.specs.declared.make_err.MakeErr.{MakeErr}
use Rattle.demo_volume.specs.Levels.{key_names, levels}
use Rattle.n5_meta.specs.declared.open_err.OpenErr.{OpenErr}
use Rattle.run_report.specs.declared.print.PrintErr.{PrintErr}
use Rattle.run_report.specs.declared.print.PrintErr.TheVariants as print
use Rattle.run_report.specs.declared.report.Report.{Report}
use Rattle.run_report.specs.declared.report.Unwritten.{Unwritten}
use Rattle.run_report.specs.declared.shot.Shot.{Shot}
use Rattle.run_report.specs.declared.stop.Stop.{Stop}
use Rattle.run_report.specs.declared.stop.Stop.TheVariants as stop
use Rattle.run_report.specs.Dataset.{is_read_fault, opening_wants_memory}
use Rattle.run_report.specs.Printed.{Prints}
use Rattle.run_report.specs.Report.{has_put, has_refusal, report_text, status_of_report}
use Rattle.run_report.specs.Words.{line}
use Rattle.thread_plan.specs.Scenes.{scenes_over}
use Rattle.thread_run.specs.Run.{IsThreadRun}
use Rattle.view_script.specs.declared.script.Script.{Script}
use Rattle.viewrun_calls.specs.declared.work.Done.{Done}
use Rattle.viewrun_calls.specs.declared.work.Done.TheVariants.{Levels, Ran}
use Rattle.viewrun_calls.specs.Ending.{status_after}
use Rattle.viewrun_calls.specs.Stores.{FirstChanges}
use Rattle.viewrun_calls.specs.Volume.{OpensVolume, keys_of}
use Rattle.thread_calls.specs.Call.{CarriesOut, HasHeadline, IsThreadCall, TellsCounts}
use Rattle.thread_calls.specs.Decided.{AreUnedited, NumberDecides, sum_of}
use Rattle.thread_calls.specs.Demo.{FollowsMaking, demo_fetchers, demo_slots, stop_of}
use Rattle.thread_calls.specs.Ending.{AreFilled, AreFilledBy, EndsBy, demo_text, number_of}
use Rattle.thread_calls.specs.Headline.{IsDemoRun, IsReadRun, ThreadsRunScript}
use Rattle.thread_calls.specs.Run.{FollowsOpening, OpensAndRuns, RunsOpen}
use Rattle.thread_calls.specs.Work.{Works}
use Rattle.thread_calls.proofs.HeadlineLemmas.{call_headline, no_stop, works_trailed}
use Rattle.thread_calls.proofs.MadeLemmas.{opened_made}

-- the bytes of a picture's pixels
abbrev bytes_in : Shot → List ℕ
bytes_in shot = shot.picture.values

-- the sum of pictures is that of their bytes
sum_in : (shots : List Shot) → pixel_sum shots ≡ sum_by sum (map bytes_in shots)
sum_in [] = refl
sum_in (s ∷ shots) = sum_by-cons (λ (t : Shot). sum t.picture.values) s shots ∙ ap (λ n. sum s.picture.values + n) (sum_in shots) ∙ sym (sum_by-cons sum (bytes_in s) (map bytes_in shots))

-- a run of the demonstration's script over its pyramid shows the pictures of the number, and answers each command
module _ (number slots fetchers : ℕ) (begun opened shut : List Contents) (report : Report) (history : List Event) (holds : HoldsDemo number begun) (clean : has_refusal report ≡ false) where
  abbrev Shows : Type 0
  Shows = (AreFilled report.shots → map bytes_in report.shots ≡ pictures number) × AreDemoReplies report.replies

  over_levels : (found : List Level) → found ≡ levels → 1 ≤ length opened → HoldsDemo number opened
      → IsThreadRun found (keys_of demo_script.head found) slots fetchers (scenes_over found demo_script) opened shut report history → Shows
  over_levels found same some still run =
      let own : IsThreadRun levels key_names slots fetchers (scenes_over levels demo_script) opened shut report history =
      subst (λ (l : List Level). IsThreadRun l (keys_of demo_script.head l) slots fetchers (scenes_over l demo_script) opened shut report history) same run in
      (λ filled. demo_shown number slots fetchers opened shut report history some still.told (are_drawn number opened still) own filled clean, demo_answered slots fetchers opened shut report history own clean)

  shows : (script : Script) (found : List Level) → script ≡ demo_script → FirstChanges (λ before after. OpensVolume script.head before after (Ok found)) begun opened
      → IsThreadRun found (keys_of script.head found) slots fetchers (scenes_over found script) opened shut report history → Shows
  shows script found is opens run =
      let made = opened_made number begun opened found holds (subst (λ (s : Script). FirstChanges (λ before after. OpensVolume s.head before after (Ok found)) begun opened) is opens) in
      over_levels found made.0 made.1 made.2 (subst (λ (s : Script). IsThreadRun found (keys_of s.head found) slots fetchers (scenes_over found s) opened shut report history) is run)

same_demo : (a b : ℕ) → Some (Demo a) ≡ Some (Demo b) → a ≡ b
same_demo a b is = cc

not_both : {A : Type 0} (name : List ℕ) (slots fetchers number : ℕ) → Some (Run name slots fetchers) ≡ Some (Demo number) → A
not_both name slots fetchers number is = absurd (cc)

-- its sum is the one that the number decides, and each command was done
done_whole : (words : List (List ℕ)) (source source' : Stream) (old new : List Contents) (report : Report) (unwritten : List Unwritten) (trail : Option (List Event)) (number : ℕ)
    → ThreadsRunScript words source source' old new report unwritten trail → request_in words ≡ Some (Demo number) → AreUnedited old → has_refusal report ≡ false → (AreFilled report.shots → pixel_sum report.shots ≡ sum_of number) × AreDemoReplies report.replies
done_whole words source source' old new report unwritten trail number r asked free clean = by_asking r.asked
  where
    by_asking : IsReadRun words source source' old r.begun r.script r.slots r.fetchers ⊎ IsDemoRun words source source' old r.begun r.script r.slots r.fetchers → (AreFilled report.shots → pixel_sum report.shots ≡ sum_of number) × AreDemoReplies report.replies
    by_asking (inl read) = not_both read.name r.slots r.fetchers number (sym read.asked ∙ asked)
    by_asking (inr demo) =
        let same : demo.number ≡ number = same_demo demo.number number (sym demo.asked ∙ asked) in
        let holds : HoldsDemo number r.begun = subst (λ n. HoldsDemo n r.begun) same (all_made demo.number old r.begun free.told free.unedited demo.makes) in
        let shown = shows number r.slots r.fetchers r.begun r.opened r.shut report r.history holds clean r.script r.levels demo.script_is r.opens r.run in
        (λ filled. sum_in report.shots ∙ ap (sum_by sum) (shown.0 filled), shown.1)

-- a call that ran no script has another status than 0
stop_told : {A : Type 0} (stop : Stop) (printed : Result (Unit {0}) PrintErr) → 0 ≡ status_after (Err stop) printed → A
stop_told stop.Usage (Ok done) is = absurd (cc)
stop_told (stop.Script number kind) (Ok done) is = absurd (cc)
stop_told {A} (stop.Dataset err) (Ok done) is = by_opening (opening_wants_memory err) (is_read_fault err) is
  where
    by_opening : (memory fault : Bool) → ◌≡◌ {A = ℕ} 0 (if memory then 7 else if fault then 5 else 4) → A
    by_opening true fault told = absurd (cc)
    by_opening false true told = absurd (cc)
    by_opening false false told = absurd (cc)
stop_told stop.WriteFault (Ok done) is = absurd (cc)
stop_told stop.Memory (Ok done) is = absurd (cc)
stop_told stop.ReadFault (Ok done) is = absurd (cc)
stop_told (stop.Slots found low high) (Ok done) is = absurd (cc)
stop_told stop (Err print.Failed) is = absurd (cc)
stop_told stop (Err print.Memory) is = absurd (cc)

-- a demonstration ran its script, or was stopped
abbrev Outcome : Result Done Stop → Type 0
Outcome work = ((report : Report) × (unwritten : List Unwritten) × (work ≡ Ok (Ran report unwritten))) ⊎ ((stop : Stop) × (work ≡ Err stop))

run_outcome : (script : Script) (slots fetchers : ℕ) (found : List Level) (old new : List Contents) (work : Result Done Stop) (trail : Option (List Event)) → RunsOpen script slots fetchers found old new work trail → Outcome work
run_outcome script slots fetchers found old new (Ok (Ran report unwritten)) trail runs = inl (report, unwritten, refl)
run_outcome script slots fetchers found old new (Ok (Levels l)) trail runs = absurd runs
run_outcome script slots fetchers found old new (Err stop) trail runs = inr (stop, refl)

opening_outcome : (script : Script) (slots fetchers : ℕ) (old new : List Contents) (work : Result Done Stop) (trail : Option (List Event)) → OpensAndRuns script slots fetchers old new work trail → Outcome work
opening_outcome script slots fetchers old new work trail done = by_volume done.opened done.follows
  where
    by_volume : (opened : Result (List Level) OpenErr) → FollowsOpening script slots fetchers done.mid new opened work trail → Outcome work
    by_volume (Ok found) follows = run_outcome script slots fetchers found done.mid new work trail follows
    by_volume (Err err) follows = inr (stop.Dataset err, follows.0)

making_outcome : (old new : List Contents) (made : Result (Unit {0}) MakeErr) (work : Result Done Stop) (trail : Option (List Event)) → FollowsMaking old new made work trail → Outcome work
making_outcome old new (Ok done) work trail follows = opening_outcome demo_script demo_slots demo_fetchers old new work trail follows
making_outcome old new (Err err) work trail follows = inr (stop_of err, follows.0)

-- of what was read of the words
works_outcome : (read : Result (Option Request) AllocError) (number : ℕ) (source source' : Stream) (old new : List Contents) (work : Result Done Stop) (trail : Option (List Event))
    → IfOk read (λ request. request ≡ Some (Demo number)) → Works read source source' old new work trail → Outcome work
works_outcome (Ok request) number source source' old new work trail is works =
    let done = subst (λ (r : Option Request). Works (Ok r) source source' old new work trail) is works in
    making_outcome done.0.mid new done.0.made work trail done.0.follows
works_outcome (Err memory) number source source' old new work trail is works = inr (stop.Memory, works.0.0)

-- a report's status is 0 only where no reply is a refusal
no_refusal : (memory fault refusal : Bool) → ◌≡◌ {A = ℕ} 0 (if memory then 7 else if fault then 5 else if refusal then 1 else 0) → refusal ≡ false
no_refusal true fault refusal is = absurd (cc)
no_refusal false true refusal is = absurd (cc)
no_refusal false false true is = absurd (cc)
no_refusal false false false is = refl

clean : (report : Report) (unwritten : List Unwritten) → 0 ≡ status_of_report report unwritten → has_refusal report ≡ false
clean report unwritten = no_refusal (has_put true report unwritten) (has_put false report unwritten) (has_refusal report)

-- the text where the status is 0
whole_text : (number : ℕ) (report : Report) (unwritten : List Unwritten) → 0 ≡ status_of_report report unwritten → demo_text number report unwritten ≡ line (line_text number (pixel_sum report.shots))
whole_text number report unwritten is = ap (λ n. if n == 0 then line (line_text number (pixel_sum report.shots)) else report_text report unwritten) (sym is)

module _ (number : ℕ) (report : Report) (unwritten : List Unwritten) (old new : Stream) (total : ℕ) (sums : 0 ≡ status_of_report report unwritten → pixel_sum report.shots ≡ total) (told : IsTrue old.told) where
  printed_whole : (printed : Result (Unit {0}) PrintErr) → Prints old new (demo_text number report unwritten) printed → 0 ≡ status_after (Ok (Ran report unwritten)) printed
      → new.bytes ≡ old.bytes ++ line (line_text number total)
  printed_whole (Ok done) prints is =
      prints.holds told ∙ ap (λ t. old.bytes ++ t) (whole_text number report unwritten is ∙ ap (λ n. line (line_text number n)) (sums is))
  printed_whole (Err print.Failed) prints is = absurd (cc)
  printed_whole (Err print.Memory) prints is = absurd (cc)

number_read : (read : Result (Option Request) AllocError) (asked : Option Request) (number : ℕ) → IfOk read (λ request. request ≡ asked) → asked ≡ Some (Demo number) → IfOk read (λ request. request ≡ Some (Demo number))
number_read read asked number is same = subst (λ (r : Option Request). IfOk read (λ request. request ≡ r)) same is

-- a report's number was read of the words
number_told : (read : Result (Option Request) AllocError) (number : ℕ) (source source' : Stream) (old new : List Contents) (report : Report) (unwritten : List Unwritten) (work : Result Done Stop) (trail : Option (List Event))
    → IfOk read (λ request. request ≡ Some (Demo number)) → Works read source source' old new work trail → work ≡ Ok (Ran report unwritten) → number_of read ≡ Some number
number_told (Ok request) number source source' old new report unwritten work trail is works ran = ap (λ (r : Option Request). number_of (Ok r)) is
number_told (Err memory) number source source' old new report unwritten work trail is works ran = no_stop stop.Memory report unwritten work works.0.0 ran

module _ (words : List (List ℕ)) (source source' : Stream) (old new : List Contents) (before after : Stream) (status : ℕ) (trail : Option (List Event)) where
  pub decides : (call : CarriesOut words source source' old new before after status trail) → HasHeadline call → AreFilledBy (number_of call.read) call.work → NumberDecides words old before after status
  decides call headline filled number asked free told zero =
      let is = number_read call.read (request_in words) number call.reads asked in
      elim (works_outcome call.read number source source' old new call.work trail is call.works) [
        | inl ran ↦
            let report = ran.0 in
            let unwritten = ran.1 in
            let named = number_told call.read number source source' old new report unwritten call.work trail is call.works ran.2 in
            let ends : EndsBy (Some number) (Ok (Ran report unwritten)) before after status =
            subst (λ (w : Result Done Stop). EndsBy (Some number) w before after status) ran.2 (subst (λ (n : Option ℕ). EndsBy n call.work before after status) named call.ends) in
            let own : AreFilledBy (Some number) (Ok (Ran report unwritten)) =
            subst (λ (w : Result Done Stop). AreFilledBy (Some number) w) ran.2 (subst (λ (n : Option ℕ). AreFilledBy n call.work) named filled) in
            let sums = λ (none : 0 ≡ status_of_report report unwritten).
            (done_whole words source source' old new report unwritten trail number (headline report unwritten ran.2) asked free (clean report unwritten none)).0 (own (sym none)) in
            printed_whole number report unwritten before after (sum_of number) sums told ends.printed ends.prints (sym zero ∙ ends.status_is)
        | inr stopped ↦
            let ends : EndsBy (number_of call.read) (Err stopped.0) before after status = subst (λ (w : Result Done Stop). EndsBy (number_of call.read) w before after status) stopped.1 call.ends in
            stop_told stopped.0 ends.printed (sym zero ∙ ends.status_is)
      ]

  counts : (call : CarriesOut words source source' old new before after status trail) → HasHeadline call → TellsCounts call
  counts call headline number asked free report unwritten ran zero =
      (done_whole words source source' old new report unwritten trail number (headline report unwritten ran) asked free (clean report unwritten (sym zero))).1

  -- all of a call
  pub whole_call : (read : Result (Option Request) AllocError) → IfOk read (λ request. request ≡ request_in words) → (work : Result Done Stop) → Works read source source' old new work trail
      → EndsBy (number_of read) work before after status → AreFilledBy (number_of read) work → IsThreadCall words source source' old new before after status trail
  whole_call read reads work works ends filled =
      let call : CarriesOut words source source' old new before after status trail = record { read = read; reads = reads; work = work; works = works; ends = ends } in
      let headline : HasHeadline call = λ report unwritten is. call_headline words source source' old new work trail report unwritten read reads works is in record {
        call = call;
        headline = headline;
        decides = decides call headline filled;
        counts = counts call headline;
        trailed = works_trailed read source source' old new work trail works;
      }
