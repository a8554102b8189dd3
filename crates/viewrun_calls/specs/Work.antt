-- What a call does by what its words ask for, in the order of work: the script, its volume, the slots, the run.
use Rattle.std.specs.Prelude.{◌≡◌, ℕ, ◌+◌, List, [], ◌∷◌, ◌++◌, Option, Some, None, Result, Ok, Err, IfOk}
use Rattle.std.specs.declared.alloc.AllocError.{AllocError}
use Rattle.cell_grid.specs.declared.level.Level.{Level}
use Rattle.cell_store.specs.Store.{Contents}
use Rattle.cell_store.specs.Stream.{Stream}
use Rattle.command_words.specs.Request.{request_in}
use Rattle.command_words.specs.declared.request.Request.{Request}
use Rattle.command_words.specs.declared.request.Request.TheVariants.{Info, Solo, Run, Demo}
use Rattle.n5_meta.specs.Asks.{AsksPyramid}
use Rattle.n5_meta.specs.declared.open_err.OpenErr.{OpenErr}
use Rattle.run_report.specs.declared.report.Report.{Report}
use Rattle.run_report.specs.declared.report.Unwritten.{Unwritten}
use Rattle.run_report.specs.declared.stop.Stop.{Stop}
use Rattle.run_report.specs.declared.stop.Stop.TheVariants as stop
use Rattle.team_run.specs.declared.ran.RunErr.TheVariants.{Slots}
use Rattle.sole_cache.specs.Shut.{Licenses, failed_puts}
use Rattle.store_calls.specs.Calls.{StoreCall, AreCalled}
use Rattle.team_run.specs.Range.{commands_over}
use Rattle.team_run.specs.Run.{IsRunOf, IsWithinSlotLimits, SoloAnswers, fault_replies, fault_servings, run_calls}
use Rattle.view_script.specs.declared.script.Script.{Script}
use Rattle.viewrun_calls.specs.declared.work.Done.{Done}
use Rattle.viewrun_calls.specs.declared.work.Done.TheVariants.{Levels, Ran}
use Rattle.viewrun_calls.specs.Pictures.{PutsShots, PutsWith, WritesPictures, failed_pictures}
use Rattle.viewrun_calls.specs.Script.{ReadsScript, TakesFew}
use Rattle.viewrun_calls.specs.Stores.{FirstChanges}
use Rattle.viewrun_calls.specs.Volume.{OpensPyramid, OpensVolume, AsksVolume, keys_of}

-- the levels, or the refusal of the dataset
abbrev pub told_of : Result (List Level) OpenErr → Result Done Stop
told_of (Ok levels) = Ok (Levels levels)
told_of (Err err) = Err (stop.Dataset err)

-- The levels under a root were read from the first store, with these calls of the stores.
pub record Informs (root : List ℕ) (old new : List Contents) (calls : List StoreCall) (work : Result Done Stop) : Type 0 where
  pub opened : Result (List Level) OpenErr
  pub opens : FirstChanges (λ before after. OpensPyramid root before after opened) old new
  pub asks : AsksPyramid root calls opened
  pub asked : FirstChanges (λ before after. AreCalled calls (before ∷ []) (after ∷ [])) old new
  pub told : work ≡ told_of opened

-- A run was carried out and its cache shut, and then its pictures were put into the first store.
pub record RunsAndWrites (script : Script) (slots : ℕ) (levels : List Level) (old new : List Contents) (calls : List StoreCall) (report : Report) (unwritten : List Unwritten) : Type 0 where
  pub within : IsWithinSlotLimits levels slots
  pub mid : List Contents
  pub run : IsRunOf levels (keys_of script.head levels) slots (commands_over levels script) old mid report
  pub writes : FirstChanges (WritesPictures levels (keys_of script.head levels) report.shots unwritten) mid new
  -- the calls of the stores are those of the run, and the puts of the pictures
  pub puts : List StoreCall
  pub put : FirstChanges (λ before after. PutsWith report.shots puts before after unwritten) mid new
  pub calls_are : calls ≡ run_calls run.completes ++ puts
  -- one fault licenses one answer: the counts of the stores rose by as many as are told, those of pictures among them
  pub licensed : Licenses old (fault_replies report.replies + fault_servings run.completes.trace.servings + failed_puts report.unsaved + failed_pictures unwritten) new

-- The pictures of a report were put into the first store, and told beside it.
pub record WritesShots (report : Report) (old new : List Contents) (work : Result Done Stop) : Type 0 where
  pub unwritten : List Unwritten
  pub done : work ≡ Ok (Ran report unwritten)
  pub puts : FirstChanges (λ before after. PutsShots report.shots before after unwritten) old new

-- An open volume's commands were run, or the slots refused. Where there is no run the stores come back as they were.
abbrev pub RunsOpen : Script → ℕ → List Level → List Contents → List Contents → List StoreCall → Result Done Stop → Type 0
RunsOpen script slots levels old new calls (Ok (Ran report unwritten)) = RunsAndWrites script slots levels old new calls report unwritten
RunsOpen script slots levels old new calls (Err (stop.Slots found low high)) = SoloAnswers levels (keys_of script.head levels) slots (commands_over levels script) old new (Err (Slots found low high)) × (calls ≡ [])
RunsOpen script slots levels old new calls (Err stop.Memory) = (new ≡ old) × (calls ≡ [])
RunsOpen script slots levels old new calls other = ⊥

-- what follows the opening of a volume
abbrev pub FollowsOpening : Script → ℕ → List Contents → List Contents → List StoreCall → Result (List Level) OpenErr → Result Done Stop → Type 0
FollowsOpening script slots old new calls (Ok levels) work = RunsOpen script slots levels old new calls work
FollowsOpening script slots old new calls (Err err) work = (work ≡ Err (stop.Dataset err)) × (new ≡ old) × (calls ≡ [])

-- A script's volume was opened, which changes at most the first store's log and faults, and then run.
pub record OpensAndRuns (script : Script) (slots : ℕ) (old new : List Contents) (calls : List StoreCall) (work : Result Done Stop) : Type 0 where
  pub opened : Result (List Level) OpenErr
  pub mid : List Contents
  pub opens : FirstChanges (λ before after. OpensVolume script.head before after opened) old mid
  pub gets : List StoreCall
  pub asks : AsksVolume script.head gets opened
  pub asked : FirstChanges (λ before after. AreCalled gets (before ∷ []) (after ∷ [])) old mid
  pub more : List StoreCall
  pub follows : FollowsOpening script slots mid new more opened work
  pub calls_are : calls ≡ gets ++ more

-- what follows the reading of a script
abbrev pub FollowsReading : ℕ → List Contents → List Contents → List StoreCall → Result Script Stop → Result Done Stop → Type 0
FollowsReading slots old new calls (Ok script) work = OpensAndRuns script slots old new calls work
FollowsReading slots old new calls (Err stop) work = (work ≡ Err stop) × (new ≡ old) × (calls ≡ [])

-- A script was read of its source, and then its volume opened and run.
pub record ReadsAndRuns (slots : ℕ) (source source' : Stream) (old new : List Contents) (calls : List StoreCall) (work : Result Done Stop) : Type 0 where
  pub read : Result Script Stop
  pub reads : ReadsScript source source' read
  pub few : TakesFew source source'
  pub follows : FollowsReading slots old new calls read work

-- Nothing was done: neither the source nor a store was touched.
abbrev pub Stops : Stop → Stream → Stream → List Contents → List Contents → List StoreCall → Result Done Stop → Type 0
Stops stop source source' old new calls work = (work ≡ Err stop) × (source' ≡ source) × (new ≡ old) × (calls ≡ [])

-- What is done on one thread by what is asked for, with its calls of the stores. Words that ask for nothing touch neither the source nor a store, nor do
-- those that ask for more threads, nor words that found no memory when they were read; `info` doesn't touch the source.
abbrev pub Works : Result (Option Request) AllocError → Stream → Stream → List Contents → List Contents → List StoreCall → Result Done Stop → Type 0
Works (Ok None) source source' old new calls work = Stops stop.Usage source source' old new calls work
Works (Ok (Some (Info root))) source source' old new calls work = Informs root old new calls work × (source' ≡ source)
Works (Ok (Some (Solo script slots))) source source' old new calls work = ReadsAndRuns slots source source' old new calls work
Works (Ok (Some (Run script slots fetchers))) source source' old new calls work = Stops stop.Usage source source' old new calls work
Works (Ok (Some (Demo number))) source source' old new calls work = Stops stop.Usage source source' old new calls work
Works (Err memory) source source' old new calls work = Stops stop.Memory source source' old new calls work

-- The words were read, and then what they ask for was done.
pub record ReadsAndWorks (words : List (List ℕ)) (source source' : Stream) (old new : List Contents) (calls : List StoreCall) (work : Result Done Stop) : Type 0 where
  pub read : Result (Option Request) AllocError
  pub reads : IfOk read (λ request. request ≡ request_in words)
  pub works : Works read source source' old new calls work
