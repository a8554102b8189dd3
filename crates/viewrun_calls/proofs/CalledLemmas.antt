-- The calls of the stores of a call lead from the stores before it to those after it.
use Rattle.std.proofs.Common.{◌≡◌, ℕ, zero, suc, List, [], ◌∷◌, Option, None, Some, Result, Ok, Err, refl, sym, ap, subst}
use Rattle.std.specs.declared.alloc.AllocError.{AllocError}
use Rattle.cell_file.specs.Keys.{KeyNames}
use Rattle.cell_grid.specs.declared.level.Level.{Level}
use Rattle.cell_store.specs.Store.{Contents}
use Rattle.cell_store.specs.Stream.{Stream}
use Rattle.command_words.specs.declared.request.Request.{Request}
use Rattle.command_words.specs.declared.request.Request.TheVariants.{Info, Solo, Run, Demo}
use Rattle.n5_meta.specs.declared.open_err.OpenErr.{OpenErr}
use Rattle.run_report.specs.declared.report.Report.{Report}
use Rattle.run_report.specs.declared.stop.Stop.{Stop}
use Rattle.run_report.specs.declared.stop.Stop.TheVariants as stop
use Rattle.store_calls.specs.Calls.{StoreCall, Getting, Putting, OneChanges, IsCalled, AreCalled}
use Rattle.store_calls.proofs.Composed.{called_on}
use Rattle.team_run.specs.Run.{IsRunOf, run_calls}
use Rattle.view_script.specs.declared.script.Script.{Script}
use Rattle.view_script.specs.Script.{NumberedCommand}
use Rattle.viewrun_calls.specs.declared.work.Done.{Done}
use Rattle.viewrun_calls.specs.declared.work.Done.TheVariants.{Levels, Ran}
use Rattle.viewrun_calls.specs.Stores.{FirstChanges}
use Rattle.viewrun_calls.specs.Work.{RunsAndWrites, RunsOpen, FollowsOpening, FollowsReading, Works}

nothing_called : (old new : List Contents) (calls : List StoreCall) → calls ≡ [] → new ≡ old → AreCalled calls old new
nothing_called old new calls none same = subst (λ (k : List StoreCall). AreCalled k old new) (sym none) same

none_some : (x : Contents) → None ≡ Some x → ⊥
none_some x e = cc

-- One store that is asked alone is asked alike as the first of a list.
changed : (P : Contents → Contents → Type 0) (lane : ℕ) (a : Contents) (rest mid : List Contents) → OneChanges P lane (a ∷ []) mid → (x : Contents) × (mid ≡ x ∷ []) × OneChanges P lane (a ∷ rest) (x ∷ rest)
changed P zero a rest mid (before, after, there, changes, is) = (after, is, (before, after, there, changes, refl))
changed P (suc lane) a rest mid (before, after, there, changes, is) = absurd (none_some before there)

asked : (c : StoreCall) (a : Contents) (rest mid : List Contents) → IsCalled c (a ∷ []) mid → (x : Contents) × (mid ≡ x ∷ []) × IsCalled c (a ∷ rest) (x ∷ rest)
asked (Getting lane key limit answer found) a rest mid h = changed _ lane a rest mid h
asked (Putting lane key bytes answer) a rest mid h = changed _ lane a rest mid h

same_first : (a b : Contents) (rest : List Contents) → b ∷ [] ≡ a ∷ [] → b ∷ rest ≡ a ∷ rest
same_first a b rest e = let same : b ≡ a = cc in ap (λ x. x ∷ rest) same

alone_first : (calls : List StoreCall) (a b : Contents) (rest : List Contents) → AreCalled calls (a ∷ []) (b ∷ []) → AreCalled calls (a ∷ rest) (b ∷ rest)
alone_first [] a b rest same = same_first a b rest same
alone_first (c ∷ calls) a b rest (mid, one, more) =
    let x = asked c a rest mid one in
    (x.0 ∷ rest, x.2, alone_first calls x.0 b rest (subst (λ (l : List Contents). AreCalled calls l (b ∷ [])) x.1 more))

first_called : (calls : List StoreCall) (old new : List Contents) → FirstChanges (λ before after. AreCalled calls (before ∷ []) (after ∷ [])) old new → AreCalled calls old new
first_called calls [] new h = absurd h
first_called calls (a ∷ old) [] h = absurd h
first_called calls (a ∷ old) (b ∷ new) (h, same) = subst (λ (l : List Contents). AreCalled calls (a ∷ old) (b ∷ l)) (sym same) (alone_first calls a b old h)

run_called : (levels : List Level) (keys : KeyNames) (slots : ℕ) (commands : List NumberedCommand) (old mid : List Contents) (report : Report) (run : IsRunOf levels keys slots commands old mid report) → AreCalled (run_calls run.completes) old mid
run_called levels keys slots commands old mid report run =
    subst (λ (l : List Contents). AreCalled (run_calls run.completes) l mid) run.begins
    (called_on run.first.shown run.completes.last.cache.shown mid run.completes.trace.stores run.completes.closing_calls run.completes.called run.completes.closing_called)

put_called : (script : Script) (slots : ℕ) (levels : List Level) (old new : List Contents) (calls : List StoreCall) (report : Report) (unwritten : List Rattle.run_report.specs.declared.report.Unwritten.Unwritten)
    → RunsAndWrites script slots levels old new calls report unwritten → AreCalled calls old new
put_called script slots levels old new calls report unwritten r =
    subst (λ (k : List StoreCall). AreCalled k old new) (sym r.calls_are)
    (called_on old r.mid new (run_calls r.run.completes) r.puts (run_called levels _ slots _ old r.mid report r.run) (first_called r.puts r.mid new (first_with r.mid new r.put)))
  where
    first_with : (mid new : List Contents) → FirstChanges (λ before after. Rattle.viewrun_calls.specs.Pictures.PutsWith report.shots r.puts before after unwritten) mid new → FirstChanges (λ before after. AreCalled r.puts (before ∷ []) (after ∷ [])) mid new
    first_with [] new h = absurd h
    first_with (a ∷ mid) [] h = absurd h
    first_with (a ∷ mid) (b ∷ new) h = (h.0.called, h.1)

run_open_called : (script : Script) (slots : ℕ) (levels : List Level) (old new : List Contents) (calls : List StoreCall) (work : Result Done Stop) → RunsOpen script slots levels old new calls work → AreCalled calls old new
run_open_called script slots levels old new calls (Ok (Ran report unwritten)) h = put_called script slots levels old new calls report unwritten h
run_open_called script slots levels old new calls (Err (stop.Slots found low high)) h = nothing_called old new calls h.1 h.0.4
run_open_called script slots levels old new calls (Err stop.Memory) h = nothing_called old new calls h.1 h.0
run_open_called script slots levels old new calls (Ok (Levels l)) h = absurd h
run_open_called script slots levels old new calls (Err stop.Usage) h = absurd h
run_open_called script slots levels old new calls (Err (stop.Script line kind)) h = absurd h
run_open_called script slots levels old new calls (Err (stop.Dataset err)) h = absurd h
run_open_called script slots levels old new calls (Err stop.WriteFault) h = absurd h
run_open_called script slots levels old new calls (Err stop.ReadFault) h = absurd h

opening_called : (script : Script) (slots : ℕ) (old new : List Contents) (calls : List StoreCall) (opened : Result (List Level) OpenErr) (work : Result Done Stop) → FollowsOpening script slots old new calls opened work → AreCalled calls old new
opening_called script slots old new calls (Ok levels) work h = run_open_called script slots levels old new calls work h
opening_called script slots old new calls (Err err) work h = nothing_called old new calls h.2 h.1

reading_called : (slots : ℕ) (old new : List Contents) (calls : List StoreCall) (read : Result Script Stop) (work : Result Done Stop) → FollowsReading slots old new calls read work → AreCalled calls old new
reading_called slots old new calls (Ok script) work h =
    subst (λ (k : List StoreCall). AreCalled k old new) (sym h.calls_are)
    (called_on old h.mid new h.gets h.more (first_called h.gets old h.mid h.asked) (opening_called script slots h.mid new h.more h.opened work h.follows))
reading_called slots old new calls (Err stop) work h = nothing_called old new calls h.2 h.1

pub works_called : (read : Result (Option Request) AllocError) (source source' : Stream) (old new : List Contents) (calls : List StoreCall) (work : Result Done Stop) → Works read source source' old new calls work → AreCalled calls old new
works_called (Ok None) source source' old new calls work h = nothing_called old new calls h.3 h.2
works_called (Ok (Some (Info root))) source source' old new calls work h = first_called calls old new h.0.asked
works_called (Ok (Some (Solo script slots))) source source' old new calls work h = reading_called slots old new calls h.read work h.follows
works_called (Ok (Some (Run script slots fetchers))) source source' old new calls work h = nothing_called old new calls h.3 h.2
works_called (Ok (Some (Demo number))) source source' old new calls work h = nothing_called old new calls h.3 h.2
works_called (Err memory) source source' old new calls work h = nothing_called old new calls h.3 h.2
