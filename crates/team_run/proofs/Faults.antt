-- One fault licenses one answer.
use Rattle.std.proofs.Common.{◌≡◌, ◌∙◌, ◌+◌, ℕ, cond, Bool, false, List, [], ◌∷◌, ◌++◌, refl, sym, ap, subst, arith}
use Rattle.std.specs.List.{count_by}
use Rattle.std.specs.List.Sorted.{IsPermutation}
use Rattle.std.specs.declared.result.Result.TheVariants.{Ok, Err}
use Rattle.std.specs.Prelude.{Result}
use Rattle.std.proofs.lemmas.List.{append-nil}
use Rattle.std.proofs.lemmas.List.Sorted.{sum_by-IsPermutation}
use Rattle.std.proofs.lemmas.List.Sums.{sum_by-cons}
use Rattle.arr_history.specs.declared.closed.Unsaved.{Unsaved}
use Rattle.arr_history.specs.declared.event.Event.{Event}
use Rattle.arr_history.proofs.Counts.{count_by-append}
use Rattle.cell_file.specs.declared.errors.AcquireErr.{AcquireErr}
use Rattle.cell_file.specs.declared.errors.AcquireErr.TheVariants as cause
use Rattle.fetchers.specs.declared.served.Served.{Served}
use Rattle.fetchers.specs.declared.served.Served.TheVariants as served
use Rattle.fetchers.specs.declared.fetched.Fetched.{Fetched}
use Rattle.run_report.specs.declared.reply.Answer.{Answer}
use Rattle.run_report.specs.declared.reply.Answer.TheVariants as answer
use Rattle.run_report.specs.declared.reply.Refusal.TheVariants as refusal
use Rattle.run_report.specs.declared.reply.Reply.{Reply}
use Rattle.run_report.specs.declared.shot.Shot.{Shot}
use Rattle.scale_pick.specs.declared.view.View.{View}
use Rattle.sole_cache.specs.Cached.{Cached}
use Rattle.sole_cache.specs.Moves.{StoresMove}
use Rattle.sole_cache.specs.Pieces.{IsCaused}
use Rattle.sole_cache.specs.Shut.{Licenses, failed_puts}
use Rattle.sole_cache.proofs.Faults.{none_failed, fault_rises, licenses_on}
use Rattle.store_calls.specs.Calls.{StoreCall}
use Rattle.view_script.specs.declared.command.Command.{Command}
use Rattle.view_script.specs.declared.command.Command.TheVariants as command
use Rattle.view_script.specs.Script.{NumberedCommand}
use Rattle.volatile_cell.specs.Asked.{Asked}
use Rattle.team_run.specs.Desk.{Desk, DeskLeads}
use Rattle.team_run.specs.Fetches.{IsDeskServing, AreDeskServings, fetch_answer}
use Rattle.team_run.specs.Faults.{is_fault, is_fault_of, is_fault_served, fault_replies, fault_servings}
use Rattle.team_run.specs.Serve.{IsGot, IsPutTask, IsServed, ServesTasks}
use Rattle.team_run.specs.Trace.{Trace}
use Rattle.team_run.specs.Views.{IsViewed}
use Rattle.team_run.proofs.EyesLemmas.{desk_on, desk_stays, desk_leads}
use Rattle.team_run.proofs.Histories.{serves_lead}

-- a fact counts one where it holds
abbrev one_if : Bool → ℕ
one_if b = cond b 1 0

-- an acquire that was refused, by its cause
acquire_licenses : (a b : Cached) (cell : ℕ) (err : AcquireErr) (events : List Event) → IsCaused a b cell (Err err) → StoresMove a events b → Licenses a.shown (one_if (is_fault_of err)) b.shown
acquire_licenses a b cell cause.ReadFault events rose moves = fault_rises a b events moves cell rose
acquire_licenses a b cell cause.WriteFault events (slot, (due, (victim, rose))) moves = fault_rises a b events moves due rose
acquire_licenses a b cell (cause.Malformed edited err) events h moves = none_failed a b events moves
acquire_licenses a b cell (cause.TooLong edited len limit) events h moves = none_failed a b events moves
acquire_licenses a b cell cause.Full events h moves = none_failed a b events moves
acquire_licenses a b cell cause.Memory events h moves = none_failed a b events moves

-- the same after events by which nothing failed
later_licenses : (a b d : Desk) (p q : List Event) (u : List Asked) (k : ℕ) → DeskLeads a p u b → DeskLeads b q [] d → Licenses b.cache.shown k d.cache.shown → Licenses a.cache.shown k d.cache.shown
later_licenses a b d p q u k first second h =
    let none : 0 + k ≡ k = omega arith in
    subst (λ n. Licenses a.cache.shown n d.cache.shown) none (licenses_on a.cache b.cache d.cache q 0 k second.cache.moves.stores (none_failed a.cache b.cache p first.cache.moves.stores) h)

serving_licenses : (a b : Desk) (s : Served) (events : List Event) (calls : List Asked) → IsDeskServing a s events calls b
    → Licenses a.cache.shown (one_if (is_fault_served s)) b.cache.shown
serving_licenses a b served.Idle events calls h = none_failed a.cache b.cache events h.led.cache.leads.moves.stores
serving_licenses a b served.Held events calls h = none_failed a.cache b.cache events h.led.cache.leads.moves.stores
serving_licenses a b served.Loaded events calls h = none_failed a.cache b.cache events h.led.cache.leads.moves.stores
serving_licenses a b (served.Refused err) events calls h =
    later_licenses a h.mid b [] events calls _ (desk_leads a h.mid [] calls h.taken) (desk_leads h.mid b events [] h.tried)
    (acquire_licenses h.mid.cache b.cache h.request.cell err events h.cause.caused h.tried.cache.leads.moves.stores)

one_of : {X : Type 0} (p : X → Bool) (x : X) (xs : List X) → count_by p (x ∷ xs) ≡ one_if (p x) + count_by p xs
one_of p x xs = sum_by-cons _ x xs

both_license : (a b d : Desk) (q : List Event) (v : List Asked) (k l n : ℕ) → DeskLeads b q v d → Licenses a.cache.shown k b.cache.shown → Licenses b.cache.shown l d.cache.shown → n ≡ k + l → Licenses a.cache.shown n d.cache.shown
both_license a b d q v k l n leads first second is = subst (λ m. Licenses a.cache.shown m d.cache.shown) (sym is) (licenses_on a.cache b.cache d.cache q k l leads.cache.moves.stores first second)

serving_leads : (a b : Desk) (s : Served) (events : List Event) (calls : List Asked) → IsDeskServing a s events calls b → DeskLeads a events calls b
serving_leads a b served.Idle events calls h = desk_leads a b events calls h.led
serving_leads a b served.Held events calls h = desk_leads a b events calls h.led
serving_leads a b served.Loaded events calls h = desk_leads a b events calls h.led
serving_leads a b (served.Refused err) events calls h = subst (λ (u : List Asked). DeskLeads a events u b) (append-nil calls)
    (desk_on a h.mid b [] events calls [] (desk_leads a h.mid [] calls h.taken) (desk_leads h.mid b events [] h.tried))

servings_lead : (a b : Desk) (servings : List Served) (events : List Event) (calls : List Asked) → AreDeskServings a servings events calls b → DeskLeads a events calls b
servings_lead a b [] events calls (none, silent, same) =
    subst (λ (e : List Event). DeskLeads a e calls b) (sym none) (subst (λ (u : List Asked). DeskLeads a [] u b) (sym silent) (subst (λ (x : Desk). DeskLeads a [] [] x) (sym same) (desk_stays a)))
servings_lead a b (s ∷ servings) events calls (mid, first, rest, asked, more, one, others, split, asks) =
    subst (λ (e : List Event). DeskLeads a e calls b) (sym split) (subst (λ (u : List Asked). DeskLeads a (first ++ rest) u b) (sym asks)
    (desk_on a mid b first rest asked more (serving_leads a mid s first asked one) (servings_lead mid b servings rest more others)))

servings_license : (a b : Desk) (servings : List Served) (events : List Event) (calls : List Asked) → AreDeskServings a servings events calls b → DeskLeads a events calls b
    → Licenses a.cache.shown (fault_servings servings) b.cache.shown
servings_license a b [] events calls h leads = none_failed a.cache b.cache events leads.cache.moves.stores
servings_license a b (s ∷ servings) events calls (mid, first, rest, asked, more, one, others, split, asks) leads =
    let after = servings_lead mid b servings rest more others in
    both_license a mid b rest more _ _ _ after (serving_licenses a mid s first asked one) (servings_license mid b servings rest more others after) (one_of is_fault_served s servings)

-- what a get, a set and a view answer
get_licenses : (a b : Cached) (level : ℕ) (pos : List ℕ) (told : Answer) (events : List Event) (stores : List StoreCall) → IsGot a level pos told events stores b → StoresMove a events b → Licenses a.shown (one_if (is_fault told)) b.shown
get_licenses a b level pos (answer.Value x) events stores h moves = none_failed a b events moves
get_licenses a b level pos answer.Done events stores h moves = absurd h
get_licenses a b level pos (answer.Frame painted) events stores h moves = absurd h
get_licenses a b level pos (answer.Fetched loaded held refused) events stores h moves = absurd h
get_licenses a b level pos (answer.Refused refusal.Outside) events stores h moves = none_failed a b events moves
get_licenses a b level pos (answer.Refused (refusal.TooLarge value)) events stores h moves = none_failed a b events moves
get_licenses a b level pos (answer.Refused (refusal.Acquire err)) events stores (piece, (cell, (at, (voxel, caused)))) moves = acquire_licenses a b cell err events caused moves

set_licenses : (a b : Cached) (level : ℕ) (pos : List ℕ) (x : ℕ) (told : Answer) (events : List Event) (stores : List StoreCall) → IsPutTask a level pos x told events stores b → StoresMove a events b → Licenses a.shown (one_if (is_fault told)) b.shown
set_licenses a b level pos x (answer.Value y) events stores h moves = absurd h
set_licenses a b level pos x answer.Done events stores h moves = none_failed a b events moves
set_licenses a b level pos x (answer.Frame painted) events stores h moves = absurd h
set_licenses a b level pos x (answer.Fetched loaded held refused) events stores h moves = absurd h
set_licenses a b level pos x (answer.Refused refusal.Outside) events stores h moves = none_failed a b events moves
set_licenses a b level pos x (answer.Refused (refusal.TooLarge value)) events stores h moves = none_failed a b events moves
set_licenses a b level pos x (answer.Refused (refusal.Acquire err)) events stores (piece, (cell, (at, (voxel, caused)))) moves = acquire_licenses a b cell err events caused moves

view_licenses : (a b : Desk) (viewer : ℕ) (view : View) (shot : Shot) (events : List Event) (calls : List Asked) (stores : List StoreCall) (told : Answer) → IsViewed a viewer view shot events calls stores told b → StoresMove a.cache events b.cache
    → Licenses a.cache.shown (one_if (is_fault told)) b.cache.shown
view_licenses a b viewer view shot events calls stores (answer.Value x) h moves = absurd h
view_licenses a b viewer view shot events calls stores answer.Done h moves = absurd h
view_licenses a b viewer view shot events calls stores (answer.Frame painted) h moves = none_failed a.cache b.cache events moves
view_licenses a b viewer view shot events calls stores (answer.Fetched loaded held refused) h moves = absurd h
view_licenses a b viewer view shot events calls stores (answer.Refused refusal.Outside) h moves = none_failed a.cache b.cache events moves
view_licenses a b viewer view shot events calls stores (answer.Refused (refusal.TooLarge value)) h moves = absurd h
view_licenses a b viewer view shot events calls stores (answer.Refused (refusal.Acquire err)) h moves =
    later_licenses a h.cut.between b h.cut.events h.cut.piece h.cut.calls _ (desk_leads a h.cut.between h.cut.events h.cut.calls h.cut.led) (desk_leads h.cut.between b h.cut.piece [] h.cut.refused)
    (acquire_licenses h.cut.between.cache b.cache h.cut.cell err h.cut.piece h.cut.cause.caused h.cut.refused.cache.leads.moves.stores)

-- what a command answers and serves
abbrev faults_of : Answer → List Served → ℕ
faults_of told servings = one_if (is_fault told) + fault_servings servings

no_servings : (a b : Desk) (told : Answer) (servings : List Served) → servings ≡ [] → Licenses a.cache.shown (one_if (is_fault told)) b.cache.shown → Licenses a.cache.shown (faults_of told servings) b.cache.shown
no_servings a b told servings none h =
    let same : one_if (is_fault told) + 0 ≡ one_if (is_fault told) = omega arith in
    subst (λ (s : List Served). Licenses a.cache.shown (faults_of told s) b.cache.shown) (sym none) (subst (λ n. Licenses a.cache.shown n b.cache.shown) (sym same) h)

fetched_faults : {X : Type 0} (result : Result Fetched X) → is_fault (fetch_answer result) ≡ false
fetched_faults (Ok fetched) = refl
fetched_faults (Err memory) = refl

command_licenses : (a b : Desk) (viewer : ℕ) (command : Command) (told : Answer) (t : Trace) → IsServed a viewer command told t b → DeskLeads a t.events t.calls b
    → Licenses a.cache.shown (faults_of told t.servings) b.cache.shown
command_licenses a b viewer (command.Get level pos) told t (got, alone) leads = no_servings a b told t.servings alone.servings (get_licenses a.cache b.cache level pos told t.events t.stores got leads.cache.moves.stores)
command_licenses a b viewer (command.Set level pos x) told t (put, alone) leads = no_servings a b told t.servings alone.servings (set_licenses a.cache b.cache level pos x told t.events t.stores put leads.cache.moves.stores)
command_licenses a b viewer (command.View name view) told t (shot, one, none, same, viewed) leads = no_servings a b told t.servings none (view_licenses a b viewer view shot t.events t.calls t.stores told viewed leads.cache.moves.stores)
command_licenses a b viewer (command.Fetch count) told t (none, fetched) leads =
    let quiet : one_if (is_fault told) + fault_servings t.servings ≡ fault_servings t.servings = omega (arith, ap one_if (ap is_fault fetched.told_is ∙ fetched_faults fetched.result)) in
    subst (λ n. Licenses a.cache.shown n b.cache.shown) (sym quiet) (servings_license a b t.servings t.events t.calls fetched.are leads)

pub serves_license : (a d : Desk) (commands : List NumberedCommand) (replies : List Reply) (trace : Trace) → ServesTasks a commands replies trace d
    → Licenses a.cache.shown (fault_replies replies + fault_servings trace.servings) d.cache.shown
serves_license a d [] [] trace served =
    let leads = serves_lead a d [] [] trace served in
    subst (λ (t : Trace). Licenses a.cache.shown (0 + fault_servings t.servings) d.cache.shown) (sym served.0) (none_failed a.cache d.cache trace.events leads.cache.moves.stores)
serves_license a d (c ∷ commands) (r ∷ replies) trace (mid, first, rest, split, one, others) =
    let after = serves_lead mid d commands replies rest others in
    let replied = one_of (λ (s : Reply). is_fault s.answer) r replies in
    let served = count_by-append is_fault_served first.servings rest.servings in
    let sum : fault_replies (r ∷ replies) + fault_servings (first.servings ++ rest.servings) ≡ faults_of r.answer first.servings + (fault_replies replies + fault_servings rest.servings) = omega (arith, replied, served) in
    subst (λ (t : Trace). Licenses a.cache.shown (fault_replies (r ∷ replies) + fault_servings t.servings) d.cache.shown) (sym split)
    (both_license a mid d rest.events rest.calls _ _ _ after (command_licenses a mid c.actor c.command r.answer first one.served one.leads) (serves_license mid d commands replies rest others) sum)
serves_license a d [] (r ∷ replies) trace served = absurd served
serves_license a d (c ∷ commands) [] trace served = absurd served

-- the order in which unsaved cells are told does not matter
pub same_failed : (unsaved told : List Unsaved) → IsPermutation unsaved told → failed_puts told ≡ failed_puts unsaved
same_failed unsaved told same = sum_by-IsPermutation _ unsaved told same
