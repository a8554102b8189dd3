-- The commands' histories are one history, and so is the shutting behind it.
use Rattle.std.proofs.Common.{◌≡◌, ◌∙◌, List, [], ◌∷◌, sym, ap, subst, arith}
use Rattle.std.proofs.lemmas.List.{append-nil}
use Rattle.arr_history.specs.declared.event.Event.{Event}
use Rattle.arr_history.specs.declared.tally.Tally.{Tally}
use Rattle.arr_history.specs.Tally.{IsTally, tally_raised, tally_of, TalliesGrow}
use Rattle.run_report.specs.declared.reply.Reply.{Reply}
use Rattle.view_script.specs.Script.{NumberedCommand}
use Rattle.sole_eyes.specs.SoleEyes.{EyesLeadOn}
use Rattle.team_run.specs.Desk.{Desk, DeskLeads}
use Rattle.team_run.specs.Serve.{ServesTasks}
use Rattle.team_run.specs.Trace.{Trace}
use Rattle.team_run.proofs.EyesLemmas.{desk_on, desk_stays}

pub serves_lead : (a d : Desk) (commands : List NumberedCommand) (replies : List Reply) (trace : Trace) → ServesTasks a commands replies trace d → DeskLeads a trace.events trace.calls d
serves_lead a d [] [] trace served = subst (λ (t : Trace). DeskLeads a t.events t.calls d) (sym served.0) (subst (λ (x : Desk). DeskLeads a [] [] x) (sym served.1) (desk_stays a))
serves_lead a d (c ∷ commands) (r ∷ replies) trace (mid, first, rest, split, one, others) =
    subst (λ (t : Trace). DeskLeads a t.events t.calls d) (sym split) (desk_on a mid d first.events rest.events first.calls rest.calls one.leads (serves_lead mid d commands replies rest others))
serves_lead a d [] (r ∷ replies) trace served = absurd served
serves_lead a d (c ∷ commands) [] trace served = absurd served

-- no count is a count that fits
none_fits : IsTally (tally_of [] [])
none_fits = record { hits = omega arith; misses = omega arith; loads = omega arith; evictions = omega arith; writebacks = omega arith; closed = omega arith }

-- the counts after commands are those of all their events
pub all_told : TalliesGrow → (a d : Desk) (events : List Event) → a.cache.tally ≡ tally_of [] [] → EyesLeadOn a.cache events d.cache → d.cache.tally ≡ tally_of events []
all_told grow a d events begun leads = leads.tally (subst IsTally (sym begun) none_fits) ∙ ap (λ t. tally_raised t events []) begun ∙ sym (grow [] events [])

-- and those of the shutting beside them
pub all_counted : TalliesGrow → (t : Tally) (run closing : List Event) → t ≡ tally_of run [] → tally_raised t [] closing ≡ tally_of run closing
all_counted grow t run closing counted = ap (λ x. tally_raised x [] closing) counted ∙ sym (grow run [] closing) ∙ ap (λ e. tally_of e closing) (append-nil run)
