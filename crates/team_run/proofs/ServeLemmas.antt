-- Commands that were carried out, and more of them.
use Rattle.std.proofs.Common.{◌≡◌, ◌∙◌, List, [], ◌∷◌, ◌++◌, refl, sym, ap, subst, append_assoc}
use Rattle.std.proofs.lemmas.List.{append-nil}
use Rattle.run_report.specs.declared.reply.Answer.{Answer}
use Rattle.run_report.specs.declared.reply.Reply.{Reply}
use Rattle.run_report.specs.declared.shot.Shot.{Shot}
use Rattle.view_script.specs.Script.{NumberedCommand}
use Rattle.team_run.specs.Desk.{Desk}
use Rattle.team_run.specs.Headline.{IsFullRefusal}
use Rattle.team_run.specs.Serve.{AnswersTask, ServesTasks, Adds}
use Rattle.team_run.specs.Trace.{Trace, nothing, and_then}

-- traces one after another, and none
pub then_none : (t : Trace) → and_then t nothing ≡ t
then_none t = rw (append-nil t.events, append-nil t.calls, append-nil t.stores, append-nil t.shots, append-nil t.servings) refl

pub then_joins : (t u v : Trace) → and_then (and_then t u) v ≡ and_then t (and_then u v)
then_joins t u v = rw (append_assoc t.events u.events v.events, append_assoc t.calls u.calls v.calls, append_assoc t.stores u.stores v.stores, append_assoc t.shots u.shots v.shots, append_assoc t.servings u.servings v.servings) refl

pub serves_on : (a b d : Desk) (commands more : List NumberedCommand) (replies further : List Reply) (t u : Trace)
    → ServesTasks a commands replies t b → ServesTasks b more further u d → ServesTasks a (commands ++ more) (replies ++ further) (and_then t u) d
serves_on a b d [] more [] further t u first second = subst (λ c. ServesTasks c more further (and_then t u) d) first.1 (subst (λ (v : Trace). ServesTasks b more further (and_then v u) d) (sym first.0) second)
serves_on a b d (c ∷ commands) more (r ∷ replies) further t u (mid, one, rest, split, served, others) second =
    (mid, one, and_then rest u, ap (λ (v : Trace). and_then v u) split ∙ then_joins one rest u, served, serves_on mid b d commands more replies further rest u others second)
serves_on a b d [] more (r ∷ replies) further t u first second = absurd first
serves_on a b d (c ∷ commands) more [] further t u first second = absurd first

pub adds_none : (a : Desk) (replies : List Reply) (shots : List Shot) → Adds a [] replies replies shots shots a
adds_none a replies shots = record { replies = []; trace = nothing; added = sym (append-nil replies); kept = sym (append-nil shots); served = (refl, refl) }

pub adds_on : (a b d : Desk) (commands more : List NumberedCommand) (r s t : List Reply) (x y z : List Shot) → Adds a commands r s x y b → Adds b more s t y z d → Adds a (commands ++ more) r t x z d
adds_on a b d commands more r s t x y z first second = record {
  replies = first.replies ++ second.replies;
  trace = and_then first.trace second.trace;
  added = second.added ∙ ap (λ l. l ++ second.replies) first.added ∙ append_assoc r first.replies second.replies;
  kept = second.kept ∙ ap (λ l. l ++ second.trace.shots) first.kept ∙ append_assoc x first.trace.shots second.trace.shots;
  served = serves_on a b d commands more first.replies second.replies first.trace second.trace first.served second.served;
}

-- one command was carried out
pub adds_one : (a b : Desk) (command : NumberedCommand) (told : Answer) (shots : List Shot) (r s : List Reply) (x y : List Shot) → AnswersTask a command.actor command.command told shots b
    → ¬ IsFullRefusal told → s ≡ r ++ record { phase = command.phase; actor = command.actor; call = command.call; answer = told } ∷ [] → y ≡ x ++ shots → Adds a (command ∷ []) r s x y b
adds_one a b command told shots r s x y answers not_full replied kept = record {
  replies = record { phase = command.phase; actor = command.actor; call = command.call; answer = told } ∷ [];
  trace = answers.trace;
  added = replied;
  kept = kept ∙ ap (λ l. x ++ l) answers.shots_are;
  served = (b, answers.trace, nothing, sym (then_none answers.trace), record { phase = refl; actor = refl; call = refl; served = answers.served; leads = answers.leads; called = answers.called; not_full = not_full }, (refl, refl));
}
