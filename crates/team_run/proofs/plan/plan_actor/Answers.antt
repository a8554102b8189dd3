-- One command more is planned, and at the end all are.
use Rattle.std.proofs.Common.{◌≡◌, ◌∙◌, List, [], ◌∷◌, ◌++◌, All, length, map, refl, sym, ap, subst, append_assoc, arith}
use Rattle.std.proofs.lemmas.List.{map-append, append-nil}
use Rattle.std.proofs.lemmas.List.Elements.{All-tail}
use Rattle.std.specs.List.{enumerate_from}
use Rattle.view_script.specs.declared.command.Command.{Command}
use Rattle.view_script.specs.Script.{IsWithinLimits}
use Rattle.team_run.specs.declared.task.Due.{Due}
use Rattle.team_run.specs.Task.{IsDue, numbered}
use Rattle.team_run.proofs.PlanLemmas.{call_of, calls_are, all_more, none_left}
use Rattle.team_run.proofs.plan.plan_actor.Goals as goal

pub loop-call-preserved : goal.loop-call-preserved
loop-call-preserved c =
    let step = c.in-Some.ensures.steps in
    let one = c.in-Some.command in
    let rest = c.next.new.self.iter.rest.items in
    let was = c.loop-call.invariant in
    let due : Due = record { phase = c.args.phase; actor = c.args.actor; call = c.in-Some.call; task = c.in_ok-task.task } in
    let split : enumerate_from c.loop-call.call-iterator.count c.loop-call.call-iterator.iter.rest.items ≡ (c.in-Some.call, one) ∷ enumerate_from c.next.new.self.count rest =
    rw (step.0.0, step.2, step.1) refl in
    let call = call_of c.args.top c.args.phase c.args.actor in
    record {
      can = c.in-Some.ensures.goes.keeps;
      finite = tt;
      all = was.all ∙ ap (λ r. c.loop-call.yielded ++ r) split ∙ sym (append_assoc c.loop-call.yielded ((c.in-Some.call, one) ∷ []) (enumerate_from c.next.new.self.count rest));
      count = omega (arith, was.count, step.2, ap (length {A = Command}) step.0.0);
      planned = ap (map numbered) c.in_ok-push.ensures.items ∙ map-append numbered c.loop-call.plan.items (due ∷ []) ∙ ap (λ l. l ++ numbered due ∷ []) was.planned
          ∙ append_assoc (map numbered c.args.plan.now.items) (map call c.loop-call.yielded) (numbered due ∷ [])
          ∙ ap (λ (command : Command). map numbered c.args.plan.now.items ++ (map call c.loop-call.yielded ++ record { phase = c.args.phase; actor = c.args.actor; call = c.in-Some.call; command = command } ∷ [])) c.in_ok-task.ensures.command
          ∙ ap (λ l. map numbered c.args.plan.now.items ++ l) (sym (map-append call c.loop-call.yielded ((c.in-Some.call, one) ∷ [])));
      due = subst (λ (l : List Due). All IsDue l) (sym c.in_ok-push.ensures.items)
          (all_more IsDue c.loop-call.plan.items due was.due (record { limits = c.in_ok-task.ensures.limits; picture = c.in_ok-task.ensures.picture; viewer_in_range = c.requires.actor }));
      limits = All-tail IsWithinLimits one rest (subst (λ (l : List Command). All IsWithinLimits l) step.0.0 was.limits);
    }

pub returns-clause-planned : goal.returns-clause-planned
returns-clause-planned c =
    let rest = c.loop-call.call-iterator.iter.rest in
    let none = none_left rest.items (sym rest.ok.0 ∙ c.in-None.ensures.steps.0.0) in
    let all : enumerate_from 0 c.args.commands ≡ c.loop-call.yielded = c.loop-call.invariant.all ∙ ap (λ (l : List Command). c.loop-call.yielded ++ enumerate_from c.loop-call.call-iterator.count l) none ∙ append-nil c.loop-call.yielded in
    c.loop-call.invariant.planned ∙ ap (λ l. map numbered c.args.plan.now.items ++ l) (ap (map (call_of c.args.top c.args.phase c.args.actor)) (sym all) ∙ calls_are c.args.top c.args.phase c.args.actor c.args.commands)
