-- One actor more is planned, and at the end all are.
use Rattle.std.proofs.Common.{◌≡◌, ◌∙◌, ◌≤◌, List, [], ◌∷◌, ◌++◌, All, length, map, sum_by, refl, sym, ap, subst, append_assoc, arith}
use Rattle.std.proofs.lemmas.List.{append-nil, map-append}
use Rattle.std.proofs.lemmas.List.Elements.{All-tail, All-append, All-cons, All-nil}
use Rattle.std.proofs.lemmas.List.Sums.{sum_by-cons}
use Rattle.std.specs.List.{enumerate_from}
use Rattle.view_script.specs.declared.command.Command.{Command}
use Rattle.view_script.specs.Script.{IsWithinLimits, NumberedCommand}
use Rattle.thread_plan.specs.declared.part.Part.{Part}
use Rattle.thread_plan.specs.Parts.{IsPartDue, commands_in}
use Rattle.thread_plan.proofs.SceneLemmas.{part_at, parts_are, none_left}
use Rattle.thread_plan.proofs.plan.plan_scene.Goals as goal

pub loop-actor-preserved : goal.loop-actor-preserved
loop-actor-preserved c =
    let step = c.in-Some.ensures.steps in
    let one = c.in-Some.commands in
    let rest = c.next.new.self.iter.rest.items in
    let was = c.loop-actor.invariant in
    let part = c.in_ok-part.part in
    let split : enumerate_from c.loop-actor.actor-iterator.count c.loop-actor.actor-iterator.iter.rest.items ≡ (c.in-Some.actor, one) ∷ enumerate_from c.next.new.self.count rest =
    rw (step.0.0, step.2, step.1) refl in
    record {
      can = c.in-Some.ensures.goes.keeps;
      finite = tt;
      all = was.all ∙ ap (λ r. c.loop-actor.yielded ++ r) split ∙ sym (append_assoc c.loop-actor.yielded ((c.in-Some.actor, one) ∷ []) (enumerate_from c.next.new.self.count rest));
      count = omega (arith, was.count, step.2, ap (length {A = List Command}) step.0.0);
      few = let sum = sum_by-cons (length {A = Command}) one rest in omega (arith, was.few, ap (sum_by (length {A = Command})) step.0.0, sum);
      planned = ap (map commands_in) c.in_ok-push.ensures.items ∙ map-append commands_in c.loop-actor.parts.items (part ∷ []) ∙ ap (λ l. l ++ commands_in part ∷ []) was.planned
          ∙ ap (λ (s : List NumberedCommand). map (part_at c.args.top c.args.phase) c.loop-actor.yielded ++ s ∷ []) c.in_ok-part.ensures.planned
          ∙ sym (map-append (part_at c.args.top c.args.phase) c.loop-actor.yielded ((c.in-Some.actor, one) ∷ []));
      due = subst (λ (l : List Part). All IsPartDue l) (sym c.in_ok-push.ensures.items)
          (All-append IsPartDue c.loop-actor.parts.items (part ∷ []) was.due (All-cons IsPartDue part [] c.in_ok-part.ensures.due (All-nil IsPartDue)));
      limits = All-tail (All IsWithinLimits) one rest (subst (λ (l : List (List Command)). All (All IsWithinLimits) l) step.0.0 was.limits);
    }

pub returns-clause-planned : goal.returns-clause-planned
returns-clause-planned c =
    let rest = c.loop-actor.actor-iterator.iter.rest in
    let none = none_left rest.items (sym rest.ok.0 ∙ c.in-None.ensures.steps.0.0) in
    let all : enumerate_from 0 c.args.actors ≡ c.loop-actor.yielded = c.loop-actor.invariant.all ∙ ap (λ (l : List (List Command)). c.loop-actor.yielded ++ enumerate_from c.loop-actor.actor-iterator.count l) none ∙ append-nil c.loop-actor.yielded in
    c.loop-actor.invariant.planned ∙ ap (map (part_at c.args.top c.args.phase)) (sym all) ∙ parts_are c.args.top c.args.phase c.args.actors
