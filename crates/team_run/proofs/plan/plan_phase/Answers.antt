-- One actor more is planned, and at the end all are.
use Rattle.std.proofs.Common.{◌≡◌, ◌∙◌, List, [], ◌∷◌, ◌++◌, All, length, map, sum_by, refl, sym, ap, subst, append_assoc, arith}
use Rattle.std.proofs.lemmas.List.{append-nil, flat_map_more}
use Rattle.std.proofs.lemmas.List.Elements.{All-tail}
use Rattle.std.proofs.lemmas.List.Sums.{sum_by-cons}
use Rattle.std.specs.List.{enumerate_from, flat_map}
use Rattle.view_script.specs.declared.command.Command.{Command}
use Rattle.view_script.specs.Script.{IsWithinLimits}
use Rattle.team_run.specs.Task.{numbered}
use Rattle.team_run.proofs.PlanLemmas.{actor_of, actors_are, none_left}
use Rattle.team_run.proofs.plan.plan_phase.Goals as goal

pub loop-actor-preserved : goal.loop-actor-preserved
loop-actor-preserved c =
    let step = c.in-Some.ensures.steps in
    let one = c.in-Some.commands in
    let rest = c.next.new.self.iter.rest.items in
    let was = c.loop-actor.invariant in
    let split : enumerate_from c.loop-actor.actor-iterator.count c.loop-actor.actor-iterator.iter.rest.items ≡ (c.in-Some.actor, one) ∷ enumerate_from c.next.new.self.count rest =
    rw (step.0.0, step.2, step.1) refl in
    record {
      can = c.in-Some.ensures.goes.keeps;
      finite = tt;
      all = was.all ∙ ap (λ r. c.loop-actor.yielded ++ r) split ∙ sym (append_assoc c.loop-actor.yielded ((c.in-Some.actor, one) ∷ []) (enumerate_from c.next.new.self.count rest));
      count = omega (arith, was.count, step.2, ap (length {A = List Command}) step.0.0);
      few = let sum = sum_by-cons (length {A = Command}) one rest in omega (arith, was.few, ap (sum_by (length {A = Command})) step.0.0, sum);
      planned = c.in_ok-plan_actor.ensures.planned ∙ ap (λ l. l ++ actor_of c.args.top c.args.phase (c.in-Some.actor, one)) was.planned ∙ flat_map_more (actor_of c.args.top c.args.phase) (map numbered c.args.plan.now.items) c.loop-actor.yielded (c.in-Some.actor, one);
      due = c.in_ok-plan_actor.ensures.due;
      limits = All-tail (All IsWithinLimits) one rest (subst (λ (l : List (List Command)). All (All IsWithinLimits) l) step.0.0 was.limits);
    }

pub returns-clause-planned : goal.returns-clause-planned
returns-clause-planned c =
    let rest = c.loop-actor.actor-iterator.iter.rest in
    let none = none_left rest.items (sym rest.ok.0 ∙ c.in-None.ensures.steps.0.0) in
    let all : enumerate_from 0 c.args.actors ≡ c.loop-actor.yielded = c.loop-actor.invariant.all ∙ ap (λ (l : List (List Command)). c.loop-actor.yielded ++ enumerate_from c.loop-actor.actor-iterator.count l) none ∙ append-nil c.loop-actor.yielded in
    c.loop-actor.invariant.planned ∙ ap (λ l. map numbered c.args.plan.now.items ++ l) (ap (flat_map (actor_of c.args.top c.args.phase)) (sym all) ∙ actors_are c.args.top c.args.phase c.args.actors)
