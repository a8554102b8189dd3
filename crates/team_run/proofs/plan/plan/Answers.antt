-- One phase more is planned, and at the end all are.
use Rattle.std.proofs.Common.{◌≡◌, ◌∙◌, ◌≤◌, List, [], ◌∷◌, ◌++◌, All, length, sum_by, refl, sym, ap, subst, append_assoc, arith}
use Rattle.std.proofs.lemmas.List.{append-nil, flat_map_more}
use Rattle.std.proofs.lemmas.List.Elements.{All-tail}
use Rattle.std.proofs.lemmas.List.Sums.{sum_by-cons}
use Rattle.std.specs.List.{enumerate_from, flat_map}
use Rattle.view_script.specs.declared.command.Command.{Command}
use Rattle.view_script.specs.Script.{IsWithinLimits}
use Rattle.team_run.proofs.PlanLemmas.{phase_of, phases_are, none_left}
use Rattle.team_run.proofs.plan.plan.Goals as goal

pub loop-phase-preserved : goal.loop-phase-preserved
loop-phase-preserved c =
    let step = c.in-Some.ensures.steps in
    let one = c.in-Some.actors in
    let rest = c.next.new.self.iter.rest.items in
    let was = c.loop-phase.invariant in
    let split : enumerate_from c.loop-phase.phase-iterator.count c.loop-phase.phase-iterator.iter.rest.items ≡ (c.in-Some.phase, one) ∷ enumerate_from c.next.new.self.count rest =
    rw (step.0.0, step.2, step.1) refl in
    record {
      can = c.in-Some.ensures.goes.keeps;
      finite = tt;
      all = was.all ∙ ap (λ r. c.loop-phase.yielded ++ r) split ∙ sym (append_assoc c.loop-phase.yielded ((c.in-Some.phase, one) ∷ []) (enumerate_from c.next.new.self.count rest));
      count = omega (arith, was.count, step.2, ap (length {A = List (List Command)}) step.0.0);
      few = let sum = sum_by-cons (sum_by (length {A = Command})) one rest in omega (arith, was.few, ap (sum_by (sum_by (length {A = Command}))) step.0.0, sum);
      planned = c.in_ok-plan_phase.ensures.planned ∙ ap (λ l. l ++ phase_of c.args.top (c.in-Some.phase, one)) was.planned ∙ flat_map_more (phase_of c.args.top) [] c.loop-phase.yielded (c.in-Some.phase, one);
      due = c.in_ok-plan_phase.ensures.due;
      actors = All-tail (λ (actors : List (List Command)). length actors ≤ 16) one rest (subst (λ (l : List (List (List Command))). All (λ actors. length actors ≤ 16) l) step.0.0 was.actors);
      limits = All-tail (All (All IsWithinLimits)) one rest (subst (λ (l : List (List (List Command))). All (All (All IsWithinLimits)) l) step.0.0 was.limits);
    }

pub returns-clause-planned : goal.returns-clause-planned
returns-clause-planned c =
    let rest = c.loop-phase.phase-iterator.iter.rest in
    let none = none_left rest.items (sym rest.ok.0 ∙ c.in-None.ensures.steps.0.0) in
    let all : enumerate_from 0 c.args.phases ≡ c.loop-phase.yielded = c.loop-phase.invariant.all ∙ ap (λ (l : List (List (List Command))). c.loop-phase.yielded ++ enumerate_from c.loop-phase.phase-iterator.count l) none ∙ append-nil c.loop-phase.yielded in
    c.loop-phase.invariant.planned ∙ ap (flat_map (phase_of c.args.top)) (sym all) ∙ phases_are c.args.top c.args.phases
