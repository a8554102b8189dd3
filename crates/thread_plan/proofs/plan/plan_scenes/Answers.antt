-- One phase more is planned, and at the end all are.
use Rattle.std.proofs.Common.{◌≡◌, ◌∙◌, ◌≤◌, List, [], ◌∷◌, ◌++◌, All, length, map, sum_by, refl, sym, ap, subst, append_assoc, arith}
use Rattle.std.proofs.lemmas.List.{map-append}
use Rattle.std.proofs.lemmas.List.Elements.{All-tail, All-append, All-cons, All-nil}
use Rattle.std.proofs.lemmas.List.Sums.{sum_by-cons}
use Rattle.std.specs.List.{enumerate_from}
use Rattle.view_script.specs.declared.command.Command.{Command}
use Rattle.view_script.specs.Script.{IsWithinLimits, NumberedCommand}
use Rattle.thread_plan.specs.declared.part.Scene.{Scene}
use Rattle.thread_plan.specs.Parts.{IsSceneDue, commands_in_scene}
use Rattle.thread_plan.proofs.CountLemmas.{tasks_are, scenes_count, few_views, few_parts}
use Rattle.thread_plan.proofs.SceneLemmas.{scene_at, scenes_end}
use Rattle.thread_plan.proofs.plan.plan_scenes.Goals as goal

pub loop-phase-preserved : goal.loop-phase-preserved
loop-phase-preserved c =
    let step = c.in-Some.ensures.steps in
    let one = c.in-Some.actors in
    let rest = c.next.new.self.iter.rest.items in
    let was = c.loop-phase.invariant in
    let scene = c.in_ok-scene.scene in
    let split : enumerate_from c.loop-phase.phase-iterator.count c.loop-phase.phase-iterator.iter.rest.items ≡ (c.in-Some.phase, one) ∷ enumerate_from c.next.new.self.count rest =
    rw (step.0.0, step.2, step.1) refl in
    record {
      can = c.in-Some.ensures.goes.keeps;
      finite = tt;
      all = was.all ∙ ap (λ r. c.loop-phase.yielded ++ r) split ∙ sym (append_assoc c.loop-phase.yielded ((c.in-Some.phase, one) ∷ []) (enumerate_from c.next.new.self.count rest));
      count = omega (arith, was.count, step.2, ap (length {A = List (List Command)}) step.0.0);
      few = let sum = sum_by-cons (sum_by (length {A = Command})) one rest in omega (arith, was.few, ap (sum_by (sum_by (length {A = Command}))) step.0.0, sum);
      planned = ap (map commands_in_scene) c.in_ok-push.ensures.items ∙ map-append commands_in_scene c.loop-phase.scenes.items (scene ∷ []) ∙ ap (λ l. l ++ commands_in_scene scene ∷ []) was.planned
          ∙ ap (λ (s : List (List NumberedCommand)). map (scene_at c.args.top) c.loop-phase.yielded ++ s ∷ []) c.in_ok-scene.ensures.planned
          ∙ sym (map-append (scene_at c.args.top) c.loop-phase.yielded ((c.in-Some.phase, one) ∷ []));
      due = subst (λ (l : List Scene). All IsSceneDue l) (sym c.in_ok-push.ensures.items)
          (All-append IsSceneDue c.loop-phase.scenes.items (scene ∷ []) was.due (All-cons IsSceneDue scene [] c.in_ok-scene.ensures.due (All-nil IsSceneDue)));
      actors = All-tail (λ (actors : List (List Command)). length actors ≤ 16) one rest (subst (λ (l : List (List (List Command))). All (λ actors. length actors ≤ 16) l) step.0.0 was.actors);
      limits = All-tail (All (All IsWithinLimits)) one rest (subst (λ (l : List (List (List Command))). All (All (All IsWithinLimits)) l) step.0.0 was.limits);
    }

pub returns-clause-planned : goal.returns-clause-planned
returns-clause-planned c =
    let rest = c.loop-phase.phase-iterator.iter.rest in
    scenes_end c.args.top c.args.phases rest.items c.loop-phase.yielded c.loop-phase.phase-iterator.count _ (sym rest.ok.0 ∙ c.in-None.ensures.steps.0.0) c.loop-phase.invariant.all c.loop-phase.invariant.planned

pub returns-clause-count : goal.returns-clause-count
returns-clause-count c =
    let rest = c.loop-phase.phase-iterator.iter.rest in
    scenes_count c.args.top c.loop-phase.scenes.items c.args.phases
    (scenes_end c.args.top c.args.phases rest.items c.loop-phase.yielded c.loop-phase.phase-iterator.count _ (sym rest.ok.0 ∙ c.in-None.ensures.steps.0.0) c.loop-phase.invariant.all c.loop-phase.invariant.planned)

pub returns-clause-few_tasks : goal.returns-clause-few_tasks
returns-clause-few_tasks c =
    let rest = c.loop-phase.phase-iterator.iter.rest in
    let tasks = tasks_are c.args.top c.loop-phase.scenes.items c.args.phases
    (scenes_end c.args.top c.args.phases rest.items c.loop-phase.yielded c.loop-phase.phase-iterator.count _ (sym rest.ok.0 ∙ c.in-None.ensures.steps.0.0) c.loop-phase.invariant.all c.loop-phase.invariant.planned) in
    omega (arith, tasks, c.requires.few)

pub returns-clause-few_views : goal.returns-clause-few_views
returns-clause-few_views c =
    let rest = c.loop-phase.phase-iterator.iter.rest in
    let tasks = tasks_are c.args.top c.loop-phase.scenes.items c.args.phases
    (scenes_end c.args.top c.args.phases rest.items c.loop-phase.yielded c.loop-phase.phase-iterator.count _ (sym rest.ok.0 ∙ c.in-None.ensures.steps.0.0) c.loop-phase.invariant.all c.loop-phase.invariant.planned) in
    let views = few_views c.loop-phase.scenes.items in
    omega (arith, tasks, views, c.requires.few)

pub returns-clause-few_parts : goal.returns-clause-few_parts
returns-clause-few_parts c =
    let rest = c.loop-phase.phase-iterator.iter.rest in
    let count = scenes_count c.args.top c.loop-phase.scenes.items c.args.phases
    (scenes_end c.args.top c.args.phases rest.items c.loop-phase.yielded c.loop-phase.phase-iterator.count _ (sym rest.ok.0 ∙ c.in-None.ensures.steps.0.0) c.loop-phase.invariant.all c.loop-phase.invariant.planned) in
    let parts = few_parts c.loop-phase.scenes.items c.loop-phase.invariant.due in
    omega (arith, count, parts, c.requires.phases)
