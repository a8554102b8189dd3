-- One part more, and one pass more.
use Rattle.std.proofs.Common.{◌≡◌, ◌∙◌, ◌++◌, ◌∷◌, [], length, map, sym, ap, rules, arith, append_assoc, length-append}
use Rattle.std.proofs.lemmas.List.{nil_from_length, append-nil, map-append}
use Rattle.team_passes.specs.declared.team_pass.TeamPass.{TeamPass}
use Rattle.team_phases.specs.declared.actor.Actor.{Actor}
use Rattle.team_phases.specs.Working.{pass_in, part_in}
use Rattle.thread_plan.specs.declared.part.Part.{Part}
use Rattle.team_phases.proofs.crew.pair.Goals as goal

pub loop-part-init : goal.loop-part-init
loop-part-init g c =
    let none = c.requires.no_actors in
    let parts : c.into_iter-part-iterator.result.rest.items ≡ c.args.parts.items = search rules in
    let passes : c.into_iter-passes.result.rest.items ≡ c.args.passes.items = search rules in
    record {
      can = tt;
      finite = tt;
      parts = sym parts ∙ ap (λ l. map part_in l ++ c.into_iter-part-iterator.result.rest.items) (sym none);
      passes = sym passes ∙ ap (λ l. map pass_in l ++ c.into_iter-passes.result.rest.items) (sym none);
      enough = (let a = ap (length {A = Part}) parts in let b = ap (length {A = TeamPass _}) passes in let r = c.requires.enough in omega arith);
      room = (let a = ap (length {A = Part}) parts in let b : length c.args.actors.now.items ≡ 0 = ap (length {A = Actor _}) none in let r = c.requires.actor_room in search rules);
      left = c.requires.no_fetchers;
      left_room = c.requires.fetcher_room;
    }

pub unreachable-requires : goal.unreachable-requires
unreachable-requires g c =
    let was = c.loop-part.invariant.enough in
    let a = ap (length {A = Part}) c.in-Some.ensures.steps.0 in
    let none : length c.loop-part.passes.rest.items ≡ 0 = search rules in
    omega arith

pub loop-part-preserved : goal.loop-part-preserved
loop-part-preserved g c =
    let was = c.loop-part.invariant in
    let one = c.in-Some.part in
    let pass = c.in-Some-next.pass in
    let rest = c.next.new.self.rest.items in
    let others = c.next-in-loop-part.new.self.rest.items in
    let actors = c.loop-part.actors.items in
    let made : Actor _ = record { pass = pass; part = one } in
    let added : c.add_actor.new.actors.items ≡ actors ++ made ∷ [] = c.add_actor.ensures.added in
    let split = c.in-Some.ensures.steps.0 in
    let next = c.in-Some-next.ensures.items in
    record {
      can = tt;
      finite = tt;
      parts = was.parts ∙ (ap (λ l. map part_in actors ++ l) split ∙ (sym (append_assoc (map part_in actors) (one ∷ []) rest) ∙ ap (λ l. l ++ rest) (sym (map-append part_in actors (made ∷ [])) ∙ ap (map part_in) (sym added))));
      passes = was.passes ∙ (ap (λ l. map pass_in actors ++ l) next ∙ (sym (append_assoc (map pass_in actors) (pass ∷ []) others) ∙ ap (λ l. l ++ others) (sym (map-append pass_in actors (made ∷ [])) ∙ ap (map pass_in) (sym added))));
      enough = (let a = ap (length {A = Part}) split in let b = ap (length {A = TeamPass _}) next in let e = was.enough in omega arith);
      room = (let a = ap (length {A = Part}) split in let b = ap (length {A = Actor _}) added in let d = length-append actors (made ∷ []) in let e = was.room in search rules);
      left = was.left;
      left_room = was.left_room;
    }

pub loop-pass-init : goal.loop-pass-init
loop-pass-init g c =
    let was = c.loop-part.invariant in
    let rest = c.loop-part.part-iterator.rest in
    let none : rest.items ≡ [] = nil_from_length rest.items (sym rest.ok.0 ∙ c.in-None.ensures.steps.0) in
    let same : c.into_iter-pass-iterator.result.rest.items ≡ c.loop-part.passes.rest.items = search rules in
    let actors = c.loop-part.actors.items in
    record {
      can = tt;
      finite = tt;
      parts = was.parts ∙ (ap (λ l. map part_in actors ++ l) none ∙ append-nil (map part_in actors));
      passes = was.passes ∙ ap (λ l. map pass_in actors ++ l) (sym same ∙ ap (λ l. l ++ c.into_iter-pass-iterator.result.rest.items) (sym was.left));
      room = (let a = ap (length {A = TeamPass _}) was.passes in let b = length-append (map pass_in actors) c.loop-part.passes.rest.items in let d = ap (length {A = TeamPass _}) same in let e : length c.args.fetchers.now.items ≡ 0 = ap (length {A = TeamPass _}) was.left in let f = was.left_room in search rules);
    }

pub loop-pass-preserved : goal.loop-pass-preserved
loop-pass-preserved g c =
    let was = c.loop-pass.invariant in
    let pass = c.in-Some-pass.pass in
    let rest = c.next-in-loop-pass.new.self.rest.items in
    let split = c.in-Some-pass.ensures.steps.0 in
    let left = c.loop-pass.fetchers.items in
    let ahead = map pass_in c.loop-part.actors.items in
    record {
      can = tt;
      finite = tt;
      parts = was.parts;
      passes = was.passes ∙ ap (λ l. ahead ++ l) (ap (λ l. left ++ l) split ∙ (sym (append_assoc left (pass ∷ []) rest) ∙ ap (λ l. l ++ rest) (sym c.add_pass.ensures.added)));
      room = (let a = ap (length {A = TeamPass _}) split in let b = ap (length {A = TeamPass _}) c.add_pass.ensures.added in let d = length-append left (pass ∷ []) in let e = was.room in search rules);
    }

pub returns-clause-passes : goal.returns-clause-passes
returns-clause-passes g c =
    let rest = c.loop-pass.pass-iterator.rest in
    let none : rest.items ≡ [] = nil_from_length rest.items (sym rest.ok.0 ∙ c.in-None-pass.ensures.steps.0) in
    sym (c.loop-pass.invariant.passes ∙ ap (λ l. map pass_in c.loop-part.actors.items ++ l) (ap (λ l. c.loop-pass.fetchers.items ++ l) none ∙ append-nil c.loop-pass.fetchers.items))
