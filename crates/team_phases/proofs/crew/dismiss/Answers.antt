-- One actor more is dismissed.
use Rattle.std.proofs.Common.{rules, ◌≡◌, ◌∙◌, ◌++◌, [], ◌∷◌, length, map, sym, ap, subst, append_assoc, arith}
use Rattle.std.proofs.lemmas.List.{nil_from_length, append-nil, map-append}
use Rattle.std.proofs.lemmas.List.Elements.{All-same, All-rest, All-head}
use Rattle.team_passes.specs.Teams.{IsTeamPass, AreTakenIn}
use Rattle.team_passes.proofs.Teaming.{taken_none, taken_on}
use Rattle.team_phases.specs.declared.actor.Actor.{Actor}
use Rattle.team_phases.specs.Working.{pass_in, done_in}
use Rattle.team_phases.proofs.crew.dismiss.Goals as goal

pub loop-actor-init : goal.loop-actor-init
loop-actor-init g c =
    let same : c.into_iter-actor-iterator.result.rest.items ≡ c.args.actors.items = search rules in
    record {
      can = tt;
      finite = tt;
      first = c.requires.first;
      all = sym same;
      own = All-same (λ a. IsTeamPass c.args.cells.now c.args.queue.now (pass_in a)) _ _ same c.requires.own;
      joined = taken_none c.args.first.now;
      done = sym (append-nil c.args.done.now.items);
      room = omega (arith, c.requires.room, ap (length {A = Actor _}) same);
      count = (let e = ap (length {A = Actor _}) same in omega arith);
      capacity = omega arith;
    }

pub join_pass-requires-clause-first : goal.join_pass-requires-clause-first
join_pass-requires-clause-first g c = c.loop-actor.invariant.first

pub join_pass-requires-clause-other : goal.join_pass-requires-clause-other
join_pass-requires-clause-other g c =
    All-head (λ a. IsTeamPass c.args.cells.now c.args.queue.now (pass_in a)) c.in-Some.actor c.next.new.self.rest.items
    (All-same (λ a. IsTeamPass c.args.cells.now c.args.queue.now (pass_in a)) _ _ (sym c.in-Some.ensures.steps.0) c.loop-actor.invariant.own)

pub loop-actor-preserved : goal.loop-actor-preserved
loop-actor-preserved g c =
    let was = c.loop-actor.invariant in
    let yielded = c.loop-actor.yielded in
    let one = c.in-Some.actor in
    let rest = c.next.new.self.rest.items in
    let split = c.in-Some.ensures.steps.0 in
    let first = c.args.first.now in
    record {
      can = tt;
      finite = tt;
      first = c.join_pass.ensures.first;
      all = was.all ∙ ap (λ l. yielded ++ l) split ∙ sym (append_assoc yielded (one ∷ []) rest);
      own = All-rest (λ a. IsTeamPass c.args.cells.now c.args.queue.now (pass_in a)) one rest _ split was.own;
      joined = subst (λ l. AreTakenIn first l c.join_pass.new.first) (sym (map-append pass_in yielded (one ∷ [])))
          (taken_on first c.loop-actor.first c.join_pass.new.first (map pass_in yielded) (pass_in one ∷ []) was.joined c.join_pass.ensures.joined);
      done = c.add_done.ensures.added ∙ (ap (λ l. l ++ done_in one ∷ []) was.done ∙ (append_assoc c.args.done.now.items (map done_in yielded) (done_in one ∷ []) ∙ ap (λ l. c.args.done.now.items ++ l) (sym (map-append done_in yielded (one ∷ [])))));
      room = omega (arith, was.room, c.add_done.ensures.len, c.add_done.ensures.capacity, ap (length {A = Actor _}) split);
      count = omega (arith, was.count, c.add_done.ensures.len, ap (length {A = Actor _}) split);
      capacity = omega (arith, was.capacity, c.add_done.ensures.capacity);
    }

pub returns-clause-joined : goal.returns-clause-joined
returns-clause-joined g c =
    let was = c.loop-actor.invariant in
    let rest = c.loop-actor.actor-iterator.rest in
    let none : rest.items ≡ [] = nil_from_length rest.items (sym rest.ok.0 ∙ c.in-None.ensures.steps.0) in
    subst (λ l. AreTakenIn c.args.first.now (map pass_in l) c.loop-actor.first) (sym (was.all ∙ (ap (λ l. c.loop-actor.yielded ++ l) none ∙ append-nil c.loop-actor.yielded))) was.joined

pub returns-clause-done : goal.returns-clause-done
returns-clause-done g c =
    let was = c.loop-actor.invariant in
    let rest = c.loop-actor.actor-iterator.rest in
    let none : rest.items ≡ [] = nil_from_length rest.items (sym rest.ok.0 ∙ c.in-None.ensures.steps.0) in
    was.done ∙ ap (λ l. c.args.done.now.items ++ map done_in l) (sym (was.all ∙ (ap (λ l. c.loop-actor.yielded ++ l) none ∙ append-nil c.loop-actor.yielded)))
