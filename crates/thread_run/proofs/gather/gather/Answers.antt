-- What one part more leaves is moved.
use Rattle.std.proofs.Common.{rules, ◌≡◌, ◌∙◌, ◌++◌, List, [], ◌∷◌, length, map, sym, ap, append_assoc, arith}
use Rattle.std.proofs.lemmas.List.{append-nil, length-append, map-append, nil_from_length}
use Rattle.team_phases.specs.declared.actor.PartDone.{PartDone}
use Rattle.team_phases.specs.Working.{replies_in, shots_in}
use Rattle.thread_plan.specs.Scenes.{flat}
use Rattle.thread_run.proofs.Flattening.{flat_append}
use Rattle.thread_run.proofs.gather.gather.Goals as goal

-- what one part more leaves comes last
left_on : {A : Type 0} (f : PartDone → List A) (parts : List PartDone) (one : PartDone) → flat (map f (parts ++ one ∷ [])) ≡ flat (map f parts) ++ f one
left_on f parts one = ap flat (map-append f parts (one ∷ [])) ∙ (flat_append (map f parts) (f one ∷ []) ∙ ap (λ l. flat (map f parts) ++ l) (append-nil (f one)))

pub loop-part-init : goal.loop-part-init
loop-part-init c =
    let same : c.into_iter-part-iterator.result.rest.items ≡ c.args.done.items = search rules in
    record {
      can = tt;
      finite = tt;
      all = sym same;
      replies = sym (append-nil c.args.replies.now.items);
      shots = sym (append-nil c.args.shots.now.items);
      reply_room = omega (arith, c.requires.replies, ap (λ l. length (flat (map replies_in l))) same);
      shot_room = omega (arith, c.requires.shots, ap (λ l. length (flat (map shots_in l))) same);
    }

pub move_behind-requires : goal.move_behind-requires
move_behind-requires c =
    let was = c.loop-part.invariant in
    let split = ap (λ l. length (flat (map replies_in l))) c.in-Some.ensures.steps.0 in
    let a = length-append (replies_in c.in-Some.part) (flat (map replies_in c.next.new.self.rest.items)) in
    omega (arith, was.reply_room, split, a)

pub move_behind-requires-in-loop-part : goal.move_behind-requires-in-loop-part
move_behind-requires-in-loop-part c =
    let was = c.loop-part.invariant in
    let split = ap (λ l. length (flat (map shots_in l))) c.in-Some.ensures.steps.0 in
    let a = length-append (shots_in c.in-Some.part) (flat (map shots_in c.next.new.self.rest.items)) in
    omega (arith, was.shot_room, split, a)

pub loop-part-preserved : goal.loop-part-preserved
loop-part-preserved c =
    let was = c.loop-part.invariant in
    let yielded = c.loop-part.yielded in
    let one = c.in-Some.part in
    let rest = c.next.new.self.rest.items in
    let split = c.in-Some.ensures.steps.0 in
    record {
      can = tt;
      finite = tt;
      all = was.all ∙ ap (λ l. yielded ++ l) split ∙ sym (append_assoc yielded (one ∷ []) rest);
      replies = c.move_behind.ensures.moved ∙ (ap (λ l. l ++ replies_in one) was.replies ∙ (append_assoc c.args.replies.now.items (flat (map replies_in yielded)) (replies_in one) ∙ ap (λ l. c.args.replies.now.items ++ l) (sym (left_on replies_in yielded one))));
      shots = c.move_behind-in-loop-part.ensures.moved ∙ (ap (λ l. l ++ shots_in one) was.shots ∙ (append_assoc c.args.shots.now.items (flat (map shots_in yielded)) (shots_in one) ∙ ap (λ l. c.args.shots.now.items ++ l) (sym (left_on shots_in yielded one))));
      reply_room = omega (arith, was.reply_room, c.move_behind.ensures.len, c.move_behind.ensures.capacity, ap (λ l. length (flat (map replies_in l))) split, length-append (replies_in one) (flat (map replies_in rest)));
      shot_room = omega (arith, was.shot_room, c.move_behind-in-loop-part.ensures.len, c.move_behind-in-loop-part.ensures.capacity, ap (λ l. length (flat (map shots_in l))) split, length-append (shots_in one) (flat (map shots_in rest)));
    }

pub returns-clause-replies : goal.returns-clause-replies
returns-clause-replies c =
    let was = c.loop-part.invariant in
    let rest = c.loop-part.part-iterator.rest in
    let none : rest.items ≡ [] = nil_from_length rest.items (sym rest.ok.0 ∙ c.in-None.ensures.steps.0) in
    was.replies ∙ ap (λ l. c.args.replies.now.items ++ flat (map replies_in l)) (sym (was.all ∙ (ap (λ l. c.loop-part.yielded ++ l) none ∙ append-nil c.loop-part.yielded)))

pub returns-clause-shots : goal.returns-clause-shots
returns-clause-shots c =
    let was = c.loop-part.invariant in
    let rest = c.loop-part.part-iterator.rest in
    let none : rest.items ≡ [] = nil_from_length rest.items (sym rest.ok.0 ∙ c.in-None.ensures.steps.0) in
    was.shots ∙ ap (λ l. c.args.shots.now.items ++ flat (map shots_in l)) (sym (was.all ∙ (ap (λ l. c.loop-part.yielded ++ l) none ∙ append-nil c.loop-part.yielded)))
