-- One part more is answered.
use Rattle.std.proofs.Common.{rules, ◌≡◌, ◌∙◌, [], ◌∷◌, ◌++◌, length, map, sym, ap, subst, append_assoc, arith}
use Rattle.std.proofs.lemmas.List.{map-append, nil_from_length, append-nil}
use Rattle.std.proofs.lemmas.List.Elements.{All-same, All-rest, All-head}
use Rattle.team_phases.specs.Phases.{AllLost}
use Rattle.team_phases.specs.Working.{replies_in, shots_in}
use Rattle.team_phases.proofs.LostLemmas.{all_lost_more}
use Rattle.thread_plan.specs.declared.part.Part.{Part}
use Rattle.thread_plan.specs.Parts.{IsPartDue, commands_in}
use Rattle.team_phases.proofs.losing.lose_all.Goals as goal

pub loop-part-init : goal.loop-part-init
loop-part-init c =
    let same : c.into_iter-part-iterator.result.rest.items ≡ c.args.parts.items = search rules in
    record {
      can = tt;
      finite = tt;
      all = sym same;
      due = All-same IsPartDue _ _ same c.requires.due;
      lost = ([], sym (append-nil c.args.done.now.items), tt);
      room = (let e = ap (length {A = Part}) same in let r = c.requires.room in omega arith);
      count = (let e = ap (length {A = Part}) same in omega arith);
      capacity = omega arith;
    }

pub lose-lost-requires : goal.lose-lost-requires
lose-lost-requires c = All-head IsPartDue c.in-Some.part c.next.new.self.rest.items (All-same IsPartDue _ _ (sym c.in-Some.ensures.steps.0) c.loop-part.invariant.due)

pub loop-part-preserved : goal.loop-part-preserved
loop-part-preserved c =
    let was = c.loop-part.invariant in
    let yielded = c.loop-part.yielded in
    let one = c.in-Some.part in
    let rest = c.next.new.self.rest.items in
    let split = c.in-Some.ensures.steps.0 in
    let lost = was.lost.0 in
    let here = c.lose-lost.result in
    let added : c.add_done.new.done.items ≡ c.loop-part.done.items ++ here ∷ [] = c.add_done.ensures.added in
    record {
      can = tt;
      finite = tt;
      all = was.all ∙ ap (λ r. yielded ++ r) split ∙ sym (append_assoc yielded (one ∷ []) rest);
      due = All-rest IsPartDue one rest _ split was.due;
      lost = (
        lost ++ here ∷ [],
        added ∙ (ap (λ l. l ++ here ∷ []) was.lost.1 ∙ append_assoc c.args.done.now.items lost (here ∷ [])),
        subst (λ l. AllLost l (map replies_in (lost ++ here ∷ [])) (map shots_in (lost ++ here ∷ []))) (sym (map-append commands_in yielded (one ∷ [])))
            (subst (λ l. AllLost (map commands_in yielded ++ commands_in one ∷ []) l (map shots_in (lost ++ here ∷ []))) (sym (map-append replies_in lost (here ∷ [])))
            (subst (λ l. AllLost (map commands_in yielded ++ commands_in one ∷ []) (map replies_in lost ++ replies_in here ∷ []) l) (sym (map-append shots_in lost (here ∷ [])))
            (all_lost_more (map commands_in yielded) (map replies_in lost) (map shots_in lost) (commands_in one) (replies_in here) (shots_in here) was.lost.2 c.lose-lost.ensures))),
      );
      room = omega (arith, was.room, c.add_done.ensures.len, c.add_done.ensures.capacity, ap (length {A = Part}) split);
      count = omega (arith, was.count, c.add_done.ensures.len, ap (length {A = Part}) split);
      capacity = omega (arith, was.capacity, c.add_done.ensures.capacity);
    }

pub returns-clause-lost : goal.returns-clause-lost
returns-clause-lost c =
    let was = c.loop-part.invariant in
    let rest = c.loop-part.part-iterator.rest in
    let none : rest.items ≡ [] = nil_from_length rest.items (sym rest.ok.0 ∙ c.in-None.ensures.steps.0) in
    (was.lost.0, was.lost.1, subst (λ l. AllLost (map commands_in l) (map replies_in was.lost.0) (map shots_in was.lost.0)) (sym (was.all ∙ (ap (λ l. c.loop-part.yielded ++ l) none ∙ append-nil c.loop-part.yielded))) was.lost.2)
