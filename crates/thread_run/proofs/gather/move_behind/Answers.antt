-- One element more is moved.
use Rattle.std.proofs.Common.{rules, ◌≡◌, ◌∙◌, ◌++◌, [], ◌∷◌, length, sym, ap, append_assoc, arith}
use Rattle.std.proofs.lemmas.List.{append-nil, nil_from_length}
use Rattle.thread_run.proofs.gather.move_behind.Goals as goal

pub loop-one-init : goal.loop-one-init
loop-one-init g c =
    let same : c.into_iter-one-iterator.result.rest.items ≡ c.args.more.items = search rules in
    record {
      can = tt;
      finite = tt;
      all = sym same;
      moved = sym (append-nil c.args.all.now.items);
      room = omega (arith, c.requires.room, ap (λ l. length l) same);
      count = (let e = ap (λ l. length l) same in omega arith);
      capacity = omega arith;
    }

pub loop-one-preserved : goal.loop-one-preserved
loop-one-preserved g c =
    let was = c.loop-one.invariant in
    let yielded = c.loop-one.yielded in
    let one = c.in-Some.one in
    let rest = c.next.new.self.rest.items in
    let split = c.in-Some.ensures.steps.0 in
    record {
      can = tt;
      finite = tt;
      all = was.all ∙ ap (λ l. yielded ++ l) split ∙ sym (append_assoc yielded (one ∷ []) rest);
      moved = c.add.ensures.added ∙ (ap (λ l. l ++ one ∷ []) was.moved ∙ append_assoc c.args.all.now.items yielded (one ∷ []));
      room = omega (arith, was.room, c.add.ensures.len, c.add.ensures.capacity, ap (λ l. length l) split);
      count = omega (arith, was.count, c.add.ensures.len, ap (λ l. length l) split);
      capacity = omega (arith, was.capacity, c.add.ensures.capacity);
    }

pub returns-clause-moved : goal.returns-clause-moved
returns-clause-moved g c =
    let was = c.loop-one.invariant in
    let rest = c.loop-one.one-iterator.rest in
    let none : rest.items ≡ [] = nil_from_length rest.items (sym rest.ok.0 ∙ c.in-None.ensures.steps.0) in
    was.moved ∙ ap (λ l. c.args.all.now.items ++ l) (sym (was.all ∙ (ap (λ l. c.loop-one.yielded ++ l) none ∙ append-nil c.loop-one.yielded)))
