use Rattle.std.proofs.Common.{rules, ◌≡◌, ◌∙◌, ◌++◌, [], ◌∷◌, All, sym, ap, subst, append_assoc}
use Rattle.std.proofs.lemmas.List.{nil_from_length, append-nil}
use Rattle.std.proofs.lemmas.List.Elements.{All-head, All-tail}
use Rattle.team_passes.specs.Teams.{IsTeamPass, AreTakenIn}
use Rattle.team_passes.proofs.Teaming.{taken_none, taken_on}
use Rattle.team_passes.proofs.passes.take_back.Goals as goal

pub loop-other-init : goal.loop-other-init
loop-other-init g c =
    let same : c.into_iter-other-iterator.result.rest.items ≡ c.args.others.items = search rules in
    record {
      can = tt;
      finite = tt;
      first = c.requires.first;
      all = sym same;
      own = subst (λ l. All (IsTeamPass c.args.cells.now c.args.queue.now) l) (sym same) c.requires.own;
      joined = taken_none c.args.first.now;
    }

pub join_pass-requires-clause-first : goal.join_pass-requires-clause-first
join_pass-requires-clause-first g c = c.loop-other.invariant.first

pub join_pass-requires-clause-other : goal.join_pass-requires-clause-other
join_pass-requires-clause-other g c =
    All-head (IsTeamPass c.args.cells.now c.args.queue.now) c.in-Some.other c.next.new.self.rest.items (subst (λ l. All (IsTeamPass c.args.cells.now c.args.queue.now) l) c.in-Some.ensures.steps.0 c.loop-other.invariant.own)

pub loop-other-preserved : goal.loop-other-preserved
loop-other-preserved g c =
    let was = c.loop-other.invariant in
    let one = c.in-Some.other in
    let rest = c.next.new.self.rest.items in
    let split = c.in-Some.ensures.steps.0 in
    record {
      can = tt;
      finite = tt;
      first = c.join_pass.ensures.first;
      all = was.all ∙ (ap (λ l. c.loop-other.yielded ++ l) split ∙ sym (append_assoc c.loop-other.yielded (one ∷ []) rest));
      own = All-tail (IsTeamPass c.args.cells.now c.args.queue.now) one rest (subst (λ l. All (IsTeamPass c.args.cells.now c.args.queue.now) l) split was.own);
      joined = taken_on c.args.first.now c.loop-other.first c.join_pass.new.first c.loop-other.yielded (one ∷ []) was.joined c.join_pass.ensures.joined;
    }

pub returns-clause-joined : goal.returns-clause-joined
returns-clause-joined g c =
    let was = c.loop-other.invariant in
    let rest = c.loop-other.other-iterator.rest in
    let none : rest.items ≡ [] = nil_from_length rest.items (sym rest.ok.0 ∙ c.in-None.ensures.steps.0) in
    subst (λ l. AreTakenIn c.args.first.now l c.loop-other.first) (sym (was.all ∙ (ap (λ l. c.loop-other.yielded ++ l) none ∙ append-nil c.loop-other.yielded))) was.joined
