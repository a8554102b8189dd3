-- One task more is answered.
use Rattle.std.proofs.Common.{◌≡◌, ◌∙◌, ◌+◌, [], ◌∷◌, ◌++◌, count_by, cond, length, map, sym, ap, subst, append_assoc, arith}
use Rattle.std.proofs.lemmas.List.{map-append, nil_from_length, append-nil}
use Rattle.std.proofs.lemmas.List.Sums.{sum_by-cons}
use Rattle.std.specs.Option.{option_to_list}
use Rattle.cell_file.specs.declared.errors.AcquireErr.TheVariants as cause
use Rattle.run_report.specs.declared.reply.Answer.TheVariants as answer
use Rattle.run_report.specs.declared.reply.Refusal.TheVariants as refusal
use Rattle.run_report.specs.declared.reply.Reply.{Reply}
use Rattle.team_phases.specs.Phases.{AreLost}
use Rattle.team_phases.proofs.LostLemmas.{lost_more}
use Rattle.team_run.specs.declared.task.Due.{Due}
use Rattle.team_run.specs.Task.{is_view, numbered}
use Rattle.team_phases.proofs.losing.lose.Goals as goal

pub loop-due-preserved : goal.loop-due-preserved
loop-due-preserved c =
    let was = c.loop-due.invariant in
    let done = c.loop-due.yielded in
    let one = c.in-Some.due in
    let rest = c.next.new.self.rest.items in
    let split = c.in-Some.ensures.steps.0 in
    let told = c.add_reply.ensures in
    let left = c.add_shot.ensures in
    let shot = c.lost_shot.ensures in
    let reply : Reply = record { phase = one.phase; actor = one.actor; call = one.call; answer = answer.Refused (refusal.Acquire cause.Memory) } in
    let views : count_by (λ (d : Due). is_view d.task) (one ∷ rest) ≡ cond (is_view one.task) 1 0 + count_by (λ d. is_view d.task) rest = sum_by-cons _ one rest in
    record {
      can = tt;
      finite = tt;
      all = was.all ∙ ap (λ r. done ++ r) split ∙ sym (append_assoc done (one ∷ []) rest);
      lost = subst (λ l. AreLost l c.add_reply.new.replies.items c.add_shot.new.shots.items) (sym (map-append numbered done (one ∷ [])))
          (subst (λ l. AreLost (map numbered done ++ numbered one ∷ []) l c.add_shot.new.shots.items) (sym told.added)
          (subst (λ l. AreLost (map numbered done ++ numbered one ∷ []) (c.loop-due.replies.items ++ reply ∷ []) l) (sym left.added)
          (lost_more (map numbered done) c.loop-due.replies.items c.loop-due.shots.items (numbered one) (option_to_list c.lost_shot.result) was.lost shot.shot)));
      reply_room = omega (arith, was.reply_room, told.len, told.capacity, ap (length {A = Due}) split);
      shot_room = omega (arith, was.shot_room, left.len, left.capacity, shot.count, views, ap (count_by (λ (d : Due). is_view d.task)) split);
    }

pub returns : goal.returns
returns c =
    let was = c.loop-due.invariant in
    let rest = c.loop-due.due-iterator.rest in
    let none : rest.items ≡ [] = nil_from_length rest.items (sym rest.ok.0 ∙ c.in-None.ensures.steps.0) in
    subst (λ l. AreLost (map numbered l) c.loop-due.replies.items c.loop-due.shots.items) (sym (was.all ∙ (ap (λ l. c.loop-due.yielded ++ l) none ∙ append-nil c.loop-due.yielded))) was.lost
