-- One task more is carried out.
use Rattle.std.proofs.Common.{◌≡◌, ◌∙◌, ◌+◌, [], ◌∷◌, ◌++◌, List, count_by, cond, length, map, sym, ap, subst, append_assoc, arith, All}
use Rattle.std.proofs.lemmas.List.{map-append}
use Rattle.std.proofs.lemmas.List.Elements.{All-tail}
use Rattle.std.proofs.lemmas.List.Sums.{sum_by-cons}
use Rattle.view_script.specs.Script.{NumberedCommand}
use Rattle.team_run.specs.declared.task.Due.{Due}
use Rattle.team_run.specs.Desk.{desk}
use Rattle.team_run.specs.Serve.{Adds}
use Rattle.team_run.specs.Task.{IsDue, is_view, numbered}
use Rattle.team_run.proofs.ServeLemmas.{adds_on}
use Rattle.team_run.proofs.serve.serve_all.Goals as goal

pub loop-due-preserved : goal.loop-due-preserved
loop-due-preserved g c =
    let first = desk c.args.cache.now c.args.queue.now in
    let last = desk c.serve_due.new.cache c.serve_due.new.queue in
    let done = c.loop-due.yielded in
    let one = c.in-Some.due in
    let rest = c.next.new.self.rest.items in
    let split = c.in-Some.ensures.steps.0 in
    let more = c.serve_due.ensures in
    let views : count_by (λ (d : Due). is_view d.task) (one ∷ rest) ≡ cond (is_view one.task) 1 0 + count_by (λ d. is_view d.task) rest = sum_by-cons _ one rest in
    let adds : Adds first (map numbered done ++ numbered one ∷ []) c.args.replies.now.items c.serve_due.new.replies.items c.args.shots.now.items c.serve_due.new.shots.items last =
    adds_on first (desk c.loop-due.cache c.loop-due.queue) last (map numbered done) (numbered one ∷ []) _ _ _ _ _ _ c.loop-due.invariant.adds more.adds in
    record {
      can = tt;
      finite = tt;
      all = c.loop-due.invariant.all ∙ ap (λ r. done ++ r) split ∙ sym (append_assoc done (one ∷ []) rest);
      adds = subst (λ (l : List NumberedCommand). Adds first l c.args.replies.now.items c.serve_due.new.replies.items c.args.shots.now.items c.serve_due.new.shots.items last) (sym (map-append numbered done (one ∷ []))) adds;
      ready = more.ready;
      due = All-tail IsDue one rest (subst (λ (l : List Due). All IsDue l) split c.loop-due.invariant.due);
      reply_room = omega (arith, c.loop-due.invariant.reply_room, more.replies, more.reply_room, ap (length {A = Due}) split);
      shot_room = omega (arith, c.loop-due.invariant.shot_room, more.shots, more.shot_room, views, ap (count_by (λ (d : Due). is_view d.task)) split);
    }
