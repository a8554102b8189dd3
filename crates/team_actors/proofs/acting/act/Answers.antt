-- At first no task is carried out, and then one more.
use Rattle.std.proofs.Common.{◌≡◌, ◌∙◌, ◌+◌, [], ◌∷◌, ◌++◌, List, count_by, cond, length, map, refl, sym, ap, subst, append_assoc, arith, All}
use Rattle.std.proofs.lemmas.List.{map-append}
use Rattle.std.proofs.lemmas.List.Elements.{All-tail}
use Rattle.std.proofs.lemmas.List.Sums.{sum_by-cons}
use Rattle.turn_cell.specs.Turn as turn
use Rattle.pin_rule.specs.Calls.{made_of, plan_at}
use Rattle.live_cells.specs.Cells.{table, knows}
use Rattle.team_eyes.specs.Teammate.{teammate_at}
use Rattle.team_run.specs.declared.task.Due.{Due}
use Rattle.team_run.specs.Task.{IsDue, is_view, numbered}
use Rattle.view_script.specs.Script.{NumberedCommand}
use Rattle.run_report.specs.declared.reply.Reply.{Reply}
use Rattle.run_report.specs.declared.shot.Shot.{Shot}
use Rattle.team_actors.specs.Deeds.{Acts}
use Rattle.team_actors.proofs.ActLemmas.{acts_none, acts_more}
use Rattle.team_actors.proofs.acting.act.Goals as goal

pub loop-due-init : goal.loop-due-init
loop-due-init g c =
    let made = made_of (table c.args.cells.now) in
    let replies = c.args.replies.now in
    let shots = c.args.shots.now in
    let given = c.into_iter-due-iterator.ensures.into_iter_gives.0 in
    record {
      can = tt;
      finite = tt;
      all = sym given;
      pass = c.requires.pass;
      free = c.requires.free;
      asks = c.requires.asks;
      acts = acts_none (plan_at g.S.Store.contents (table c.args.cells.now)) made.levels.value made.keys.value (knows c.args.pass.now) (turn.view c.args.asks.now) replies.items shots.items c.requires.no_replies c.requires.no_shots;
      due = subst (λ (l : List Due). All IsDue l) (sym given) c.requires.due;
      reply_room = omega (arith, replies.ok, ap (length {A = Reply}) c.requires.no_replies, ap (length {A = Due}) given, c.requires.reply_room);
      shot_room = omega (arith, shots.ok, ap (length {A = Shot}) c.requires.no_shots, ap (count_by (λ (d : Due). is_view d.task)) given, c.requires.shot_room);
    }

pub loop-due-preserved : goal.loop-due-preserved
loop-due-preserved g c =
    let cells = c.args.cells.now in
    let made = made_of (table cells) in
    let first = knows c.args.pass.now in
    let opened = turn.view c.args.asks.now in
    let done = c.loop-due.yielded in
    let one = c.in-Some.due in
    let rest = c.next.new.self.rest.items in
    let split = c.in-Some.ensures.steps.0 in
    let more = c.act_once.ensures in
    let after = c.act_once.new in
    let views : count_by (λ (d : Due). is_view d.task) (one ∷ rest) ≡ cond (is_view one.task) 1 0 + count_by (λ d. is_view d.task) rest = sum_by-cons _ one rest in
    let acts : Acts (plan_at g.S.Store.contents (table cells)) made.levels.value made.keys.value first opened (map numbered done ++ numbered one ∷ []) after.replies.items after.shots.items (knows after.pass) (turn.view after.asks) =
    acts_more first opened (teammate_at g.S.Store.contents cells one.actor c.loop-due.pass (turn.view c.loop-due.asks)) (teammate_at g.S.Store.contents cells one.actor after.pass (turn.view after.asks))
    (map numbered done) (numbered one) _ _ _ _ refl c.loop-due.invariant.acts more.adds in
    record {
      can = tt;
      finite = tt;
      all = c.loop-due.invariant.all ∙ ap (λ r. done ++ r) split ∙ sym (append_assoc done (one ∷ []) rest);
      pass = more.pass;
      free = more.free;
      asks = more.asks;
      acts = subst (λ (l : List NumberedCommand). Acts (plan_at g.S.Store.contents (table cells)) made.levels.value made.keys.value first opened l after.replies.items after.shots.items (knows after.pass) (turn.view after.asks)) (sym (map-append numbered done (one ∷ []))) acts;
      due = All-tail IsDue one rest (subst (λ (l : List Due). All IsDue l) split c.loop-due.invariant.due);
      reply_room = omega (arith, c.loop-due.invariant.reply_room, more.replies, more.reply_room, ap (length {A = Due}) split);
      shot_room = omega (arith, c.loop-due.invariant.shot_room, more.shots, more.shot_room, views, ap (count_by (λ (d : Due). is_view d.task)) split);
    }
