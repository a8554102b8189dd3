use Rattle.std.proofs.Common.{rules, ◌∙◌, ◌<◌, [], ◌∷◌, OnErr, Result, Ok, Err, length, sym, ap, subst, arith, length-append}
use Rattle.std.proofs.lemmas.List.{append-nil}
use Rattle.team_passes.specs.declared.team_pass.TeamPass.{TeamPass}
use Rattle.team_passes.specs.Teams.{AreDrawn}
use Rattle.team_passes.proofs.Teaming.{drawn_none, drawn_more, may_draw}
use Rattle.team_passes.proofs.passes.draw.Goals as goal

pub loop-init : goal.loop-init
loop-init g c = record {
  first = c.requires.first;
  drawn = subst (λ l. AreDrawn c.args.cells.now c.args.queue.now c.args.first.now l c.args.first.now) (sym c.requires.none) (drawn_none c.args.cells.now c.args.queue.now c.args.first.now);
  count = ap (length {A = TeamPass _}) c.requires.none;
  room = c.requires.capacity;
}

pub split_pass-requires-clause-first : goal.split_pass-requires-clause-first
split_pass-requires-clause-first g c = c.loop.invariant.first

pub split_pass-requires-clause-room : goal.split_pass-requires-clause-room
split_pass-requires-clause-room g c = let was = c.loop.invariant in may_draw c.args.cells.now c.args.queue.now c.args.count c.args.first.now c.loop.first c.loop.drawn.items was.drawn c.requires.room (let e = was.count in omega arith)

pub loop-preserved : goal.loop-preserved
loop-preserved g c =
    let was = c.loop.invariant in
    let drawn = c.loop.drawn.items in
    let pass = c.in_ok-pass.pass in
    let added = c.add_pass.ensures.added in
    record {
      first = c.split_pass.ensures.first;
      drawn = subst (λ l. AreDrawn c.args.cells.now c.args.queue.now c.args.first.now l c.split_pass.new.first) (sym added)
          (drawn_more c.args.cells.now c.args.queue.now c.args.first.now c.loop.first c.split_pass.new.first drawn (pass ∷ []) was.drawn c.in_ok-pass.ensures.drawn);
      count = ap (length {A = TeamPass _}) added ∙ (length-append drawn (pass ∷ []) ∙ (let a = was.count in omega arith));
      room = (let a = was.room in search rules);
    }

pub returns-in_err-pass-clause-drawn : goal.returns-in_err-pass-clause-drawn
returns-in_err-pass-clause-drawn g c = subst (λ l. AreDrawn c.args.cells.now c.args.queue.now c.args.first.now l c.split_pass.new.first) (append-nil c.loop.drawn.items)
    (drawn_more c.args.cells.now c.args.queue.now c.args.first.now c.loop.first c.split_pass.new.first c.loop.drawn.items [] c.loop.invariant.drawn c.in_err-pass.ensures.wanting)

-- what an error is to tell holds
on_err : {X E : Type 0} (r : Result X E) (A : Type 0) → A → OnErr r A
on_err (Ok x) A holds = tt
on_err (Err e) A holds = holds

pub returns-in_err-pass-clause-wanting : goal.returns-in_err-pass-clause-wanting
returns-in_err-pass-clause-wanting g c = let was = c.loop.invariant.count in on_err c.from_residual.result (length c.loop.drawn.items < c.args.count) (omega arith)
