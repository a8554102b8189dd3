use Rattle.std.proofs.Common.{rules, ◌∙◌, [], ap, sym}
use Rattle.arr_history.specs.Tally.{tally_of}
use Rattle.pin_rule.specs.Calls.{view}
use Rattle.live_cells.specs.Cells.{knows}
use Rattle.live_cells.proofs.Joining.{joined_mine, joined_hands, joined_tally, joined_step}
use Rattle.live_cells.proofs.cells.Cells.join.Goals as goal

pub returns-clause-pass : goal.returns-clause-pass
returns-clause-pass g c = let q = c.requires.pass in let d = knows c.args.pass.now in let e = knows c.args.other in let f = view c.join.new.pass in record {
  actor = record { pass = c.join.ensures.pass; tally = q.actor.tally ∙ ap (λ x. tally_of x []) (sym (joined_mine d e f (search rules))) };
  joined = joined_tally d e f (search rules) c.args.pass.now.joined c.args.other.actor.tally _ (search rules) q.joined c.requires.other.actor.tally;
  free = joined_hands d e f (search rules) q.free;
  frame = q.frame;
  block = q.block;
  asks = c.join-2.ensures.pass;
  step = joined_step d e f (search rules) c.args.pass.now.asks c.args.other.asks c.join-2.new.pass (search rules) q.step;
}
