use Rattle.std.proofs.Common.{◌≡◌, ◌∙◌, Option, ap, subst}
use Rattle.arr_history.specs.Tally.{plus}
use Rattle.pin_words.specs.declared.doing.Doing.{Doing}
use Rattle.pin_words.specs.Tells.{IsLone}
use Rattle.pin_rule.specs.declared.made.Made.{Made}
use Rattle.pin_rule.specs.Calls.{view, plan_at, cell_count}
use Rattle.live_cells.specs.Actors.{made_by_ended}
use Rattle.live_cells.specs.Cells.{knows}
use Rattle.live_cells.specs.Shutting.{ShutsBelow}
use Rattle.live_cells.proofs.Alone.{seen_alone}
use Rattle.live_cells.proofs.Shuts.{tally_at_end}
use Rattle.live_cells.proofs.cells.Cells.shut.Goals as goal

pub returns : goal.returns
returns g c = let t = c.args.self.pins in let d = knows c.args.pass in let last = view c.shut_cells.new.pass in let s = c.shut_cells.ensures.shut in let q = c.requires.pass in let e = c.close-stores.ensures in
    let same : view c.into_all-pass.result.0 ≡ d = ap view c.into_all-pass.ensures.passes.0 in
    let below : ShutsBelow g.S.Store.contents t (cell_count t) d c.shut_cells.new.unsaved.items s.0 last = subst (λ (x : Doing _ (Option (Made _))). ShutsBelow g.S.Store.contents t (cell_count t) x c.shut_cells.new.unsaved.items s.0 last) same s.1 in
    let lone : IsLone d = (c.requires.first, c.requires.joined) in record {
      shut = record {
        closing = s.0;
        last = last;
        shut = below;
        history_is = e.trail ∙ seen_alone (plan_at g.S.Store.contents t) d last s.0 below.went lone;
        whole = e.history;
        seen_is = e.trail;
        settled = e.stores;
        tally_is = s.2 ∙ tally_at_end (made_by_ended d) d.mine s.0 _ (c.into_all-pass.ensures.tally ∙ (λ i. plus (q.joined i) (q.actor.tally i)));
      };
    }
