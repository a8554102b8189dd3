use Rattle.std.proofs.Common.{◌≡◌, ◌≤◌, List, [], None}
use Rattle.std.specs.Prelude.{vec_capacity}
use Rattle.arr_history.specs.declared.event.Event.{Event}
use Rattle.arr_history.specs.Tally.{tally_raised, IsTally}
use Rattle.pin_words.specs.Tells.{IsLone}
use Rattle.pin_rule.specs.Calls.{view, cell_count, IsPassOf}
use Rattle.pin_rule.specs.Hands.{Hands}
use Rattle.live_cells.specs.Shutting.{ShutsBelow}
use Rattle.live_cells.proofs.shutting.shut_cells.Given as goal

abbrev pub invariant-loop-cell : goal.invariant-loop-cell
invariant-loop-cell g l = record {
  pass : IsPassOf l.pins l.pass;
  lone : IsLone (view l.pass);
  bare : Hands [] [] [] None (view l.pass) × ((view l.pass).pins ≡ []);
  counts : IsTally l.tally;
  room : cell_count l.pins ≤ vec_capacity l.unsaved;
  shut : (closing : List Event) × ShutsBelow g.S.Store.contents l.pins l.cell (view l.fn.pass) l.unsaved.items closing (view l.pass) × (l.tally ≡ tally_raised l.fn.tally [] closing);
}
