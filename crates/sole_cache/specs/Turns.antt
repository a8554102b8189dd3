-- The order in which slots leave, as events change it: a pin and a return touch the cell's slot, a load admits its slot, and what is
-- gone leaves its slot.
use Rattle.std.specs.Prelude.{List, [], ◌∷◌}
use Rattle.recency.specs.Order.{Order, admitted, without_slot, touched}
use Rattle.arr_history.specs.declared.event.Event.{Event}
use Rattle.arr_history.specs.declared.event.Event.TheVariants.{Pin, Live, Gone, Back}
use Rattle.arr_history.specs.declared.cell_state.CellState.{CellState}
use Rattle.arr_history.specs.declared.cell_state.CellState.TheVariants as cell
use Rattle.arr_history.specs.State.{State}
use Rattle.arr_history.specs.Next.{next}

-- the order with the slot of a cell touched, or left
abbrev pub touched_by : Order → CellState → Order
touched_by o (cell.Live slot mark) = touched o slot
touched_by o (cell.Leaving k slot mark) = touched o slot
touched_by o other = o

abbrev pub left_by : Order → CellState → Order
left_by o (cell.Live slot mark) = without_slot o slot
left_by o (cell.Leaving k slot mark) = without_slot o slot
left_by o other = o

abbrev pub order_next : State → Order → Event → Order
order_next s o (Pin k c) = touched_by o (s.cells c)
order_next s o (Live k c slot) = admitted o slot
order_next s o (Gone k c saved) = left_by o (s.cells c)
order_next s o (Back k c) = touched_by o (s.cells c)
order_next s o other = o

-- the order after events
abbrev pub order_after : State → Order → List Event → Order
order_after s o [] = o
order_after s o (e ∷ events) = order_after (next s e) (order_next s o e) events
