-- Eyes, as looks, frames and fetches speak of them.
use Rattle.std.specs.Prelude.{◌≡◌, ℕ, ◌+◌, ◌-◌, ◌==◌, ◌&&◌, Bool, cond, List, [], ◌∷◌, ◌++◌}
use Rattle.cell_grid.specs.declared.level.Level.{Level}
use Rattle.cell_file.specs.declared.errors.AcquireErr.{AcquireErr}
use Rattle.arr_history.specs.declared.event.Event.{Event}
use Rattle.arr_history.specs.declared.event.Event.TheVariants.{Pin, Live, Unpin}
use Rattle.volatile_cell.specs.Asked.{Asked}

-- Who looks, and at what: the number of the pass, whether it has its cells to itself, the number of its viewer in the queue, and the
-- levels of the pyramid.
pub record Looker : Type 0 where
  pub pass : ℕ
  pub alone : Bool
  pub viewer : ℕ
  pub levels : List Level

-- What eyes are at a moment, and what they do from one to another: who looks; how many handles are out on a cell; that these events of the
-- pass and these calls of the queue lead there, with events and calls of others between; and why an acquire of a cell was refused.
pub record Front (E : Type 0) : Type 1 where
  pub looker : E → Looker
  pub pins : E → ℕ → ℕ
  pub leads : E → List Event → List Asked → E → Type 0
  pub caused : E → E → ℕ → AcquireErr → Type 0

-- the pins of a pass on a cell after an event, and after events, by how many they were
abbrev pub pins_next : ℕ → ℕ → Event → ℕ → ℕ
pins_next k c (Pin j d) n = cond ((j == k) && (d == c)) (n + 1) n
pins_next k c (Live j d slot) n = cond ((j == k) && (d == c)) (n + 1) n
pins_next k c (Unpin j d) n = cond ((j == k) && (d == c)) (n - 1) n
pins_next k c other n = n

abbrev pub pins_after : ℕ → ℕ → List Event → ℕ → ℕ
pins_after k c [] n = n
pins_after k c (e ∷ events) n = pins_after k c events (pins_next k c e n)

-- Nothing leads from a moment to itself, what leads on leads from where something led, the looker stays the same, and the pins are as the
-- events make them.
pub record IsFront {E : Type 0} (front : Front E) : Type 0 where
  pub stays : (e : E) → front.leads e [] [] e
  pub leads_on : (a b c : E) (p q : List Event) (u v : List Asked) → front.leads a p u b → front.leads b q v c → front.leads a (p ++ q) (u ++ v) c
  pub same : (a b : E) (p : List Event) (u : List Asked) → front.leads a p u b → front.looker a ≡ front.looker b
  pub counted : (a b : E) (p : List Event) (u : List Asked) → front.leads a p u b → (c : ℕ) → front.pins b c ≡ pins_after (front.looker a).pass c p (front.pins a c)
