-- What a painter does between two moments.
use Rattle.std.specs.Prelude.{ℕ, Bool, List, []}
use Rattle.cell_file.specs.declared.errors.AcquireErr.{AcquireErr}
use Rattle.arr_history.specs.declared.event.Event.{Event}
use Rattle.volatile_cell.specs.Asked.{Asked}
use Rattle.volatile_cell.specs.Looks.{IsRefusedLook}
use Rattle.volatile_cell.specs.Budget.{Allowance}
use Rattle.hier_paint.specs.Sight.{Sight, given_back}
use Rattle.hier_paint.specs.Visits.{Visit, IsLookedFor, Finds, AreVisits}
use Rattle.volatile_cell.specs.Front.{Front}

module _ {E : Type 0} (front : Front E) where
  -- A cell is found ready, or not.
  pub record Found (e : E) (s : Sight) (level cell : ℕ) (ready : Bool) (e' : E) (s' : Sight) : Type 0 where
    pub events : List Event
    pub calls : List Asked
    pub led : front.leads e events calls e'
    pub finds : Finds (front.looker e) s level cell ready s' events calls

  -- Visits, of which a fact holds.
  pub record Works (e : E) (s : Sight) (e' : E) (s' : Sight) (Way : List Visit → Type 0) : Type 0 where
    pub visits : List Visit
    pub events : List Event
    pub calls : List Asked
    pub led : front.leads e events calls e'
    pub are : AreVisits (front.looker e) s visits s' events calls
    pub way : Way visits

  -- Visits, and a look for the cell of another one that is refused. Before it what was held is given back.
  pub record Fails (e : E) (s : Sight) (e' : E) (err : AcquireErr) (Way : List Visit → ℕ → ℕ → Type 0) : Type 0 where
    pub between : E
    pub last : Sight
    pub works : Works e s between last (λ _. Unit {0})
    pub level : ℕ
    pub cell : ℕ
    pub way : Way works.visits level cell
    pub due : IsLookedFor last level cell
    pub free : E
    pub let_go : front.leads between (given_back (front.looker e).pass last.held) [] free
    pub piece : List Event
    pub left : Allowance
    pub calls : List Asked
    pub refused : front.leads free piece calls e'
    pub look : IsRefusedLook (front.looker e) cell last.budget err left piece calls
    pub cause : front.caused free e' cell err
