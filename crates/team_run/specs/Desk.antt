-- What commands are carried out over.
use Rattle.std.specs.Prelude.{◌≡◌, ℕ, List, length}
use Rattle.arr_history.specs.declared.event.Event.{Event}
use Rattle.cell_file.specs.declared.errors.AcquireErr.{AcquireErr}
use Rattle.cell_grid.specs.declared.level.Level.{Level}
use Rattle.cell_grid.specs.Pyramid.{cells_of}
use Rattle.fetch_queue.specs.Queue.{Queue, opening_queue}
use Rattle.sole_cache.specs.Cached.{Cached, handles_out, state_of}
use Rattle.volatile_cell.specs.Asked.{Asked, AskedFrom}
use Rattle.sole_eyes.specs.SoleEyes.{EyesLeadOn, EyesLead, IsRefusal, sole}
use Rattle.volatile_cell.specs.Requests.{IsQueueFor}
use Rattle.volatile_cell.specs.Front.{Front}

-- a cache, and the queue of the cells that are wanted of it
pub record Desk : Type 0 where
  pub cache : Cached
  pub queue : Queue

abbrev pub desk : Cached → Queue → Desk
desk cache queue = record { cache = cache; queue = queue }

abbrev pub levels_at : Desk → List Level
levels_at d = d.cache.levels

-- These events and these calls of the queue lead from one moment to another.
pub record DeskLeads (old : Desk) (events : List Event) (calls : List Asked) (new : Desk) : Type 0 where
  pub cache : EyesLeadOn old.cache events new.cache
  pub queue : AskedFrom old.queue calls new.queue

-- The same by steps of eyes over the cache, with their calls of the stores.
pub record DeskFollows (old : Desk) (events : List Event) (calls : List Asked) (new : Desk) : Type 0 where
  pub cache : EyesLead old.cache events new.cache
  pub queue : AskedFrom old.queue calls new.queue

-- Why an acquire of a cell between two moments was refused.
abbrev pub IsDeskRefusal : Desk → Desk → ℕ → AcquireErr → Type 0
IsDeskRefusal old new cell err = IsRefusal old.cache new.cache cell err

-- a desk, as frames and fetches of a viewer speak of it
abbrev pub desk_front : ℕ → Front Desk
desk_front viewer = record { looker = λ d. sole viewer d.cache.levels; pins = λ d c. (state_of d.cache).pins 0 c; leads = DeskFollows; caused = IsDeskRefusal }

-- the queue of a run before its first command: 16 viewers, one priority for each level, and at most 256 cells that are prefetched
abbrev pub first_queue : List Level → Queue
first_queue levels = opening_queue 16 (cells_of levels) (length levels) 256

-- No handle is out, and the queue is for the cache's cells and 16 viewers.
pub record IsReady (d : Desk) : Type 0 where
  pub handles : handles_out d.cache ≡ 0
  pub queue : IsQueueFor d.queue d.cache.levels
  pub viewers : d.queue.viewers ≡ 16
