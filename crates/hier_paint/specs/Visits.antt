-- The visits of a frame, and its events at them. A visit needs no look where its cell is the one of the last look, with that
-- look ready, or is the one of the last look at this level that wasn't ready. Before a look the frame gives back what it holds.
use Rattle.std.specs.Prelude.{◌≡◌, ◌⊎◌, ℕ, Bool, true, false, List, [], ◌∷◌, ◌++◌}
use Rattle.arr_history.specs.declared.event.Event.{Event}
use Rattle.arr_history.specs.declared.event.Event.TheVariants as event
use Rattle.scale_pick.specs.declared.note.Note.{Note}
use Rattle.scale_pick.specs.declared.note.Note.TheVariants as note
use Rattle.volatile_cell.specs.Budget.{Allowance}
use Rattle.volatile_cell.specs.Asked.{Asked}
use Rattle.volatile_cell.specs.Looks.{IsReadyLook, IsNotReadyLook}
use Rattle.hier_paint.specs.Sight.{Sight, is_held, is_missed, holding, missing, given_back}
use Rattle.volatile_cell.specs.Front.{Looker}

-- a visit: the level, and what was noted there, a voxel that was read or a cell that wasn't ready
pub record Visit : Type 0 where
  pub level : ℕ
  pub note : Note

abbrev pub reading_visit : ℕ → ℕ → ℕ → ℕ → Visit
reading_visit level cell at x = record { level = level; note = note.Read cell at x }

abbrev pub skipping : ℕ → ℕ → Visit
skipping level cell = record { level = level; note = note.NotReady cell }

-- The cell is neither held, nor the last one not ready at this level: it is looked for.
pub record IsLookedFor (s : Sight) (level cell : ℕ) : Type 0 where
  pub not_held : is_held s cell ≡ false
  pub not_missed : is_missed s level cell ≡ false

-- no event, and nothing changes
pub record IsIdle (s s' : Sight) (events : List Event) (calls : List Asked) : Type 0 where
  pub same : s' ≡ s
  pub none : events ≡ []
  pub nothing_asked : calls ≡ []

module _ (who : Looker) where
  -- the frame looks for a cell, which is ready, or isn't
  pub record LooksReady (s : Sight) (level cell : ℕ) (s' : Sight) (events : List Event) (calls : List Asked) : Type 0 where
    pub due : IsLookedFor s level cell
    pub piece : List Event
    pub loaded : Bool
    pub left : Allowance
    pub look : IsReadyLook who cell s.budget loaded left piece calls
    pub events_are : events ≡ given_back who.pass s.held ++ piece
    pub held : s' ≡ holding s cell left

  pub record LooksMissed (s : Sight) (level cell : ℕ) (s' : Sight) (events : List Event) (calls : List Asked) : Type 0 where
    pub due : IsLookedFor s level cell
    pub piece : List Event
    pub left : Allowance
    pub look : IsNotReadyLook who cell s.budget left piece calls
    pub events_are : events ≡ given_back who.pass s.held ++ piece
    pub missed : s' ≡ missing s level cell left

  -- the frame finds a cell ready, or not
  abbrev pub Finds : Sight → ℕ → ℕ → Bool → Sight → List Event → List Asked → Type 0
  Finds s level cell true s' events calls = ((is_held s cell ≡ true) × IsIdle s s' events calls) ⊎ LooksReady s level cell s' events calls
  Finds s level cell false s' events calls = ((is_held s cell ≡ false) × (is_missed s level cell ≡ true) × IsIdle s s' events calls) ⊎ LooksMissed s level cell s' events calls

  -- the events of a visit: a cell that is ready is read
  abbrev pub IsVisit : Sight → ℕ → Note → Sight → List Event → List Asked → Type 0
  IsVisit s level (note.Read cell at x) s' events calls = (found : List Event) × Finds s level cell true s' found calls × (events ≡ found ++ event.Read who.pass cell at x ∷ [])
  IsVisit s level (note.NotReady cell) s' events calls = Finds s level cell false s' events calls

  -- visits one after another
  abbrev pub AreVisits : Sight → List Visit → Sight → List Event → List Asked → Type 0
  AreVisits s [] s' events calls = IsIdle s s' events calls
  AreVisits s (v ∷ visits) s' events calls =
      (t : Sight) × (first : List Event) × (rest : List Event) × (asked : List Asked) × (more : List Asked)
      × IsVisit s v.level v.note t first asked × AreVisits t visits s' rest more × (events ≡ first ++ rest) × (calls ≡ asked ++ more)
