-- What clauses say of a table, of a pass, and of what belongs to a pass.
use Rattle.std.specs.Prelude.{◌≡◌, ℕ, ◌+◌, ◌<◌, ◌≤◌, Bool, true, IsTrue, List, [], ◌∷◌, length, Option, Some, None, vec_capacity, IsSome}
use mathlib.Core.Option.{some}
use lib.ListN.{get_elem?}
use Rattle.pin_words.specs.Ends.{Settled}
use Rattle.cell_store.specs.Store.{Contents, held_of as held_by}
use Rattle.cell_grid.specs.Pyramid.{cells_of, voxels_of}
use Rattle.cell_grid.specs.Kind.{greatest_of}
use Rattle.cell_grid.specs.Pyramid.{kind_of}
use Rattle.arr_history.specs.declared.event.Event.TheVariants as event
use Rattle.arr_history.specs.declared.cell_state.Seen.{Seen}
use Rattle.arr_history.specs.History.{after}
use Rattle.pin_words.specs.declared.holding.Pin.{Pin}
use Rattle.pin_words.specs.declared.lane.Taken.{Taken}
use Rattle.pin_words.specs.declared.doing.Doing.{Doing}
use Rattle.pin_words.specs.declared.doing.Stage.TheVariants.{Idle}
use Rattle.pin_words.specs.Plan.{Plan, lane_of, start_of}
use Rattle.pin_words.specs.Standing.{StandsFor, gets_under}
use Rattle.pin_words.specs.Account.{times_in, Returns}
use Rattle.pin_words.specs.Rule.{Sat}
use Rattle.pin_words.specs.Finding.{pin, has_pin, has_held, held_of, has_left, left_of}
use Rattle.pin_words.specs.Tells.{Adds}
use Rattle.pin_words.specs.Pins.{seen_of}
use Rattle.pin_words.specs.Cells.{IsDue}
use Rattle.pin_words.specs.Lanes.{GivesLane}
use Rattle.pin_rule.specs.declared.made.Made.{Made}
use Rattle.pin_rule.specs.declared.pins.Pins.{Pins}
use Rattle.pin_rule.specs.declared.pass.Pass.{Pass}
use Rattle.pin_rule.specs.Parts.{PinnedCell, OwnLane}
use Rattle.pin_rule.specs.Plans.{plan_of}

-- the pin of a handle
abbrev pub pin_of : PinnedCell → Pin
pin_of h = pin h.cell h.slot h.marked

module _ {S : Type 0} where
  -- what a pass knows and holds
  abbrev pub view : Pass S → Doing S (Option (Made S))
  view p = p.seat.me.0

  -- what the table was told when it was made
  abbrev pub made_of : Pins S → Made S
  made_of t = t.table.shared.key

  abbrev pub plan_at : (S → Contents) → Pins S → Plan S (Option (Made S))
  plan_at shows t = plan_of shows (Some (made_of t))

  abbrev pub cell_count : Pins S → ℕ
  cell_count t = cells_of (made_of t).levels.value

  abbrev pub slot_count : Pins S → ℕ
  slot_count t = (made_of t).slots

  abbrev pub lane_count : Pins S → ℕ
  lane_count t = length (made_of t).stores.value.items

  -- how many voxels a cell has, and the greatest number that one may have
  abbrev pub voxel_count : Pins S → ℕ → ℕ
  voxel_count t c = voxels_of (made_of t).levels.value c

  abbrev pub greatest_in : Pins S → ℕ → ℕ
  greatest_in t c = greatest_of (kind_of (made_of t).levels.value c)

  -- what the seat carries: a place for the store that is out
  abbrev pub carried : Option (Taken S) → List (ℕ × Option S)
  carried None = []
  carried (Some o) = (o.lane, None) ∷ []

  -- between two calls: no step is under way
  abbrev pub Rests : Sat S (Option (Made S)) → Made S → Type 0
  Rests m made = (m.0.made ≡ Some made) × (m.0.stage ≡ Idle) × (m.1 ≡ carried m.0.lane)

  -- the first pass has drawn its own number, and has the memory of the list that the stores came in
  abbrev pub HasRoom : Doing S (Option (Made S)) → ℕ → Made S → Type 0
  HasRoom d room made = d.number ≡ 0 → (0 < d.drawn) × (length made.stores.value.items ≤ room)

  -- the same pass, that has drawn as many numbers and counts its rises for as many lanes
  abbrev pub SamePass : Doing S (Option (Made S)) → Doing S (Option (Made S)) → Type 0
  SamePass d d' = (d'.number ≡ d.number) × (d'.drawn ≡ d.drawn) × (length d'.rises ≡ length d.rises)

  -- a pass of this table, which counts its rises for each lane
  abbrev pub IsPassOf : Pins S → Pass S → Type 0
  IsPassOf t p = (p.seat.table_id ≡ t.table.shared.table_id) × Rests p.seat.me (made_of t) × HasRoom (view p) (vec_capacity p.list) (made_of t)
      × (length (view p).rises ≡ lane_count t)

  -- the handle is one of the pass
  abbrev pub IsHeld : Pins S → Pass S → PinnedCell → Type 0
  IsHeld t p h = (has_pin (pin_of h) (view p) ≡ true) × (h.cell < cell_count t) × (h.slot < slot_count t)

  -- the slot is one of the pass
  abbrev pub IsMySlot : Doing S (Option (Made S)) → ℕ → Option ℕ → Type 0
  IsMySlot d s filled = (has_held s d ≡ true) × ((held_of s d).filled ≡ filled)

  -- the pass has closed the cell
  abbrev pub IsMyLeaving : Doing S (Option (Made S)) → ℕ → ℕ → Bool → Type 0
  IsMyLeaving d c s mark = (has_left c d ≡ true) × ((left_of c d).slot ≡ s) × ((left_of c d).marked ≡ mark)

  -- the cell wasn't live, but in this state
  abbrev pub IsRefusedPin : Plan S (Option (Made S)) → Doing S (Option (Made S)) → ℕ → Seen → Doing S (Option (Made S)) → Type 0
  IsRefusedPin p d c state d' = Adds p d (event.Miss d.number c) d d' × (state ≡ seen_of ((after (start_of p) d'.seen).cells c))

  -- What `fill` asks of the lane: it is the cell's, where told the numbers are due, and the log has a get for each fill, this one included.
  abbrev pub MayFill : Plan S (Option (Made S)) → Doing S (Option (Made S)) → ℕ → OwnLane S → List ℕ → Type 0
  MayFill p d c lane values = (o : Taken S) × (d.lane ≡ Some o) × (lane.lane ≡ o.lane) × (lane_of p c ≡ o.lane) × IsDue p o c values
      × (IsTrue (p.shows o.store).told_log → gets_under (p.edited c) (p.shows o.store).log + (times_in c o.fills + 1) ≤ gets_under (p.edited c) (p.shows lane.store).log)

  -- What `gone` asks of a marked cell: the pass has the cell's lane, and where told its store stands for the frame.
  abbrev pub MaySave : Plan S (Option (Made S)) → Doing S (Option (Made S)) → ℕ → OwnLane S → Type 0
  MaySave p d c lane = (o : Taken S) × (d.lane ≡ Some o) × (lane.lane ≡ o.lane) × (lane_of p c ≡ o.lane)
      × (IsTrue (p.shows o.store).told → StandsFor p (held_by (p.shows lane.store)) c ((after (start_of p) (left_of c d).at).arrays c))

  -- the lane is the pass's, and its store may come home
  abbrev pub MayReturn : Plan S (Option (Made S)) → Doing S (Option (Made S)) → OwnLane S → Type 0
  MayReturn p d lane = (o : Taken S) × (d.lane ≡ Some o) × (lane.lane ≡ o.lane) × Returns p o d.seen lane.store

  abbrev pub IsReturned : Plan S (Option (Made S)) → Doing S (Option (Made S)) → OwnLane S → Doing S (Option (Made S)) → Type 0
  IsReturned p d lane d' = (o : Taken S) × (d.lane ≡ Some o) × (lane.lane ≡ o.lane) × GivesLane p d o lane.store d'

-- each is there, not None
abbrev pub AllSome : {A : Type 0} → List (Option A) → Type 0
AllSome [] = Unit {0}
AllSome (x ∷ xs) = IsSome x × AllSome xs

-- the stores in the order of the lanes, each settled with the whole history
pub record AreSettled {S M : Type 0} (p : Plan S M) (d : Doing S M) (stores : List S) : Type 0 where
  pub count : length stores ≡ length p.stores
  pub each : (l : ℕ) (first store : S) → get_elem? p.stores l ≡ some first → get_elem? stores l ≡ some store → Settled p d l first store
