-- The order in which slots leave: the slots of `cold` from its front on, then those of `kept`.
use Rattle.std.specs.Prelude.{◌≡◌, ℕ, ◌/◌, ◌<◌, ◌≤◌, ◌||◌, nat_lt, Bool, true, false, not, List, [], ◌∷◌, ◌++◌, length, take, drop, find, Option, slice_index_or, if◌then◌else◌}
use Rattle.ix_links.specs.NodeList.{contains, without, is_distinct}

-- how many slots there are, and the two lists
pub record Order : Type 0 where
  pub slots : ℕ
  pub cold : List ℕ
  pub kept : List ℕ

-- no slot is in a list
abbrev pub opening_order : ℕ → Order
opening_order slots = record { slots = slots; cold = []; kept = [] }

-- whether the slot is in a list
abbrev pub is_listed : Order → ℕ → Bool
is_listed o slot = contains o.cold slot || contains o.kept slot

-- the slot comes to cold's back
abbrev pub admitted : Order → ℕ → Order
admitted o slot = record { slots = o.slots; cold = o.cold ++ slot ∷ []; kept = o.kept }

-- the slot is taken out
abbrev pub without_slot : Order → ℕ → Order
without_slot o slot = record { slots = o.slots; cold = without o.cold slot; kept = without o.kept slot }

-- the slot comes to kept's back
abbrev pub promoted : Order → ℕ → Order
promoted o slot = record { slots = o.slots; cold = o.cold; kept = o.kept ++ slot ∷ [] }

-- kept's front goes to cold's back
abbrev pub cooled : Order → Order
cooled o = record { slots = o.slots; cold = o.cold ++ take 1 o.kept; kept = drop 1 o.kept }

-- the same, where kept is longer than half the slots
abbrev pub bounded : Order → Order
bounded o = if nat_lt (o.slots / 2) (length o.kept) then cooled o else o

-- the slot is moved to kept's back, and kept stays within its bound
abbrev pub touched : Order → ℕ → Order
touched o slot = bounded (promoted (without_slot o slot) slot)

-- the first slot that isn't pinned, in cold and then in kept
abbrev pub victim_of : Order → List Bool → Option ℕ
victim_of o pinned = find (λ slot. not (slice_index_or pinned slot false)) (o.cold ++ o.kept)

-- only slots are listed, each at most once, and at most half of them are kept
pub record IsOrder (o : Order) : Type 0 where
  pub within : (slot : ℕ) → is_listed o slot ≡ true → slot < o.slots
  pub once : is_distinct (o.cold ++ o.kept) ≡ true
  pub bound : length o.kept ≤ o.slots / 2

-- a slot that may leave: it is listed and not pinned
pub record MayLeave (o : Order) (pinned : List Bool) (slot : ℕ) : Type 0 where
  pub within : slot < o.slots
  pub listed : is_listed o slot ≡ true
  pub unpinned : slice_index_or pinned slot false ≡ false
