-- The laws of a roster, for views, entries and ended passes of any type.
use Rattle.std.specs.Prelude.{◌≡◌, ◌≢◌, ◌↔◌, ℕ, ◌+◌, ◌<◌, ◌≤◌, List, [], ◌∷◌, ◌++◌, length, map, slice_set}
use mathlib.Core.Option.{some}
use lib.ListN.{get_elem?}
use Rattle.pass_roster.specs.History.{StartsWith, entries_by, total, flat}
use Rattle.pass_roster.specs.Roster.{Passes, EachOut, Roster}
use Rattle.pass_roster.specs.Steps.{GoesOn, IsSplit, IsJoin}
use Rattle.pass_roster.specs.Ends.{AllJoined, IsAlone, IsWhole}
use Rattle.pass_roster.specs.Works.{Works}
use Rattle.pass_roster.specs.Phases.{TakesIn, TookIn, ArePhases, IsFirst, InPhases}

module _ (D E X : Type 0) where
  -- a first pass that has seen and made nothing has the number 0, the only one drawn
  abbrev pub HasRosterAtOpening : Type 0
  HasRosterAtOpening = (p : Passes D E X) (v : D) → p.number v ≡ 0 → p.seen v ≡ [] → p.mine v ≡ [] → p.ended v ≡ [] → p.drawn v ≡ 1 → p.out v ≡ 1
      → Roster p [] 1 [] (v ∷ [])

  -- a step of one pass keeps the roster, and the pass has then seen all that it had seen
  abbrev pub StepKeepsRoster : Type 0
  StepKeepsRoster = (p : Passes D E X) (history : List E) (drawn : ℕ) (ended : List X) (views : List D) (id : ℕ) (d w : D) (entries : List E)
      → Roster p history drawn ended views → get_elem? views id ≡ some d → p.out d ≡ 1 → GoesOn p history d w entries
      → Roster p (history ++ entries) drawn ended (slice_set views id w) × StartsWith (p.seen w) (p.seen d)

  -- a split by the first pass keeps it, while fewer than 64 are out
  abbrev pub SplitKeepsRoster : Type 0
  SplitKeepsRoster = (p : Passes D E X) (history : List E) (drawn : ℕ) (ended : List X) (views : List D) (id : ℕ) (v w u : D)
      → Roster p history drawn ended views → get_elem? views id ≡ some v → p.out v ≡ 1 → p.number v ≡ 0 → p.drawn v < length (p.ended v) + 64 → IsSplit p v w u
      → Roster p history (drawn + 1) ended (slice_set views id w ++ u ∷ [])

  -- a view beside the others that is no pass keeps it
  abbrev pub SpentViewKeepsRoster : Type 0
  SpentViewKeepsRoster = (p : Passes D E X) (history : List E) (drawn : ℕ) (ended : List X) (views : List D) (u : D)
      → Roster p history drawn ended views → p.out u ≡ 0 → Roster p history drawn ended (views ++ u ∷ [])

  -- a join into the first pass keeps it, and both had seen a beginning of what the first has now seen
  abbrev pub JoinKeepsRoster : Type 0
  JoinKeepsRoster = (p : Passes D E X) (history : List E) (drawn : ℕ) (ended : List X) (views : List D) (id : ℕ) (v : D) (other : ℕ) (e w spent : D) (x : X)
      → Roster p history drawn ended views → get_elem? views id ≡ some v → p.out v ≡ 1 → p.number v ≡ 0 → other ≢ id → get_elem? views other ≡ some e → p.out e ≡ 1 → IsJoin p v e w spent x
      → Roster p history drawn (ended ++ x ∷ []) (slice_set (slice_set views id w) other spent) × StartsWith (p.seen w) (p.seen v) × StartsWith (p.seen w) (p.seen e)

  -- the longest `seen` is the whole history
  abbrev pub LongestSeenIsWhole : Type 0
  LongestSeenIsWhole = (p : Passes D E X) (history : List E) (drawn : ℕ) (ended : List X) (views : List D) (id : ℕ) (v : D)
      → Roster p history drawn ended views → get_elem? views id ≡ some v → p.out v ≡ 1 → EachOut p views (λ _ d. length (p.seen d) ≤ length (p.seen v))
      → p.seen v ≡ history

  -- once all others were joined into the first pass, none but it is out, and the history that it has seen is whole
  abbrev pub AllJoinedIsWhole : Type 0
  AllJoinedIsWhole = (p : Passes D E X) (history : List E) (drawn : ℕ) (ended : List X) (views : List D) (id : ℕ) (v : D)
      → Roster p history drawn ended views → get_elem? views id ≡ some v → p.out v ≡ 1 → p.number v ≡ 0 → AllJoined p v
      → (p.seen v ≡ history) × EachOut p views (λ j _. j ≡ id) × IsWhole p v

  -- this is so exactly where each number drawn but 0 is that of a pass that ended
  abbrev pub AllJoinedIsAlone : Type 0
  AllJoinedIsAlone = (p : Passes D E X) (history : List E) (drawn : ℕ) (ended : List X) (views : List D) (id : ℕ) (v : D)
      → Roster p history drawn ended views → get_elem? views id ≡ some v → p.out v ≡ 1 → p.number v ≡ 0
      → AllJoined p v ↔ IsAlone p v

  -- A whole history weighs what the first pass's entries and those of the passes that ended weigh.
  abbrev pub WholeWeighs : Type 0
  WholeWeighs = (p : Passes D E X) (weight : E → ℕ) (v : D) → IsWhole p v
      → total weight (p.seen v) ≡ total (total weight) (p.mine v ∷ map p.ended_mine (p.ended v))

  -- A pass at work goes on from where it came.
  abbrev pub WorksCompose : Type 0
  WorksCompose = (p : Passes D E X) (d w u : D) (own more : List E) → Works p d own w → Works p w more u → Works p d (own ++ more) u

  -- A first pass that takes in the next of the passes that it split, which went to work then, has taken in one more.
  abbrev pub JoinsTakeIn : Type 0
  JoinsTakeIn = (p : Passes D E X) (k : ℕ) (d : D) (before : List (List E)) (own : List E) (child e v w : D) (x : X)
      → TakesIn p k d before v → p.number child ≡ k + length before → p.seen child ≡ p.seen d → p.mine child ≡ [] → Works p child own e → TookIn p v e w x
      → TakesIn p k d (before ++ own ∷ []) w

  -- Where the first pass has seen a whole history, of phases and then of entries of its own alone, the part before these is by phases.
  abbrev pub PhasesStand : Type 0
  PhasesStand = (p : Passes D E X) (d w z : D) (phases : List (List (List E))) (closing : List E)
      → IsFirst p d → ArePhases p d phases w → IsWhole p z → p.ended z ≡ p.ended w → p.seen z ≡ p.seen w ++ closing → entries_by p.by 0 closing ≡ closing → p.mine z ≡ p.mine w ++ closing
      → p.drawn z ≡ p.drawn w → InPhases p.by 1 phases (p.seen w)

-- A history by phases weighs what its passes' entries weigh.
abbrev pub PhasesWeigh : (E : Type 0) → Type 0
PhasesWeigh E = (by weight : E → ℕ) (k : ℕ) (phases : List (List (List E))) (history : List E) → InPhases by k phases history → total weight history ≡ total (total weight) (flat phases)
