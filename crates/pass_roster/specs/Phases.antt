-- Passes that were split from the first one together and joined into it again, phase by phase.
use Rattle.std.specs.Prelude.{◌≡◌, ◌⊎◌, ℕ, ◌+◌, ◌<◌, ◌≤◌, List, [], ◌∷◌, ◌++◌, length}
use mathlib.Core.Option.{some}
use lib.ListN.{get_elem?}
use Rattle.pass_roster.specs.History.{StartsWith, entries_by}
use Rattle.pass_roster.specs.Roster.{Passes}

module _ {E : Type 0} (by : E → ℕ) where
  -- each of the passes numbered from k has made its entries in this part of a history
  abbrev pub HaveMade : ℕ → List (List E) → List E → Type 0
  HaveMade k [] part = Unit {0}
  HaveMade k (own ∷ works) part = (front : List E) × (back : List E) × (part ≡ front ++ back) × (entries_by by k front ≡ own) × HaveMade (k + 1) works part

  -- A part of a history has the entries of the passes numbered from k, each pass's in order, and no others.
  pub record IsOf (k : ℕ) (works : List (List E)) (part : List E) : Type 0 where
    pub each : (i : ℕ) (own : List E) → get_elem? works i ≡ some own → entries_by by (k + i) part ≡ own
    pub none : (n : ℕ) → (n < k) ⊎ (k + length works ≤ n) → entries_by by n part ≡ []

  -- A history by phases: the entries of a phase's passes stand after all of the phases before it. Passes are numbered from k.
  abbrev pub InPhases : ℕ → List (List (List E)) → List E → Type 0
  InPhases k [] history = history ≡ []
  InPhases k (works ∷ phases) history = (part : List E) × (rest : List E) × (history ≡ part ++ rest) × IsOf k works part × InPhases (k + length works) phases rest

module _ {D E X : Type 0} (p : Passes D E X) where
  -- passes that ended, numbered from k, each with its entries
  abbrev pub AreEnded : ℕ → List (List E) → List X → Type 0
  AreEnded k [] xs = xs ≡ []
  AreEnded k (own ∷ works) xs = (x : X) × (rest : List X) × (xs ≡ x ∷ rest) × (p.ended_number x ≡ k) × (p.ended_mine x ≡ own) × AreEnded (k + 1) works rest

  -- The first pass d has taken in the passes numbered from k, which had seen what d has, and had made these entries then.
  pub record TakesIn (k : ℕ) (d : D) (works : List (List E)) (w : D) : Type 0 where
    pub number : p.number w ≡ p.number d
    pub mine : p.mine w ≡ p.mine d
    pub drawn : p.drawn w ≡ p.drawn d
    pub ends : List X
    pub ended : p.ended w ≡ p.ended d ++ ends
    pub are : AreEnded k works ends
    pub part : List E
    pub seen : p.seen w ≡ p.seen d ++ part
    pub made : HaveMade p.by k works part

  -- the first pass v took in the pass e, which is kept as x, and is w then
  pub record TookIn (v e w : D) (x : X) : Type 0 where
    pub number : p.number w ≡ p.number v
    pub mine : p.mine w ≡ p.mine v
    pub drawn : p.drawn w ≡ p.drawn v
    pub ended : p.ended w ≡ p.ended v ++ x ∷ []
    pub first_seen : StartsWith (p.seen w) (p.seen v)
    pub other_seen : StartsWith (p.seen w) (p.seen e)
    pub ended_number : p.ended_number x ≡ p.number e
    pub ended_mine : p.ended_mine x ≡ p.mine e

  -- A phase: passes were split from the first one, made these entries, and were joined into it.
  pub record IsPhase (d : D) (works : List (List E)) (w : D) : Type 0 where
    pub number : p.number w ≡ p.number d
    pub mine : p.mine w ≡ p.mine d
    pub drawn : p.drawn w ≡ p.drawn d + length works
    pub ends : List X
    pub ended : p.ended w ≡ p.ended d ++ ends
    pub are : AreEnded (p.drawn d) works ends
    pub part : List E
    pub seen : p.seen w ≡ p.seen d ++ part
    pub made : HaveMade p.by (p.drawn d) works part

  -- phases one after another
  abbrev pub ArePhases : D → List (List (List E)) → D → Type 0
  ArePhases d [] w = w ≡ d
  ArePhases d (works ∷ phases) w = (mid : D) × IsPhase d works mid × ArePhases mid phases w

  -- a first pass that has seen, made and taken in nothing
  pub record IsFirst (d : D) : Type 0 where
    pub number : p.number d ≡ 0
    pub seen : p.seen d ≡ []
    pub mine : p.mine d ≡ []
    pub ended : p.ended d ≡ []
    pub drawn : p.drawn d ≡ 1
