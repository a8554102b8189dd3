-- Passes that are split from a first one, and joined into it again.
use Rattle.std.specs.Prelude.{◌≡◌, ℕ, ◌+◌, List, [], ◌∷◌}
use Rattle.pass_roster.specs.Roster.{Passes}

module _ {D E X : Type 0} (p : Passes D E X) where
  -- The first pass d has drawn so many numbers more, and has seen, made and taken in nothing since.
  pub record HasDrawn (d : D) (count : ℕ) (w : D) : Type 0 where
    pub number : p.number w ≡ p.number d
    pub seen : p.seen w ≡ p.seen d
    pub mine : p.mine w ≡ p.mine d
    pub ended : p.ended w ≡ p.ended d
    pub drawn : p.drawn w ≡ p.drawn d + count

  -- a new pass of the number k, which has seen this
  pub record IsNew (seen : List E) (k : ℕ) (w : D) : Type 0 where
    pub number : p.number w ≡ k
    pub has_seen : p.seen w ≡ seen
    pub mine : p.mine w ≡ []

  -- new passes, numbered from k
  abbrev pub AreNew : List E → ℕ → List D → Type 0
  AreNew seen k [] = Unit {0}
  AreNew seen k (w ∷ rest) = IsNew seen k w × AreNew seen (k + 1) rest

-- passes were joined into a first one, one after another
abbrev pub AreJoined : {D : Type 0} → (D → D → D → Type 0) → List D → D → D → Type 0
AreJoined joins [] d d' = d' ≡ d
AreJoined {D} joins (e ∷ rest) d d' = (mid : D) × joins d e mid × AreJoined joins rest mid d'
