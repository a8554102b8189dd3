-- Passes with numbers over one history: what each has seen and made, and which of them ended.
-- Nothing here says what an entry means.
use Rattle.std.specs.Prelude.{◌≡◌, ◌≢◌, ◌⊎◌, ℕ, ◌+◌, ◌<◌, ◌≤◌, List, [], length}
use mathlib.Core.Option.{some}
use lib.ListN.{get_elem?}
use Rattle.pass_roster.specs.History.{StartsWith, entries_by, total}

-- How these are read off the view of a pass (D), an entry of the history (E) and a pass that ended (X).
pub record Passes (D E X : Type 0) : Type 0 where
  pub number : D → ℕ
  -- the beginning of the history that the pass knows
  pub seen : D → List E
  -- its own entries
  pub mine : D → List E
  -- of pass 0: the passes that were joined into it, and how many numbers were drawn
  pub ended : D → List X
  pub drawn : D → ℕ
  -- 1 while the pass is out, and 0 once it was joined
  pub out : D → ℕ
  -- the number of the pass that made the entry
  pub by : E → ℕ
  pub ended_number : X → ℕ
  pub ended_mine : X → List E

module _ {D E X : Type 0} (p : Passes D E X) where
  -- of each pass that is out, with its place among the views
  abbrev pub EachOut : List D → (ℕ → D → Type 0) → Type 0
  EachOut views P = (j : ℕ) (d : D) → get_elem? views j ≡ some d → p.out d ≡ 1 → P j d

  abbrev pub SomeOut : List D → (ℕ → D → Type 0) → Type 0
  SomeOut views P = (j : ℕ) × (d : D) × (get_elem? views j ≡ some d) × (p.out d ≡ 1) × P j d

  -- the number k is that of a pass that ended
  abbrev pub HasEnded : List X → ℕ → Type 0
  HasEnded ended k = (n : ℕ) × (x : X) × (get_elem? ended n ≡ some x) × (p.ended_number x ≡ k)

  -- what a pass that is out shows is so
  pub record IsPass (history : List E) (drawn : ℕ) (ended : List X) (d : D) : Type 0 where
    pub begins : StartsWith history (p.seen d)
    pub mine : entries_by p.by (p.number d) history ≡ p.mine d
    -- it has seen all that it made
    pub all_seen : entries_by p.by (p.number d) (p.seen d) ≡ p.mine d
    pub below : p.number d < drawn
    pub first : p.number d ≡ 0 → (p.ended d ≡ ended) × (p.drawn d ≡ drawn)

  -- what is kept of a pass that ended is so, and no pass that is out has its number
  pub record IsEnded (history : List E) (drawn : ℕ) (views : List D) (x : X) : Type 0 where
    pub mine : entries_by p.by (p.ended_number x) history ≡ p.ended_mine x
    pub below : p.ended_number x < drawn
    pub gone : EachOut views (λ _ d. p.number d ≢ p.ended_number x)

  pub record Roster (history : List E) (drawn : ℕ) (ended : List X) (views : List D) : Type 0 where
    pub each : EachOut views (λ _ d. IsPass history drawn ended d)
    pub each_ended : (n : ℕ) (x : X) → get_elem? ended n ≡ some x → IsEnded history drawn views x
    -- numbers differ
    pub apart : (i j : ℕ) (d e : D) → get_elem? views i ≡ some d → get_elem? views j ≡ some e → p.out d ≡ 1 → p.out e ≡ 1 → p.number d ≡ p.number e → i ≡ j
    pub ended_apart : (m n : ℕ) (x y : X) → get_elem? ended m ≡ some x → get_elem? ended n ≡ some y → p.ended_number x ≡ p.ended_number y → m ≡ n
    -- each number drawn is that of a pass that is out or ended, and a number not yet drawn has no entry
    pub cover : (k : ℕ) → k < drawn → SomeOut views (λ _ d. p.number d ≡ k) ⊎ HasEnded ended k
    pub undrawn : (k : ℕ) → drawn ≤ k → entries_by p.by k history ≡ []
    -- some pass has seen all, so the longest `seen` is the whole history
    pub top : SomeOut views (λ _ d. p.seen d ≡ history)
    pub count : total p.out views + length ended ≡ drawn
    -- at most 64 passes are out, the first among them
    pub few : total p.out views ≤ 64
    pub out_or_not : (j : ℕ) (d : D) → get_elem? views j ≡ some d → p.out d ≤ 1
