-- What the first pass knows once all others were joined into it.
use Rattle.std.specs.Prelude.{◌≡◌, ◌≢◌, ℕ, ◌+◌, ◌<◌, ◌≤◌, [], length}
use mathlib.Core.Option.{some}
use lib.ListN.{get_elem?}
use Rattle.pass_roster.specs.History.{entries_by}
use Rattle.pass_roster.specs.Roster.{Passes, HasEnded}

module _ {D E X : Type 0} (p : Passes D E X) where
  -- as many numbers were drawn as passes ended, and one for itself
  abbrev pub AllJoined : D → Type 0
  AllJoined v = p.drawn v ≡ length (p.ended v) + 1

  -- each number drawn but 0 is that of a pass that ended
  abbrev pub IsAlone : D → Type 0
  IsAlone v = (k : ℕ) → k < p.drawn v → k ≢ 0 → HasEnded p (p.ended v) k

  -- The history that the first pass has seen is whole: it is made of its own entries and of those of the passes that ended, each list in full and in order.
  pub record IsWhole (v : D) : Type 0 where
    pub own : entries_by p.by 0 (p.seen v) ≡ p.mine v
    pub each : (n : ℕ) (x : X) → get_elem? (p.ended v) n ≡ some x → (entries_by p.by (p.ended_number x) (p.seen v) ≡ p.ended_mine x) × (p.ended_number x < p.drawn v) × (p.ended_number x ≢ 0)
    pub differ : (m n : ℕ) (x y : X) → get_elem? (p.ended v) m ≡ some x → get_elem? (p.ended v) n ≡ some y → p.ended_number x ≡ p.ended_number y → m ≡ n
    pub alone : IsAlone v
    pub no_other : (k : ℕ) → p.drawn v ≤ k → entries_by p.by k (p.seen v) ≡ []
