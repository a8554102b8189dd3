-- A pass at work, beside others that may be at work too.
use Rattle.std.specs.Prelude.{◌≡◌, List, ◌++◌}
use Rattle.pass_roster.specs.History.{entries_by}
use Rattle.pass_roster.specs.Roster.{Passes}

module _ {D E X : Type 0} (p : Passes D E X) where
  -- A pass went on from the view d to w by these entries of its own, in this order. Entries of others may stand between them.
  pub record Works (d : D) (own : List E) (w : D) : Type 0 where
    pub number : p.number w ≡ p.number d
    pub more : List E
    pub seen : p.seen w ≡ p.seen d ++ more
    pub mine : p.mine w ≡ p.mine d ++ own
    pub are_own : entries_by p.by (p.number d) more ≡ own
