-- What a step, a split and a join do to the views of passes. Whatever else a view holds is free.
use Rattle.std.specs.Prelude.{◌≡◌, ◌⊎◌, ◌+◌, List, [], ◌∷◌, ◌++◌}
use Rattle.pass_roster.specs.History.{longer, entries_by}
use Rattle.pass_roster.specs.Roster.{Passes}

module _ {D E X : Type 0} (p : Passes D E X) where
  -- A pass goes on from the view d to w. The history grows by these entries, which are its own, and it has seen all or as much as before.
  pub record GoesOn (history : List E) (d w : D) (entries : List E) : Type 0 where
    pub number : p.number w ≡ p.number d
    pub ended : p.ended w ≡ p.ended d
    pub drawn : p.drawn w ≡ p.drawn d
    pub out : p.out w ≡ 1
    pub own : entries_by p.by (p.number d) entries ≡ entries
    pub mine : p.mine w ≡ p.mine d ++ entries
    pub seen : (p.seen w ≡ history ++ entries) ⊎ ((entries ≡ []) × (p.seen w ≡ p.seen d))

  -- The first pass v draws the next number for a new pass u, which has seen as much. Its view is then w.
  pub record IsSplit (v w u : D) : Type 0 where
    pub number : p.number w ≡ p.number v
    pub seen : p.seen w ≡ p.seen v
    pub mine : p.mine w ≡ p.mine v
    pub ended : p.ended w ≡ p.ended v
    pub drawn : p.drawn w ≡ p.drawn v + 1
    pub out : p.out w ≡ 1
    pub new_number : p.number u ≡ p.drawn v
    pub new_seen : p.seen u ≡ p.seen v
    pub new_mine : p.mine u ≡ []
    pub new_out : p.out u ≡ 1

  -- The first pass v takes in the pass e, which is kept as x. Its view is then w, and the view that is left of the other is that of no pass.
  pub record IsJoin (v e w left : D) (x : X) : Type 0 where
    pub number : p.number w ≡ p.number v
    pub seen : p.seen w ≡ longer (p.seen v) (p.seen e)
    pub mine : p.mine w ≡ p.mine v
    pub ended : p.ended w ≡ p.ended v ++ x ∷ []
    pub drawn : p.drawn w ≡ p.drawn v
    pub out : p.out w ≡ 1
    pub ended_number : p.ended_number x ≡ p.number e
    pub ended_mine : p.ended_mine x ≡ p.mine e
    pub spent : p.out left ≡ 0
