-- How often stores failed while a pass had their lanes.
use Rattle.std.specs.Prelude.{ℕ, zero, suc, ◌+◌}
use Rattle.pass_roster.specs.History.{total}
use Rattle.pin_words.specs.declared.doing.Doing.{Doing}
use Rattle.pin_words.specs.Plan.{Plan}
use Rattle.pin_words.specs.Account.{rise, rise_ended}

-- the sum over the lanes below n
abbrev pub over_lanes : ℕ → (ℕ → ℕ) → ℕ
over_lanes zero f = 0
over_lanes (suc n) f = over_lanes n f + f n

module _ {S M : Type 0} (p : Plan S M) where
  -- the rounds of a pass with the lanes over which a store's count of faults rose
  abbrev pub rises_of : Doing S M → ℕ
  rises_of d = over_lanes p.lanes (λ l. rise l d)

  -- the same of the passes that were joined into a first one
  abbrev pub rises_of_ended : Doing S M → ℕ
  rises_of_ended d = over_lanes p.lanes (λ l. total (rise_ended l) d.ended)
