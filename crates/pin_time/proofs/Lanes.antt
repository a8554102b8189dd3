-- A cell's lane has the cell's number.
use Rattle.std.proofs.Common.{◌≡◌, ℕ, zero, suc, ◌%◌, ◌<◌, sym, refl, subst, arith}
use Rattle.pin_rule.specs.declared.pins.Pins.{Pins}
use Rattle.pin_rule.specs.Calls.{lane_count}
use Rattle.pin_time.specs.Timed.{IsTimed}

small : (c : ℕ) → c < 2 → c % 2 ≡ c
small zero lt = refl
small (suc zero) lt = refl
small (suc (suc c)) lt = absurd (omega (arith, lt))

pub own_lane : {S : Type 0} (t : Pins S) (c : ℕ) → IsTimed t c → c % lane_count t ≡ c
own_lane t c h = subst (λ n. c % n ≡ c) (sym h.lanes) (small c (subst (λ n. c < n) h.cells h.cell))
