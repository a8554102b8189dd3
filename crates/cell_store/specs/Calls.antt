-- Calls that are counted, of which some fail.
use Rattle.std.specs.Prelude.{ℕ, ◌+◌, ◌-◌, ◌^◌, ◌==◌, List, Bool, min, if◌then◌else◌}
use Rattle.std.specs.List.{list_any}

pub record CallCount : Type 0 where
  -- the numbers of the calls that fail, counted from 1
  pub failing : List ℕ
  -- how many calls were made, and how many of them failed
  pub made : ℕ
  pub faults : ℕ

-- one more, in 64 bits: a count stays at its last value
abbrev pub raised : ℕ → ℕ
raised count = min (count + 1) (2 ^ 64 - 1)

-- whether the next call is one of those that fail
abbrev pub fails_next : CallCount → Bool
fails_next c = list_any (λ number. number == raised c.made) c.failing

-- the counts after the next call
abbrev pub counted : CallCount → CallCount
counted c = record { failing = c.failing; made = raised c.made; faults = if fails_next c then raised c.faults else c.faults }
