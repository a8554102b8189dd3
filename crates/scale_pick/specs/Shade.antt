-- The bytes that show numbers.
use Rattle.std.specs.Prelude.{ℕ, ◌-◌, ◌*◌, ◌/◌, ◌^◌, nat_le, if◌then◌else◌}
use Rattle.std.specs.Int.{div_ceil}

-- the byte that shows a number in a range
abbrev pub shown : ℕ → ℕ → ℕ → ℕ
shown v low high =
    if nat_le v low then 0 else
    if nat_le high v then 255 else (v - low) * 255 / (high - low)

-- what shows a number of a range by a multiplication, in parts of 2^56; 0 where the span is too long for it
abbrev pub scale_of : ℕ → ℕ
scale_of span = if nat_le span 16777216 then 255 * div_ceil (2 ^ 56) span else 0
