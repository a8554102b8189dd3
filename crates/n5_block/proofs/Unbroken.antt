-- A block that breaks no rule is sound.
use Rattle.std.proofs.Common.{◌≡◌, ℕ, ◌≤◌, ◌==◌, nat_lt, Bool, not, ◌||◌, true, false, List, length, Option, None, Some, refl, arith, if◌then◌else◌}
use Rattle.std.specs.Option.{option_or}
use Rattle.std.proofs.lemmas.Bool.Decides.{nat_tests}
use Rattle.n5_block.specs.declared.block_err.BlockErr.{BlockErr}
use Rattle.n5_block.specs.Rules.{number_at, side_outside, wrong_length, broken_block_rule}
use Rattle.n5_block.proofs.Good.{Sound}

-- no refusal: the test fails, and nothing behind it refuses
none_of : (b : Bool) (err : BlockErr) (rest : Option BlockErr) → (if b then Some err else rest) ≡ None → (b ≡ false) × (rest ≡ None)
none_of true err rest e = absurd (cc)
none_of false err rest e = (refl, e)

none_first : (p q : Option BlockErr) → option_or p q ≡ None → (p ≡ None) × (q ≡ None)
none_first None q e = (refl, e)
none_first (Some err) q e = absurd (cc)

at_least : (a b : ℕ) → nat_lt a b ≡ false → b ≤ a
at_least a b e = grind (arith, nat_tests)

same : (a b : ℕ) → not (a == b) ≡ false → a ≡ b
same a b e = grind (arith, nat_tests)

between : (axis low high side : ℕ) → side_outside axis low high side ≡ None → (low ≤ side) × (side ≤ high)
between axis low high side e =
    let no = (none_of (nat_lt side low || nat_lt high side) _ None e).0 in
    (grind (arith, nat_tests), grind (arith, nat_tests))

right_length : (len need : ℕ) → wrong_length len need ≡ None → len ≡ need
right_length len need e =
    let short = none_of (nat_lt len need) _ _ e in
    let long = none_of (nat_lt need len) _ _ short.1 in
    omega (arith, at_least len need short.0, at_least need len long.0)

pub sound_of_unbroken : (width : ℕ) (need full bytes : List ℕ) → broken_block_rule width need full bytes ≡ None → Sound width need full bytes
sound_of_unbroken width need full bytes e =
    let short = none_of (nat_lt (length bytes) 16) _ _ e in
    let mode = none_of (not (number_at bytes 0 2 == 0)) _ _ short.1 in
    let axes = none_of (not (number_at bytes 2 2 == 3)) _ _ mode.1 in
    let x = none_first _ _ axes.1 in
    let y = none_first _ _ x.1 in
    let z = none_first _ _ y.1 in
    let bx = between 0 _ _ _ x.0 in
    let by = between 1 _ _ _ y.0 in
    let bz = between 2 _ _ _ z.0 in
    record {
      long = at_least _ _ short.0;
      mode = same _ _ mode.0;
      axes = same _ _ axes.0;
      at_least = record { x = bx.0; y = by.0; z = bz.0 };
      at_most = record { x = bx.1; y = by.1; z = bz.1 };
      whole = right_length _ _ z.1;
    }
