-- What the words of cells show, by state.
use Rattle.std.proofs.Common.{◌≡◌, ℕ, ◌+◌, ◌*◌, ◌/◌, ◌%◌, ◌^◌, ◌<◌, ◌≤◌, ◌==◌, Bool, true, false, refl, ap, ◌∙◌, arith}
use Rattle.std.specs.Prelude.{if◌then◌else◌}
use Rattle.arr_history.specs.declared.cell_state.CellState.{CellState}
use Rattle.arr_history.specs.declared.cell_state.CellState.TheVariants as cell
use Rattle.arr_history.specs.declared.cell_state.Seen.{Seen}
use Rattle.arr_history.specs.declared.cell_state.Seen.TheVariants as look
use Rattle.arr_history.specs.Legal.{HasSlot}
use Rattle.pin_words.specs.Account.{has_mark}
use Rattle.pin_words.specs.Layout.{bit, face}
use Rattle.pin_words.specs.Pins.{seen_of}
use Rattle.pin_words.proofs.Holds.{bit_small}
use Rattle.pin_rule.specs.Shown.{look_of}

abbrev by_state : ℕ → Seen
by_state k = if k == 0 then look.Absent else if k == 1 then look.Loading else if k == 2 then look.Live else look.Leaving

abbrev by_mark : ℕ → Bool
by_mark k = k == 1

mark_of : (m : Bool) → (bit m == 1) ≡ m
mark_of true = refl
mark_of false = refl

-- a word that is a state's, with a count
pub record Shown (t : CellState) (n q : ℕ) : Type 0 where
  pub state : look_of n ≡ seen_of t
  pub slot : (s : ℕ) → HasSlot t s → n / 2 ^ 32 ≡ s
  pub marked : ((n / 2 ^ 24) % 2 == 1) ≡ has_mark t
  pub count_is : n % 2 ^ 24 ≡ q

pub shown : (t : CellState) (n q : ℕ) → q < 2 ^ 24 → n ≡ face t + q → Shown t n q
shown cell.Absent n q small is = let e : n ≡ 0 + q = is in record { state = ap by_state (let h : (n / 2 ^ 25) % 4 ≡ 0 = omega arith in h); slot = λ s h. absurd h; marked = ap by_mark (let h : (n / 2 ^ 24) % 2 ≡ 0 = omega arith in h); count_is = omega arith }
shown (cell.Loading k) n q small is = let e : n ≡ 33554432 + q = is in record { state = ap by_state (let h : (n / 2 ^ 25) % 4 ≡ 1 = omega arith in h); slot = λ s h. absurd h; marked = ap by_mark (let h : (n / 2 ^ 24) % 2 ≡ 0 = omega arith in h); count_is = omega arith }
shown (cell.Live u m) n q small is = let x : ℕ = bit m in let b : x ≤ 1 = bit_small m in let e : n ≡ 67108864 + 16777216 * x + 4294967296 * u + q = is in record {
  state = ap by_state (let h : (n / 2 ^ 25) % 4 ≡ 2 = omega arith in h);
  slot = λ s h. (let k : n / 2 ^ 32 ≡ u = omega arith in k ∙ h);
  marked = ap by_mark (let h : (n / 2 ^ 24) % 2 ≡ x = omega arith in h) ∙ mark_of m;
  count_is = omega arith;
}
shown (cell.Leaving k u m) n q small is = let x : ℕ = bit m in let b : x ≤ 1 = bit_small m in let e : n ≡ 100663296 + 16777216 * x + 4294967296 * u + q = is in record {
  state = ap by_state (let h : (n / 2 ^ 25) % 4 ≡ 3 = omega arith in h);
  slot = λ s h. (let k : n / 2 ^ 32 ≡ u = omega arith in k ∙ h);
  marked = ap by_mark (let h : (n / 2 ^ 24) % 2 ≡ x = omega arith in h) ∙ mark_of m;
  count_is = omega arith;
}
