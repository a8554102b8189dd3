-- Tests of numbers, and functions with another value at one place.
use Rattle.std.proofs.Common.{◌≡◌, ◌≢◌, ℕ, ◌<◌, cond, refl, sym, eq-eqb, ne_eqb, arith}
use mathlib.Core.Logic.{dite}
use native.Mathlib.Decide.{ℕ_discrete}
use Rattle.arr_history.specs.declared.cell_state.CellState.{CellState}
use Rattle.arr_history.specs.declared.cell_state.CellState.TheVariants as cell
use Rattle.arr_history.specs.State.{with_at}
use Rattle.arr_history.specs.Legal.{HasSlot}
use Rattle.pin_words.specs.Account.{one}
use Rattle.pin_words.specs.Words.{in_slot}

pub put_same : {A : Type 0} (f : ℕ → A) (i : ℕ) (x : A) → with_at f i x i ≡ x
put_same f i x = λ k. cond (eq-eqb i i refl k) x (f i)

pub put_at : {A : Type 0} (f : ℕ → A) (i : ℕ) (x : A) (j : ℕ) → j ≡ i → with_at f i x j ≡ x
put_at f i x j e = λ k. cond (eq-eqb i j (sym e) k) x (f j)

pub put_other : {A : Type 0} (f : ℕ → A) (i : ℕ) (x : A) (j : ℕ) → j ≢ i → with_at f i x j ≡ f j
put_other f i x j n = λ k. cond (ne_eqb i j (λ e. n (sym e)) k) x (f j)

pub one_same : (c : ℕ) → one c c ≡ 1
one_same c = λ i. cond (eq-eqb c c refl i) 1 0

pub one_is : (a c : ℕ) → a ≡ c → one a c ≡ 1
one_is a c e = λ i. cond (eq-eqb a c e i) 1 0

pub one_else : (a c : ℕ) → a ≢ c → one a c ≡ 0
one_else a c n = λ i. cond (ne_eqb a c n i) 1 0

pub in_slot_is : (t : CellState) (s : ℕ) → HasSlot t s → in_slot s t ≡ 1
in_slot_is cell.Absent s h = absurd h
in_slot_is (cell.Loading k) s h = absurd h
in_slot_is (cell.Live u m) s h = one_is u s h
in_slot_is (cell.Leaving k u m) s h = one_is u s h

one_has : (a c : ℕ) → 0 < one a c → a ≡ c
one_has a c h = dite (ℕ_discrete a c) (λ e. e) (λ n. let o = one_else a c n in absurd (omega arith))

pub in_slot_has : (t : CellState) (s : ℕ) → 0 < in_slot s t → HasSlot t s
in_slot_has cell.Absent s h = absurd (omega arith)
in_slot_has (cell.Loading k) s h = absurd (omega arith)
in_slot_has (cell.Live u m) s h = one_has u s h
in_slot_has (cell.Leaving k u m) s h = one_has u s h
