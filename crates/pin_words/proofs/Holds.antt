-- What passes hold, where the state of one cell changes, and what a cell's word shows.
use Rattle.std.proofs.Common.{◌≡◌, ◌≢◌, ℕ, ◌+◌, ◌-◌, ◌*◌, ◌<◌, ◌≤◌, cond, Bool, true, false, List, [], ◌∷◌, sym, refl, ap, ◌∙◌, arith, eq-eqb, ne_eqb}
use mathlib.Core.Logic.{dite}
use native.Mathlib.Decide.{ℕ_discrete}
use Rattle.arr_history.specs.declared.cell_state.CellState.{CellState}
use Rattle.arr_history.specs.declared.cell_state.CellState.TheVariants as cell
use Rattle.arr_history.specs.State.{State, with_at}
use Rattle.pin_words.specs.declared.holding.Pin.{Pin}
use Rattle.pin_words.specs.declared.holding.Left.{Left}
use Rattle.pin_words.specs.declared.doing.Doing.{Doing}
use Rattle.pin_words.specs.Plan.{Plan, start_of}
use Rattle.pin_words.specs.Account.{one, times_in}
use Rattle.pin_words.specs.Layout.{bit, face}
use Rattle.pin_words.specs.Words.{times, times_left, Each}
use Rattle.pin_words.specs.Rule.{PinOk, ClaimOk, LeftOk, HoldsOk}
use Rattle.pin_words.proofs.Numbers.{put_at, put_other, one_is, one_else}
use Rattle.pin_words.proofs.Found.{no_claim, no_left}

-- the pins once a pass has one more, or one fewer, on a cell
abbrev pub pinned : (ℕ → ℕ → ℕ) → ℕ → ℕ → ℕ → ℕ → ℕ
pinned f k c = with_at f k (with_at (f k) c (f k c + 1))

abbrev pub unpinned : (ℕ → ℕ → ℕ) → ℕ → ℕ → ℕ → ℕ → ℕ
unpinned f k c = with_at f k (with_at (f k) c (f k c - 1))

-- the pins of the pass itself, and those of another
own_at : (f : ℕ → ℕ → ℕ) (k c n a : ℕ) → with_at f k (with_at (f k) c n) k a ≡ with_at (f k) c n a
own_at f k c n a = ap (λ (b : Bool). cond b (with_at (f k) c n) (f k) a) (eq-eqb k k refl)

pub pinned_else : (f : ℕ → ℕ → ℕ) (k c n j a : ℕ) → j ≢ k → with_at f k (with_at (f k) c n) j a ≡ f j a
pinned_else f k c n j a ne = ap (λ (b : Bool). cond b (with_at (f k) c n) (f j) a) (ne_eqb k j (λ e. ne (sym e)))

pub pinned_own : (f : ℕ → ℕ → ℕ) (k c a : ℕ) → pinned f k c k a ≡ one c a + f k a
pinned_own f k c a = own_at f k c (f k c + 1) a ∙ dite (ℕ_discrete a c)
    (λ e. put_at (f k) c (f k c + 1) a e ∙ (let o = one_is c a (sym e) in let h : f k a ≡ f k c = (λ i. f k (e i)) in omega arith))
    (λ n. put_other (f k) c (f k c + 1) a n ∙ (let o = one_else c a (λ e. n (sym e)) in omega arith))

pub unpinned_own : (f : ℕ → ℕ → ℕ) (k c a : ℕ) → 0 < f k c → one c a + unpinned f k c k a ≡ f k a
unpinned_own f k c a some_on = dite (ℕ_discrete a c)
    (λ e. let o = one_is c a (sym e) in let h : f k a ≡ f k c = (λ i. f k (e i)) in let v : unpinned f k c k a ≡ f k c - 1 = own_at f k c (f k c - 1) a ∙ put_at (f k) c (f k c - 1) a e in omega arith)
    (λ n. let o = one_else c a (λ e. n (sym e)) in let v : unpinned f k c k a ≡ f k a = own_at f k c (f k c - 1) a ∙ put_other (f k) c (f k c - 1) a n in omega arith)

-- no pin is on a cell that isn't live
pub no_pin : (w : State) (cells c : ℕ) (ps : List Pin) → ((s : ℕ) (m : Bool) → w.cells c ≡ cell.Live s m → ⊥) → Each (PinOk w cells) ps → times c ps ≡ 0
no_pin w cells c [] n a = refl
no_pin w cells c (p ∷ ps) n a = let r = no_pin w cells c ps n a.1 in let h : one p.cell c ≡ 0 = one_else p.cell c (λ e. n p.slot a.0.1.0 ((λ i. w.cells (sym e i)) ∙ a.0.1.1)) in omega arith

abbrev pub changed : State → ℕ → CellState → (ℕ → ℕ → ℕ) → State
changed w c t P = record { cells = with_at w.cells c t; pins = P; arrays = w.arrays }

pub pins_stay : (w : State) (cells c : ℕ) (t : CellState) (P : ℕ → ℕ → ℕ) (ps : List Pin) → times c ps ≡ 0 → Each (PinOk w cells) ps → Each (PinOk (changed w c t P) cells) ps
pins_stay w cells c t P [] z a = tt
pins_stay w cells c t P (p ∷ ps) z a =
    let n : p.cell ≢ c = λ e. let o : one p.cell c ≡ 1 = one_is p.cell c e in let z' : one p.cell c + times c ps ≡ 0 = z in absurd (omega arith) in
    let z' : one p.cell c + times c ps ≡ 0 = z in ((a.0.0, (a.0.1.0, put_other w.cells c t p.cell n ∙ a.0.1.1, a.0.1.2)), pins_stay w cells c t P ps (omega arith) a.1)

pub claims_stay : (w : State) (cells k c : ℕ) (t : CellState) (P : ℕ → ℕ → ℕ) (cs : List ℕ) → times_in c cs ≡ 0 → Each (ClaimOk w cells k) cs → Each (ClaimOk (changed w c t P) cells k) cs
claims_stay w cells k c t P [] z a = tt
claims_stay w cells k c t P (x ∷ xs) z a =
    let z' : one x c + times_in c xs ≡ 0 = z in let n : x ≢ c = λ e. let o = one_is x c e in absurd (omega arith) in
    ((a.0.0, put_other w.cells c t x n ∙ a.0.1), claims_stay w cells k c t P xs (omega arith) a.1)

pub left_stay : (start w : State) (cells k c : ℕ) (t : CellState) (P : ℕ → ℕ → ℕ) (ps : List Left) → times_left c ps ≡ 0 → Each (LeftOk start w cells k) ps → Each (LeftOk start (changed w c t P) cells k) ps
left_stay start w cells k c t P [] z a = tt
left_stay start w cells k c t P (p ∷ ps) z a =
    let z' : one p.cell c + times_left c ps ≡ 0 = z in let n : p.cell ≢ c = λ e. let o = one_is p.cell c e in absurd (omega arith) in
    ((a.0.0, put_other w.cells c t p.cell n ∙ a.0.1, a.0.2), left_stay start w cells k c t P ps (omega arith) a.1)

-- what a pass holds stays where another cell changes
pub holds_stay : {S M : Type 0} (p : Plan S M) (w : State) (c : ℕ) (t : CellState) (P : ℕ → ℕ → ℕ) (f : Doing S M) → HoldsOk p w f → times c f.pins ≡ 0 → (w.cells c ≡ cell.Loading f.number → ⊥) → ((s : ℕ) (m : Bool) → w.cells c ≡ cell.Leaving f.number s m → ⊥)
    → ((a : ℕ) → P f.number a ≡ w.pins f.number a) → HoldsOk p (changed w c t P) f
holds_stay p w c t P f h none_here not_loading not_leaving same = record {
  made = h.made;
  pins = λ a. h.pins a ∙ sym (same a);
  each_pin = pins_stay w p.cells c t P f.pins none_here h.each_pin;
  each_claim = claims_stay w p.cells f.number c t P f.claims (no_claim w p.cells f.number c f.claims not_loading h.each_claim) h.each_claim;
  each_slot = h.each_slot;
  each_left = left_stay (start_of p) w p.cells f.number c t P f.leaving (no_left (start_of p) w p.cells f.number c f.leaving not_leaving h.each_left) h.each_left;
  few = h.few;
  once = h.once;
  once_left = h.once_left;
  once_filled = h.once_filled;
  each_rise = h.each_rise;
  stage = h.stage;
}

pub bit_small : (m : Bool) → bit m ≤ 1
bit_small true = omega arith
bit_small false = omega arith

bit_same : (a b : Bool) → bit a ≡ bit b → a ≡ b
bit_same true true e = refl
bit_same true false e = absurd (omega arith)
bit_same false true e = absurd (omega arith)
bit_same false false e = refl

-- a word that is 0
pub shows_absent : (t : CellState) (q : ℕ) → face t + q ≡ 0 → (t ≡ cell.Absent) × (q ≡ 0)
shows_absent cell.Absent q e = let e' : 0 + q ≡ 0 = e in (refl, omega arith)
shows_absent (cell.Loading k) q e = let e' : 33554432 + q ≡ 0 = e in absurd (omega arith)
shows_absent (cell.Live s m) q e = let x : ℕ = bit m in let e' : 67108864 + 16777216 * x + 4294967296 * s + q ≡ 0 = e in absurd (omega arith)
shows_absent (cell.Leaving k s m) q e = let x : ℕ = bit m in let e' : 100663296 + 16777216 * x + 4294967296 * s + q ≡ 0 = e in absurd (omega arith)

-- a word that is a live cell's with count 0
pub shows_unpinned : (t : CellState) (q s : ℕ) (b : Bool) → face t + q ≡ face (cell.Live s b) → q < 16777216 → (t ≡ cell.Live s b) × (q ≡ 0)
shows_unpinned cell.Absent q s b e small = let y : ℕ = bit b in let e' : 0 + q ≡ 67108864 + 16777216 * y + 4294967296 * s = e in absurd (omega arith)
shows_unpinned (cell.Loading k) q s b e small = let y : ℕ = bit b in let e' : 33554432 + q ≡ 67108864 + 16777216 * y + 4294967296 * s = e in let y' : y ≤ 1 = bit_small b in absurd (omega arith)
shows_unpinned (cell.Live t m) q s b e small = let x : ℕ = bit m in let y : ℕ = bit b in let e' : 67108864 + 16777216 * x + 4294967296 * t + q ≡ 67108864 + 16777216 * y + 4294967296 * s = e in
    let x' : x ≤ 1 = bit_small m in let y' : y ≤ 1 = bit_small b in let same : t ≡ s = omega arith in let bits : x ≡ y = omega arith in ((λ i. cell.Live (same i) (bit_same m b bits i)), omega arith)
shows_unpinned (cell.Leaving k t m) q s b e small = let x : ℕ = bit m in let y : ℕ = bit b in let e' : 100663296 + 16777216 * x + 4294967296 * t + q ≡ 67108864 + 16777216 * y + 4294967296 * s = e in
    let x' : x ≤ 1 = bit_small m in let y' : y ≤ 1 = bit_small b in absurd (omega arith)
