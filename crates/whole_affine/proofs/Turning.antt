-- What the remainders of an axis add to an offset.
use Rattle.std.proofs.Common.{◌≡◌, ◌∙◌, ℕ, suc, ◌+◌, ◌-◌, ◌*◌, ◌/◌, ◌^◌, ◌<◌, ◌≤◌, ℤ, pos, ◌+ℤ◌, ◌*ℤ◌, unsigned_abs, sym, ap, subst, add-one, arith}
use Rattle.std.proofs.lemmas.Int.{ints}
use Rattle.std.proofs.lemmas.Nat.{div-mul-add}
use Rattle.std.proofs.Math.IntN.{*ℤ_comm, suc_ℤ-*ℤ, zero-*ℤ}
use Rattle.whole_affine.proofs.Stretches.{quotient_above}
use Rattle.whole_affine.specs.Offsets.{turned, offset_ahead}
use Rattle.whole_affine.specs.Parts.{LiesIn}
use Rattle.whole_affine.specs.declared.offset_walk.OffsetWalk.{OffsetWalk}
use Rattle.whole_affine.specs.declared.offset_walk.Turn.{Turn}

-- a stride once more
one_stride : (stride : ℤ) (n : ℕ) → stride *ℤ pos (suc n) ≡ stride +ℤ (stride *ℤ pos n)
one_stride stride n = omega (arith, ints, *ℤ_comm stride (pos (suc n)), suc_ℤ-*ℤ (pos n) stride, *ℤ_comm (pos n) stride)

-- a step that makes up no divisor
pub turn_on : (stride : ℤ) (rest by divisor k : ℕ) → stride *ℤ pos ((rest + (k + 1) * by) / divisor) ≡ pos 0 +ℤ (stride *ℤ pos ((rest + by + k * by) / divisor))
turn_on stride rest by divisor k =
    let same : rest + (k + 1) * by ≡ rest + by + k * by = omega arith in
    omega (arith, ints, ap (λ n. stride *ℤ pos (n / divisor)) same)

-- and one that makes up one
pub turn_over : (stride : ℤ) (rest by divisor k : ℕ) → by < divisor → divisor ≤ rest + by → stride *ℤ pos ((rest + (k + 1) * by) / divisor) ≡ stride +ℤ (stride *ℤ pos ((rest - (divisor - by) + k * by) / divisor))
turn_over stride rest by divisor k below over =
    let more : rest + (k + 1) * by ≡ 1 * divisor + (rest - (divisor - by) + k * by) = omega (arith, below, over) in
    let q = (rest - (divisor - by) + k * by) / divisor in
    let one : (rest + (k + 1) * by) / divisor ≡ 1 + q = ap (λ n. n / divisor) more ∙ quotient_above 1 (rest - (divisor - by) + k * by) divisor (omega (arith, below)) in
    let next : (rest + (k + 1) * by) / divisor ≡ suc q = one ∙ omega arith in
    ap (λ n. stride *ℤ pos n) next ∙ one_stride stride q

-- at the start none is made up
pub turn_none : (stride : ℤ) (rest by divisor : ℕ) → rest < divisor → stride *ℤ pos ((rest + 0 * by) / divisor) ≡ pos 0
turn_none stride rest by divisor below =
    let same : rest + 0 * by ≡ 0 * divisor + rest = omega arith in
    let none : (rest + 0 * by) / divisor ≡ 0 = ap (λ n. n / divisor) same ∙ div-mul-add 0 divisor rest below in
    ap (λ n. stride *ℤ pos n) none ∙ omega (arith, ints, *ℤ_comm stride (pos 0))

-- without remainders none ever is
turn_never : (stride : ℤ) (rest by divisor k : ℕ) → by ≡ 0 → stride *ℤ pos ((rest + (k + 1) * by) / divisor) ≡ stride *ℤ pos ((rest + k * by) / divisor)
turn_never stride rest by divisor k none =
    let same : rest + (k + 1) * by ≡ rest + k * by = ap (λ n. rest + (k + 1) * n) none ∙ sym (ap (λ n. rest + k * n) none ∙ omega arith) in
    ap (λ n. stride *ℤ pos (n / divisor)) same

-- what an axis adds, by its numbers
pub turned_by : (t : Turn) (rest by divisor k : ℕ) (stride : ℤ) → t.rest ≡ rest → t.by_rest ≡ by → t.divisor ≡ divisor → t.stride ≡ stride → turned t k ≡ stride *ℤ pos ((rest + k * by) / divisor)
turned_by t rest by divisor k stride is_rest is_by is_divisor is_stride =
    ap (λ s. s *ℤ pos ((t.rest + k * t.by_rest) / t.divisor)) is_stride ∙ ap (λ n. stride *ℤ pos ((n + k * t.by_rest) / t.divisor)) is_rest ∙ ap (λ n. stride *ℤ pos ((rest + k * n) / t.divisor)) is_by ∙ ap (λ n. stride *ℤ pos ((rest + k * by) / n)) is_divisor

-- an offset is where its walk is
pub offset_here : (w : OffsetWalk) → offset_ahead w 0 ≡ w.at
offset_here w =
    let none = zero-*ℤ w.by in
    omega (arith, ints, none, turn_none w.x.stride w.x.rest w.x.by_rest w.x.divisor w.x.rest_below, turn_none w.y.stride w.y.rest w.y.by_rest w.y.divisor w.y.rest_below, turn_none w.z.stride w.z.rest w.z.by_rest w.z.divisor w.z.rest_below)

-- a walk that made a step, by what its axes added
pub offset_on : (w : OffsetWalk) (at by a b c : ℤ) (x y z : Turn) → at ≡ w.at +ℤ w.by +ℤ (a +ℤ b +ℤ c) → by ≡ w.by → ((k : ℕ) → turned w.x (k + 1) ≡ a +ℤ turned x k) → ((k : ℕ) → turned w.y (k + 1) ≡ b +ℤ turned y k) → ((k : ℕ) → turned w.z (k + 1) ≡ c +ℤ turned z k)
    → (k : ℕ) → at +ℤ (pos k *ℤ by) +ℤ turned x k +ℤ turned y k +ℤ turned z k ≡ offset_ahead w (k + 1)
offset_on w at by a b c x y z is same on_x on_y on_z k =
    let step : pos (k + 1) *ℤ w.by ≡ (pos k *ℤ w.by) +ℤ w.by = ap (λ n. pos n *ℤ w.by) (add-one k) ∙ suc_ℤ-*ℤ (pos k) w.by in
    let steps : pos k *ℤ by ≡ pos k *ℤ w.by = ap (λ z. pos k *ℤ z) same in
    omega (arith, ints, is, step, steps, on_x k, on_y k, on_z k)

-- it is small where it is an index
pub small_here : (w : OffsetWalk) → LiesIn (offset_ahead w 0) 0 (2 ^ 32) → unsigned_abs w.at ≤ 2 ^ 32
small_here w h =
    let same : w.at ≡ pos (0 + h.at) = sym (offset_here w) ∙ h.is in
    subst (λ z. unsigned_abs z ≤ 2 ^ 32) (sym same) (omega (arith, h.below))

-- a sum of numbers as they are kept
pub sum_kept : (r at by s at' by' s' a b c a' b' c' : ℤ) → r ≡ at' +ℤ by' +ℤ s' → s ≡ a' +ℤ b' +ℤ c' → at' ≡ at → by' ≡ by → s' ≡ s → a' ≡ a → b' ≡ b → c' ≡ c → r ≡ at +ℤ by +ℤ (a +ℤ b +ℤ c)
sum_kept r at by s at' by' s' a b c a' b' c' is sums same_at same_by same_s same_a same_b same_c = omega (arith, ints)

-- an axis without remainders adds nothing
pub adds_nothing : (t : Turn) → t.by_rest ≡ 0 → (k : ℕ) → turned t (k + 1) ≡ pos 0 +ℤ turned t k
adds_nothing t none k = omega (arith, ints, turn_never t.stride t.rest t.by_rest t.divisor k none)
