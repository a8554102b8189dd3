-- A range of numbers shown by a multiplication.
use Rattle.std.proofs.Common.{◌≡◌, ◌∙◌, ℕ, ◌+◌, ◌-◌, ◌*◌, ◌/◌, ◌%◌, ◌<◌, ◌≤◌, ◌⊎◌, inl, inr, ◌^◌, min, nat_le, Bool, true, false, refl, sym, ap, subst, arith, if◌then◌else◌}
use Rattle.std.proofs.lemmas.Nat.{div-mul-add, mul-le}
use Rattle.std.proofs.lemmas.Grind.{div_ceil_times}
use Rattle.std.proofs.Math.Nat.{div-add-mod, mod-lt, zero-div, mul-div_cancel_left, mul-le-mul_left, mul-le-mul_right, div-le_of_le-mul, mul_comm, mul_assoc}
use Rattle.std.proofs.lemmas.Bool.{cases_lt, leb-true, leb-false}
use Rattle.std.specs.Int.{div_ceil}
use Rattle.scale_pick.specs.Shade.{shown, scale_of}

-- m is at most 2^56 over the span and a part: n times m is below what follows the whole parts of n over the span
below : (n span m q : ℕ) → 0 < span → span ≤ 16777216 → n ≤ 255 * span → n < (q + 1) * span → m * span < 2 ^ 56 + span → n * m < (q + 1) * 2 ^ 56
below n span m q some short few next over = choose (cases_lt (n * m) ((q + 1) * 2 ^ 56))
  where
    absurdly : (q + 1) * 2 ^ 56 ≤ n * m → n * m < (q + 1) * 2 ^ 56
    absurdly more =
        let far : (q + 1) * 2 ^ 56 * span ≤ n * m * span = mul-le-mul_right span more in
        let near : n * (m * span) ≤ n * (2 ^ 56 + (span - 1)) = mul-le-mul_left n (omega (arith, over, some)) in
        let flat : n * m * span ≡ n * (m * span) = mul_assoc n m span in
        let turned : (q + 1) * 2 ^ 56 * span ≡ (q + 1) * span * 2 ^ 56 = mul_assoc (q + 1) (2 ^ 56) span ∙ ap (λ k. (q + 1) * k) (mul_comm (2 ^ 56) span) ∙ sym (mul_assoc (q + 1) span (2 ^ 56)) in
        let spread : n * (2 ^ 56 + (span - 1)) ≡ n * 2 ^ 56 + n * (span - 1) = omega arith in
        let small : n * (span - 1) ≤ 4278190080 * 16777215 = mul-le n (span - 1) 4278190080 16777215 (omega (arith, few, short)) (omega (arith, short)) in
        let beyond : (n + 1) * 2 ^ 56 ≤ (q + 1) * span * 2 ^ 56 = mul-le-mul_right (2 ^ 56) (omega (arith, next)) in
        absurd (omega (arith, far, near, flat, turned, spread, small, beyond))

    choose : (n * m < (q + 1) * 2 ^ 56) ⊎ ((q + 1) * 2 ^ 56 ≤ n * m) → n * m < (q + 1) * 2 ^ 56
    choose (inl h) = h
    choose (inr h) = absurdly h

above : (n span m q : ℕ) → q * span ≤ n → 2 ^ 56 ≤ m * span → q * 2 ^ 56 ≤ n * m
above n span m q whole enough =
    let far : q * 2 ^ 56 ≤ q * (m * span) = mul-le-mul_left q enough in
    let turned : q * (m * span) ≡ q * span * m = ap (λ k. q * k) (mul_comm m span) ∙ sym (mul_assoc q span m) in
    omega (arith, far, turned, mul-le-mul_right m whole)

-- the quotient between two bounds
between : (t q d : ℕ) → q * d ≤ t → t < (q + 1) * d → t / d ≡ q
between t q d low high = ap (λ k. k / d) (omega (arith, low)) ∙ div-mul-add q d (t - q * d) (omega (arith, low, high))

-- a multiplication shows what a division shows
record Scaled (d span : ℕ) : Type 0 where
  pub fits : d * (255 * div_ceil (2 ^ 56) span) < 2 ^ 64
  pub byte : d * (255 * div_ceil (2 ^ 56) span) / 2 ^ 56 < 256
  pub same : d * (255 * div_ceil (2 ^ 56) span) / 2 ^ 56 ≡ d * 255 / span

scaled : (d span : ℕ) → 0 < span → span ≤ 16777216 → d ≤ span → Scaled d span
scaled d span some short few =
    let m : ℕ = div_ceil (2 ^ 56) span in
    let n : ℕ = d * 255 in
    let q : ℕ = n / span in
    let ceil : (2 ^ 56 ≤ m * span) × (m * span < 2 ^ 56 + span) = div_ceil_times (2 ^ 56) span some in
    let parts : span * q + n % span ≡ n = div-add-mod n span in
    let rest : n % span < span = mod-lt n some in
    let low : q * 2 ^ 56 ≤ n * m = above n span m q (omega (arith, parts)) ceil.0 in
    let high : n * m < (q + 1) * 2 ^ 56 = below n span m q some short (omega (arith, few)) (omega (arith, parts, rest)) ceil.1 in
    let turned : d * (255 * m) ≡ n * m = omega arith in
    let small : q ≤ 255 = div-le_of_le-mul span (omega (arith, few)) in
    let same : d * (255 * m) / 2 ^ 56 ≡ q = ap (λ k. k / 2 ^ 56) turned ∙ between (n * m) q (2 ^ 56) low high in
    record { fits = omega (arith, turned, high, small); byte = omega (arith, same, small); same = same }

-- a scale that isn't 0 is one of a span that isn't too long
scale_is : (span : ℕ) → (scale_of span ≡ 0 → ⊥) → (span ≤ 16777216) × (scale_of span ≡ 255 * div_ceil (2 ^ 56) span)
scale_is span some = choose (nat_le span 16777216) refl some
  where
    choose : (t : Bool) → nat_le span 16777216 ≡ t → ((if t then 255 * div_ceil (2 ^ 56) span else 0) ≡ 0 → ⊥) → (span ≤ 16777216) × ((if t then 255 * div_ceil (2 ^ 56) span else 0) ≡ 255 * div_ceil (2 ^ 56) span)
    choose true e s = (leb-true span 16777216 e, refl)
    choose false e s = absurd (s refl)

-- what is shown is a part of the span, cut at both ends
part_is : (v low high : ℕ) → low < high → min (v - low) (high - low) * 255 / (high - low) ≡ shown v low high
part_is v low high wide = choose (nat_le v low) (nat_le high v) refl refl
  where
    choose : (s t : Bool) → nat_le v low ≡ s → nat_le high v ≡ t → min (v - low) (high - low) * 255 / (high - low) ≡ (if s then 0 else if t then 255 else (v - low) * 255 / (high - low))
    choose true t e f = let h : v ≤ low = leb-true v low e in ap (λ k. k / (high - low)) (omega (arith, h)) ∙ zero-div (high - low)
    choose false true e f = let h : high ≤ v = leb-true high v f in ap (λ k. k / (high - low)) (omega (arith, h)) ∙ mul-div_cancel_left 255 (omega (arith, wide))
    choose false false e f = let h : v < high = leb-false high v f in ap (λ k. k * 255 / (high - low)) (omega (arith, h))

-- what a multiplication by the scale gives
pub record ShowsScaled (v low high scale much : ℕ) : Type 0 where
  pub fits : much * scale < 2 ^ 64
  pub byte : much * scale / 2 ^ 56 < 256
  pub same : much * scale / 2 ^ 56 ≡ shown v low high

pub shows_scaled : (v low high scale much : ℕ) → low < high → scale ≡ scale_of (high - low) → (scale ≡ 0 → ⊥) → much ≡ min (v - low) (high - low) → ShowsScaled v low high scale much
shows_scaled v low high scale much wide scaled_by some cut =
    let known = scale_is (high - low) (λ none. some (scaled_by ∙ none)) in
    let s = scaled much (high - low) (omega (arith, wide)) known.0 (omega (arith, cut)) in
    let same : scale ≡ 255 * div_ceil (2 ^ 56) (high - low) = scaled_by ∙ known.1 in
    record {
      fits = subst (λ k. much * k < 2 ^ 64) (sym same) s.fits;
      byte = subst (λ k. much * k / 2 ^ 56 < 256) (sym same) s.byte;
      same = ap (λ k. much * k / 2 ^ 56) same ∙ s.same ∙ ap (λ k. k * 255 / (high - low)) cut ∙ part_is v low high wide;
    }
