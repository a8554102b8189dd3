-- Numbers and their bytes, the high byte first.
use Rattle.std.proofs.Common.{◌≡◌, ◌∙◌, ℕ, zero, suc, ◌+◌, ◌*◌, ◌/◌, ◌%◌, ◌^◌, ◌<◌, List, [], ◌∷◌, length, take, drop, get_or, refl, sym, ap, subst, arith, lit<}
use Rattle.std.proofs.lemmas.Grind.{common_steps}
use Rattle.std.proofs.lemmas.Nat.{div-mul-add, mul-add-lt, div_below, mod_below, div-add-mod'}
use Rattle.std.proofs.Math.Nat.{pow-suc, mul-add-div_right, mul-add-mod_self_right, mod-eq_of_lt}
use Rattle.voxel_box.specs.BigEndian.{big_endian, value_of, IsBytes, AreSpelled}

-- the number of bytes is below the power
pub value_bound : (xs : List ℕ) → IsBytes xs → value_of xs < 256 ^ length xs
unfolding value_of
value_bound [] h = lit< tt
value_bound (b ∷ xs) h = rw pow-suc (mul-add-lt b (256 ^ length xs) (value_of xs) 256 (h 0) (value_bound xs (λ i. h (suc i))))

pub value_cons : (b : ℕ) (xs : List ℕ) → value_of (b ∷ xs) ≡ b * 256 ^ length xs + value_of xs
unfolding value_of
value_cons b xs = refl

pub value_nil : value_of [] ≡ 0
unfolding value_of
value_nil = refl

pub length-big_endian : (k n : ℕ) → length (big_endian k n) ≡ k
unfolding big_endian
length-big_endian zero n = refl
length-big_endian (suc k) n = ap suc (length-big_endian k n)

pub big_endian_bytes : (k n : ℕ) → IsBytes (big_endian k n)
unfolding big_endian
big_endian_bytes zero n i = lit< tt
big_endian_bytes (suc k) n zero = mod_below (n / 256 ^ k) 256 (lit< tt)
big_endian_bytes (suc k) n (suc i) = big_endian_bytes k n i

pub power_pos : (k : ℕ) → 0 < 256 ^ k
power_pos zero = lit< tt
power_pos (suc k) = rw pow-suc (omega (arith, power_pos k))

-- what lies above the highest byte doesn't count
big_endian_low : (k b v : ℕ) → big_endian k (b * 256 ^ k + v) ≡ big_endian k v
unfolding big_endian
big_endian_low zero b v = refl
big_endian_low (suc k) b v =
    let power : b * 256 ^ suc k + v ≡ (b * 256) * 256 ^ k + v = rw pow-suc (omega arith) in
    let first : (b * 256 ^ suc k + v) / 256 ^ k % 256 ≡ v / 256 ^ k % 256 =
    ap (λ n. n / 256 ^ k % 256) power ∙ ap (λ n. n % 256) (mul-add-div_right {m = 256 ^ k} (power_pos k) (b * 256) v) ∙ mul-add-mod_self_right b 256 (v / 256 ^ k) in
    let rest : big_endian k (b * 256 ^ suc k + v) ≡ big_endian k v = ap (big_endian k) power ∙ big_endian_low k (b * 256) v in
    rw (first, rest) refl

-- bytes are those of the number that they spell
pub big_endian-value_of : (xs : List ℕ) → IsBytes xs → big_endian (length xs) (value_of xs) ≡ xs
unfolding big_endian value_of
big_endian-value_of [] h = refl
big_endian-value_of (b ∷ xs) h =
    let below = value_bound xs (λ i. h (suc i)) in
    let first : (b * 256 ^ length xs + value_of xs) / 256 ^ length xs % 256 ≡ b = ap (λ n. n % 256) (div-mul-add b (256 ^ length xs) (value_of xs) below) ∙ mod-eq_of_lt {n = b} {m = 256} (h 0) in
    let rest : big_endian (length xs) (b * 256 ^ length xs + value_of xs) ≡ xs = big_endian_low (length xs) b (value_of xs) ∙ big_endian-value_of xs (λ i. h (suc i)) in
    rw (first, rest) refl

-- a number is what its bytes spell
pub value_of-big_endian : (k n : ℕ) → n < 256 ^ k → value_of (big_endian k n) ≡ n
unfolding big_endian value_of
value_of-big_endian zero n h = omega arith
value_of-big_endian (suc k) n h =
    let whole = div-add-mod' n (256 ^ k) in
    let h' = rw pow-suc at h in
    let high : n / 256 ^ k < 256 = div_below n (256 ^ k) 256 (power_pos k) (omega (arith, h')) in
    let same = big_endian_low k (n / 256 ^ k) (n % 256 ^ k) in
    let low : value_of (big_endian k n) ≡ n % 256 ^ k = ap (λ m. value_of (big_endian k m)) (sym whole) ∙ ap value_of same ∙ value_of-big_endian k (n % 256 ^ k) (mod_below n (256 ^ k) (power_pos k)) in
    let len = length-big_endian k n in
    rw (low, len, mod-eq_of_lt {n = n / 256 ^ k} {m = 256} high) whole

-- parts of a list of bytes
pub IsBytes-drop : (k : ℕ) (bytes : List ℕ) → IsBytes bytes → IsBytes (drop k bytes)
IsBytes-drop k bytes h = λ i. let same : get_or (drop k bytes) i 0 ≡ get_or bytes (k + i) 0 = grind (arith, common_steps) in omega (arith, same, h (k + i))

pub IsBytes-take : (k : ℕ) (bytes : List ℕ) → IsBytes bytes → IsBytes (take k bytes)
IsBytes-take zero bytes h i = lit< tt
IsBytes-take (suc k) [] h i = h i
IsBytes-take (suc k) (b ∷ bytes) h zero = h 0
IsBytes-take (suc k) (b ∷ bytes) h (suc i) = IsBytes-take k bytes (λ j. h (suc j)) i

-- the law of big-endian numbers
pub are_spelled : (width : ℕ) → AreSpelled width
are_spelled width = record {
  byte_count = λ n. length-big_endian width n;
  are_bytes = λ n. big_endian_bytes width n;
  same_number = λ n lt. value_of-big_endian width n lt;
  number_below = λ bytes h e. subst (λ k. value_of bytes < 256 ^ k) e (value_bound bytes h);
  same_bytes = λ bytes h e. subst (λ k. big_endian k (value_of bytes) ≡ bytes) e (big_endian-value_of bytes h);
}
