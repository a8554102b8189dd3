-- Sums over the numbers below a bound, and members of lists.
use Rattle.std.proofs.Common.{◌≡◌, ℕ, zero, suc, ◌+◌, ◌<◌, ◌≤◌, List, [], ◌∷◌, ◌++◌, sym, refl, ap, ◌∙◌, subst, arith}
use mathlib.Core.Logic.{dite}
use native.Mathlib.Decide.{ℕ_discrete}
use Rattle.arr_history.specs.State.{with_at}
use Rattle.pass_roster.specs.History.{total}
use Rattle.pin_words.specs.Words.{sum_over, Each}
use Rattle.pin_words.specs.Finding.{Picks}
use Rattle.pin_words.proofs.Numbers.{put_same, put_other}

pub over_same : (f g : ℕ → ℕ) (n : ℕ) → ((a : ℕ) → a < n → f a ≡ g a) → sum_over f n ≡ sum_over g n
over_same f g zero h = refl
over_same f g (suc n) h = λ i. h n (omega arith) i + over_same f g n (λ a l. h a (omega arith)) i

pub over_put : {A : Type 0} (g : A → ℕ) (f : ℕ → A) (c : ℕ) (t : A) (n : ℕ) → c < n → sum_over (λ a. g (with_at f c t a)) n + g (f c) ≡ sum_over (λ a. g (f a)) n + g t
over_put g f c t zero l = absurd (omega arith)
over_put g f c t (suc n) l = dite (ℕ_discrete c n)
    (λ e. let h : g (with_at f c t n) ≡ g t = (λ i. g (with_at f c t (sym e i))) ∙ ap g (put_same f c t) in let k : g (f c) ≡ g (f n) = (λ i. g (f (e i))) in
    let r = over_same (λ a. g (with_at f c t a)) (λ a. g (f a)) n (λ a m. ap g (put_other f c t a (λ q. omega arith))) in omega arith)
    (λ ne. let h : g (with_at f c t n) ≡ g (f n) = ap g (put_other f c t n (λ q. ne (sym q))) in let r = over_put g f c t n (omega arith) in omega arith)

pub over_one : (f : ℕ → ℕ) (c n : ℕ) → c < n → f c ≤ sum_over f n
over_one f c zero l = absurd (omega arith)
over_one f c (suc n) l = dite (ℕ_discrete c n) (λ e. let h : f c ≡ f n = ap f e in omega arith) (λ ne. let r = over_one f c n (omega arith) in omega arith)

pub over_some : (f : ℕ → ℕ) (n : ℕ) → 0 < sum_over f n → (c : ℕ) × (c < n) × (0 < f c)
over_some f zero h = absurd (omega arith)
over_some f (suc n) h = dite (ℕ_discrete (f n) 0) (λ z. let r = over_some f n (omega arith) in (r.0, omega arith, r.2)) (λ some_in. (n, omega arith, omega arith))

pub all_map : {A : Type 0} (P Q : A → Type 0) (xs : List A) → ((x : A) → P x → Q x) → Each P xs → Each Q xs
all_map P Q [] f a = tt
all_map P Q (x ∷ xs) f a = (f x a.0, all_map P Q xs f a.1)

pub picks_all : {A : Type 0} (P : A → Type 0) {x : A} {xs ys : List A} → Picks x ys xs → Each P xs → P x × Each P ys
picks_all {A} P {x} {xs} {ys} k a = let r = go k.0 (subst (Each P) k.2 a) in (r.0, subst (Each P) (sym k.3) r.1)
  where
    go : (before : List A) → Each P (before ++ x ∷ k.1) → P x × Each P (before ++ k.1)
    go [] b = b
    go (y ∷ before) b = let r = go before b.1 in (r.0, (b.0, r.1))

pub picks_total : {A : Type 0} (f : A → ℕ) {x : A} {xs ys : List A} → Picks x ys xs → total f xs ≡ f x + total f ys
picks_total {A} f {x} {xs} {ys} k = ap (total f) k.2 ∙ (go k.0 ∙ (λ i. f x + total f (sym k.3 i)))
  where
    go : (before : List A) → total f (before ++ x ∷ k.1) ≡ f x + total f (before ++ k.1)
    go [] = refl
    go (y ∷ before) = let r = go before in omega arith
