-- The rises of a pass, over all its lanes: they never fall, and where one grew there is one more.
use Rattle.std.proofs.Common.{◌≡◌, ℕ, zero, suc, ◌+◌, ◌<◌, ◌≤◌, inl, inr, length, subst, arith}
use Rattle.std.proofs.lemmas.Bool.{cases_lt}
use Rattle.std.proofs.lemmas.List.{get_or_past}
use Rattle.arr_history.specs.declared.event.Event.{Event}
use Rattle.std.specs.Prelude.{List}
use Rattle.pin_words.specs.declared.doing.Doing.{Doing}
use Rattle.pin_words.specs.Plan.{Plan}
use Rattle.pin_words.specs.Account.{rise}
use Rattle.pin_rule.specs.Going.{Goes}
use Rattle.team_actors.specs.Rises.{over_lanes, rises_of}

never_less : (n : ℕ) (f g : ℕ → ℕ) → ((l : ℕ) → f l ≤ g l) → over_lanes n f ≤ over_lanes n g
never_less zero f g most = omega arith
never_less (suc n) f g most = let before = never_less n f g most in let here = most n in omega arith

one_more : (n : ℕ) (f g : ℕ → ℕ) (l : ℕ) → ((l : ℕ) → f l ≤ g l) → l < n → f l < g l → over_lanes n f + 1 ≤ over_lanes n g
one_more zero f g l most below more = absurd (omega arith)
one_more (suc n) f g l most below more = elim (cases_lt l n) [
  | inl lt ↦ let before = one_more n f g l most lt more in let here = most n in omega arith
  | inr ge ↦ let same : l ≡ n = omega arith in let before = never_less n f g most in let here : f n < g n = subst (λ k. f k < g k) same more in omega arith
]

module _ {S M : Type 0} (p : Plan S M) (d d' : Doing S M) where
  pub rises_stay : (events : List Event) → Goes p d events d' → rises_of p d ≤ rises_of p d'
  rises_stay events went = never_less p.lanes (λ l. rise l d) (λ l. rise l d') went.rises

  -- a pass counts rises for each lane and for no other
  pub rises_grow : (events : List Event) → Goes p d events d' → length d.rises ≡ p.lanes → (l : ℕ) → rise l d < rise l d' → rises_of p d + 1 ≤ rises_of p d'
  rises_grow events went each l more = elim (cases_lt l p.lanes) [
    | inl lt ↦ one_more p.lanes (λ l. rise l d) (λ l. rise l d') l went.rises lt more
    | inr ge ↦ let none : rise l d' ≡ 0 = get_or_past d'.rises l 0 (omega (arith, went.lanes, each)) in absurd (omega (arith, none, more))
  ]
