-- Pictures whose pixels are all of the wanted level.
use Rattle.std.proofs.Common.{◌≡◌, ◌∙◌, ℕ, ◌==◌, ◌↔◌, not, Bool, true, false, cond, IsTrue, slice_index_or, refl, sym}
use Rattle.std.proofs.lemmas.Bool.{eqb-true, eq-eqb, true≢false}
use Rattle.std.proofs.lemmas.List.Folds.{sum_by-zero}
use Rattle.std.proofs.lemmas.List.Sums.{AllPass-from_list_all, list_all-from_AllPass}
use Rattle.scale_pick.specs.Painted.{IsComplete, not_ready_of}
use Rattle.scale_pick.specs.Picture.{Pixels}

-- a pixel that isn't counted is of the wanted level
not_counted : (m w : ℕ) → (cond (not (m == w)) 1 0 == 0) ≡ true → m ≡ w
not_counted m w = choose (m == w) refl
  where
    choose : (t : Bool) → (m == w) ≡ t → (cond (not t) 1 0 == 0) ≡ true → m ≡ w
    choose true e h = eqb-true m w e
    choose false e h = absurd (true≢false (sym h))

-- and the other way
no_count : (m w : ℕ) → m ≡ w → (cond (not (m == w)) 1 0 == 0) ≡ true
no_count m w e = rw (eq-eqb m w e) refl

-- no pixel is counted exactly where all are of the wanted level
pub complete_is : (wanted : ℕ) (picture : Pixels) → IsTrue (not_ready_of wanted picture == 0) ↔ IsComplete wanted picture
complete_is w p = (
  λ none k d lt. not_counted (slice_index_or p.mask k d) w (AllPass-from_list_all (λ m. cond (not (m == w)) 1 0 == 0) p.mask (sym (sum_by-zero (λ m. cond (not (m == w)) 1 0) p.mask) ∙ none) k d lt),
  λ all. sum_by-zero (λ m. cond (not (m == w)) 1 0) p.mask ∙ list_all-from_AllPass (λ m. cond (not (m == w)) 1 0 == 0) p.mask (λ k d lt. no_count (slice_index_or p.mask k d) w (all k d lt)),
)
