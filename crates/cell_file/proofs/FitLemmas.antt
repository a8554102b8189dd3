-- The values of a fetched cell fit its kind.
use Rattle.std.proofs.Common.{◌≡◌, ◌∙◌, inl, inr, ℕ, ◌^◌, ◌<◌, ◌≤◌, List, replicate, slice_index, sym, ap, subst, arith}
use Rattle.std.proofs.lemmas.Bool.{cases_lt}
use Rattle.std.proofs.lemmas.List.{get_or-replicate, length-replicate}
use Rattle.std.proofs.Math.ListN.{get_or-eq_default}
use Rattle.voxel_box.specs.Box.{volume, number, position_of}
use Rattle.voxel_box.proofs.BoxLemmas.{position_within, number-position_of}
use Rattle.voxel_box.proofs.BigEndianLemmas.{power_pos}
use Rattle.n5_block.specs.Block.{IsGood}

-- the values of a good block fit into its elements' bytes
pub good_fits : (width : ℕ) (need full bytes values : List ℕ) → IsGood width need full bytes values → (i : ℕ) → slice_index values i < 256 ^ width
good_fits width need full bytes values g i = elim (cases_lt i (volume need)) [
  | inl lt ↦
      let at = position_of i need in
      let same : slice_index values i ≡ slice_index g.elements (number at g.sides) = ap (λ n. slice_index values n) (sym (number-position_of i need)) ∙ g.taken at (position_within i need lt) in
      subst (λ v. v < 256 ^ width) (sym same) (g.small (number at g.sides))
  | inr le ↦
      let past : slice_index values i ≡ 0 = get_or-eq_default values 0 {n = i} (omega (arith, le, g.value_count)) in
      subst (λ v. v < 256 ^ width) (sym past) (power_pos width)
]

-- zeros fit
pub zeros_fit : (n i most : ℕ) → slice_index (replicate n 0) i ≤ most
zeros_fit n i most = elim (cases_lt i n) [
  | inl lt ↦ omega (arith, get_or-replicate {A = ℕ} n i 0 0 lt)
  | inr le ↦ let past : slice_index (replicate n 0) i ≡ 0 = get_or-eq_default (replicate n 0) 0 {n = i} (omega (arith, le, length-replicate {A = ℕ} n 0)) in omega (arith, past)
]
