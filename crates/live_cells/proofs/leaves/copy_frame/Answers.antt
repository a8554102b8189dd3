use Rattle.std.proofs.Common.{◌≢◌, ℕ, ◌+◌, ◌<◌, ◌∙◌, ap, sym, subst, arith, slice_index, slice_set, get_or-set_same, get_or-set_other, length, List}
use mathlib.Core.Logic.{dite}
use native.Mathlib.Decide.{ℕ_discrete}
use Rattle.pin_words.specs.declared.doing.Doing.{Doing}
use Rattle.pin_words.specs.Finding.{left_of}
use Rattle.pin_words.specs.Cells.{IsFrameNumber}
use Rattle.pin_rule.specs.Calls.{view, plan_at, voxel_count}
use Rattle.live_cells.proofs.leaves.copy_frame.Goals as goal

-- one more number
more_numbers : (P : ℕ → ℕ → Type 0) (xs : List ℕ) (n v : ℕ) → n < length xs → ((i : ℕ) → i < n → P i (slice_index xs i)) → P n v → (i : ℕ) → i < n + 1 → P i (slice_index (slice_set xs n v) i)
more_numbers P xs n v inside before here i lt = dite (ℕ_discrete i n)
    (λ e. subst (λ m. P m (slice_index (slice_set xs n v) m)) (sym e) (subst (P n) (sym (get_or-set_same xs n v 0 inside)) here))
    (λ ne. subst (P i) (sym (get_or-set_other xs n i v 0 ne)) (before i (low i n lt ne)))
  where
    low : (i n : ℕ) → i < n + 1 → i ≢ n → i < n
    low i n lt ne = omega arith

pub loop-at-preserved : goal.loop-at-preserved
loop-at-preserved g c = let i = c.loop-at.invariant in let p = plan_at g.S.Store.contents c.args.pins.now in record {
  pass = c.frame_word.ensures.pass;
  same = c.frame_word.ensures.same ∙ i.same;
  numbers = more_numbers (λ k v. IsFrameNumber p (left_of c.args.leaving.now.cell (view c.args.pass.now)) k v) c.loop-at.frame c.loop-at.at c.frame_word.result (let e = c.voxels_in-voxels.ensures ∙ ap (voxel_count c.args.pins.now) c.cell.ensures in omega (arith, e)) i.numbers
      (subst (λ (d : Doing _ _). IsFrameNumber p (left_of c.args.leaving.now.cell d) c.loop-at.at c.frame_word.result) i.same c.frame_word.ensures.number);
}
