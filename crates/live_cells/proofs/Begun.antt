-- A pass that has made nothing yet.
use Rattle.std.proofs.Common.{◌≡◌, ◌∙◌, ℕ, ◌+◌, ◌*◌, ◌<◌, ◌≤◌, List, [], length, None, ap, sym, subst, arith}
use Rattle.std.specs.List.{flat_map}
use Rattle.cell_grid.specs.declared.kind.Kind.{Kind}
use Rattle.cell_grid.specs.declared.kind.Kind.TheVariants as k
use Rattle.cell_grid.specs.declared.level.Level.{Level}
use Rattle.cell_grid.specs.Kind.{bytes_of}
use Rattle.cell_grid.specs.Pyramid.{cells_of, voxels_of, frame_of, kind_of}
use Rattle.cell_grid.proofs.FrameLemmas.{frame_bounds}
use Rattle.arr_history.specs.Tally.{tally_of}
use Rattle.turn_cell.specs.Turn as turns
use Rattle.pin_words.specs.declared.doing.Doing.{Doing}
use Rattle.pin_rule.specs.Calls.{made_of, IsPassOf}
use Rattle.pin_rule.specs.Hands.{Hands}
use Rattle.live_cells.specs.declared.cells.Cells.{Cells}
use Rattle.live_cells.specs.declared.cells.CellPass.{CellPass}
use Rattle.live_cells.specs.Cells.{knows, IsCellPassOf}
use Rattle.live_cells.specs.Steps.{IsInStep}

bytes_few : (k : Kind) (n : ℕ) → bytes_of k * n ≤ 8 * n
bytes_few k.U8 n = omega arith
bytes_few k.U16 n = omega arith
bytes_few k.U32 n = omega arith
bytes_few k.U64 n = omega arith

block_fits : (levels : List Level) (c most : ℕ) → c < cells_of levels → most ≡ 16 + 8 * frame_of levels → 16 + bytes_of (kind_of levels c) * voxels_of levels c ≤ most
block_fits levels c most lt e = let w = bytes_few (kind_of levels c) (voxels_of levels c) in let b = frame_bounds levels c lt in omega (arith, w, b, e)

at_most : (a b : ℕ) → b ≡ a → a ≤ b
at_most a b e = omega (arith, e)

-- a view of a pass that has made nothing, and holds nothing
pub record IsFresh {S M : Type 0} (d : Doing S M) : Type 0 where
  pub mine : d.mine ≡ []
  pub ended : d.ended ≡ []
  pub hands : Hands [] [] [] None d

module _ {S : Type 0} (t : Cells S) (q : CellPass S) where
  pub fresh_pass : IsFresh (knows q) → IsPassOf t.pins q.actor.pass → q.actor.tally ≡ tally_of [] [] → q.joined ≡ tally_of [] [] → length q.frame.items ≡ frame_of (made_of t.pins).levels.value → length q.block.items ≡ 16 + 8 * frame_of (made_of t.pins).levels.value
      → turns.IsPassOf t.turn q.asks → IsInStep q.asks (knows q) → IsCellPassOf t q
  fresh_pass f pass tally joined frame block asks step = record {
    actor = record { pass = pass; tally = tally ∙ ap (λ x. tally_of x []) (sym f.mine) };
    joined = joined ∙ ap (λ x. tally_of (flat_map (λ y. y.mine) x) []) (sym f.ended);
    free = f.hands;
    frame = at_most _ _ frame;
    block = λ c lt. block_fits (made_of t.pins).levels.value c _ lt block;
    asks = asks;
    step = step;
  }

pub still_fresh : {S M : Type 0} (d e : Doing S M) → d ≡ e → IsFresh e → IsFresh d
still_fresh d e is h = subst IsFresh (sym is) h
