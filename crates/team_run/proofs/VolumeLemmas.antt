-- A volume has cells, and a queue for them is ready.
use Rattle.std.proofs.Common.{◌≡◌, ◌∙◌, ℕ, zero, suc, ◌*◌, ◌≤◌, List, [], ◌∷◌, length, replicate, refl, sym, ap, arith}
use Rattle.std.proofs.lemmas.List.Sums.{sum_by-cons}
use Rattle.std.proofs.lemmas.Grind.{common_steps}
use Rattle.cell_grid.specs.declared.level.Level.{Level}
use Rattle.cell_grid.specs.Pyramid.{IsPyramid, cells_in, cells_of}
use Rattle.cell_grid.proofs.GridLemmas.{counts_some}
use Rattle.fetch_queue.specs.declared.request.Request.{Request}
use Rattle.sole_cache.specs.Cached.{Cached, handles_out}
use Rattle.team_run.specs.Desk.{IsReady, desk, first_queue}

product_some : (x y z : ℕ) → 1 ≤ x → 1 ≤ y → 1 ≤ z → 1 ≤ x * y * z
product_some zero y z p q r = absurd (omega arith)
product_some (suc x) zero z p q r = absurd (omega arith)
product_some (suc x) (suc y) zero p q r = absurd (omega arith)
product_some (suc x) (suc y) (suc z) p q r = omega arith

pub some_cells : (levels : List Level) → IsPyramid levels → 1 ≤ cells_of levels
some_cells [] pyramid = absurd (omega (arith, pyramid.some))
some_cells (l ∷ levels) pyramid =
    let counts = counts_some l.extent (pyramid.grids 0 l refl) in
    let first : 1 ≤ cells_in l = product_some _ _ _ counts.x counts.y counts.z in
    omega (arith, first, sum_by-cons cells_in l levels)

lists_of : (n : ℕ) → length (replicate {A = List Request} n []) ≡ n
lists_of n = grind (arith, common_steps)

-- a new cache and its queue
pub first_ready : (c : Cached) (levels : List Level) → c.levels ≡ levels → handles_out c ≡ 0 → IsReady (desk c (first_queue levels))
first_ready c levels same free = record {
  handles = free;
  queue = record { cells = ap cells_of (sym same); priorities = lists_of (length levels) ∙ ap (length {A = Level}) (sym same) };
  viewers = refl;
}
