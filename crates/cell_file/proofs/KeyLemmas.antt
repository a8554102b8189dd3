-- The keys of two cells.
use Rattle.std.proofs.Common.{◌≡◌, ℕ, ◌<◌, ◌≤◌, Bool, true, false, List, ◌++◌, codes, length, decimal, refl, ap, arith, length-append}
use Rattle.std.proofs.lemmas.Fmt.{decimal_injective, length-decimal-le}
use Rattle.std.proofs.lemmas.List.{append_cancel_left}
use Rattle.cell_grid.specs.declared.level.Level.{Level}
use Rattle.cell_grid.specs.Pyramid.{cells_of, grid_of, IsPyramid}
use Rattle.cell_file.specs.Keys.{KeyNames, AreKeys, edited_key, base_key, level_root}
use Rattle.cell_file.specs.Laws.{AreTheirOwn}
use Rattle.cell_file.proofs.PlaceLemmas.{level_small, is_place, one_cell_at}
use Rattle.cell_file.proofs.Strokes.{same_place}

pub one_edited_key : (levels : List Level) (cell other : ℕ) → IsPyramid levels → cell < cells_of levels → other < cells_of levels → edited_key levels cell ≡ edited_key levels other → cell ≡ other
one_edited_key levels cell other p lt lt' e =
    let l = (grid_of levels cell).0 in
    let l' = (grid_of levels other).0 in
    let same = same_place (codes "cells/s" ++ decimal l) (codes "cells/s" ++ decimal l') _ _ (is_place levels cell p lt) (is_place levels other p lt') e in
    let level = decimal_injective l l' (omega (arith, level_small levels cell p lt, p.most)) (omega (arith, level_small levels other p lt', p.most)) (append_cancel_left (codes "cells/s") (decimal l) (decimal l') same.0) in
    one_cell_at levels cell other lt lt' level same.1 same.2 same.3

-- an edited key begins with no more than eight bytes before the place, the base key of a pyramid with more
front_short : (l : ℕ) → l < 8 → length (codes "cells/s" ++ decimal l) ≤ 8
front_short l lt = omega (arith, length-append (codes "cells/s") (decimal l), length-decimal-le 1 l (omega arith) (omega arith) (omega arith))

front_long : (root : List ℕ) (l : ℕ) → 20 ≤ length (root ++ (codes "/setup0/timepoint0/s" ++ decimal l))
front_long root l = omega (arith, length-append root (codes "/setup0/timepoint0/s" ++ decimal l), length-append (codes "/setup0/timepoint0/s") (decimal l))

-- the levels of two cells of a plain dataset are the same
only_level : (levels : List Level) (a b : ℕ) → a < length levels → b < length levels → length levels ≡ 1 → a ≡ b
only_level levels a b p q e = omega (arith, p, q, e)

-- by whether the dataset is plain
base_by : (keys : KeyNames) (cell other : ℕ) (plain : Bool) → keys.plain ≡ plain → AreKeys keys → cell < cells_of keys.levels → other < cells_of keys.levels
    → codes "cells/s" ++ decimal (grid_of keys.levels cell).0 ≡ level_root keys.root plain (grid_of keys.levels other).0 → (grid_of keys.levels cell).0 ≡ (grid_of keys.levels other).0
base_by keys cell other true q k lt lt' e =
    only_level keys.levels _ _ (level_small keys.levels cell k.pyramid lt) (level_small keys.levels other k.pyramid lt') (k.one_level q)
base_by keys cell other false q k lt lt' e =
    let l = (grid_of keys.levels cell).0 in
    let short = front_short l (omega (arith, level_small keys.levels cell k.pyramid lt, k.pyramid.most)) in
    let long = front_long keys.root (grid_of keys.levels other).0 in
    absurd (omega (arith, short, long, ap length e))

pub no_other_base_key : (keys : KeyNames) (cell other : ℕ) → AreKeys keys → cell < cells_of keys.levels → other < cells_of keys.levels → edited_key keys.levels cell ≡ base_key keys.levels keys other → cell ≡ other
no_other_base_key keys cell other k lt lt' e =
    let l = (grid_of keys.levels cell).0 in
    let l' = (grid_of keys.levels other).0 in
    let same = same_place (codes "cells/s" ++ decimal l) (level_root keys.root keys.plain l') _ _ (is_place keys.levels cell k.pyramid lt) (is_place keys.levels other k.pyramid lt') e in
    let level = base_by keys cell other keys.plain refl k lt lt' same.0 in
    one_cell_at keys.levels cell other lt lt' level same.1 same.2 same.3

-- the law of keys
pub are_their_own : (keys : KeyNames) → AreKeys keys → AreTheirOwn keys
are_their_own keys k = record {
  edited = λ cell other lt lt' e. one_edited_key keys.levels cell other k.pyramid lt lt' e;
  base = λ cell other lt lt' e. no_other_base_key keys cell other k lt lt' e;
}
