-- A pixel, level by level.
use Rattle.std.proofs.Common.{◌≡◌, ◌∙◌, inl, inr, ℕ, suc, ◌+◌, ◌-◌, ◌≤◌, List, [], ◌++◌, Option, None, Some, length, refl, sym, ap, subst, arith}
use Rattle.std.proofs.lemmas.List.{append-nil}
use Rattle.cell_grid.specs.declared.level.Level.{Level}
use Rattle.scale_pick.specs.declared.view.View.{View}
use Rattle.scale_pick.specs.Shade.{shown}
use Rattle.scale_pick.specs.Pixel.{HasVoxel}
use Rattle.scale_pick.specs.Wanted.{wanted_level}
use Rattle.hier_paint.specs.Visits.{Visit}
use Rattle.hier_paint.specs.Ways.{IsLevelWay, AreSkipped, IsPixelWay, IsPixelCut}
use Rattle.hier_paint.specs.Finding.{IsAtVoxel, IsPlaceWay, IsLevelCut}

-- what is shown of a voxel is what is shown of the pixel there
pub level_way : (levels : List Level) (view : View) (x y level cell at low high : ℕ) → low ≡ view.low → high ≡ view.high → HasVoxel levels view.affine level x y cell at
    → (t : Option ℕ) (v : List Visit) → IsPlaceWay low high level cell at t v → IsLevelWay levels view x y level t v
level_way levels view x y level cell at low high is_low is_high voxel None v h = (cell, at, voxel, h)
level_way levels view x y level cell at low high is_low is_high voxel (Some value) v h =
    inr (cell, at, h.0, voxel, h.1 ∙ ap (λ n. shown h.0 n high) is_low ∙ ap (λ n. shown h.0 view.low n) is_high, h.2)

pub level_cut : (levels : List Level) (view : View) (x y level cell at : ℕ) → HasVoxel levels view.affine level x y cell at → (v : List Visit) (l c : ℕ) → IsAtVoxel level cell v l c → IsLevelCut levels view x y level v l c
level_cut levels view x y level cell at voxel v l c h = (h.0, h.1, at, subst (λ n. HasVoxel levels view.affine level x y n at) (sym h.2) voxel)

pub none_skipped : (levels : List Level) (view : View) (x y from : ℕ) → AreSkipped levels view x y from (from - from) []
none_skipped levels view x y from = let none : from - from ≡ 0 = omega arith in subst (λ n. AreSkipped levels view x y from n []) (sym none) refl

-- one level more wasn't ready
pub skipped_next : (levels ls : List Level) (view : View) (x y from level : ℕ) (v w : List Visit) → ls ≡ levels → from ≤ level → AreSkipped levels view x y from (level - from) v → IsLevelWay ls view x y level None w
    → AreSkipped levels view x y from (level + 1 - from) (v ++ w)
skipped_next levels ls view x y from level v w same le before here =
    let more : level + 1 - from ≡ suc (level - from) = omega arith in
    let at : from + (level - from) ≡ level = omega arith in
    let own : IsLevelWay levels view x y (from + (level - from)) None w = subst (λ n. IsLevelWay levels view x y n None w) (sym at) (subst (λ (k : List Level). IsLevelWay k view x y level None w) same here) in
    subst (λ n. AreSkipped levels view x y from n (v ++ w)) (sym more) (v, w, before, own, refl)

-- the first level that is ready is shown
pub shown_way : (levels ls : List Level) (view : View) (x y wanted level value : ℕ) (v w : List Visit) → wanted ≡ wanted_level levels view → ls ≡ levels → wanted ≤ level → AreSkipped levels view x y wanted (level - wanted) v
    → IsLevelWay ls view x y level (Some value) w → IsPixelWay levels view x y value level (v ++ w)
shown_way levels ls view x y wanted level value v w is same le before here = inl (record {
  skipped = level - wanted;
  mask_is = omega (arith, is, le);
  before = v;
  here = w;
  missed = subst (λ n. AreSkipped levels view x y n (level - wanted) v) is before;
  shows = subst (λ (k : List Level). IsLevelWay k view x y level (Some value) w) same here;
  visits_are = refl;
})

-- none is ready
pub blank_way : (levels : List Level) (view : View) (x y wanted level : ℕ) (v : List Visit) → wanted ≡ wanted_level levels view → wanted ≤ level → level ≡ length levels → AreSkipped levels view x y wanted (level - wanted) v
    → IsPixelWay levels view x y 0 255 v
blank_way levels view x y wanted level v is le end before = inr (record {
  none = refl;
  dark = refl;
  skipped = level - wanted;
  all = omega (arith, is, le, end);
  missed = subst (λ n. AreSkipped levels view x y n (level - wanted) v) is before;
})

-- a pixel that is cut off at a level
pub pixel_cut : (levels ls : List Level) (view : View) (x y wanted level : ℕ) (v w : List Visit) (l cell : ℕ) → wanted ≡ wanted_level levels view → ls ≡ levels → wanted ≤ level → AreSkipped levels view x y wanted (level - wanted) v
    → IsLevelCut ls view x y level w l cell → IsPixelCut levels view x y (v ++ w) l cell
pixel_cut levels ls view x y wanted level v w l cell is same le before cut = record {
  skipped = level - wanted;
  level_is = omega (arith, is, le, cut.1);
  missed = subst (λ (vs : List Visit). AreSkipped levels view x y (wanted_level levels view) (level - wanted) vs) (sym (ap (λ (ws : List Visit). v ++ ws) cut.0 ∙ append-nil v)) (subst (λ n. AreSkipped levels view x y n (level - wanted) v) is before);
  at = cut.2;
  voxel = subst (λ n. HasVoxel levels view.affine n x y cell cut.2) (sym cut.1) (subst (λ (k : List Level). HasVoxel k view.affine level x y cell cut.2) same cut.3);
}
