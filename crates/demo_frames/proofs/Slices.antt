-- A picture of a slice of the demonstration's level 0, as a list.
use Rattle.std.proofs.Common.{◌≡◌, ◌∙◌, inl, inr, ℕ, ◌+◌, ◌*◌, ◌<◌, IsTrue, [], ◌∷◌, Some, length, pos, slice_get, slice_index, refl, sym, ap, subst, arith}
use Rattle.voxel_box.specs.Box.{IsWithin}
use Rattle.arr_history.specs.Shape.{Shape}
use Rattle.cell_grid.specs.declared.level.Level.{Level}
use Rattle.cell_grid.specs.Pyramid.{IsVoxelOf}
use Rattle.scale_pick.specs.declared.strategy.Strategy.TheVariants.{Blocking}
use Rattle.scale_pick.specs.declared.view.View.{View}
use Rattle.scale_pick.specs.Pixel.{HasVoxel, IsOutside}
use Rattle.scale_pick.specs.Picture.{Pixels, IsFilled, place}
use Rattle.scale_pick.specs.Shade.{shown}
use Rattle.whole_affine.specs.Nearest.{nearest_voxel}
use Rattle.demo_script.specs.Script.{map_at}
use Rattle.demo_volume.specs.Below.{each_below, joined_below}
use Rattle.demo_volume.specs.Levels.{fine_level, levels}
use Rattle.demo_frames.proofs.Nearest.{one_under, under_pixel}
use Rattle.demo_frames.proofs.Rows.{rows_are}
use Rattle.demo_frames.proofs.Still.{ShowsArrays}

-- the view of a slice
abbrev pub view_at : ℕ → View
view_at z = record { affine = map_at (pos z); width = 512; height = 512; level = Some 0; strategy = Blocking; low = 0; high = 65535 }

-- arrays have the numbers that a function gives at the voxels of level 0
abbrev pub HaveNumbers : (ℕ → ℕ → ℕ) → (ℕ → ℕ → ℕ → ℕ) → Type 0
HaveNumbers arrays f = (x y z cell at : ℕ) → x < 512 → y < 512 → IsVoxelOf levels 0 (x ∷ y ∷ z ∷ []) cell at → arrays cell at ≡ f x y z

fine_is : (shape : Level) → slice_get levels 0 ≡ Some shape → fine_level ≡ shape
fine_is shape e = cc

module _ (x y z : ℕ) (wide : x < 512) (high : y < 512) (deep : z < 64) where
  not_outside : IsOutside levels (map_at (pos z)) 0 x y → ⊥
  not_outside out =
      let shape = fine_is out.shape out.exists in
      out.outside (x ∷ y ∷ z ∷ []) (sym (under_pixel x y z) ∙ ap (λ (l : Level). nearest_voxel (map_at (pos z)) l.factor x y) shape)
      (subst (λ (l : Level). IsWithin (x ∷ y ∷ z ∷ []) l.extent.dims) shape (record { three = refl; x = wide; y = high; z = deep }))

  voxel_under : (cell at : ℕ) → HasVoxel levels (map_at (pos z)) 0 x y cell at → IsVoxelOf levels 0 (x ∷ y ∷ z ∷ []) cell at
  voxel_under cell at voxel =
      let shape = fine_is voxel.shape voxel.exists in
      let here = one_under voxel.coordinates x y z (voxel.nearest ∙ ap (λ (l : Level). nearest_voxel (map_at (pos z)) l.factor x y) (sym shape)) in
      subst (λ p. IsVoxelOf levels 0 p cell at) here voxel.voxel

  -- a pixel shows the number of its voxel
  pixel_is : (b : Shape) (arrays : ℕ → ℕ → ℕ) (f : ℕ → ℕ → ℕ → ℕ) (value : ℕ) → ((cell : ℕ) → IsTrue (b.is_told cell)) → HaveNumbers arrays f
      → ShowsArrays b arrays levels (view_at z) x y 0 value → value ≡ shown (f x y z) 0 65535
  pixel_is b arrays f value told have (inl (outside, dark)) = absurd (not_outside outside)
  pixel_is b arrays f value told have (inr (cell, at, number, voxel, had, is)) =
      is ∙ ap (λ n. shown n 0 65535) (had (told cell) ∙ have x y z cell at wide high (voxel_under cell at voxel))

pub slice_is : (b : Shape) (arrays : ℕ → ℕ → ℕ) (f : ℕ → ℕ → ℕ → ℕ) (z : ℕ) (picture : Pixels) → z < 64 → ((cell : ℕ) → IsTrue (b.is_told cell)) → HaveNumbers arrays f
    → IsFilled picture → picture.width ≡ 512 → picture.height ≡ 512
    → ((x y : ℕ) → x < picture.width → y < picture.height → ShowsArrays b arrays levels (view_at z) x y 0 (slice_index picture.values (place picture.width x y)))
    → picture.values ≡ joined_below 512 (λ y. each_below 512 (λ x. shown (f x y z) 0 65535))
slice_is b arrays f z picture deep told have filled width height shows =
    rows_are (λ y x. shown (f x y z) 0 65535) 512 512 picture.values long at
  where
    long : length picture.values ≡ 512 * 512
    long = filled.values ∙ (ap (λ w. w * picture.height) width ∙ ap (λ h. 512 * h) height)

    at : (y x : ℕ) → y < 512 → x < 512 → slice_index picture.values (y * 512 + x) ≡ shown (f x y z) 0 65535
    at y x high wide =
        ap (λ w. slice_index picture.values (y * w + x)) (sym width)
        ∙ pixel_is x y z wide high deep b arrays f (slice_index picture.values (place picture.width x y)) told have (shows x y (omega (arith, wide, width)) (omega (arith, high, height)))
