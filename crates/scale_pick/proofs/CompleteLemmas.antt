-- A frame that loads what isn't there is complete.
use Rattle.std.proofs.Common.{◌≡◌, ◌∙◌, ℕ, ◌+◌, ◌*◌, ◌/◌, ◌%◌, ◌<◌, ◌≤◌, ◌⊎◌, inl, inr, List, length, slice_index, sym, ap, subst, arith}
use Rattle.std.proofs.lemmas.Bool.{cases_lt}
use Rattle.std.proofs.lemmas.List.{get_or_default}
use Rattle.std.proofs.Math.Nat.{div-add-mod, mod-lt, mul-le-mul_left}
use Rattle.arr_history.specs.declared.event.Event.{Event}
use Rattle.cell_grid.specs.declared.level.Level.{Level}
use Rattle.scale_pick.specs.declared.strategy.Strategy.TheVariants.{Blocking}
use Rattle.scale_pick.specs.declared.view.View.{View}
use Rattle.scale_pick.specs.Laws.{NotedLooks, BlockingIsComplete}
use Rattle.scale_pick.specs.Looks.{LoadsNoMore, loads_in}
use Rattle.scale_pick.specs.Notes.{notes_of}
use Rattle.scale_pick.specs.Painting.{IsMissed, IsPainted}
use Rattle.scale_pick.specs.Picture.{place}
use Rattle.scale_pick.specs.Wanted.{wanted_level}

-- nothing is found not ready
never_missed : NotedLooks → (levels : List Level) (view : View) (events : List Event) (x y level : ℕ) → view.strategy ≡ Blocking → IsMissed levels view (notes_of view.strategy events) x y level → ⊥
never_missed noted levels view events x y level blocking m =
    let found = ((noted view.strategy events).looks m.0).0 m.3 in
    subst (λ s. LoadsNoMore s (loads_in found.before)) blocking found.spent

-- a pixel is of the wanted level
pixel_complete : NotedLooks → (levels : List Level) (view : View) (events : List Event) (wanted x y value mask : ℕ) → view.strategy ≡ Blocking → wanted < length levels
    → IsPainted levels view (notes_of view.strategy events) wanted x y value mask → mask ≡ wanted
pixel_complete noted levels view events wanted x y value mask blocking exists (inr b) =
    absurd (never_missed noted levels view events x y wanted blocking (b.missed wanted (omega arith) exists))
pixel_complete noted levels view events wanted x y value mask blocking exists (inl s) = choose (cases_lt wanted mask)
  where
    choose : (wanted < mask) ⊎ (mask ≤ wanted) → mask ≡ wanted
    choose (inl lt) = absurd (never_missed noted levels view events x y wanted blocking (s.missed wanted (omega arith) lt))
    choose (inr le) = omega (arith, le, s.from)

pub blocking_complete : NotedLooks → BlockingIsComplete
blocking_complete noted levels view events picture blocking exists filled painting = λ k d lt.
    let w : ℕ = picture.width in
    let y : ℕ = k / w in
    let x : ℕ = k % w in
    let parts : w * y + x ≡ k = div-add-mod k w in
    let column : x < w = mod-lt k filled.some_columns in
    let row : y < picture.height = row_below k w y picture.height x parts (omega (arith, lt, filled.mask)) in
    let here : place w x y ≡ k = omega (arith, parts) in
    let pixel = pixel_complete noted levels view events (wanted_level levels view) x y (slice_index picture.values (place w x y)) (slice_index picture.mask (place w x y)) blocking exists (painting.rows y row x column) in
    get_or_default picture.mask k d 0 lt ∙ ap (λ i. slice_index picture.mask i) (sym here) ∙ pixel
  where
    row_below : (k w y h x : ℕ) → w * y + x ≡ k → k < w * h → y < h
    row_below k w y h x parts lt = choose (cases_lt y h)
      where
        choose : (y < h) ⊎ (h ≤ y) → y < h
        choose (inl below) = below
        choose (inr over) = absurd (omega (arith, parts, lt, mul-le-mul_left w over))
