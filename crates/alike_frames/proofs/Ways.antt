-- The way of a frame in one order: pixel by pixel, and in a pixel level by level, up to its end.
use Rattle.std.proofs.Common.{◌≡◌, ◌∙◌, ◌⊎◌, inl, inr, ℕ, zero, suc, ◌+◌, ◌<◌, List, [], ◌∷◌, ◌++◌, length, Option, None, Some, slice_index, refl, sym, ap, subst, subst₂, append_assoc, append-nil, eq-or-lt_of_le, le_of_suc-le-suc, arith}
use Rattle.cell_grid.specs.declared.level.Level.{Level}
use Rattle.scale_pick.specs.declared.view.View.{View}
use Rattle.scale_pick.specs.Shade.{shown}
use Rattle.scale_pick.specs.Pixel.{HasVoxel, IsOutside}
use Rattle.scale_pick.specs.Picture.{Pixels, place}
use Rattle.scale_pick.specs.Wanted.{wanted_level}
use Rattle.hier_paint.specs.Visits.{Visit, reading_visit, skipping}
use Rattle.hier_paint.specs.Ways.{IsLevelWay, AreSkipped, IsPixelWay, IsRowWay, AreRowWays, IsPixelCut, IsCut}

-- a column and a row
pub record Spot : Type 0 where
  pub x : ℕ
  pub y : ℕ

-- the pixels of a row up to a column, and of the rows before one
abbrev pub row_spots : ℕ → ℕ → List Spot
row_spots y zero = []
row_spots y (suc x) = row_spots y x ++ record { x = x; y = y } ∷ []

abbrev pub spots : ℕ → ℕ → List Spot
spots width zero = []
spots width (suc y) = spots width y ++ row_spots y width

-- the level and the cell of a look that was refused
pub record Refused : Type 0 where
  pub level : ℕ
  pub cell : ℕ

abbrev pub value_at : Pixels → Spot → ℕ
value_at picture s = slice_index picture.values (place picture.width s.x s.y)

abbrev pub mask_at : Pixels → Spot → ℕ
mask_at picture s = slice_index picture.mask (place picture.width s.x s.y)

module _ (levels : List Level) (view : View) where
  -- How a pixel ends at a level: outside it, read there, with no level left, or cut off there. The rest of the frame follows.
  pub data IsEnd (picture : Pixels) (s : Spot) (Rest : List Visit → Type 0) (cut : Option Refused) (level : ℕ) (visits : List Visit) : Type 0 where
    outside : IsOutside levels view.affine level s.x s.y → value_at picture s ≡ 0 → mask_at picture s ≡ level → Rest visits → IsEnd picture s Rest cut level visits
    read : (cell at number : ℕ) (more : List Visit) → HasVoxel levels view.affine level s.x s.y cell at → value_at picture s ≡ shown number view.low view.high → mask_at picture s ≡ level
        → visits ≡ reading_visit level cell at number ∷ more → Rest more → IsEnd picture s Rest cut level visits
    blank : level ≡ length levels → value_at picture s ≡ 0 → mask_at picture s ≡ 255 → Rest visits → IsEnd picture s Rest cut level visits
    refused : (cell at : ℕ) → HasVoxel levels view.affine level s.x s.y cell at → visits ≡ [] → cut ≡ Some (record { level = level; cell = cell }) → IsEnd picture s Rest cut level visits

  -- so many levels from one on aren't ready, and then something is so
  abbrev pub AreLevels : Spot → (ℕ → List Visit → Type 0) → ℕ → ℕ → List Visit → Type 0
  AreLevels s Then level zero visits = Then level visits
  AreLevels s Then level (suc n) visits = (cell : ℕ) × (at : ℕ) × (more : List Visit) × HasVoxel levels view.affine level s.x s.y cell at × (visits ≡ skipping level cell ∷ more) × AreLevels s Then (suc level) n more

  -- the rest of a frame, from these pixels on
  abbrev pub IsRest : Pixels → Option Refused → List Spot → List Visit → Type 0
  IsRest picture cut [] visits = (visits ≡ []) × (cut ≡ None)
  IsRest picture cut (s ∷ rest) visits = (n : ℕ) × AreLevels s (IsEnd picture s (IsRest picture cut rest) cut) (wanted_level levels view) n visits

  -- one level more
  one_more : (s : Spot) (Then : ℕ → List Visit → Type 0) (level n : ℕ) (visits : List Visit) → AreLevels s (λ l v. AreLevels s Then l 1 v) level n visits → AreLevels s Then level (suc n) visits
  one_more s Then level zero visits h = h
  one_more s Then level (suc n) visits (cell, at, more, voxel, is, rest) = (cell, at, more, voxel, is, one_more s Then (suc level) n more rest)

  -- levels that aren't ready, and what then is so
  then_levels : (s : Spot) (Then : ℕ → List Visit → Type 0) (from n : ℕ) (before after : List Visit) → AreSkipped levels view s.x s.y from n before → Then (from + n) after → AreLevels s Then from n (before ++ after)
  then_levels s Then from zero before after none h =
      let same : from + 0 ≡ from = omega arith in
      subst (λ (v : List Visit). Then from (v ++ after)) (sym none) (subst (λ l. Then l after) same h)
  then_levels s Then from (suc n) before after (first, here, skipped, (cell, at, voxel, is), are) h =
      let next : from + suc n ≡ suc (from + n) = omega arith in
      let one : AreLevels s Then (from + n) 1 (skipping (from + n) cell ∷ after) = (cell, at, after, voxel, refl, subst (λ l. Then l after) next h) in
      let joined : first ++ (skipping (from + n) cell ∷ after) ≡ before ++ after =
      ap (λ (v : List Visit). first ++ (v ++ after)) (sym is) ∙ sym (append_assoc first here after) ∙ ap (λ (v : List Visit). v ++ after) (sym are) in
      one_more s Then from n (before ++ after) (subst (λ (v : List Visit). AreLevels s (λ l w. AreLevels s Then l 1 w) from n v) joined (then_levels s (λ l w. AreLevels s Then l 1 w) from n first (skipping (from + n) cell ∷ after) skipped one))

  -- a pixel that is painted, and the rest
  then_pixel : (picture : Pixels) (cut : Option Refused) (s : Spot) (rest : List Spot) (here after : List Visit)
      → IsPixelWay levels view s.x s.y (value_at picture s) (mask_at picture s) here → IsRest picture cut rest after → IsRest picture cut (s ∷ rest) (here ++ after)
  then_pixel picture cut s rest here after (inl way) h = (
    way.skipped,
    subst (λ (v : List Visit). AreLevels s (IsEnd picture s (IsRest picture cut rest) cut) (wanted_level levels view) way.skipped v) joined
        (then_levels s (IsEnd picture s (IsRest picture cut rest) cut) (wanted_level levels view) way.skipped way.before (way.here ++ after) way.missed (subst (λ l. IsEnd picture s (IsRest picture cut rest) cut l (way.here ++ after)) way.mask_is (shows way.shows))),
  )
    where
      joined : way.before ++ (way.here ++ after) ≡ here ++ after
      joined = sym (append_assoc way.before way.here after) ∙ ap (λ (v : List Visit). v ++ after) (sym way.visits_are)

      shows : IsLevelWay levels view s.x s.y (mask_at picture s) (Some (value_at picture s)) way.here → IsEnd picture s (IsRest picture cut rest) cut (mask_at picture s) (way.here ++ after)
      shows (inl (out, dark, none)) = outside out dark refl (subst (λ (v : List Visit). IsRest picture cut rest (v ++ after)) (sym none) h)
      shows (inr (cell, at, number, voxel, value, is)) = read cell at number after voxel value refl (ap (λ (v : List Visit). v ++ after) is) h
  then_pixel picture cut s rest here after (inr way) h =
      (way.skipped, then_levels s (IsEnd picture s (IsRest picture cut rest) cut) (wanted_level levels view) way.skipped here after way.missed (blank way.all way.dark way.none h))

  -- the pixels of a row, and the rest
  then_row : (picture : Pixels) (cut : Option Refused) (y x : ℕ) (rest : List Spot) (here after : List Visit)
      → IsRowWay levels view picture y x here → IsRest picture cut rest after → IsRest picture cut (row_spots y x ++ rest) (here ++ after)
  then_row picture cut y zero rest here after none h = subst (λ (v : List Visit). IsRest picture cut rest (v ++ after)) (sym none) h
  then_row picture cut y (suc x) rest here after (before, pixel, painted, way, are) h =
      let spot : Spot = record { x = x; y = y } in
      let more = then_row picture cut y x (spot ∷ rest) before (pixel ++ after) painted (then_pixel picture cut spot rest pixel after way h) in
      subst₂ (IsRest picture cut) (sym (append_assoc (row_spots y x) (spot ∷ []) rest)) (sym (append_assoc before pixel after) ∙ ap (λ (v : List Visit). v ++ after) (sym are)) more

  -- the rows before one, and the rest
  then_rows : (picture : Pixels) (cut : Option Refused) (y : ℕ) (rest : List Spot) (here after : List Visit)
      → AreRowWays levels view picture y here → IsRest picture cut rest after → IsRest picture cut (spots picture.width y ++ rest) (here ++ after)
  then_rows picture cut zero rest here after none h = subst (λ (v : List Visit). IsRest picture cut rest (v ++ after)) (sym none) h
  then_rows picture cut (suc y) rest here after (before, row, painted, way, are) h =
      let more = then_rows picture cut y (row_spots y picture.width ++ rest) before (row ++ after) painted (then_row picture cut y picture.width rest row after way h) in
      subst₂ (IsRest picture cut) (sym (append_assoc (spots picture.width y) (row_spots y picture.width) rest)) (sym (append_assoc before row after) ∙ ap (λ (v : List Visit). v ++ after) (sym are)) more

  -- a whole picture
  pub whole_way : (picture : Pixels) (visits : List Visit) → AreRowWays levels view picture picture.height visits → IsRest picture None (spots picture.width picture.height) visits
  whole_way picture visits way =
      subst₂ (IsRest picture None) (append-nil (spots picture.width picture.height)) (append-nil visits) (then_rows picture None picture.height [] visits [] way (refl, refl))

  -- a pixel that is cut off
  then_cut : (picture : Pixels) (s : Spot) (rest : List Spot) (visits : List Visit) (level cell : ℕ) → IsPixelCut levels view s.x s.y visits level cell
      → IsRest picture (Some (record { level = level; cell = cell })) (s ∷ rest) visits
  then_cut picture s rest visits level cell cut =
      let fate : Option Refused = Some (record { level = level; cell = cell }) in
      let End : ℕ → List Visit → Type 0 = IsEnd picture s (IsRest picture fate rest) fate in
      let end : End level [] = refused cell cut.at cut.voxel refl refl in (
        cut.skipped,
        subst (λ (v : List Visit). AreLevels s End (wanted_level levels view) cut.skipped v) (append-nil visits)
            (then_levels s End (wanted_level levels view) cut.skipped visits [] cut.missed (subst (λ l. End l []) cut.level_is end)),
      )

-- a row is its pixels up to one, and the others
pub row_split : (y x width : ℕ) → x < width → (rest : List Spot) × (row_spots y width ≡ row_spots y x ++ record { x = x; y = y } ∷ rest)
row_split y x zero lt = absurd (omega (arith, lt))
row_split y x (suc width) lt = go (eq-or-lt_of_le (le_of_suc-le-suc lt)) (row_split y x width)
  where
    spot : Spot
    spot = record { x = x; y = y }

    last : Spot
    last = record { x = width; y = y }

    go : (x ≡ width) ⊎ (x < width) → (x < width → (rest : List Spot) × (row_spots y width ≡ row_spots y x ++ spot ∷ rest)) → (rest : List Spot) × (row_spots y (suc width) ≡ row_spots y x ++ spot ∷ rest)
    go (inl same) more = ([], ap (λ n. row_spots y n ++ record { x = n; y = y } ∷ []) (sym same))
    go (inr below) more = let had = more below in (had.0 ++ last ∷ [], ap (λ (s : List Spot). s ++ last ∷ []) had.1 ∙ append_assoc (row_spots y x) (spot ∷ had.0) (last ∷ []))

-- so are the rows
pub rows_split : (width y height : ℕ) → y < height → (rest : List Spot) × (spots width height ≡ spots width y ++ (row_spots y width ++ rest))
rows_split width y zero lt = absurd (omega (arith, lt))
rows_split width y (suc height) lt = go (eq-or-lt_of_le (le_of_suc-le-suc lt)) (rows_split width y height)
  where
    go : (y ≡ height) ⊎ (y < height) → (y < height → (rest : List Spot) × (spots width height ≡ spots width y ++ (row_spots y width ++ rest))) → (rest : List Spot) × (spots width (suc height) ≡ spots width y ++ (row_spots y width ++ rest))
    go (inl same) more = ([], ap (λ n. spots width n ++ row_spots n width) (sym same) ∙ ap (λ (s : List Spot). spots width y ++ s) (sym (append-nil (row_spots y width))))
    go (inr below) more = let had = more below in (
      had.0 ++ row_spots height width,
      ap (λ (s : List Spot). s ++ row_spots height width) had.1
          ∙ append_assoc (spots width y) (row_spots y width ++ had.0) (row_spots height width) ∙ ap (λ (s : List Spot). spots width y ++ s) (append_assoc (row_spots y width) had.0 (row_spots height width)),
    )

-- a picture that is cut off
pub cut_way : (levels : List Level) (view : View) (picture : Pixels) (visits : List Visit) (level cell : ℕ) → IsCut levels view picture visits level cell
    → IsRest levels view picture (Some (record { level = level; cell = cell })) (spots picture.width picture.height) visits
cut_way levels view picture visits level cell cut =
    let row = cut.cut in
    let fate : Option Refused = Some (record { level = level; cell = cell }) in
    let spot : Spot = record { x = row.x; y = cut.y } in
    let columns = row_split cut.y row.x picture.width row.column in
    let rows = rows_split picture.width cut.y picture.height cut.row in
    let end = then_cut levels view picture spot (columns.0 ++ rows.0) row.here level cell row.cut in
    let in_row = then_row levels view picture fate cut.y row.x (spot ∷ (columns.0 ++ rows.0)) row.before row.here row.painted end in
    let whole = then_rows levels view picture fate cut.y (row_spots cut.y row.x ++ (spot ∷ (columns.0 ++ rows.0))) cut.before (row.before ++ row.here) cut.painted in
    let the_spots : spots picture.width cut.y ++ (row_spots cut.y row.x ++ (spot ∷ (columns.0 ++ rows.0))) ≡ spots picture.width picture.height =
    ap (λ (s : List Spot). spots picture.width cut.y ++ s) (sym (append_assoc (row_spots cut.y row.x) (spot ∷ columns.0) rows.0) ∙ ap (λ (s : List Spot). s ++ rows.0) (sym columns.1)) ∙ sym rows.1 in
    let the_visits : cut.before ++ (row.before ++ row.here) ≡ visits = ap (λ (v : List Visit). cut.before ++ v) (sym row.visits_are) ∙ sym cut.visits_are in
    subst₂ (IsRest levels view picture fate) the_spots the_visits (whole in_row)
