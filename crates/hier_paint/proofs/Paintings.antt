-- A picture of which visits tell is a painting by what they noted.
use Rattle.std.proofs.Common.{◌≡◌, inl, inr, ℕ, zero, suc, ◌+◌, ◌<◌, List, [], ◌∷◌, ◌++◌, None, Some, Contains, length, refl, sym, subst, arith}
use Rattle.std.proofs.lemmas.List.Elements.{Contains-append_left, Contains-append_right}
use Rattle.std.proofs.lemmas.Option.{slice_get_within}
use Rattle.std.proofs.lemmas.Bool.{cases_eq}
use Rattle.cell_grid.specs.declared.level.Level.{Level}
use Rattle.scale_pick.specs.declared.view.View.{View}
use Rattle.scale_pick.specs.declared.note.Note.{Note}
use Rattle.scale_pick.specs.Picture.{Pixels}
use Rattle.scale_pick.specs.Painting.{IsMissed, Shows, AreMissed, IsPainted, IsPixelPainted, IsRowPainted, AreRowsPainted}
use Rattle.scale_pick.specs.Wanted.{wanted_level}
use Rattle.hier_paint.specs.Visits.{Visit, reading_visit, skipping}
use Rattle.hier_paint.specs.Ways.{IsLevelWay, AreSkipped, IsPixelWay, IsRowWay, AreRowWays}
use Rattle.hier_paint.proofs.Telling.{Covers}

covers_first : (visits a b : List Visit) (notes : List Note) → visits ≡ a ++ b → Covers visits notes → Covers a notes
covers_first visits a b notes e c = λ v h. c v (subst (λ (vs : List Visit). Contains vs v) (sym e) (Contains-append_left a b v h))

covers_last : (visits a b : List Visit) (notes : List Note) → visits ≡ a ++ b → Covers visits notes → Covers b notes
covers_last visits a b notes e c = λ v h. c v (subst (λ (vs : List Visit). Contains vs v) (sym e) (Contains-append_right a b v h))

covers_one : (visits : List Visit) (v : Visit) (notes : List Note) → visits ≡ v ∷ [] → Covers visits notes → Contains notes v.note
covers_one visits v notes e c = c v (subst (λ (vs : List Visit). Contains vs v) (sym e) (0, omega arith, refl))

module _ (levels : List Level) (view : View) (notes : List Note) where
  level_missed : (x y level : ℕ) (visits : List Visit) → IsLevelWay levels view x y level None visits → Covers visits notes → IsMissed levels view notes x y level
  level_missed x y level visits h c = (h.0, h.1, h.2, covers_one visits (skipping level h.0) notes h.3 c)

  level_shown : (x y level value : ℕ) (visits : List Visit) → IsLevelWay levels view x y level (Some value) visits → Covers visits notes → Shows levels view notes x y level value
  level_shown x y level value visits (inl h) c = inl (h.0, h.1)
  level_shown x y level value visits (inr h) c = inr (h.0, h.1, h.2, h.3, covers_one visits (reading_visit level h.0 h.1 h.2) notes h.5 c, h.4)

  level_exists : (x y level value : ℕ) (visits : List Visit) → IsLevelWay levels view x y level (Some value) visits → level < length levels
  level_exists x y level value visits (inl h) = slice_get_within levels level h.0.shape h.0.exists
  level_exists x y level value visits (inr h) = slice_get_within levels level h.3.shape h.3.exists

  skipped_missed : (x y from n : ℕ) (visits : List Visit) → AreSkipped levels view x y from n visits → Covers visits notes → AreMissed levels view notes x y from (from + n)
  skipped_missed x y from zero visits h c = λ level a b. absurd (omega arith)
  skipped_missed x y from (suc n) visits h c = λ level a b. elim (cases_eq level (from + n)) [
    | inl e ↦ subst (λ l. IsMissed levels view notes x y l) (sym e) (level_missed x y (from + n) h.1 h.3 (covers_last visits h.0 h.1 notes h.4 c))
    | inr ne ↦ skipped_missed x y from n h.0 h.2 (covers_first visits h.0 h.1 notes h.4 c) level a (omega arith)
  ]

  pixel_painted : (x y value mask : ℕ) (visits : List Visit) → IsPixelWay levels view x y value mask visits → Covers visits notes → IsPainted levels view notes (wanted_level levels view) x y value mask
  pixel_painted x y value mask visits (inl h) c = inl (record {
    from = omega (arith, h.mask_is);
    exists = level_exists x y mask value h.here h.shows;
    shows = level_shown x y mask value h.here h.shows (covers_last visits h.before h.here notes h.visits_are c);
    missed = subst (λ m. AreMissed levels view notes x y (wanted_level levels view) m) (sym h.mask_is) (skipped_missed x y (wanted_level levels view) h.skipped h.before h.missed (covers_first visits h.before h.here notes h.visits_are c));
  })
  pixel_painted x y value mask visits (inr h) c = inr (record {
    none = h.none;
    dark = h.dark;
    missed = subst (λ m. AreMissed levels view notes x y (wanted_level levels view) m) h.all (skipped_missed x y (wanted_level levels view) h.skipped visits h.missed c);
  })

  row_painted : (p : Pixels) (y columns : ℕ) (visits : List Visit) → IsRowWay levels view p y columns visits → Covers visits notes → IsRowPainted levels view notes (wanted_level levels view) p y columns
  row_painted p y zero visits h c = λ x a. absurd (omega arith)
  row_painted p y (suc columns) visits h c = λ x a. elim (cases_eq x columns) [
    | inl e ↦ subst (λ j. IsPixelPainted levels view notes (wanted_level levels view) p j y) (sym e) (pixel_painted columns y _ _ h.1 h.3 (covers_last visits h.0 h.1 notes h.4 c))
    | inr ne ↦ row_painted p y columns h.0 h.2 (covers_first visits h.0 h.1 notes h.4 c) x (omega arith)
  ]

  pub rows_painted : (p : Pixels) (rows : ℕ) (visits : List Visit) → AreRowWays levels view p rows visits → Covers visits notes → AreRowsPainted levels view notes (wanted_level levels view) p rows
  rows_painted p zero visits h c = λ y a. absurd (omega arith)
  rows_painted p (suc rows) visits h c = λ y a. elim (cases_eq y rows) [
    | inl e ↦ subst (λ j. IsRowPainted levels view notes (wanted_level levels view) p j p.width) (sym e) (row_painted p rows p.width h.1 h.3 (covers_last visits h.0 h.1 notes h.4 c))
    | inr ne ↦ rows_painted p rows h.0 h.2 (covers_first visits h.0 h.1 notes h.4 c) y (omega arith)
  ]
