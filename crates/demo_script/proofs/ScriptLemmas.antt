-- The demonstration's script keeps the limits of scripts.
use Rattle.std.proofs.Common.{◌≡◌, ℕ, ◌^◌, ◌≤◌, List, [], ◌∷◌, length, refl, sym, arith, true, subst, pos, zero, suc, Some}
use Rattle.std.specs.Prelude.{All, slice_index_or, codes, unsigned_abs}
use Rattle.std.specs.List.{IsDistinct}
use Rattle.std.specs.Str.{bytes_eq}
use Rattle.std.proofs.lemmas.List.Elements.{All-cons, All-nil}
use Rattle.scale_pick.specs.declared.strategy.Strategy.TheVariants.{Blocking}
use Rattle.whole_affine.specs.Affine.{row_of}
use Rattle.view_script.specs.Name.{is_view_name}
use Rattle.view_script.specs.Script.{IsScript, IsViewWithinLimits, IsWithinLimits, command_count, pixel_count, view_names}
use Rattle.demo_script.specs.Script.{demo_script, editing, edits, map_at, show_at, showing}
use Rattle.demo_script.proofs.EditsLemmas.{edits_count, edits_within, no_names, no_pixels}

four : {X : Type 0} (P : X → Type 0) (a b c d : X) → P a → P b → P c → P d → All P (a ∷ b ∷ c ∷ d ∷ [])
four P a b c d p q r s = All-cons P a (b ∷ c ∷ d ∷ []) p (All-cons P b (c ∷ d ∷ []) q (All-cons P c (d ∷ []) r (All-cons P d [] s (All-nil P))))

two : {X : Type 0} (P : X → Type 0) (a b : X) → P a → P b → All P (a ∷ b ∷ [])
two P a b p q = All-cons P a (b ∷ []) p (All-cons P b [] q (All-nil P))

one : {X : Type 0} (P : X → Type 0) (a : X) → P a → All P (a ∷ [])
one P a p = All-cons P a [] p (All-nil P)

small : (depth : ℕ) → depth ≤ 2 ^ 31 → (axis i : ℕ) → unsigned_abs (slice_index_or (row_of (map_at (pos depth)) axis) i (pos 0)) ≤ 2 ^ 31
small depth le zero zero = omega arith
small depth le zero (suc zero) = omega arith
small depth le zero (suc (suc zero)) = omega arith
small depth le zero (suc (suc (suc i))) = omega arith
small depth le (suc zero) zero = omega arith
small depth le (suc zero) (suc zero) = omega arith
small depth le (suc zero) (suc (suc zero)) = omega arith
small depth le (suc zero) (suc (suc (suc i))) = omega arith
small depth le (suc (suc zero)) zero = omega arith
small depth le (suc (suc zero)) (suc zero) = omega arith
small depth le (suc (suc zero)) (suc (suc zero)) = le
small depth le (suc (suc zero)) (suc (suc (suc i))) = omega arith
small depth le (suc (suc (suc axis))) i = omega arith

within : (depth : ℕ) → depth ≤ 2 ^ 31 → IsViewWithinLimits (record { affine = map_at (pos depth); width = 512; height = 512; level = Some 0; strategy = Blocking; low = 0; high = 65535 })
within depth le = record {
  map = record { positive = omega arith; bounded = omega arith; small = small depth le };
  width = (omega arith, omega arith);
  height = (omega arith, omega arith);
  level = omega arith;
  budget = omega arith;
  range = omega arith;
}

shown : (name : List ℕ) (depth : ℕ) → is_view_name name ≡ true → depth ≤ 2 ^ 31 → All IsWithinLimits (show_at name (pos depth) ∷ [])
shown name depth is le = one IsWithinLimits (show_at name (pos depth)) (is, within depth le)

commands : All (All (All IsWithinLimits)) (editing ∷ showing ∷ [])
commands = two (All (All IsWithinLimits)) editing showing
    (four (All IsWithinLimits) (edits 0 256) (edits 1 256) (edits 2 256) (edits 3 256) (edits_within 0 256) (edits_within 1 256) (edits_within 2 256) (edits_within 3 256))
    (four (All IsWithinLimits) _ _ _ _ (shown (codes "demo0") 8 refl (omega arith)) (shown (codes "demo1") 24 refl (omega arith)) (shown (codes "demo2") 40 refl (omega arith)) (shown (codes "demo3") 56 refl (omega arith)))

count : command_count (editing ∷ showing ∷ []) ≡ 1028
count = simp edits_count

pixels : pixel_count (editing ∷ showing ∷ []) ≡ 1048576
unfolding pixel_count
pixels = simp no_pixels

names : view_names (editing ∷ showing ∷ []) ≡ codes "demo0" ∷ codes "demo1" ∷ codes "demo2" ∷ codes "demo3" ∷ []
unfolding view_names
names = simp no_names

distinct : IsDistinct bytes_eq (codes "demo0" ∷ codes "demo1" ∷ codes "demo2" ∷ codes "demo3" ∷ [])
unfolding IsDistinct
distinct = ((refl, (refl, (refl, tt))), ((refl, (refl, tt)), ((refl, tt), (tt, tt))))

pub demo_is_script : IsScript demo_script
demo_is_script = record {
  root = refl;
  range = omega arith;
  phases = omega arith;
  actors = two (λ actors. length actors ≤ 16) editing showing (omega arith) (omega arith);
  commands = commands;
  count = omega (arith, count);
  pixels = omega (arith, pixels);
  names = subst (IsDistinct bytes_eq) (sym names) distinct;
}
