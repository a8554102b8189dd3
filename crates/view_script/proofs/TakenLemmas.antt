-- The limits that a command keeps when a script takes it.
use Rattle.std.proofs.Common.{◌≡◌, ℕ, ◌+◌, ◌*◌, ◌<◌, ◌≤◌, ◌^◌, List, [], ◌∷◌, ◌++◌, Bool, true, false, not, Option, Some, None, refl, arith}
use Rattle.std.specs.Prelude.{IfSome, slice_index}
use Rattle.std.specs.List.{AllByRecursion, IsDistinct}
use Rattle.std.specs.Str.{bytes_eq}
use Rattle.std.proofs.lemmas.Bool.{leb-true}
use Rattle.std.proofs.lemmas.Grind.{common_steps}
use Rattle.std.proofs.lemmas.List.{append-nil}
use Rattle.scale_pick.specs.declared.view.View.{View}
use Rattle.view_script.specs.declared.command.Command.{Command}
use Rattle.view_script.specs.declared.command.Command.TheVariants as command
use Rattle.view_script.specs.Meaning.{has_room, has_own_name, is_named, in_range, shown_in}
use Rattle.view_script.specs.Script.{IsWithinLimits, IsViewWithinLimits, pixels_of, name_of}
use Rattle.view_script.proofs.NamesLemmas.{bytes_eq-swap}

pub distinct_none : (same : List ℕ → List ℕ → Bool) → IsDistinct same []
unfolding IsDistinct
distinct_none same = tt

-- names of which none is this one, and then this one
others_and_last : (first name : List ℕ) (names : List (List ℕ)) → AllByRecursion (λ other. bytes_eq first other ≡ false) names → bytes_eq first name ≡ false
    → AllByRecursion (λ other. bytes_eq first other ≡ false) (names ++ name ∷ [])
others_and_last first name [] all differs = (differs, tt)
others_and_last first name (other ∷ names) all differs = (all.0, others_and_last first name names all.1 differs)

distinct_push : (names : List (List ℕ)) (name : List ℕ) → IsDistinct bytes_eq names → is_named names name ≡ false → IsDistinct bytes_eq (names ++ name ∷ [])
unfolding IsDistinct
distinct_push [] name differ new = (tt, tt)
distinct_push (first ∷ names) name differ new =
    let here : bytes_eq name first ≡ false = grind (arith, common_steps) in
    let rest : is_named names name ≡ false = grind (arith, common_steps) in
    let back : bytes_eq first name ≡ false = rw (bytes_eq-swap first name) here in
    (others_and_last first name names differ.0 back, distinct_push names name differ.1 rest)

pub with_room : (pixels : ℕ) (command : Command) → pixels ≤ 2 ^ 26 → has_room pixels command ≡ true → pixels + pixels_of command ≤ 2 ^ 26
with_room pixels (command.Get level pos) few room = omega (arith, few)
with_room pixels (command.Set level pos value) few room = omega (arith, few)
with_room pixels (command.View name view) few room = leb-true (pixels + view.width * view.height) (2 ^ 26) room
with_room pixels (command.Fetch count) few room = omega (arith, few)

not_true : (b : Bool) → not b ≡ true → b ≡ false
not_true true h = absurd (cc)
not_true false h = refl

pub with_own_name : (names : List (List ℕ)) (command : Command) → IsDistinct bytes_eq names → has_own_name names command ≡ true → IsDistinct bytes_eq (names ++ name_of command)
with_own_name names (command.Get level pos) differ new = rw (append-nil names) differ
with_own_name names (command.Set level pos value) differ new = rw (append-nil names) differ
with_own_name names (command.View name view) differ new = distinct_push names name differ (not_true (is_named names name) new)
with_own_name names (command.Fetch count) differ new = rw (append-nil names) differ

-- a command that shows the script's range has the pixels and the name that it had
pub in_range-room : (range : Option (List ℕ)) (pixels : ℕ) (command : Command) → has_room pixels command ≡ true → has_room pixels (in_range range command) ≡ true
in_range-room range pixels (command.Get level pos) room = refl
in_range-room range pixels (command.Set level pos value) room = refl
in_range-room None pixels (command.View name view) room = room
in_range-room (Some range) pixels (command.View name view) room = room
in_range-room range pixels (command.Fetch count) room = refl

pub in_range-name : (range : Option (List ℕ)) (names : List (List ℕ)) (command : Command) → has_own_name names command ≡ true → has_own_name names (in_range range command) ≡ true
in_range-name range names (command.Get level pos) new = refl
in_range-name range names (command.Set level pos value) new = refl
in_range-name range names (command.View name view) new = new
in_range-name range names (command.Fetch count) new = refl

shown_in-within : (range : Option (List ℕ)) (view : View) → IfSome range (λ range. slice_index range 0 < slice_index range 1) → IsViewWithinLimits view → IsViewWithinLimits (shown_in range view)
shown_in-within None view ordered is = is
shown_in-within (Some range) view ordered is = record {
  map = is.map;
  width = is.width;
  height = is.height;
  level = is.level;
  budget = is.budget;
  range = ordered;
}

pub in_range-within : (range : Option (List ℕ)) (command : Command) → IfSome range (λ range. slice_index range 0 < slice_index range 1) → IsWithinLimits command → IsWithinLimits (in_range range command)
in_range-within range (command.Get level pos) ordered is = is
in_range-within range (command.Set level pos value) ordered is = is
in_range-within range (command.View name view) ordered is = (is.0, shown_in-within range view ordered is.1)
in_range-within range (command.Fetch count) ordered is = is
