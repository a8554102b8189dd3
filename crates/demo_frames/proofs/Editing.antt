-- The edits of the demonstration, and the voxels that they set.
use Rattle.std.proofs.Common.{◌≡◌, ◌∙◌, ℕ, zero, suc, ◌+◌, ◌*◌, ◌/◌, ◌%◌, ◌<◌, ◌==◌, ◌&&◌, true, List, [], ◌∷◌, map, Option, slice_index, sym, ap, subst, arith}
use Rattle.std.specs.List.{range_with_len, enumerate_from, AllByRecursion as Each}
use Rattle.std.proofs.lemmas.Bool.{and_from, and_parts, eq-eqb, eqb-true}
use Rattle.cell_grid.specs.Pyramid.{IsVoxelOf}
use Rattle.cell_grid.proofs.OneToOne.{one_to_one}
use Rattle.demo_script.specs.Script.{edit, edits}
use Rattle.demo_volume.specs.Levels.{levels}
use Rattle.team_run.specs.Range.{ranged}
use Rattle.view_script.specs.declared.command.Command.{Command}
use Rattle.view_script.specs.Script.{NumberedCommand, commands_of_actor}
use Rattle.demo_frames.specs.Edited.{edited_to, is_edited}
use Rattle.demo_frames.proofs.Commands.{SetsBy}

-- the numbered commands of an actor, and its commands
module _ (Q : Command → Type 0) (phase actor : ℕ) (top : Option ℕ) where
  numbered_from : (n : ℕ) (commands : List Command) → Each (λ c. Q (ranged top c)) commands
      → Each (λ (c : NumberedCommand). Q c.command) (map (λ numbered. record { phase = phase; actor = actor; call = numbered.0; command = numbered.1 }) (enumerate_from n (map (ranged top) commands)))
  numbered_from n [] each = tt
  numbered_from n (c ∷ commands) each = (each.0, numbered_from (n + 1) commands each.1)

  pub numbered : (commands : List Command) → Each (λ c. Q (ranged top c)) commands → Each (λ (c : NumberedCommand). Q c.command) (commands_of_actor phase actor (map (ranged top) commands))
  numbered commands each = numbered_from 0 commands each

  unnumbered_from : (n : ℕ) (commands : List Command) → Each (λ (c : NumberedCommand). Q c.command) (map (λ numbered. record { phase = phase; actor = actor; call = numbered.0; command = numbered.1 }) (enumerate_from n (map (ranged top) commands)))
      → Each (λ c. Q (ranged top c)) commands
  unnumbered_from n [] each = tt
  unnumbered_from n (c ∷ commands) each = (each.0, unnumbered_from (n + 1) commands each.1)

  pub unnumbered : (commands : List Command) → Each (λ (c : NumberedCommand). Q c.command) (commands_of_actor phase actor (map (ranged top) commands)) → Each (λ c. Q (ranged top c)) commands
  unnumbered commands each = unnumbered_from 0 commands each

-- a fact of each edit of an actor, and of all
module _ (Q : Command → Type 0) (actor : ℕ) where
  each_from : (a n bound : ℕ) → a + n ≡ bound → ((call : ℕ) → call < bound → Q (edit actor call)) → Each Q (map (edit actor) (range_with_len a n))
  each_from a zero bound e all = tt
  each_from a (suc n) bound e all = (all a (omega (arith, e)), each_from (a + 1) n bound (omega (arith, e)) all)

  pub each_edit : (count : ℕ) → ((call : ℕ) → call < count → Q (edit actor call)) → Each Q (edits actor count)
  unfolding edits
  each_edit count all = each_from 0 count count (omega arith) all

  one_from : (a n i j : ℕ) → a + i ≡ j → i < n → Each Q (map (edit actor) (range_with_len a n)) → Q (edit actor j)
  one_from a zero i j e lt each = absurd (omega (arith, lt))
  one_from a (suc n) zero j e lt each = subst (λ call. Q (edit actor call)) (let same : a ≡ j = omega (arith, e) in same) each.0
  one_from a (suc n) (suc i) j e lt each = one_from (a + 1) n i j (omega (arith, e)) (omega (arith, lt)) each.1

  pub one_edit : (count call : ℕ) → call < count → Each Q (edits actor count) → Q (edit actor call)
  unfolding edits
  one_edit count call lt each = one_from 0 count call call (omega arith) lt each

-- a number that an edit sets at a place
pub record IsEdit (cell at number : ℕ) : Type 0 where
  pub x : ℕ
  pub y : ℕ
  pub z : ℕ
  pub voxel : IsVoxelOf levels 0 (x ∷ y ∷ z ∷ []) cell at
  pub edited : is_edited x y z ≡ true
  pub number_is : number ≡ edited_to x y

edit_is : (actor call : ℕ) → is_edited (2 * call) (128 * actor + call % 128) (7 * call % 64) ≡ true
edit_is actor call =
    let even : 2 * call % 2 ≡ 0 = omega arith in
    let half : 2 * call / 2 ≡ call = omega arith in
    let low : (128 * actor + call % 128) % 128 ≡ 2 * call / 2 % 128 = omega (arith, half) in
    let deep : 7 * call % 64 ≡ 7 * (2 * call / 2) % 64 = ap (λ n. 7 * n % 64) (sym half) in
    and_from _ _ (and_from _ _ (eq-eqb _ _ even) (eq-eqb _ _ low)) (eq-eqb _ _ deep)

edit_to : (actor call : ℕ) → call < 256 → 1000 * actor + call ≡ edited_to (2 * call) (128 * actor + call % 128)
edit_to actor call lt = omega (arith, lt)

pub edit_sets : (actor call : ℕ) → call < 256 → SetsBy levels IsEdit (edit actor call)
edit_sets actor call lt = λ cell at voxel. record { x = 2 * call; y = 128 * actor + call % 128; z = 7 * call % 64; voxel = voxel; edited = edit_is actor call; number_is = edit_to actor call lt }

-- the edit of a voxel
pub record HasEdit (x y z : ℕ) : Type 0 where
  pub actor : ℕ
  pub call : ℕ
  pub actor_below : actor < 4
  pub call_below : call < 256
  pub x_is : 2 * call ≡ x
  pub y_is : 128 * actor + call % 128 ≡ y
  pub z_is : 7 * call % 64 ≡ z

pub has_edit : (x y z : ℕ) → x < 512 → y < 512 → is_edited x y z ≡ true → HasEdit x y z
has_edit x y z wide high is =
    let parts = and_parts ((x % 2 == 0) && (y % 128 == x / 2 % 128)) (z == 7 * (x / 2) % 64) is in
    let both = and_parts (x % 2 == 0) (y % 128 == x / 2 % 128) parts.0 in
    let even : x % 2 ≡ 0 = eqb-true (x % 2) 0 both.0 in
    let row : y % 128 ≡ x / 2 % 128 = eqb-true (y % 128) (x / 2 % 128) both.1 in
    record {
      actor = y / 128;
      call = x / 2;
      actor_below = omega (arith, high);
      call_below = omega (arith, wide);
      x_is = omega (arith, even);
      y_is = omega (arith, row);
      z_is = sym (eqb-true z (7 * (x / 2) % 64) parts.1);
    }

-- what is set at the place of a voxel: what its edit sets it to, where it has one, and else nothing
pub one_number : (x y z cell at number : ℕ) → IsVoxelOf levels 0 (x ∷ y ∷ z ∷ []) cell at → IsEdit cell at number → (is_edited x y z ≡ true) × (number ≡ edited_to x y)
one_number x y z cell at number voxel is =
    let same = ((one_to_one levels).one_voxel 0 0 (is.x ∷ is.y ∷ is.z ∷ []) (x ∷ y ∷ z ∷ []) cell at is.voxel voxel).1 in
    let on_x : is.x ≡ x = ap (λ l. slice_index l 0) same in
    let on_y : is.y ≡ y = ap (λ l. slice_index l 1) same in
    let on_z : is.z ≡ z = ap (λ l. slice_index l 2) same in (
      ap (λ n. is_edited n y z) (sym on_x) ∙ (ap (λ n. is_edited is.x n z) (sym on_y) ∙ (ap (λ n. is_edited is.x is.y n) (sym on_z) ∙ is.edited)),
      is.number_is ∙ (ap (λ n. edited_to n is.y) on_x ∙ ap (λ n. edited_to x n) on_y),
    )
