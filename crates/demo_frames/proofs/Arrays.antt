-- The arrays once all edits were made.
use Rattle.std.proofs.Common.{◌≡◌, ◌∙◌, ◌⊎◌, inl, inr, ℕ, ◌<◌, true, false, true≢false, List, [], ◌∷◌, sym, subst}
use Rattle.std.specs.List.{list_any}
use Rattle.std.proofs.lemmas.Bool.{cases_Bool, cond-true, cond-false}
use Rattle.arr_history.specs.declared.event.Event.{Event}
use Rattle.arr_history.specs.History.{after}
use Rattle.arr_history.specs.Laws.{writes}
use Rattle.arr_history.specs.State.{State}
use Rattle.arr_history.proofs.Sound.{unwritten}
use Rattle.cell_grid.specs.Pyramid.{IsVoxelOf}
use Rattle.demo_arrays.specs.Drawn.{AreDrawn, drawn_at}
use Rattle.demo_script.specs.Script.{edit}
use Rattle.demo_volume.specs.Levels.{levels}
use Rattle.demo_frames.specs.Edited.{edited, edited_to, is_edited}
use Rattle.demo_frames.proofs.Commands.{IsWritten}
use Rattle.demo_frames.proofs.Editing.{IsEdit, has_edit, one_number}
use Rattle.demo_frames.proofs.Slices.{HaveNumbers}
use Rattle.demo_frames.proofs.Written.{AreWritesBy, none_written, all_written}

module _ (number : ℕ) (start : State) (part : List Event) (drawn : AreDrawn number start.arrays) (fits : AreWritesBy IsEdit part)
    (written : (actor call : ℕ) → actor < 4 → call < 256 → IsWritten levels part (edit actor call)) where
  writes_here : (x y z cell at : ℕ) → x < 512 → y < 512 → IsVoxelOf levels 0 (x ∷ y ∷ z ∷ []) cell at → is_edited x y z ≡ true → list_any (writes cell at) part ≡ true
  writes_here x y z cell at wide high voxel is =
      let h = has_edit x y z wide high is in
      written h.actor h.call h.actor_below h.call_below cell at (subst (λ (p : List ℕ). IsVoxelOf levels 0 p cell at) (λ i. sym h.x_is i ∷ sym h.y_is i ∷ sym h.z_is i ∷ []) voxel)

  pub edited_arrays : HaveNumbers (after start part).arrays (edited number)
  edited_arrays x y z cell at wide high voxel = choose (cases_Bool (is_edited x y z))
    where
      choose : (is_edited x y z ≡ true) ⊎ (is_edited x y z ≡ false) → (after start part).arrays cell at ≡ edited number x y z
      choose (inl is) =
          all_written IsEdit cell at (edited_to x y) (λ n e. (one_number x y z cell at n voxel e).1) part fits (writes_here x y z cell at wide high voxel is) start
          ∙ sym (cond-true (is_edited x y z) (edited_to x y) (drawn_at number x y z) is)
      choose (inr not) =
          unwritten start part cell at (none_written IsEdit cell at (λ n e. true≢false (sym (one_number x y z cell at n voxel e).0 ∙ not)) part fits)
          ∙ (drawn x y z cell at voxel ∙ sym (cond-false (is_edited x y z) (edited_to x y) (drawn_at number x y z) not))
