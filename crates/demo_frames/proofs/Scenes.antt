-- The two phases of the demonstration's script.
use Rattle.std.proofs.Common.{◌≡◌, ℕ, zero, suc, ◌<◌, List, [], ◌∷◌, None, length, map, codes, sym, ap, subst, arith, refl}
use Rattle.std.specs.List.{AllByRecursion as Each}
use Rattle.arr_history.specs.declared.event.Event.{Event}
use Rattle.thread_plan.specs.Scenes.{scenes_over}
use Rattle.team_run.specs.Range.{ranged}
use Rattle.view_script.specs.declared.command.Command.{Command}
use Rattle.view_script.specs.declared.command.Command.TheVariants.{Set, View}
use Rattle.view_script.specs.Script.{NumberedCommand, commands_of_actor}
use Rattle.demo_script.specs.Script.{demo_script, edit, edits}
use Rattle.demo_volume.specs.Levels.{levels}
use Rattle.demo_frames.proofs.Commands.{SetsBy, IsWritten}
use Rattle.demo_frames.proofs.Editing.{IsEdit, edit_sets, each_edit, one_edit, numbered, unnumbered}
use Rattle.demo_frames.proofs.Slices.{view_at}

-- what an actor of the first phase does, and one of the second
abbrev pub edits_of : ℕ → List NumberedCommand
edits_of actor = commands_of_actor 0 actor (map (ranged None) (edits actor 256))

abbrev pub view_of : ℕ → List ℕ → ℕ → List NumberedCommand
view_of actor name z = record { phase = 1; actor = actor; call = 0; command = View name (view_at z) } ∷ []

abbrev pub edit_scene : List (List NumberedCommand)
edit_scene = edits_of 0 ∷ edits_of 1 ∷ edits_of 2 ∷ edits_of 3 ∷ []

abbrev pub view_scene : List (List NumberedCommand)
view_scene = view_of 0 (codes "demo0") 8 ∷ view_of 1 (codes "demo1") 24 ∷ view_of 2 (codes "demo2") 40 ∷ view_of 3 (codes "demo3") 56 ∷ []

pub scenes_are : scenes_over levels demo_script ≡ edit_scene ∷ view_scene ∷ []
scenes_are = refl

-- a fact of each command of the first phase
all_edits : (Q : Command → Type 0) → ((actor call : ℕ) → call < 256 → Q (edit actor call)) → (actor : ℕ) → Each (λ (c : NumberedCommand). Q c.command) (edits_of actor)
all_edits Q all actor = numbered Q 0 actor None (edits actor 256) (each_edit (λ c. Q (ranged None c)) actor 256 (λ call lt. all actor call lt))

one_of : (Q : Command → Type 0) (actor call : ℕ) → call < 256 → Each (λ (c : NumberedCommand). Q c.command) (edits_of actor) → Q (edit actor call)
one_of Q actor call lt each = one_edit (λ c. Q (ranged None c)) actor 256 call lt (unnumbered Q 0 actor None (edits actor 256) each)

pub edits_set : Each (λ (list : List NumberedCommand). Each (λ c. SetsBy levels IsEdit c.command) list) edit_scene
edits_set =
    let all = all_edits (SetsBy levels IsEdit) edit_sets in
    (all 0, (all 1, (all 2, (all 3, tt))))

pub views_set_nothing : Each (λ (list : List NumberedCommand). Each (λ c. SetsBy levels (λ _ _ _. ⊥) c.command) list) view_scene
views_set_nothing = ((tt, tt), ((tt, tt), ((tt, tt), ((tt, tt), tt))))

-- a command is a set
abbrev pub IsSetting : Command → Type 0
IsSetting (Set level pos x) = Unit {0}
IsSetting other = ⊥

pub edits_are_sets : Each (λ (list : List NumberedCommand). Each (λ c. IsSetting c.command) list) edit_scene
edits_are_sets =
    let all = all_edits IsSetting (λ actor call lt. tt) in
    (all 0, (all 1, (all 2, (all 3, tt))))

pub edits_written : (part : List Event) → Each (λ (list : List NumberedCommand). Each (λ c. IsWritten levels part c.command) list) edit_scene → (actor call : ℕ) → actor < 4 → call < 256 → IsWritten levels part (edit actor call)
edits_written part each zero call a lt = one_of (IsWritten levels part) 0 call lt each.0
edits_written part each (suc zero) call a lt = one_of (IsWritten levels part) 1 call lt each.1.0
edits_written part each (suc (suc zero)) call a lt = one_of (IsWritten levels part) 2 call lt each.1.1.0
edits_written part each (suc (suc (suc zero))) call a lt = one_of (IsWritten levels part) 3 call lt each.1.1.1.0
edits_written part each (suc (suc (suc (suc actor)))) call a lt = absurd (omega (arith, a))

-- neither phase is without commands
pub edits_are_some : Each (λ (c : List NumberedCommand). c ≡ []) edit_scene → ⊥
edits_are_some none = one_of (λ _. ⊥) 0 0 (omega arith) (subst (λ (l : List NumberedCommand). Each (λ _. ⊥) l) (sym none.0) tt)

pub views_are_some : Each (λ (c : List NumberedCommand). c ≡ []) view_scene → ⊥
views_are_some none = let e : 1 ≡ 0 = ap (λ (l : List NumberedCommand). length l) none.0 in absurd (omega (arith, e))
