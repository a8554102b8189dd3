-- The pixels and the names of the views of phases, as lines are added.
use Rattle.std.proofs.Common.{◌≡◌, ◌∙◌, ◌+◌, ◌-◌, ◌<◌, ◌||◌, List, [], ◌∷◌, ◌++◌, Option, None, Some, length, slice_get, refl, sym, ap, subst, arith}
use Rattle.std.specs.Prelude.{sum_by}
use Rattle.std.specs.List.{flat_map}
use Rattle.std.specs.Str.{bytes_eq}
use Rattle.std.proofs.lemmas.Grind.{flat_map-append}
use Rattle.std.proofs.lemmas.List.{append-nil}
use Rattle.std.proofs.lemmas.List.Concat.{flat_map-cons}
use Rattle.std.proofs.lemmas.List.Folds.{list_any-append}
use Rattle.std.proofs.lemmas.List.Sums.{sum_by_push}
use Rattle.view_script.specs.declared.command.Command.{Command}
use Rattle.view_script.specs.declared.line.Line.TheVariants as line
use Rattle.view_script.specs.declared.script.Script.{Script}
use Rattle.view_script.specs.Meaning.{actors_in_last, with_read_line, at_last, is_named}
use Rattle.view_script.specs.Script.{pixels_of, pixel_count, name_of, view_names}
use Rattle.view_script.specs.Views.{Kept, KeepsViews, KeepsOneMore, phases_of}
use Rattle.view_script.proofs.DraftLemmas.{change_none}
use Rattle.view_script.proofs.LastLemmas.{at_last_same, sum_by-grown, sum_by-kept, flat_map-grown, flat_map-kept}

-- an actor more, without commands
abbrev pub one_more : List (List Command) → List (List Command)
one_more actors = actors ++ [] ∷ []

-- a command more of the last actor
abbrev pub and_then : Command → List (List Command) → List (List Command)
and_then command = at_last (λ commands. commands ++ command ∷ [])

pub pixels-of_none : pixel_count [] ≡ 0
unfolding pixel_count
pixels-of_none = refl

pub names-of_none : view_names [] ≡ []
unfolding view_names
names-of_none = refl

pub pixels-phase : (phases : List (List (List Command))) → pixel_count (phases ++ [] ∷ []) ≡ pixel_count phases
unfolding pixel_count
pixels-phase phases = rw (sum_by_push (sum_by (sum_by pixels_of)) phases []) (omega arith)

pub names-phase : (phases : List (List (List Command))) → view_names (phases ++ [] ∷ []) ≡ view_names phases
unfolding view_names
names-phase phases = flat_map-append (flat_map (flat_map name_of)) phases ([] ∷ []) ∙ append-nil (flat_map (flat_map (flat_map name_of)) phases)

pub pixels-actor : (phases : List (List (List Command))) → pixel_count (at_last one_more phases) ≡ pixel_count phases
unfolding pixel_count
pixels-actor phases = sum_by-kept (sum_by (sum_by pixels_of)) one_more phases (λ actors. rw (sum_by_push (sum_by pixels_of) actors []) (omega arith))

pub names-actor : (phases : List (List (List Command))) → view_names (at_last one_more phases) ≡ view_names phases
unfolding view_names
names-actor phases = flat_map-kept (flat_map (flat_map name_of)) one_more phases
    (λ actors. flat_map-append (flat_map name_of) actors ([] ∷ []) ∙ append-nil (flat_map (flat_map name_of) actors))

-- a phase whose last actor takes a command
some_phase : (phases : List (List (List Command))) → 0 < actors_in_last phases → 0 < length phases
some_phase [] some = absurd (omega arith)
some_phase (actors ∷ phases) some = omega arith

some_actor : (phases : List (List (List Command))) (actors : List (List Command)) → 0 < actors_in_last phases → slice_get phases (length phases - 1) ≡ Some actors → 0 < length actors
some_actor phases actors some last = rw last at some

pub pixels-command : (command : Command) (phases : List (List (List Command))) → 0 < actors_in_last phases → pixel_count (at_last (and_then command) phases) ≡ pixel_count phases + pixels_of command
unfolding pixel_count
pixels-command command phases some =
    sum_by-grown (sum_by (sum_by pixels_of)) (and_then command) (pixels_of command) phases (some_phase phases some) (λ actors last.
    sum_by-grown (sum_by pixels_of) (λ commands. commands ++ command ∷ []) (pixels_of command) actors (some_actor phases actors some last) (λ commands _.
    sum_by_push pixels_of commands command))

one_name : (command : Command) (commands : List Command) → flat_map name_of (commands ++ command ∷ []) ≡ flat_map name_of commands ++ name_of command
one_name command commands = flat_map-append name_of commands (command ∷ [])
    ∙ ap (λ names. flat_map name_of commands ++ names) (flat_map-cons name_of command [] ∙ append-nil (name_of command))

pub names-command : (command : Command) (phases : List (List (List Command))) → 0 < actors_in_last phases → view_names (at_last (and_then command) phases) ≡ view_names phases ++ name_of command
unfolding view_names
names-command command phases some =
    flat_map-grown (flat_map (flat_map name_of)) (and_then command) (name_of command) phases (some_phase phases some) (λ actors last.
    flat_map-grown (flat_map name_of) (λ commands. commands ++ command ∷ []) (name_of command) actors (some_actor phases actors some last) (λ commands _.
    one_name command commands))

-- where the last phase has no actor nothing is changed
pub no_actor : (command : Command) (phases : List (List (List Command))) → actors_in_last phases ≡ 0 → at_last (and_then command) phases ≡ phases
no_actor command phases none = at_last_same (and_then command) phases (λ actors last. sym (change_none (λ commands. commands ++ command ∷ []) actors (rw last at none)))

pub kept_none : (kept : Kept) → kept.pixels ≡ 0 → kept.names ≡ [] → KeepsViews kept []
kept_none kept pixels names = record {
  pixels = pixels ∙ sym pixels-of_none;
  names = λ name. ap (λ names. is_named names name) (names ∙ sym names-of_none);
}

pub kept_phase : (kept : Kept) (phases : List (List (List Command))) → KeepsViews kept phases → KeepsViews kept (phases ++ [] ∷ [])
kept_phase kept phases is = record {
  pixels = is.pixels ∙ sym (pixels-phase phases);
  names = λ name. is.names name ∙ ap (λ names. is_named names name) (sym (names-phase phases));
}

pub kept_actor : (kept : Kept) (phases : List (List (List Command))) → KeepsViews kept phases → KeepsViews kept (at_last (λ actors. actors ++ [] ∷ []) phases)
kept_actor kept phases is = record {
  pixels = is.pixels ∙ sym (pixels-actor phases);
  names = λ name. is.names name ∙ ap (λ names. is_named names name) (sym (names-actor phases));
}

pub kept_nowhere : (kept : Kept) (command : Command) (phases : List (List (List Command))) → KeepsViews kept phases → actors_in_last phases ≡ 0
    → KeepsViews kept (at_last (at_last (λ commands. commands ++ command ∷ [])) phases)
kept_nowhere kept command phases is none = subst (λ phases. KeepsViews kept phases) (sym (no_actor command phases none)) is

pub kept_command : (old new : Kept) (command : Command) (phases : List (List (List Command))) → KeepsViews old phases → KeepsOneMore old command new → 0 < actors_in_last phases
    → KeepsViews new (at_last (at_last (λ commands. commands ++ command ∷ [])) phases)
kept_command old new command phases is more some = record {
  pixels = more.pixels ∙ ap (λ n. n + pixels_of command) is.pixels ∙ sym (pixels-command command phases some);
  names = λ name. more.names name ∙ ap (λ named. named || is_named (name_of command) name) (is.names name)
      ∙ sym (list_any-append (bytes_eq name) (view_names phases) (name_of command)) ∙ ap (λ names. is_named names name) (sym (names-command command phases some));
}

-- what is kept stays so with a phase and an actor more, where there is a script
pub kept_in_phase : (kept : Kept) (so_far : Option Script) → KeepsViews kept (phases_of so_far) → KeepsViews kept (phases_of (with_read_line so_far line.Phase))
kept_in_phase kept None is = is
kept_in_phase kept (Some script) is = kept_phase kept script.phases is

pub kept_in_actor : (kept : Kept) (so_far : Option Script) → KeepsViews kept (phases_of so_far) → KeepsViews kept (phases_of (with_read_line so_far line.Actor))
kept_in_actor kept None is = is
kept_in_actor kept (Some script) is = kept_actor kept script.phases is
