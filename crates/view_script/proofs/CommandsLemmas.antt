-- How many numbered commands a script has.
use Rattle.std.proofs.Common.{◌≡◌, ℕ, ◌+◌, List, [], ◌∷◌, length, length-append, refl, sym}
use Rattle.std.specs.Prelude.{sum_by}
use Rattle.std.specs.List.{enumerate_from, flat_map}
use Rattle.std.proofs.lemmas.List.{length-map}
use Rattle.std.proofs.lemmas.List.Sums.{sum_by-cons}
use Rattle.std.proofs.lemmas.List.Concat.{flat_map-cons}
use Rattle.std.proofs.lemmas.List.FromFn.{length-enumerate_from}
use Rattle.view_script.specs.declared.command.Command.{Command}
use Rattle.view_script.specs.declared.script.Script.{Script}
use Rattle.view_script.specs.Script.{command_count, commands_of_actor, commands_of_phase, commands_of}

-- parts that are made of numbered elements have in all the sum of what each has
length-parts : {X Y : Type 0} (part : ℕ × X → List Y) (count : X → ℕ) (n : ℕ) (xs : List X) → ((i : ℕ) (x : X) → length (part (i, x)) ≡ count x)
    → length (flat_map part (enumerate_from n xs)) ≡ sum_by count xs
length-parts part count n [] each = refl
length-parts part count n (x ∷ xs) each =
    rw (flat_map-cons part (n, x) (enumerate_from (n + 1) xs), length-append, each n x, length-parts part count (n + 1) xs each)
    (sym (sum_by-cons count x xs))

length-commands_of_actor : (phase actor : ℕ) (commands : List Command) → length (commands_of_actor phase actor commands) ≡ length commands
length-commands_of_actor phase actor commands = rw (length-map, length-enumerate_from) refl

length-commands_of_phase : (phase : ℕ) (actors : List (List Command)) → length (commands_of_phase phase actors) ≡ sum_by length actors
length-commands_of_phase phase actors = length-parts (λ numbered. commands_of_actor phase numbered.0 numbered.1) length 0 actors (length-commands_of_actor phase)

-- as many commands are numbered as the actors of all phases have
pub length-commands_of : (script : Script) → length (commands_of script) ≡ command_count script.phases
length-commands_of script =
    length-parts (λ numbered. commands_of_phase numbered.0 numbered.1) (sum_by length) 0 script.phases length-commands_of_phase
