-- A run leaves one shot for each view of its script, in order and under its name.
use Rattle.std.proofs.Common.{◌≡◌, ◌∙◌, ℕ, ◌+◌, ◌≤◌, cond, List, [], ◌∷◌, ◌++◌, Option, length, map, refl, sym, ap}
use Rattle.std.specs.List.{count_by, enumerate_from, flat_map, sum_by}
use Rattle.std.proofs.lemmas.Grind.{flat_map-append}
use Rattle.std.proofs.lemmas.List.{length-map, map-append}
use Rattle.std.proofs.lemmas.List.Concat.{flat_map-cons, length-flat_map}
use Rattle.std.proofs.lemmas.List.Sums.{count_by-le-length, sum_by-cons, sum_by-le-sum_by}
use Rattle.cell_file.specs.Keys.{KeyNames}
use Rattle.cell_grid.specs.declared.level.Level.{Level}
use Rattle.cell_store.specs.Store.{Contents}
use Rattle.run_report.specs.declared.reply.Answer.{Answer}
use Rattle.run_report.specs.declared.reply.Reply.{Reply}
use Rattle.run_report.specs.declared.report.Report.{Report}
use Rattle.run_report.specs.declared.shot.Shot.{Shot}
use Rattle.team_run.specs.Desk.{Desk}
use Rattle.team_run.specs.Range.{commands_of_phases, commands_over, ranged, top_for}
use Rattle.team_run.specs.Run.{IsRunOf}
use Rattle.team_run.specs.Serve.{IsServed, ServesTasks}
use Rattle.team_run.specs.Trace.{Trace}
use Rattle.view_script.specs.declared.command.Command.{Command}
use Rattle.view_script.specs.declared.command.Command.TheVariants.{Get, Set, View, Fetch}
use Rattle.view_script.specs.declared.script.Script.{Script}
use Rattle.view_script.specs.Script.{NumberedCommand, command_count, commands_of_actor, commands_of_phase, name_of, view_names}
use Rattle.viewrun_calls.specs.Pictures.{is_view_command, view_count}

abbrev pub shot_name : Shot → List ℕ
shot_name s = s.name

abbrev pub numbered_name : NumberedCommand → List (List ℕ)
numbered_name c = name_of c.command

one_name : (old new : Desk) (viewer : ℕ) (command : Command) (told : Answer) (t : Trace) → IsServed old viewer command told t new → map shot_name t.shots ≡ name_of command
one_name old new viewer (Get level pos) told t served = ap (map shot_name) served.1.shots
one_name old new viewer (Set level pos x) told t served = ap (map shot_name) served.1.shots
one_name old new viewer (View name view) told t served = ap (map shot_name) served.1 ∙ ap (λ n. n ∷ []) served.3
one_name old new viewer (Fetch count) told t served = ap (map shot_name) served.0

-- commands leave a shot for each view, under its name
shots_named : (old new : Desk) (commands : List NumberedCommand) (replies : List Reply) (trace : Trace) → ServesTasks old commands replies trace new → map shot_name trace.shots ≡ flat_map numbered_name commands
shots_named old new [] [] trace served = ap (λ (t : Trace). map shot_name t.shots) served.0
shots_named old new (c ∷ commands) (r ∷ replies) trace (mid, first, rest, whole, one, others) =
    ap (λ (t : Trace). map shot_name t.shots) whole
    ∙ map-append shot_name first.shots rest.shots
    ∙ ap (λ n. n ++ map shot_name rest.shots) (one_name old mid c.actor c.command r.answer first one.served)
    ∙ ap (λ n. name_of c.command ++ n) (shots_named mid new commands replies rest others)
    ∙ sym (flat_map-cons numbered_name c commands)
shots_named old new [] (r ∷ replies) trace served = absurd served
shots_named old new (c ∷ commands) [] trace served = absurd served

-- the views of an actor's commands
abbrev numbered_from : ℕ → ℕ → ℕ → List Command → List NumberedCommand
numbered_from phase actor k commands = map (λ n. record { phase = phase; actor = actor; call = n.0; command = n.1 }) (enumerate_from k commands)

actor_names : (phase actor k : ℕ) (commands : List Command) → flat_map numbered_name (numbered_from phase actor k commands) ≡ flat_map name_of commands
actor_names phase actor k [] = refl
actor_names phase actor k (c ∷ commands) =
    flat_map-cons numbered_name (record { phase = phase; actor = actor; call = k; command = c }) (numbered_from phase actor (k + 1) commands)
    ∙ ap (λ n. name_of c ++ n) (actor_names phase actor (k + 1) commands)
    ∙ sym (flat_map-cons name_of c commands)

-- the views of parts that follow one another
parts_names : {X : Type 0} (part : ℕ → X → List NumberedCommand) (names : X → List (List ℕ)) → ((k : ℕ) (x : X) → flat_map numbered_name (part k x) ≡ names x)
    → (k : ℕ) (xs : List X) → flat_map numbered_name (flat_map (λ (n : ℕ × X). part n.0 n.1) (enumerate_from k xs)) ≡ flat_map names xs
parts_names part names each k [] = refl
parts_names {X} part names each k (x ∷ xs) =
    let rest : List NumberedCommand = flat_map (λ (n : ℕ × X). part n.0 n.1) (enumerate_from (k + 1) xs) in
    ap (flat_map numbered_name) (flat_map-cons (λ (n : ℕ × X). part n.0 n.1) (k, x) (enumerate_from (k + 1) xs))
    ∙ flat_map-append numbered_name (part k x) rest
    ∙ ap (λ n. n ++ flat_map numbered_name rest) (each k x)
    ∙ ap (λ n. names x ++ n) (parts_names part names each (k + 1) xs)
    ∙ sym (flat_map-cons names x xs)

phases_names : (phases : List (List (List Command))) → flat_map numbered_name (commands_of_phases phases) ≡ view_names phases
unfolding view_names
phases_names phases = parts_names commands_of_phase (flat_map (flat_map name_of))
    (λ phase actors. parts_names (commands_of_actor phase) (flat_map name_of) (λ actor commands. actor_names phase actor 0 commands) 0 actors) 0 phases

-- the parts of changed elements
parts_changed : {X Y : Type 0} (f : X → List Y) (g : X → X) → ((x : X) → f (g x) ≡ f x) → (xs : List X) → flat_map f (map g xs) ≡ flat_map f xs
parts_changed f g same [] = refl
parts_changed f g same (x ∷ xs) =
    flat_map-cons f (g x) (map g xs) ∙ ap (λ n. n ++ flat_map f (map g xs)) (same x) ∙ ap (λ n. f x ++ n) (parts_changed f g same xs) ∙ sym (flat_map-cons f x xs)

-- a range changes no view's name
same_name : (top : Option ℕ) (command : Command) → name_of (ranged top command) ≡ name_of command
same_name top (Get level pos) = refl
same_name top (Set level pos x) = refl
same_name top (View name view) = refl
same_name top (Fetch count) = refl

ranged_names : (top : Option ℕ) (phases : List (List (List Command))) → view_names (map (map (map (ranged top))) phases) ≡ view_names phases
unfolding view_names
ranged_names top phases = parts_changed (flat_map (flat_map name_of)) (map (map (ranged top)))
    (λ actors. parts_changed (flat_map name_of) (map (ranged top)) (λ commands. parts_changed name_of (ranged top) (same_name top) commands) actors) phases

-- the names of the views among a script's commands over a volume
pub commands_named : (levels : List Level) (script : Script) → flat_map numbered_name (commands_over levels script) ≡ view_names script.phases
commands_named levels script = phases_names (map (map (map (ranged (top_for script.range levels)))) script.phases) ∙ ranged_names (top_for script.range levels) script.phases

pub names_of_views : (levels : List Level) (keys : KeyNames) (slots : ℕ) (script : Script) (before after : List Contents) (report : Report)
    → IsRunOf levels keys slots (commands_over levels script) before after report → map shot_name report.shots ≡ view_names script.phases
names_of_views levels keys slots script before after report run =
    ap (map shot_name) run.completes.shots ∙ shots_named _ _ _ _ _ run.completes.served ∙ commands_named levels script

-- how many they are
sum_same : {X : Type 0} (f g : X → ℕ) → ((x : X) → f x ≡ g x) → (xs : List X) → sum_by f xs ≡ sum_by g xs
sum_same f g same [] = refl
sum_same f g same (x ∷ xs) = sum_by-cons f x xs ∙ ap (λ n. n + sum_by f xs) (same x) ∙ ap (λ n. g x + n) (sum_same f g same xs) ∙ sym (sum_by-cons g x xs)

one_view : (command : Command) → length (name_of command) ≡ cond (is_view_command command) 1 0
one_view (Get level pos) = refl
one_view (Set level pos x) = refl
one_view (View name view) = refl
one_view (Fetch count) = refl

pub views_counted : (phases : List (List (List Command))) → length (view_names phases) ≡ view_count phases
unfolding view_names
views_counted phases = length-flat_map (flat_map (flat_map name_of)) phases ∙ sum_same _ (sum_by (count_by is_view_command))
    (λ actors. length-flat_map (flat_map name_of) actors ∙ sum_same _ (count_by is_view_command)
    (λ commands. length-flat_map name_of commands ∙ sum_same _ (λ c. cond (is_view_command c) 1 0) one_view commands) actors) phases

pub shots_are_views : (levels : List Level) (keys : KeyNames) (slots : ℕ) (script : Script) (before after : List Contents) (report : Report)
    → IsRunOf levels keys slots (commands_over levels script) before after report → length report.shots ≡ view_count script.phases
shots_are_views levels keys slots script before after report run =
    sym (length-map report.shots shot_name) ∙ ap length (names_of_views levels keys slots script before after report run) ∙ views_counted script.phases

-- there are no more views than commands
pub few_views : (phases : List (List (List Command))) → view_count phases ≤ command_count phases
few_views phases = sum_by-le-sum_by (sum_by (count_by is_view_command)) (sum_by length) phases
    (λ actors. sum_by-le-sum_by (count_by is_view_command) length actors (λ commands. count_by-le-length is_view_command commands))
