-- A script that was read keeps the limits of scripts.
use Rattle.std.proofs.Common.{◌≡◌, ℕ, ◌+◌, ◌-◌, ◌<◌, ◌≤◌, ◌^◌, List, [], ◌∷◌, ◌++◌, Bool, true, false, Option, Some, None, Result, Ok, Err, length, length-append, slice_get, refl, inl, inr, arith, add-zero}
use Rattle.std.specs.Prelude.{IfOk, IfSome, IsTrue, All, sum_by, slice_index, if◌then◌else◌}
use Rattle.std.specs.List.{IsDistinct}
use Rattle.std.specs.Option.{ok_or}
use Rattle.std.specs.Str.{bytes_eq, is_utf8}
use Rattle.std.proofs.lemmas.List.Elements.{All-nil, All-push}
use Rattle.std.proofs.lemmas.List.Sums.{sum_by_push}
use Rattle.std.proofs.lemmas.Bool.{cases_lt, ltb-true}
use Rattle.std.proofs.lemmas.Result.{IfOk-at_ok}
use Rattle.plain_data.specs.RootName.{is_root_name}
use Rattle.view_script.specs.declared.command.Command.{Command}
use Rattle.view_script.specs.declared.line.Keyword.{Keyword}
use Rattle.view_script.specs.declared.line.Line.{Line}
use Rattle.view_script.specs.declared.line.Line.TheVariants as line
use Rattle.view_script.specs.declared.script.Head.{Head}
use Rattle.view_script.specs.declared.script.Script.{Script}
use Rattle.view_script.specs.declared.script_error.ScriptErr.{ScriptErr}
use Rattle.view_script.specs.declared.script_error.ScriptErr.TheVariants.{At, Memory}
use Rattle.view_script.specs.declared.script_error.ScriptKind.{ScriptKind}
use Rattle.view_script.specs.declared.script_error.ScriptKind.TheVariants.{NotText, UnknownWord, Limit, Order}
use Rattle.view_script.specs.Keyword.{keyword_in}
use Rattle.view_script.specs.Line.{behind}
use Rattle.view_script.specs.Lines.{lines_of}
use Rattle.view_script.specs.Meaning.{said, with_read_line, with_line, opened, at_last, actors_in_last, may_stand, has_room, is_within_limits, has_own_name, is_new, in_range, demand, ◌>>=◌, after_said, after_words, after_line, at_line, is_remark, script_from, Answers}
use Rattle.view_script.specs.Script.{IsScript, IsWithinLimits, root_of, command_count, pixel_count, view_names}
use Rattle.view_script.specs.Words.{words_of}
use Rattle.view_script.proofs.LastLemmas.{length-at_last, All-at_last, sum_by-at_last}
use Rattle.view_script.proofs.LineLemmas.{IsLine, line_gives}
use Rattle.view_script.proofs.LinesLemmas.{lines_fit}
use Rattle.view_script.proofs.TakenLemmas.{distinct_none, with_room, with_own_name, in_range-room, in_range-name, in_range-within}
use Rattle.view_script.proofs.ViewsLemmas.{one_more, and_then, pixels-of_none, names-of_none, pixels-phase, names-phase, pixels-actor, names-actor, pixels-command, names-command, no_actor}

-- the limits of a script that lines so far say, which have at most this many commands
record IsDraft (script : Script) (most : ℕ) : Type 0 where
  root : IsTrue (is_root_name (root_of script.head))
  range : IfSome script.range (λ range. slice_index range 0 < slice_index range 1)
  phases : length script.phases ≤ 1024
  actors : All (λ actors. length actors ≤ 16) script.phases
  commands : All (All (All IsWithinLimits)) script.phases
  count : command_count script.phases ≤ most
  pixels : pixel_count script.phases ≤ 2 ^ 26
  names : IsDistinct bytes_eq (view_names script.phases)

abbrev IsDraftOf : Option Script → ℕ → Type 0
IsDraftOf None most = Unit {0}
IsDraftOf (Some script) most = IsDraft script most

-- a line that is said keeps the limits of its words and of its place
record IsSaid (so_far : Option Script) (said : Line) : Type 0 where
  words : IsLine said
  place : is_within_limits so_far said ≡ true
  name : is_new so_far said ≡ true

-- the rules of a line as a whole
abbrev judged : Option Script → Line × List (List ℕ) → Result Line ScriptKind
judged so_far read = demand (is_within_limits so_far read.0) Limit >>= λ limits. demand (is_new so_far read.0) Order >>= λ name. Ok read.0

said_keeps : (so_far : Option Script) (bytes first : List ℕ) (words : List (List ℕ)) → IfOk (said so_far bytes first words) (IsSaid so_far)
unfolding said
said_keeps so_far bytes first words = text (is_utf8 bytes)
  where
    limits : (says : Line) → IsLine says → (within : Bool) → is_within_limits so_far says ≡ within → (new : Bool) → is_new so_far says ≡ new
        → IfOk (demand within Limit >>= λ limits. demand new Order >>= λ name. Ok says) (IsSaid so_far)
    limits says is true within true new = record { words = is; place = within; name = new }
    limits says is true within false new = tt
    limits says is false within new is_new = tt

    behind_first : (read : Result (Line × List (List ℕ)) ScriptKind) → IfOk read (λ read. IsLine read.0) → IfOk (read >>= judged so_far) (IsSaid so_far)
    behind_first (Ok read) is = limits read.0 is (is_within_limits so_far read.0) refl (is_new so_far read.0) refl
    behind_first (Err kind) is = tt

    place : (keyword : Keyword) (stands : Bool) → IfOk (demand stands Order >>= λ place. behind keyword words >>= judged so_far) (IsSaid so_far)
    place keyword true = behind_first (behind keyword words) ((line_gives keyword).holds words)
    place keyword false = tt

    known : (keyword : Option Keyword)
        → IfOk (ok_or keyword UnknownWord >>= λ keyword. demand (may_stand so_far keyword) Order >>= λ place. behind keyword words >>= judged so_far) (IsSaid so_far)
    known (Some keyword) = place keyword (may_stand so_far keyword)
    known None = tt

    text : (text : Bool)
        → IfOk (demand text NotText >>= λ text. ok_or (keyword_in first) UnknownWord >>= λ keyword. demand (may_stand so_far keyword) Order >>= λ place. behind keyword words
        >>= judged so_far) (IsSaid so_far)
    text true = known (keyword_in first)
    text false = tt

opened_keeps : (head : Head) (most : ℕ) → IsTrue (is_root_name (root_of head)) → IsDraft (opened head) most
opened_keeps head most root = record {
  root = root;
  range = tt;
  phases = omega arith;
  actors = All-nil _;
  commands = All-nil _;
  count = omega arith;
  pixels = rw pixels-of_none (omega arith);
  names = rw names-of_none (distinct_none bytes_eq);
}

phase_keeps : (script : Script) (most : ℕ) → IsDraft script most → length script.phases < 1024 → IsDraft (with_line script line.Phase) (most + 1)
phase_keeps script most is room = record {
  root = is.root;
  range = is.range;
  phases = rw (length-append script.phases ([] ∷ [])) (omega arith);
  actors = All-push (λ actors. length actors ≤ 16) script.phases [] is.actors (omega arith);
  commands = All-push (All (All IsWithinLimits)) script.phases [] is.commands (All-nil _);
  count = rw (sum_by_push (sum_by length) script.phases []) (omega (arith, is.count));
  pixels = rw (pixels-phase script.phases) is.pixels;
  names = rw (names-phase script.phases) is.names;
}

-- what the last phase has room for
room_in_last : (phases : List (List (List Command))) (actors : List (List Command)) → actors_in_last phases < 16
    → slice_get phases (length phases - 1) ≡ Some actors → length (one_more actors) ≤ 16
room_in_last phases actors room last = rw (length-append actors ([] ∷ [])) (room_here (rw last at room))
  where
    room_here : length actors < 16 → length actors + 1 ≤ 16
    room_here room = omega arith

actor_keeps : (script : Script) (most : ℕ) → IsDraft script most → actors_in_last script.phases < 16 → IsDraft (with_line script line.Actor) (most + 1)
actor_keeps script most is room = record {
  root = is.root;
  range = is.range;
  phases = rw (length-at_last one_more script.phases) is.phases;
  actors = All-at_last (λ actors. length actors ≤ 16) one_more script.phases is.actors (λ actors last few. room_in_last script.phases actors room last);
  commands = All-at_last (All (All IsWithinLimits)) one_more script.phases is.commands (λ actors last all. All-push (All IsWithinLimits) actors [] all (All-nil _));
  count = omega (arith, is.count, sum_by-at_last (sum_by length) one_more 0 script.phases no_more);
  pixels = rw (pixels-actor script.phases) is.pixels;
  names = rw (names-actor script.phases) is.names;
}
  where
    no_more : (actors : List (List Command)) → sum_by length (one_more actors) ≤ sum_by length actors + 0
    no_more actors = rw (sum_by_push length actors []) (omega arith)

-- the pixels and the names of a script that takes a command
command_pixels : (phases : List (List (List Command))) (command : Command) → pixel_count phases ≤ 2 ^ 26 → has_room (pixel_count phases) command ≡ true → pixel_count (at_last (and_then command) phases) ≤ 2 ^ 26
command_pixels phases command few room = elim (cases_lt 0 (actors_in_last phases)) [
  | inl some ↦ rw (pixels-command command phases some) (with_room (pixel_count phases) command few room)
  | inr none ↦ rw (no_actor command phases (omega (arith, none))) few
]

command_names : (phases : List (List (List Command))) (command : Command) → IsDistinct bytes_eq (view_names phases) → has_own_name (view_names phases) command ≡ true
    → IsDistinct bytes_eq (view_names (at_last (and_then command) phases))
command_names phases command differ new = elim (cases_lt 0 (actors_in_last phases)) [
  | inl some ↦ rw (names-command command phases some) (with_own_name (view_names phases) command differ new)
  | inr none ↦ rw (no_actor command phases (omega (arith, none))) differ
]

taken_keeps : (script : Script) (most : ℕ) (command : Command) → IsDraft script most → IsWithinLimits command → has_room (pixel_count script.phases) command ≡ true
    → has_own_name (view_names script.phases) command ≡ true → IsDraft (record script { phases = at_last (and_then command) script.phases }) (most + 1)
taken_keeps script most command is within room new = record {
  root = is.root;
  range = is.range;
  phases = rw (length-at_last (and_then command) script.phases) is.phases;
  actors = All-at_last (λ actors. length actors ≤ 16) (and_then command) script.phases is.actors
      (λ actors last few. rw (length-at_last (λ commands. commands ++ command ∷ []) actors) few);
  commands = All-at_last (All (All IsWithinLimits)) (and_then command) script.phases is.commands
      (λ actors last all. All-at_last (All IsWithinLimits) (λ commands. commands ++ command ∷ []) actors all
      (λ commands last all. All-push IsWithinLimits commands command all within));
  count = omega (arith, is.count, sum_by-at_last (sum_by length) (and_then command) 1 script.phases one_of_phase);
  pixels = command_pixels script.phases command is.pixels room;
  names = command_names script.phases command is.names new;
}
  where
    one_of_actor : (commands : List Command) → length (commands ++ command ∷ []) ≤ length commands + 1
    one_of_actor commands = rw (length-append commands (command ∷ [])) (omega arith)

    one_of_phase : (actors : List (List Command)) → sum_by length (and_then command actors) ≤ sum_by length actors + 1
    one_of_phase actors = sum_by-at_last length (λ commands. commands ++ command ∷ []) 1 actors one_of_actor

command_keeps : (script : Script) (most : ℕ) (command : Command) → IsDraft script most → IsSaid (Some script) (line.Command command) → IsDraft (with_line script (line.Command command)) (most + 1)
command_keeps script most command is said =
    let room = in_range-room script.range (pixel_count script.phases) command said.place in
    let new = in_range-name script.range (view_names script.phases) command said.name in
    taken_keeps script most (in_range script.range command) is (in_range-within script.range command is.range said.words) room new

range_keeps : (script : Script) (most : ℕ) (range : List ℕ) → IsDraft script most → slice_index range 0 < slice_index range 1 → IsDraft (with_line script (line.Range range)) (most + 1)
range_keeps script most range is ordered = record {
  root = is.root;
  range = ordered;
  phases = is.phases;
  actors = is.actors;
  commands = is.commands;
  count = omega (arith, is.count);
  pixels = is.pixels;
  names = is.names;
}

with_line_keeps : (script : Script) (most : ℕ) (says : Line) → IsDraft script most → IsSaid (Some script) says → IsDraft (with_line script says) (most + 1)
with_line_keeps script most (line.Raw root kind dims cell) is said = opened_keeps _ _ said.words
with_line_keeps script most (line.Open root) is said = opened_keeps _ _ said.words
with_line_keeps script most (line.Range range) is said = range_keeps script most range is said.words
with_line_keeps script most line.Phase is said = phase_keeps script most is (ltb-true _ _ said.place)
with_line_keeps script most line.Actor is said = actor_keeps script most is (ltb-true _ _ said.place)
with_line_keeps script most (line.Command command) is said = command_keeps script most command is said

added_keeps : (so_far : Option Script) (most : ℕ) (says : Line) → IsDraftOf so_far most → IsSaid so_far says → IsDraftOf (with_read_line so_far says) (most + 1)
added_keeps None most (line.Raw root kind dims cell) is said = opened_keeps _ _ said.words
added_keeps None most (line.Open root) is said = opened_keeps _ _ said.words
added_keeps None most (line.Range range) is said = tt
added_keeps None most line.Phase is said = tt
added_keeps None most line.Actor is said = tt
added_keeps None most (line.Command command) is said = tt
added_keeps (Some script) most says is said = with_line_keeps script most says is said

more_keeps : (so_far : Option Script) (most : ℕ) → IsDraftOf so_far most → IsDraftOf so_far (most + 1)
more_keeps None most is = tt
more_keeps (Some script) most is = record {
  root = is.root;
  range = is.range;
  phases = is.phases;
  actors = is.actors;
  commands = is.commands;
  count = omega (arith, is.count);
  pixels = is.pixels;
  names = is.names;
}

said_line_keeps : (so_far : Option Script) (most : ℕ) (says : Result Line ScriptKind) → IsDraftOf so_far most → IfOk says (IsSaid so_far)
    → IfOk (says >>= λ line. Ok (with_read_line so_far line)) (λ next. IsDraftOf next (most + 1))
said_line_keeps so_far most (Ok says) is said = added_keeps so_far most says is said
said_line_keeps so_far most (Err kind) is said = tt

words_keep : (so_far : Option Script) (most : ℕ) (bytes : List ℕ) (words : List (List ℕ)) → IsDraftOf so_far most → IfOk (after_words so_far bytes words) (λ next. IsDraftOf next (most + 1))
words_keep so_far most bytes [] is = more_keeps so_far most is
words_keep so_far most bytes (first ∷ words) is = go (is_remark first)
  where
    go : (remark : Bool) → IfOk (if remark then Ok so_far else after_said so_far bytes first words) (λ next. IsDraftOf next (most + 1))
    go true = more_keeps so_far most is
    go false = said_line_keeps so_far most (said so_far bytes first words) is (said_keeps so_far bytes first words)

after_line_keeps : (so_far : Option Script) (most : ℕ) (bytes : List ℕ) → IsDraftOf so_far most → IfOk (after_line so_far bytes) (λ next. IsDraftOf next (most + 1))
unfolding after_line
after_line_keeps so_far most bytes is = words_keep so_far most bytes (words_of bytes) is

-- the lines that are left keep the limits, and say at most a command each
script_keeps : (number : ℕ) (so_far : Option Script) (most : ℕ) (lines : List (List ℕ)) → IsDraftOf so_far most
    → IfOk (script_from number so_far lines) (λ script. IsDraft script (most + length lines))
script_keeps number None most [] is = tt
script_keeps number (Some script) most [] is = rw (add-zero most) is
script_keeps number so_far most (bytes ∷ lines) is = go (after_line so_far bytes) (after_line_keeps so_far most bytes is) (λ next. script_keeps (number + 1) next (most + 1) lines)
  where
    same : most + 1 + length lines ≡ most + length (bytes ∷ lines)
    same = omega arith

    go : (next : Result (Option Script) ScriptKind) → IfOk next (λ next. IsDraftOf next (most + 1))
        → ((next : Option Script) → IsDraftOf next (most + 1) → IfOk (script_from (number + 1) next lines) (λ script. IsDraft script (most + 1 + length lines)))
        → IfOk (at_line number next (λ next. script_from (number + 1) next lines)) (λ script. IsDraft script (most + length (bytes ∷ lines)))
    go (Ok next) is rest = rw same at (rest next is)
    go (Err kind) is rest = tt

script_of_draft : (script : Script) (most : ℕ) → IsDraft script most → most ≤ 2 ^ 20 → IsScript script
script_of_draft script most is few = record {
  root = is.root;
  range = is.range;
  phases = is.phases;
  actors = is.actors;
  commands = is.commands;
  count = omega (arith, is.count);
  pixels = is.pixels;
  names = is.names;
}

pub limits_of_answer : (bytes : List ℕ) (answered : Result Script ScriptErr) → Answers answered (script_from 1 None (lines_of bytes)) → length bytes ≤ 2 ^ 20 → IfOk answered IsScript
limits_of_answer bytes (Err (At number kind)) is fits = tt
limits_of_answer bytes (Err Memory) is fits = tt
limits_of_answer bytes (Ok script) is fits =
    let few : length (lines_of bytes) ≤ length bytes = lines_fit bytes in
    let kept : IfOk (script_from 1 None (lines_of bytes)) (λ script. IsDraft script (0 + length (lines_of bytes))) = script_keeps 1 None 0 (lines_of bytes) tt in
    script_of_draft script (0 + length (lines_of bytes)) (IfOk-at_ok _ is kept) (omega arith)
