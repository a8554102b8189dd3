-- Commands that were carried out, and one more.
use Rattle.std.proofs.Common.{◌≡◌, ◌∙◌, ℕ, ◌+◌, cond, false, List, [], ◌∷◌, ◌++◌, refl, sym, ap, subst, append_assoc, arith}
use Rattle.std.proofs.lemmas.List.{append-nil}
use Rattle.std.proofs.lemmas.List.Sums.{sum_by-cons}
use Rattle.std.specs.Prelude.{Option}
use Rattle.arr_history.proofs.Counts.{count_by-append}
use Rattle.arr_history.specs.declared.event.Event.{Event}
use Rattle.cell_file.specs.Keys.{KeyNames}
use Rattle.cell_grid.specs.declared.level.Level.{Level}
use Rattle.cell_store.specs.Store.{Contents}
use Rattle.fetchers.specs.declared.served.Served.{Served}
use Rattle.pin_rule.proofs.Goings.{goes_still, goes_on}
use Rattle.pin_rule.specs.declared.made.Made.{Made}
use Rattle.pin_words.specs.declared.doing.Doing.{Doing}
use Rattle.pin_words.specs.Plan.{Plan}
use Rattle.queue_desk.specs.Asking.{AskingPass}
use Rattle.queue_desk.specs.AskingLaws.{asks_nothing, asks_more}
use Rattle.run_report.specs.declared.reply.Reply.{Reply}
use Rattle.run_report.specs.declared.shot.Shot.{Shot}
use Rattle.team_eyes.specs.Teammate.{Teammate, plan_in, levels_in, looker_of}
use Rattle.team_frames.proofs.Retelling.{moved}
use Rattle.team_run.specs.Commands.{IsCommandOf, AreCommandsOf}
use Rattle.team_run.specs.Faults.{is_fault, is_fault_served, fault_replies, fault_servings}
use Rattle.view_script.specs.Script.{NumberedCommand}
use Rattle.volatile_cell.specs.Asked.{Asked}
use Rattle.team_actors.specs.Answers.{AddsCommand, keys_in, reply_to}
use Rattle.team_actors.specs.Causes.{AreCausedReplies}
use Rattle.team_actors.specs.Deeds.{Deed, Does, Acts, nothing}

-- one deed, and then another
abbrev and_then : Deed → Deed → Deed
and_then x y = record { events = x.events ++ y.events; calls = x.calls ++ y.calls; servings = x.servings ++ y.servings }

does_on : {S M : Type 0} (p : Plan S M) (a b c : Doing S M) (q r s : AskingPass) (x y : Deed) → Does p a q x b r → Does p b r y c s → Does p a q (and_then x y) c s
does_on p a b c q r s x y f g = record { went = goes_on p a b c x.events y.events f.went g.went; asked = asks_more q r s x.calls y.calls f.asked g.asked }

commands_on : (k : ℕ) (levels : List Level) (commands more : List NumberedCommand) (replies further : List Reply) (shots shots' : List Shot) (servings servings' : List Served) (events events' : List Event) (asks asks' : List Asked)
    → AreCommandsOf false k levels commands replies shots servings events asks → AreCommandsOf false k levels more further shots' servings' events' asks'
    → AreCommandsOf false k levels (commands ++ more) (replies ++ further) (shots ++ shots') (servings ++ servings') (events ++ events') (asks ++ asks')
commands_on k levels [] more [] further shots shots' servings servings' events events' asks asks' (none, unserved, silent, unasked) second =
    moved (AreCommandsOf false k levels more further) (sym (ap (λ x. x ++ shots') none)) (sym (ap (λ x. x ++ servings') unserved)) (sym (ap (λ x. x ++ events') silent)) (sym (ap (λ x. x ++ asks') unasked)) second
commands_on k levels (c ∷ commands) more (r ∷ replies) further shots shots' servings servings' events events' asks asks'
    (here, later, served, others, first, rest, asked, after, numbers, one, are, shown, served_are, events_are, asks_are) second = (
      here,
      later ++ shots',
      served,
      others ++ servings',
      first,
      rest ++ events',
      asked,
      after ++ asks',
      numbers,
      one,
      commands_on k levels commands more replies further later shots' others servings' rest events' after asks' are second,
      ap (λ x. x ++ shots') shown ∙ append_assoc here later shots',
      ap (λ x. x ++ servings') served_are ∙ append_assoc served others servings',
      ap (λ x. x ++ events') events_are ∙ append_assoc first rest events',
      ap (λ x. x ++ asks') asks_are ∙ append_assoc asked after asks',
    )
commands_on k levels [] more (r ∷ replies) further shots shots' servings servings' events events' asks asks' first second = absurd first
commands_on k levels (c ∷ commands) more [] further shots shots' servings servings' events events' asks asks' first second = absurd first

caused_on : (levels : List Level) (keys : KeyNames) (before : List Contents) (commands more : List NumberedCommand) (replies further : List Reply) → AreCausedReplies levels keys before commands replies → AreCausedReplies levels keys before more further
    → AreCausedReplies levels keys before (commands ++ more) (replies ++ further)
caused_on levels keys before [] more [] further first second = second
caused_on levels keys before (c ∷ commands) more (r ∷ replies) further (one, others) second = (one, caused_on levels keys before commands more replies further others second)
caused_on levels keys before [] more (r ∷ replies) further first second = absurd first
caused_on levels keys before (c ∷ commands) more [] further first second = absurd first

-- no command was carried out
pub acts_none : {S M : Type 0} (p : Plan S M) (levels : List Level) (keys : KeyNames) (d : Doing S M) (q : AskingPass) (replies : List Reply) (shots : List Shot) → replies ≡ [] → shots ≡ [] → Acts p levels keys d q [] replies shots d q
acts_none p levels keys d q replies shots unanswered unshown =
    let idle : Acts p levels keys d q [] [] [] d q = record {
      deed = nothing;
      does = record { went = goes_still p d; asked = asks_nothing q };
      are = (refl, refl, refl, refl);
      caused = tt;
      licensed = omega arith;
    } in
    subst (λ (r : List Reply). Acts p levels keys d q [] r shots d q) (sym unanswered) (subst (λ (s : List Shot). Acts p levels keys d q [] [] s d q) (sym unshown) idle)

-- one command more was carried out, by the actor that it is of
pub acts_more : {S : Type 0} (d : Doing S (Option (Made S))) (q : AskingPass) (a b : Teammate S) (commands : List NumberedCommand) (command : NumberedCommand) (replies replies' : List Reply) (shots shots' : List Shot) → a.viewer ≡ command.actor
    → Acts (plan_in a) (levels_in a) (keys_in a) d q commands replies shots a.cells a.queue → AddsCommand a command replies replies' shots shots' b
    → Acts (plan_in a) (levels_in a) (keys_in a) d q (commands ++ command ∷ []) replies' shots' b.cells b.queue
acts_more {S} d q a b commands command replies replies' shots shots' own acts adds =
    let p = plan_in a in
    let reply = reply_to command adds.told in
    let deed = adds.answers.deed in
    let whole = and_then acts.deed deed in
    let one : IsCommandOf (looker_of d.number command.actor (levels_in a)) command.command adds.told adds.left deed.servings deed.events deed.calls =
    subst (λ k. IsCommandOf (looker_of k command.actor (levels_in a)) command.command adds.told adds.left deed.servings deed.events deed.calls) acts.does.went.number
    (subst (λ v. IsCommandOf (looker_of a.cells.number v (levels_in a)) command.command adds.told adds.left deed.servings deed.events deed.calls) own adds.answers.is) in
    let last : AreCommandsOf false d.number (levels_in a) (command ∷ []) (reply ∷ []) adds.left deed.servings deed.events deed.calls =
    (adds.left, [], deed.servings, [], deed.events, [], deed.calls, [], (refl, refl, refl), one, (refl, refl, refl, refl), sym (append-nil adds.left), sym (append-nil deed.servings), sym (append-nil deed.events), sym (append-nil deed.calls)) in
    let are : AreCommandsOf false d.number (levels_in a) (commands ++ command ∷ []) (replies ++ reply ∷ []) (shots ++ adds.left) whole.servings whole.events whole.calls =
    commands_on d.number (levels_in a) commands (command ∷ []) replies (reply ∷ []) shots adds.left acts.deed.servings deed.servings acts.deed.events deed.events acts.deed.calls deed.calls acts.are last in
    let more_replies : fault_replies (replies ++ reply ∷ []) ≡ fault_replies replies + fault_replies (reply ∷ []) = count_by-append (λ (r : Reply). is_fault r.answer) replies (reply ∷ []) in
    let one_reply : fault_replies (reply ∷ []) ≡ cond (is_fault adds.told) 1 0 + 0 = sum_by-cons (λ (r : Reply). cond (is_fault r.answer) 1 0) reply [] in
    let more_servings : fault_servings whole.servings ≡ fault_servings acts.deed.servings + fault_servings deed.servings = count_by-append is_fault_served acts.deed.servings deed.servings in
    let acted : Acts p (levels_in a) (keys_in a) d q (commands ++ command ∷ []) (replies ++ reply ∷ []) (shots ++ adds.left) b.cells b.queue = record {
      deed = whole;
      does = does_on p d a.cells b.cells q a.queue b.queue acts.deed deed acts.does adds.answers.does;
      are = are;
      caused = caused_on (levels_in a) (keys_in a) _ commands (command ∷ []) replies (reply ∷ []) acts.caused (adds.answers.caused, tt);
      licensed = omega (arith, acts.licensed, adds.answers.licensed, more_replies, one_reply, more_servings);
    } in
    subst (λ (r : List Reply). Acts p (levels_in a) (keys_in a) d q (commands ++ command ∷ []) r shots' b.cells b.queue) (sym adds.replied)
    (subst (λ (s : List Shot). Acts p (levels_in a) (keys_in a) d q (commands ++ command ∷ []) (replies ++ reply ∷ []) s b.cells b.queue) (sym adds.kept) acted)
