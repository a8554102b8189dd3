-- No reply of phases tells that every slot had a pin.
use Rattle.std.proofs.Common.{◌≡◌, ◌∙◌, inl, inr, ℕ, suc, ◌+◌, Bool, false, List, [], ◌∷◌, ◌++◌, All, length, Result, Ok, Err, refl, sym, ap, subst, length-append, arith}
use Rattle.std.proofs.lemmas.List.Concat.{flat_map-append}
use Rattle.std.proofs.lemmas.List.Elements.{All-nil, All-cons, All-append}
use Rattle.arr_history.specs.declared.event.Event.{Event}
use Rattle.cell_file.specs.Keys.{KeyNames}
use Rattle.cell_file.specs.declared.errors.AcquireErr.{AcquireErr}
use Rattle.cell_file.specs.declared.errors.AcquireErr.TheVariants as cause
use Rattle.cell_grid.specs.declared.level.Level.{Level}
use Rattle.cell_store.specs.Store.{Contents}
use Rattle.fetchers.specs.declared.fetched.Fetched.{Fetched}
use Rattle.fetchers.specs.declared.served.Served.{Served}
use Rattle.run_report.specs.declared.reply.Answer.{Answer}
use Rattle.run_report.specs.declared.reply.Answer.TheVariants as answer
use Rattle.run_report.specs.declared.reply.Refusal.TheVariants as refusal
use Rattle.run_report.specs.declared.reply.Reply.{Reply}
use Rattle.run_report.specs.declared.shot.Shot.{Shot}
use Rattle.view_script.specs.declared.command.Command.{Command}
use Rattle.view_script.specs.declared.command.Command.TheVariants as command
use Rattle.view_script.specs.Script.{NumberedCommand}
use Rattle.volatile_cell.specs.Asked.{Asked}
use Rattle.volatile_cell.specs.Front.{Looker}
use Rattle.team_actors.specs.Causes.{IsCausedReply, AreCausedReplies}
use Rattle.team_actors.specs.Deeds.{Deed}
use Rattle.team_phases.specs.Phases.{AreLost, AllLost, AreActorsDeeds, IsPhaseOf, ArePlayed}
use Rattle.team_run.specs.Commands.{IsCommandOf, AreCommandsOf}
use Rattle.team_run.specs.Fetches.{fetch_answer}
use Rattle.team_run.specs.Headline.{IsFullRefusal}
use Rattle.thread_plan.specs.Scenes.{flat}

abbrev NotFull : Reply → Type 0
NotFull r = ¬ IsFullRefusal r.answer

fetch_not_full : (result : Result Fetched (Unit {0})) → answer.Refused (refusal.Acquire cause.Full) ≡ fetch_answer result → ⊥
fetch_not_full (Ok fetched) e = cc
fetch_not_full (Err memory) e = cc

full_memory : ◌≡◌ {A = AcquireErr} cause.Full cause.Memory → ⊥
full_memory e = cc

lost_not_full : IsFullRefusal (answer.Refused (refusal.Acquire cause.Memory)) → ⊥
lost_not_full e = cc

module _ (levels : List Level) (keys : KeyNames) (before : List Contents) where
  full_not_caused : (who : Looker) (c : Command) (shots : List Shot) (servings : List Served) (events : List Event) (asks : List Asked)
      → IsCommandOf who c (answer.Refused (refusal.Acquire cause.Full)) shots servings events asks → IsCausedReply levels keys before c (answer.Refused (refusal.Acquire cause.Full)) → ⊥
  full_not_caused who (command.Get level pos) shots servings events asks is (inl e) = full_memory e
  full_not_caused who (command.Get level pos) shots servings events asks is (inr h) = h.3
  full_not_caused who (command.Set level pos x) shots servings events asks is (inl e) = full_memory e
  full_not_caused who (command.Set level pos x) shots servings events asks is (inr h) = h.3
  full_not_caused who (command.View name view) shots servings events asks is (inl e) = full_memory e
  full_not_caused who (command.View name view) shots servings events asks is (inr h) = h.2
  full_not_caused who (command.Fetch count) shots servings events asks is caused = fetch_not_full is.0.0 is.0.2

  -- the causes of replies to commands in two parts
  caused_split : (c d : List NumberedCommand) (r s : List Reply) → length c ≡ length r → AreCausedReplies levels keys before (c ++ d) (r ++ s)
      → AreCausedReplies levels keys before c r × AreCausedReplies levels keys before d s
  caused_split [] d [] s e caused = (tt, caused)
  caused_split (x ∷ c) d (y ∷ r) s e caused = let rest = caused_split c d r s (omega (arith, e)) caused.1 in ((caused.0, rest.0), rest.1)
  caused_split [] d (y ∷ r) s e caused = absurd (omega (arith, e))
  caused_split (x ∷ c) d [] s e caused = absurd (omega (arith, e))

  -- the replies to the commands of an actor
  commands_not_full : (alone : Bool) (k : ℕ) (commands : List NumberedCommand) (replies : List Reply) (shots : List Shot) (servings : List Served) (events : List Event) (asks : List Asked)
      → AreCommandsOf alone k levels commands replies shots servings events asks → AreCausedReplies levels keys before commands replies → All NotFull replies
  commands_not_full alone k [] [] shots servings events asks are caused = All-nil NotFull
  commands_not_full alone k (c ∷ commands) (r ∷ replies) shots servings events asks (here, later, served, others, first, rest, asked, more, same, is, far, shots_are, servings_are, events_are, asks_are) caused =
      All-cons NotFull r replies
      (λ full. full_not_caused (record { pass = k; alone = alone; viewer = c.actor; levels = levels }) c.command here served first asked
      (subst (λ (x : Answer). IsCommandOf (record { pass = k; alone = alone; viewer = c.actor; levels = levels }) c.command x here served first asked) full is)
      (subst (λ (x : Answer). IsCausedReply levels keys before c.command x) full caused.0))
      (commands_not_full alone k commands replies later others rest more far caused.1)
  commands_not_full alone k [] (r ∷ replies) shots servings events asks are caused = absurd are
  commands_not_full alone k (c ∷ commands) [] shots servings events asks are caused = absurd are

module _ (levels : List Level) where
  -- as many replies as commands
  commands_length : (alone : Bool) (k : ℕ) (commands : List NumberedCommand) (replies : List Reply) (shots : List Shot) (servings : List Served) (events : List Event) (asks : List Asked)
      → AreCommandsOf alone k levels commands replies shots servings events asks → length commands ≡ length replies
  commands_length alone k [] [] shots servings events asks are = refl
  commands_length alone k (c ∷ commands) (r ∷ replies) shots servings events asks (here, later, served, others, first, rest, asked, more, same, is, far, shots_are, servings_are, events_are, asks_are) =
      ap suc (commands_length alone k commands replies later others rest more far)
  commands_length alone k [] (r ∷ replies) shots servings events asks are = absurd are
  commands_length alone k (c ∷ commands) [] shots servings events asks are = absurd are

  actors_length : (k : ℕ) (commands : List (List NumberedCommand)) (replies : List (List Reply)) (shots : List (List Shot)) (deeds : List Deed) → AreActorsDeeds levels k commands replies shots deeds
      → length (flat commands) ≡ length (flat replies)
  actors_length k [] [] [] [] are = refl
  actors_length k (c ∷ commands) (r ∷ replies) (s ∷ shots) (deed ∷ deeds) are =
      let here = commands_length false k c r s deed.servings deed.events deed.calls are.0 in let rest = actors_length (k + 1) commands replies shots deeds are.1 in
      length-append c (flat commands) ∙ (λ i. here i + rest i) ∙ sym (length-append r (flat replies))
  actors_length k commands replies shots deeds are = absurd are

lost_length : (commands : List NumberedCommand) (replies : List Reply) (shots : List Shot) → AreLost commands replies shots → length commands ≡ length replies
lost_length [] [] shots lost = refl
lost_length (c ∷ commands) (r ∷ replies) shots (here, later, split, is, shot, far) = ap suc (lost_length commands replies later far)
lost_length commands replies shots lost = absurd lost

all_lost_length : (commands : List (List NumberedCommand)) (replies : List (List Reply)) (shots : List (List Shot)) → AllLost commands replies shots → length (flat commands) ≡ length (flat replies)
all_lost_length [] [] [] lost = refl
all_lost_length (c ∷ commands) (r ∷ replies) (s ∷ shots) lost =
    let here = lost_length c r s lost.0 in let rest = all_lost_length commands replies shots lost.1 in
    length-append c (flat commands) ∙ (λ i. here i + rest i) ∙ sym (length-append r (flat replies))
all_lost_length commands replies shots lost = absurd lost

lost_commands : (commands : List NumberedCommand) (replies : List Reply) (shots : List Shot) → AreLost commands replies shots → All NotFull replies
lost_commands [] [] shots lost = All-nil NotFull
lost_commands (c ∷ commands) (r ∷ replies) shots (here, later, split, is, shot, far) =
    All-cons NotFull r replies (λ full. lost_not_full (sym (ap (λ (x : Reply). x.answer) is) ∙ full)) (lost_commands commands replies later far)
lost_commands commands replies shots lost = absurd lost

lost_actors : (commands : List (List NumberedCommand)) (replies : List (List Reply)) (shots : List (List Shot)) → AllLost commands replies shots → All NotFull (flat replies)
lost_actors [] [] [] lost = All-nil NotFull
lost_actors (c ∷ commands) (r ∷ replies) (s ∷ shots) lost = All-append NotFull r (flat replies) (lost_commands c r s lost.0) (lost_actors commands replies shots lost.1)
lost_actors commands replies shots lost = absurd lost

module _ (levels : List Level) (keys : KeyNames) (before : List Contents) where
  actors_not_full : (k : ℕ) (commands : List (List NumberedCommand)) (replies : List (List Reply)) (shots : List (List Shot)) (deeds : List Deed) → AreActorsDeeds levels k commands replies shots deeds
      → AreCausedReplies levels keys before (flat commands) (flat replies) → All NotFull (flat replies)
  actors_not_full k [] [] [] [] are caused = All-nil NotFull
  actors_not_full k (c ∷ commands) (r ∷ replies) (s ∷ shots) (deed ∷ deeds) are caused =
      let parts = caused_split levels keys before c (flat commands) r (flat replies) (commands_length levels false k c r s deed.servings deed.events deed.calls are.0) caused in
      All-append NotFull r (flat replies) (commands_not_full levels keys before false k c r s deed.servings deed.events deed.calls are.0 parts.0) (actors_not_full (k + 1) commands replies shots deeds are.1 parts.1)
  actors_not_full k commands replies shots deeds are caused = absurd are

  module _ (fetchers : ℕ) where
    phase_length : (k : ℕ) (commands : List (List NumberedCommand)) (replies : List (List Reply)) (shots : List (List Shot)) (served : List Served) (deeds : List Deed) → IsPhaseOf levels fetchers k commands replies shots served deeds
        → length (flat commands) ≡ length (flat replies)
    phase_length k commands replies shots served deeds (inl played) = actors_length levels k commands replies shots played.acts played.acted
    phase_length k commands replies shots served deeds (inr lost) = all_lost_length commands replies shots lost.lost

    phase_not_full : (k : ℕ) (commands : List (List NumberedCommand)) (replies : List (List Reply)) (shots : List (List Shot)) (served : List Served) (deeds : List Deed) → IsPhaseOf levels fetchers k commands replies shots served deeds
        → AreCausedReplies levels keys before (flat commands) (flat replies) → All NotFull (flat replies)
    phase_not_full k commands replies shots served deeds (inl played) caused = actors_not_full k commands replies shots played.acts played.acted caused
    phase_not_full k commands replies shots served deeds (inr lost) caused = lost_actors commands replies shots lost.lost

    -- those of all phases
    pub played_not_full : (k : ℕ) (phases : List (List (List NumberedCommand))) (replies : List (List (List Reply))) (shots : List (List (List Shot))) (served : List Served) (deeds : List (List Deed))
        → ArePlayed levels fetchers k phases replies shots served deeds → AreCausedReplies levels keys before (flat (flat phases)) (flat (flat replies)) → All (λ (r : Reply). ¬ IsFullRefusal r.answer) (flat (flat replies))
    played_not_full k [] [] [] served [] are caused = All-nil NotFull
    played_not_full k (c ∷ phases) (r ∷ replies) (s ∷ shots) served (here ∷ deeds) (now, later, split, is, far) caused =
        let apart = flat_map-append (λ (l : List NumberedCommand). l) c (flat phases) in
        let replied = flat_map-append (λ (l : List Reply). l) r (flat replies) in
        let all = subst (λ (x : List Reply). AreCausedReplies levels keys before (flat c ++ flat (flat phases)) x) replied (subst (λ (x : List NumberedCommand). AreCausedReplies levels keys before x (flat (flat (r ∷ replies)))) apart caused) in
        let parts = caused_split levels keys before (flat c) (flat (flat phases)) (flat r) (flat (flat replies)) (phase_length k c r s now here is) all in
        subst (All NotFull) (sym replied) (All-append NotFull (flat r) (flat (flat replies)) (phase_not_full k c r s now here is parts.0) (played_not_full (k + length here) phases replies shots later deeds far parts.1))
    played_not_full k phases replies shots served deeds are caused = absurd are
