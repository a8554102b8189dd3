-- Phases whose passes found no memory.
use Rattle.std.proofs.Common.{◌≡◌, ◌∙◌, ℕ, ◌+◌, List, [], ◌∷◌, ◌++◌, All, length, map, sym, refl, ap, subst, inl, append_assoc, arith}
use Rattle.std.proofs.lemmas.List.{append-nil}
use Rattle.std.proofs.lemmas.List.Elements.{All-cons, All-nil}
use Rattle.std.specs.List.{count_by}
use Rattle.arr_history.specs.declared.event.Event.{Event}
use Rattle.arr_history.proofs.Counts.{count_by-append}
use Rattle.cell_file.specs.declared.errors.AcquireErr.TheVariants as cause
use Rattle.cell_file.specs.Keys.{KeyNames}
use Rattle.cell_grid.specs.declared.level.Level.{Level}
use Rattle.cell_store.specs.Store.{Contents}
use Rattle.pass_roster.specs.Roster.{Passes}
use Rattle.pass_roster.specs.Works.{Works}
use Rattle.pin_words.specs.Words as cells
use Rattle.queue_desk.specs.Desk.{QueueEntry}
use Rattle.run_report.specs.declared.reply.Answer.TheVariants as answer
use Rattle.run_report.specs.declared.reply.Refusal.TheVariants as refusal
use Rattle.run_report.specs.declared.reply.Reply.{Reply}
use Rattle.run_report.specs.declared.shot.Shot.{Shot}
use Rattle.team_actors.specs.Causes.{IsCausedReply, AreCausedReplies}
use Rattle.team_actors.specs.Deeds.{Deed, nothing}
use Rattle.team_passes.specs.declared.team_pass.TeamPass.{TeamPass}
use Rattle.team_passes.specs.Drawn.{AreNew}
use Rattle.team_passes.specs.Teams.{cells_in, asks_in}
use Rattle.team_passes.proofs.Phasing.{AreBack}
use Rattle.team_phases.specs.Phases.{AreLost, AllLost, IsLostShot, events_in, entries_from}
use Rattle.team_phases.specs.Plays.{AllCaused}
use Rattle.team_run.specs.Faults.{is_fault, fault_replies}
use Rattle.thread_plan.specs.Scenes.{flat}
use Rattle.turn_cell.specs.PassView as queue
use Rattle.view_script.specs.declared.command.Command.{Command}
use Rattle.view_script.specs.declared.command.Command.TheVariants as command
use Rattle.view_script.specs.Script.{NumberedCommand}

-- the deeds of passes that did nothing
abbrev pub idle : {S : Type 0} → List (TeamPass S) → List Deed
idle [] = []
idle (pass ∷ passes) = nothing ∷ idle passes

stays : {D E X : Type 0} (p : Passes D E X) (d : D) → Works p d [] d
stays p d = record { number = refl; more = []; seen = sym (append-nil (p.seen d)); mine = sym (append-nil (p.mine d)); are_own = refl }

module _ {S : Type 0} where
  pub idle_cells : (seen : List Event) (k : ℕ) (ps : List (TeamPass S)) → AreNew cells.passes seen k (map cells_in ps) → AreBack cells.passes seen k (events_in (idle ps)) (map cells_in ps)
  idle_cells seen k [] new = tt
  idle_cells seen k (p ∷ ps) new = (cells_in p, new.0, stays cells.passes (cells_in p), idle_cells seen (k + 1) ps new.1)

  pub idle_asks : (heard : List QueueEntry) (k : ℕ) (ps : List (TeamPass S)) → AreNew queue.passes heard k (map asks_in ps) → AreBack queue.passes heard k (entries_from k (idle ps)) (map asks_in ps)
  idle_asks heard k [] new = tt
  idle_asks heard k (p ∷ ps) new = (asks_in p, new.0, stays queue.passes (asks_in p), idle_asks heard (k + 1) ps new.1)

  pub idle_count : (ps : List (TeamPass S)) → length (idle ps) ≡ length ps
  idle_count [] = refl
  idle_count (p ∷ ps) = let e = idle_count ps in omega arith

  pub all_idle : (ps : List (TeamPass S)) → All (λ deed. deed ≡ nothing) (idle ps)
  all_idle [] = All-nil (λ (deed : Deed). deed ≡ nothing)
  all_idle (p ∷ ps) = All-cons (λ (deed : Deed). deed ≡ nothing) nothing (idle ps) refl (all_idle ps)

lost_faults : (commands : List NumberedCommand) (replies : List Reply) (shots : List Shot) → AreLost commands replies shots → fault_replies replies ≡ 0
lost_faults [] [] shots lost = refl
lost_faults [] (r ∷ replies) shots lost = absurd lost
lost_faults (c ∷ commands) [] shots lost = absurd lost
lost_faults (c ∷ commands) (r ∷ replies) shots lost =
    let p = λ (q : Reply). is_fault q.answer in
    let one : count_by p (r ∷ []) ≡ 0 = ap (λ q. count_by p (q ∷ [])) lost.3 in
    let rest = lost_faults commands replies lost.1 lost.5 in
    let e = count_by-append p (r ∷ []) replies in
    omega arith

pub all_lost_faults : (commands : List (List NumberedCommand)) (replies : List (List Reply)) (shots : List (List Shot)) → AllLost commands replies shots → fault_replies (flat replies) ≡ 0
all_lost_faults [] [] [] lost = refl
all_lost_faults [] [] (s ∷ shots) lost = absurd lost
all_lost_faults [] (r ∷ replies) shots lost = absurd lost
all_lost_faults (c ∷ commands) [] shots lost = absurd lost
all_lost_faults (c ∷ commands) (r ∷ replies) [] lost = absurd lost
all_lost_faults (c ∷ commands) (r ∷ replies) (s ∷ shots) lost =
    let one = lost_faults c r s lost.0 in
    let rest = all_lost_faults commands replies shots lost.1 in
    let e = count_by-append (λ q. is_fault q.answer) r (flat replies) in
    omega arith

module _ (levels : List Level) (keys : KeyNames) (before : List Contents) where
  lost_cause : (c : Command) → IsCausedReply levels keys before c (answer.Refused (refusal.Acquire cause.Memory))
  lost_cause (command.Get level pos) = inl refl
  lost_cause (command.Set level pos x) = inl refl
  lost_cause (command.View name view) = inl refl
  lost_cause (command.Fetch count) = tt

  lost_caused : (commands : List NumberedCommand) (replies : List Reply) (shots : List Shot) → AreLost commands replies shots → AreCausedReplies levels keys before commands replies
  lost_caused [] [] shots lost = tt
  lost_caused [] (r ∷ replies) shots lost = absurd lost
  lost_caused (c ∷ commands) [] shots lost = absurd lost
  lost_caused (c ∷ commands) (r ∷ replies) shots lost =
      (subst (λ (q : Reply). IsCausedReply levels keys before c.command q.answer) (sym lost.3) (lost_cause c.command), lost_caused commands replies lost.1 lost.5)

  pub all_lost_caused : (commands : List (List NumberedCommand)) (replies : List (List Reply)) (shots : List (List Shot)) → AllLost commands replies shots → AllCaused levels keys before commands replies
  all_lost_caused [] [] shots lost = tt
  all_lost_caused [] (r ∷ replies) shots lost = absurd lost
  all_lost_caused (c ∷ commands) [] shots lost = absurd lost
  all_lost_caused (c ∷ commands) (r ∷ replies) [] lost = absurd lost
  all_lost_caused (c ∷ commands) (r ∷ replies) (s ∷ shots) lost = (lost_caused c r s lost.0, all_lost_caused commands replies shots lost.1)

-- one command more, and one part more
pub lost_more : (commands : List NumberedCommand) (replies : List Reply) (shots : List Shot) (c : NumberedCommand) (here : List Shot) → AreLost commands replies shots → IsLostShot c.command here
    → AreLost (commands ++ c ∷ []) (replies ++ record { phase = c.phase; actor = c.actor; call = c.call; answer = answer.Refused (refusal.Acquire cause.Memory) } ∷ []) (shots ++ here)
lost_more [] [] shots c here lost is = (here, [], ap (λ l. l ++ here) lost ∙ sym (append-nil here), refl, is, refl)
lost_more [] (r ∷ replies) shots c here lost is = absurd lost
lost_more (d ∷ commands) [] shots c here lost is = absurd lost
lost_more (d ∷ commands) (r ∷ replies) shots c here lost is =
    (lost.0, lost.1 ++ here, ap (λ l. l ++ here) lost.2 ∙ append_assoc lost.0 lost.1 here, lost.3, lost.4, lost_more commands replies lost.1 c here lost.5 is)

pub all_lost_more : (commands : List (List NumberedCommand)) (replies : List (List Reply)) (shots : List (List Shot)) (c : List NumberedCommand) (r : List Reply) (s : List Shot) → AllLost commands replies shots → AreLost c r s
    → AllLost (commands ++ c ∷ []) (replies ++ r ∷ []) (shots ++ s ∷ [])
all_lost_more [] [] [] c r s lost one = (one, tt)
all_lost_more [] [] (t ∷ shots) c r s lost one = absurd lost
all_lost_more [] (q ∷ replies) shots c r s lost one = absurd lost
all_lost_more (d ∷ commands) [] shots c r s lost one = absurd lost
all_lost_more (d ∷ commands) (q ∷ replies) [] c r s lost one = absurd lost
all_lost_more (d ∷ commands) (q ∷ replies) (t ∷ shots) c r s lost one = (lost.0, all_lost_more commands replies shots c r s lost.1 one)
