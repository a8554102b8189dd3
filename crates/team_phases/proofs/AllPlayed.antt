-- Phases that were played, one after another.
use Rattle.std.proofs.Common.{◌≡◌, ◌∙◌, ℕ, ◌+◌, List, [], ◌∷◌, ◌++◌, length, map, sym, refl, ap, subst, append_assoc, arith}
use Rattle.std.proofs.lemmas.List.{append-nil, length-map}
use Rattle.arr_history.proofs.Counts.{count_by-append}
use Rattle.cell_file.specs.Keys.{KeyNames}
use Rattle.cell_grid.specs.declared.level.Level.{Level}
use Rattle.cell_store.specs.Store.{Contents}
use Rattle.live_cells.specs.declared.cells.Cells.{Cells}
use Rattle.pass_roster.specs.Phases.{ArePhases}
use Rattle.pin_words.specs.Plan.{shown}
use Rattle.run_report.specs.declared.reply.Reply.{Reply}
use Rattle.team_actors.specs.Causes.{AreCausedReplies}
use Rattle.team_actors.specs.Rises.{rises_of_ended}
use Rattle.team_passes.specs.declared.team_pass.TeamPass.{TeamPass}
use Rattle.team_passes.specs.Teams.{QueueTurn, cells_in, asks_in}
use Rattle.team_phases.specs.declared.actor.PartDone.{PartDone}
use Rattle.team_phases.specs.Phases.{ArePlayed, entries_in}
use Rattle.team_phases.specs.Plays.{AllCaused}
use Rattle.team_phases.specs.Playing.{IsPhasePlayed, AreAllPlayed}
use Rattle.team_phases.specs.Working.{replies_in, shots_in}
use Rattle.team_phases.proofs.Acting.{plan, levels, keys}
use Rattle.team_phases.proofs.Played.{entries_length}
use Rattle.team_run.specs.Faults.{is_fault, is_fault_served, fault_replies}
use Rattle.thread_plan.specs.declared.part.Scene.{Scene}
use Rattle.thread_plan.specs.Parts.{commands_in_scene}
use Rattle.thread_plan.specs.Scenes.{flat}
use Rattle.turn_cell.specs.PassView as queue
use Rattle.view_script.specs.Script.{NumberedCommand}

flat_append : {A : Type 0} (xs ys : List (List A)) → flat (xs ++ ys) ≡ flat xs ++ flat ys
flat_append [] ys = refl
flat_append (x ∷ xs) ys = ap (λ l. x ++ l) (flat_append xs ys) ∙ sym (append_assoc x (flat xs) (flat ys))

-- one list more, at the end
pub flat_more : {A : Type 0} (xs : List (List A)) (x : List A) → flat (xs ++ x ∷ []) ≡ flat xs ++ x
flat_more xs x = flat_append xs (x ∷ []) ∙ ap (λ l. flat xs ++ l) (append-nil x)

module _ (levels : List Level) (keys : KeyNames) (before : List Contents) where
  caused_append : (cs ds : List NumberedCommand) (rs qs : List Reply) → AreCausedReplies levels keys before cs rs → AreCausedReplies levels keys before ds qs → AreCausedReplies levels keys before (cs ++ ds) (rs ++ qs)
  caused_append [] ds [] qs a b = b
  caused_append [] ds (r ∷ rs) qs a b = absurd a
  caused_append (c ∷ cs) ds [] qs a b = absurd a
  caused_append (c ∷ cs) ds (r ∷ rs) qs a b = (a.0, caused_append cs ds rs qs a.1 b)

  caused_flat : (cs : List (List NumberedCommand)) (rs : List (List Reply)) → AllCaused levels keys before cs rs → AreCausedReplies levels keys before (flat cs) (flat rs)
  caused_flat [] [] all = tt
  caused_flat [] (r ∷ rs) all = absurd all
  caused_flat (c ∷ cs) [] all = absurd all
  caused_flat (c ∷ cs) (r ∷ rs) all = caused_append c (flat cs) r (flat rs) all.0 (caused_flat cs rs all.1)

  pub caused_phase : (c : List (List NumberedCommand)) (cs : List (List (List NumberedCommand))) (r : List (List Reply)) (rs : List (List (List Reply)))
      → AllCaused levels keys before c r → AreCausedReplies levels keys before (flat (flat cs)) (flat (flat rs)) → AreCausedReplies levels keys before (flat (flat (c ∷ cs))) (flat (flat (r ∷ rs)))
  caused_phase c cs r rs one rest = subst (λ l. AreCausedReplies levels keys before l (flat (r ++ flat rs))) (sym (flat_append c (flat cs)))
      (subst (λ l. AreCausedReplies levels keys before (flat c ++ flat (flat cs)) l) (sym (flat_append r (flat rs))) (caused_append (flat c) (flat (flat cs)) (flat r) (flat (flat rs)) (caused_flat c r one) rest))

module _ {S : Type 0} (shows : S → Contents) (t : Cells S) (turn : QueueTurn) (fetchers : ℕ) where
  -- each phase was played, from where the one before it ended
  abbrev pub EachPlayed : TeamPass S → List Scene → List (List PartDone) → TeamPass S → Type 0
  EachPlayed a [] [] b = b ≡ a
  EachPlayed a (scene ∷ scenes) (here ∷ left) b = (mid : TeamPass S) × IsPhasePlayed shows t fetchers a scene.parts.items here mid × EachPlayed mid scenes left b
  EachPlayed a scenes left b = ⊥

  -- one phase more, at the end
  pub each_more : (a m b : TeamPass S) (scenes : List Scene) (left : List (List PartDone)) (scene : Scene) (here : List PartDone)
      → EachPlayed a scenes left m → IsPhasePlayed shows t fetchers m scene.parts.items here b → EachPlayed a (scenes ++ scene ∷ []) (left ++ here ∷ []) b
  each_more a m b [] [] scene here each one = (b, subst (λ v. IsPhasePlayed shows t fetchers v scene.parts.items here b) each one, refl)
  each_more a m b [] (x ∷ left) scene here each one = absurd each
  each_more a m b (s ∷ scenes) [] scene here each one = absurd each
  each_more a m b (s ∷ scenes) (x ∷ left) scene here each one = (each.0, each.1, each_more each.0 m b scenes left scene here each.2 one)

  pub all_played : (a b : TeamPass S) (scenes : List Scene) (left : List (List PartDone)) → EachPlayed a scenes left b → AreAllPlayed shows t fetchers a scenes left b
  all_played a b [] [] each = record {
    served = [];
    deeds = [];
    plays = record {
      are = refl;
      cells = ap cells_in each;
      queue = ap asks_in each;
      caused = tt;
      licensed = (let e = ap (λ v. rises_of_ended (plan shows t turn) (cells_in v)) each in omega arith);
    };
  }
  all_played a b [] (x ∷ left) each = absurd each
  all_played a b (s ∷ scenes) [] each = absurd each
  all_played a b (s ∷ scenes) (x ∷ left) each =
      let one = each.1 in
      let r = all_played each.0 b scenes left each.2 in
      let p = plan shows t turn in
      let cells_drawn : (cells_in each.0).drawn ≡ (cells_in a).drawn + length one.deeds = one.plays.cells.drawn ∙ ap (λ n. (cells_in a).drawn + n) (length-map one.deeds (λ deed. deed.events)) in
      let asks_drawn : (asks_in each.0).drawn ≡ (asks_in a).drawn + length one.deeds = one.plays.queue.drawn ∙ ap (λ n. (asks_in a).drawn + n) (entries_length (asks_in a).drawn one.deeds) in
      let told = map replies_in x in
      let later = map (map replies_in) left in
      let replies = ap fault_replies (flat_append told (flat later)) ∙ count_by-append (λ q. is_fault q.answer) (flat told) (flat (flat later)) in
      let servings = count_by-append is_fault_served one.served r.served in
      record {
        served = one.served ++ r.served;
        deeds = one.deeds ∷ r.deeds;
        plays = record {
          are = (one.served, r.served, refl, one.plays.is, subst (λ n. ArePlayed (levels shows t turn) fetchers n (map commands_in_scene scenes) later (map (map shots_in) left) r.served r.deeds) cells_drawn r.plays.are);
          cells = (cells_in each.0, one.plays.cells, r.plays.cells);
          queue = (asks_in each.0, one.plays.queue, subst (λ n. ArePhases queue.passes (asks_in each.0) (entries_in n r.deeds) (asks_in b)) asks_drawn r.plays.queue);
          caused = caused_phase (levels shows t turn) (keys shows t turn) (shown p) (commands_in_scene s) (map commands_in_scene scenes) told later one.plays.caused r.plays.caused;
          licensed = (let u = one.plays.licensed in let v = r.plays.licensed in let e = replies in let f = servings in omega arith);
        };
      }
