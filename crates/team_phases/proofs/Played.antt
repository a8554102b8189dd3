-- A phase, from what was drawn, what was done, and what was joined.
use Rattle.std.proofs.Common.{◌≡◌, ◌∙◌, ℕ, ◌+◌, ◌≤◌, List, [], ◌∷◌, ◌++◌, length, map, sym, refl, ap, subst, inl, inr, arith, length-append}
use Rattle.std.proofs.lemmas.List.{map-append, length-map}
use Rattle.cell_store.specs.Store.{Contents}
use Rattle.live_cells.specs.declared.cells.Cells.{Cells}
use Rattle.pass_roster.specs.Ends.{AllJoined}
use Rattle.pass_roster.specs.History.{total}
use Rattle.pass_roster.specs.Phases.{IsPhase}
use Rattle.pass_roster.specs.Roster.{Passes}
use Rattle.pass_roster.proofs.Sums.{total_append}
use Rattle.pin_words.specs.Account.{rise_ended}
use Rattle.pin_words.specs.Ends as cells_ends
use Rattle.pin_words.specs.Plan.{shown}
use Rattle.pin_words.specs.Words as cells
use Rattle.queue_desk.specs.Asking.{queue_entry}
use Rattle.team_actors.specs.Deeds.{Deed}
use Rattle.team_actors.specs.Rises.{over_lanes, rises_of, rises_of_ended}
use Rattle.team_passes.specs.declared.team_pass.TeamPass.{TeamPass}
use Rattle.team_passes.specs.Drawn.{AreNew}
use Rattle.team_passes.specs.Teams.{QueueTurn, cells_in, asks_in, AreDrawn, AreTakenIn}
use Rattle.team_passes.proofs.Phasing.{AreBack, back_on, phase_is}
use Rattle.team_passes.proofs.Teaming.{took_cells, took_asks}
use Rattle.team_phases.specs.declared.actor.PartDone.{PartDone}
use Rattle.team_phases.specs.Phases.{AllLost, events_in, entries_from, servings_in}
use Rattle.team_phases.specs.Playing.{IsStill, IsBackIdle, HasWorked, IsPhasePlayed}
use Rattle.team_phases.specs.Working.{part_in, pass_in, replies_in, shots_in}
use Rattle.team_phases.proofs.Acting.{plan, levels, keys, acted_all, fetched_all}
use Rattle.team_phases.proofs.LostLemmas.{idle, idle_cells, idle_asks, idle_count, all_idle, all_lost_faults, all_lost_caused}
use Rattle.team_phases.proofs.Rising.{all_joined}
use Rattle.team_run.specs.Faults.{fault_servings}
use Rattle.thread_plan.specs.declared.part.Part.{Part}
use Rattle.thread_plan.specs.Parts.{commands_in}
use Rattle.turn_cell.specs.PassView as queue
use Rattle.turn_cell.specs.Plays as queue_plays

pub entries_length : (k : ℕ) (deeds : List Deed) → length (entries_from k deeds) ≡ length deeds
entries_length k [] = refl
entries_length k (d ∷ deeds) = let e = entries_length (k + 1) deeds in omega arith

entries_append : (k : ℕ) (xs ys : List Deed) → entries_from k (xs ++ ys) ≡ entries_from k xs ++ entries_from (k + length xs) ys
entries_append k [] ys = ap (λ (n : ℕ). entries_from n ys) (let z : length {A = Deed} [] ≡ 0 = refl in let e : k ≡ k + length {A = Deed} [] = omega arith in e)
entries_append k (x ∷ xs) ys = ap (λ l. map (queue_entry k) x.calls ∷ l)
    (entries_append (k + 1) xs ys ∙ ap (λ (n : ℕ). entries_from (k + 1) xs ++ entries_from n ys) (let e : (k + 1) + length xs ≡ k + length (x ∷ xs) = omega arith in e))

-- new passes of two lists, apart
new_left : {D E X : Type 0} (p : Passes D E X) (seen : List E) (k : ℕ) (es fs : List D) → AreNew p seen k (es ++ fs) → AreNew p seen k es
new_left p seen k [] fs new = tt
new_left p seen k (e ∷ es) fs new = (new.0, new_left p seen (k + 1) es fs new.1)

new_right : {D E X : Type 0} (p : Passes D E X) (seen : List E) (k : ℕ) (es fs : List D) → AreNew p seen k (es ++ fs) → AreNew p seen (k + length es) fs
new_right {D} p seen k [] fs new = subst (λ (n : ℕ). AreNew p seen n fs) (let z : length {A = D} [] ≡ 0 = refl in let e : k ≡ k + length {A = D} [] = omega arith in e) new
new_right p seen k (e ∷ es) fs new = subst (λ (n : ℕ). AreNew p seen n fs) (let z : (k + 1) + length es ≡ k + length (e ∷ es) = omega arith in z) (new_right p seen (k + 1) es fs new.1)

module _ {S : Type 0} (shows : S → Contents) (t : Cells S) (turn : QueueTurn) where
  -- the first pass a drew these passes, and is b since they made these deeds and were joined
  record Phased (a b : TeamPass S) (deeds : List Deed) (n : ℕ) : Type 0 where
    pub cells_phase : IsPhase cells.passes (cells_in a) (events_in deeds) (cells_in b)
    pub asks_phase : IsPhase queue.passes (asks_in a) (entries_from (asks_in a).drawn deeds) (asks_in b)
    pub cells_joined : AllJoined cells.passes (cells_in b)
    pub asks_joined : AllJoined queue.passes (asks_in b)
    pub rises : rises_of_ended (plan shows t turn) (cells_in b) ≡ rises_of_ended (plan shows t turn) (cells_in a) + n

  phased : (a m b : TeamPass S) (drawn es : List (TeamPass S)) (deeds : List Deed) → AreDrawn t turn a drawn m → AreTakenIn m es b → length deeds ≡ length drawn
      → AreBack cells.passes (cells_in a).seen (cells_in a).drawn (events_in deeds) (map cells_in es) → AreBack queue.passes (asks_in a).seen (asks_in a).drawn (entries_from (asks_in a).drawn deeds) (map asks_in es)
      → IsStill t turn a → Phased a b deeds (total (rises_of (plan shows t turn)) (map cells_in es))
  phased a m b drawn es deeds drew took count back asked still =
      let c = phase_is cells.passes cells_ends.Rejoined took_cells (cells_in a) (cells_in m) (cells_in b) (length drawn) (events_in deeds) (map cells_in es) drew.cells (length-map deeds (λ deed. deed.events) ∙ count) back took.cells still.cells_joined in
      let q = phase_is queue.passes queue_plays.Rejoined took_asks (asks_in a) (asks_in m) (asks_in b) (length drawn) (entries_from (asks_in a).drawn deeds) (map asks_in es) drew.asks (entries_length (asks_in a).drawn deeds ∙ count) asked took.asks still.asks_joined in
      let p = plan shows t turn in
      record {
        cells_phase = c.0;
        cells_joined = c.1;
        asks_phase = q.0;
        asks_joined = q.1;
        rises = all_joined p (map cells_in es) (cells_in m) (cells_in b) took.cells
            ∙ ap (λ xs. over_lanes p.lanes (λ l. total (rise_ended l) xs) + total (rises_of p) (map cells_in es)) drew.cells.ended;
      }

  -- a phase that was played, after which all passes are joined
  pub record PlayedStill (fetchers : ℕ) (a : TeamPass S) (parts : List Part) (left : List PartDone) (b : TeamPass S) : Type 0 where
    pub played : IsPhasePlayed shows t fetchers a parts left b
    pub cells_joined : AllJoined cells.passes (cells_in b)
    pub asks_joined : AllJoined queue.passes (asks_in b)

  pub idle_played : (fetchers : ℕ) (a b : TeamPass S) (parts : List Part) (left : List PartDone) → IsBackIdle t turn a b → AllLost (map commands_in parts) (map replies_in left) (map shots_in left) → IsStill t turn a
      → PlayedStill fetchers a parts left b
  idle_played fetchers a b parts left back lost still =
      let ps = back.drawn in let p = plan shows t turn in
      let r = phased a back.between b ps ps (idle ps) back.drew back.took (idle_count ps) (idle_cells (cells_in a).seen (cells_in a).drawn ps back.drew.new_cells) (idle_asks (asks_in a).seen (asks_in a).drawn ps back.drew.new_asks) still in
      record {
        played = record {
          served = [];
          deeds = idle ps;
          few = (let e = idle_count ps in let f = back.few in omega arith);
          plays = record {
            is = inr (record { lost = lost; none_served = refl; idle = all_idle ps });
            cells = r.cells_phase;
            queue = r.asks_phase;
            caused = all_lost_caused (levels shows t turn) (keys shows t turn) (shown p) (map commands_in parts) (map replies_in left) (map shots_in left) lost;
            licensed = (let e = all_lost_faults (map commands_in parts) (map replies_in left) (map shots_in left) lost in let z : fault_servings [] ≡ 0 = refl in let f = r.rises in omega arith);
          };
        };
        cells_joined = r.cells_joined;
        asks_joined = r.asks_joined;
      }

  pub worked_played : (fetchers : ℕ) (a m b : TeamPass S) (parts : List Part) (passes : List (TeamPass S)) (left : List PartDone) → AreDrawn t turn a passes m → HasWorked shows t turn m parts passes left b
      → length passes ≡ length parts + fetchers → length parts + fetchers ≤ 32 → IsStill t turn a → PlayedStill fetchers a parts left b
  worked_played fetchers a m b parts passes left drew h count few still =
      let p = plan shows t turn in
      let firsts = map pass_in h.actors in
      let firsts_then = map pass_in h.actors_then in
      let d = cells_in a in let q = asks_in a in
      let new_cells : AreNew cells.passes d.seen d.drawn (map cells_in firsts ++ map cells_in h.fetchers) =
      subst (λ l. AreNew cells.passes d.seen d.drawn l) (ap (map cells_in) (sym h.passes_are) ∙ map-append cells_in firsts h.fetchers) drew.new_cells in
      let new_asks : AreNew queue.passes q.seen q.drawn (map asks_in firsts ++ map asks_in h.fetchers) =
      subst (λ l. AreNew queue.passes q.seen q.drawn l) (ap (map asks_in) (sym h.passes_are) ∙ map-append asks_in firsts h.fetchers) drew.new_asks in
      let acted = acted_all shows t turn d.seen d.drawn q.seen q.drawn h.actors h.actors_then (new_left cells.passes d.seen d.drawn (map cells_in firsts) (map cells_in h.fetchers) new_cells)
      (new_left queue.passes q.seen q.drawn (map asks_in firsts) (map asks_in h.fetchers) new_asks) h.acted in
      let acts = acted.deeds in
      let many : length acts ≡ length h.actors = acted.count in
      let cells_many : length (map cells_in firsts) ≡ length acts = length-map firsts cells_in ∙ (length-map h.actors pass_in ∙ sym many) in
      let asks_many : length (map asks_in firsts) ≡ length acts = length-map firsts asks_in ∙ (length-map h.actors pass_in ∙ sym many) in
      let fetched = fetched_all shows t turn d.seen (d.drawn + length acts) q.seen (q.drawn + length acts) h.fetchers h.fetchers_then
      (subst (λ (n : ℕ). AreNew cells.passes d.seen (d.drawn + n) (map cells_in h.fetchers)) cells_many (new_right cells.passes d.seen d.drawn (map cells_in firsts) (map cells_in h.fetchers) new_cells))
      (subst (λ (n : ℕ). AreNew queue.passes q.seen (q.drawn + n) (map asks_in h.fetchers)) asks_many (new_right queue.passes q.seen q.drawn (map asks_in firsts) (map asks_in h.fetchers) new_asks)) h.fetched in
      let serves = fetched.deeds in
      let deeds = acts ++ serves in
      let es = firsts_then ++ h.fetchers_then in
      let events_many : length (events_in acts) ≡ length acts = length-map acts (λ deed. deed.events) in
      let cells_back : AreBack cells.passes d.seen d.drawn (events_in deeds) (map cells_in es) =
      subst (λ l. AreBack cells.passes d.seen d.drawn l (map cells_in es)) (sym (map-append (λ (deed : Deed). deed.events) acts serves))
      (subst (λ l. AreBack cells.passes d.seen d.drawn (events_in acts ++ events_in serves) l) (sym (map-append cells_in firsts_then h.fetchers_then))
      (back_on cells.passes d.seen d.drawn (events_in acts) (events_in serves) (map cells_in firsts_then) (map cells_in h.fetchers_then) acted.cells_back
      (subst (λ (n : ℕ). AreBack cells.passes d.seen (d.drawn + n) (events_in serves) (map cells_in h.fetchers_then)) (sym events_many) fetched.cells_back))) in
      let asks_back : AreBack queue.passes q.seen q.drawn (entries_from q.drawn deeds) (map asks_in es) =
      subst (λ l. AreBack queue.passes q.seen q.drawn l (map asks_in es)) (sym (entries_append q.drawn acts serves))
      (subst (λ l. AreBack queue.passes q.seen q.drawn (entries_from q.drawn acts ++ entries_from (q.drawn + length acts) serves) l) (sym (map-append asks_in firsts_then h.fetchers_then))
      (back_on queue.passes q.seen q.drawn (entries_from q.drawn acts) (entries_from (q.drawn + length acts) serves) (map asks_in firsts_then) (map asks_in h.fetchers_then) acted.asks_back
      (subst (λ (n : ℕ). AreBack queue.passes q.seen (q.drawn + n) (entries_from (q.drawn + length acts) serves) (map asks_in h.fetchers_then)) (sym (entries_length q.drawn acts)) fetched.asks_back))) in
      let parts_many : length h.actors ≡ length parts = sym (length-map h.actors part_in) ∙ ap (length {A = Part}) h.parts_are in
      let passes_many : length h.actors + length h.fetchers ≡ length passes = ap (λ n. n + length h.fetchers) (sym (length-map h.actors pass_in)) ∙ (sym (length-append firsts h.fetchers) ∙ ap (length {A = TeamPass S}) h.passes_are) in
      let all_many : length deeds ≡ length passes = length-append acts serves ∙ (let x = acted.count in let y = fetched.count in let z = passes_many in let w : length acts + length serves ≡ length passes = omega arith in w) in
      let r = phased a m b passes es deeds drew h.took all_many cells_back asks_back still in
      let sum = ap (total (rises_of p)) (map-append cells_in firsts_then h.fetchers_then) ∙ total_append (rises_of p) (map cells_in firsts_then) (map cells_in h.fetchers_then) in
      record {
        played = subst (λ l. IsPhasePlayed shows t fetchers a l left b) h.parts_are (subst (λ l. IsPhasePlayed shows t fetchers a (map part_in h.actors) l b) (sym h.left_are) (record {
          served = servings_in acts;
          deeds = deeds;
          few = (let x = all_many in let y = count in omega arith);
          plays = record {
            is = inl (record {
              acts = acts;
              serves = serves;
              deeds_are = refl;
              acted = acted.are;
              count = (let x = fetched.count in let y = passes_many in let z = parts_many in let w = count in omega arith);
              fetched = fetched.are;
              served_are = refl;
            });
            cells = r.cells_phase;
            queue = r.asks_phase;
            caused = acted.caused;
            licensed = (let x = acted.licensed in let y = r.rises in let z = sum in omega arith);
          };
        }));
        cells_joined = r.cells_joined;
        asks_joined = r.asks_joined;
      }
