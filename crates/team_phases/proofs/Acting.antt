-- What actors and fetchers did together, from what each did by its new passes.
use Rattle.std.proofs.Common.{◌≡◌, ℕ, ◌+◌, ◌≤◌, List, [], ◌∷◌, All, length, map, refl, ap, subst, arith}
use Rattle.std.proofs.lemmas.List.Elements.{All-cons, All-nil}
use Rattle.std.specs.List.{AllZip}
use Rattle.arr_history.specs.declared.event.Event.{Event}
use Rattle.arr_history.proofs.Counts.{count_by-append}
use Rattle.cell_file.specs.Keys.{KeyNames}
use Rattle.cell_grid.specs.declared.level.Level.{Level}
use Rattle.cell_store.specs.Store.{Contents}
use Rattle.live_cells.specs.declared.cells.Cells.{Cells}
use Rattle.live_cells.specs.Cells.{table}
use Rattle.pass_roster.specs.History.{total}
use Rattle.pass_roster.specs.Works.{Works}
use Rattle.pin_rule.specs.declared.made.Made.{Made}
use Rattle.pin_rule.specs.Calls.{made_of, plan_at}
use Rattle.pin_rule.specs.Going.{Goes}
use Rattle.pin_words.specs.declared.doing.Doing.{Doing}
use Rattle.pin_words.specs.Plan.{Plan, shown}
use Rattle.pin_words.specs.Words as cells
use Rattle.queue_desk.specs.Asking.{AskingPass, AsksQueue, queue_entry}
use Rattle.queue_desk.specs.Desk.{QueueEntry}
use Rattle.std.specs.Prelude.{Option}
use Rattle.team_actors.specs.Deeds.{Deed, IsActorsDeed, IsFetchersDeed}
use Rattle.team_actors.specs.Rises.{rises_of}
use Rattle.team_passes.specs.declared.team_pass.TeamPass.{TeamPass}
use Rattle.team_passes.specs.Drawn.{AreNew}
use Rattle.team_passes.specs.Teams.{QueueTurn, cells_in, asks_in, IsTeamPass}
use Rattle.team_passes.proofs.Phasing.{AreBack}
use Rattle.team_phases.specs.declared.actor.Actor.{Actor}
use Rattle.team_phases.specs.Phases.{AreActorsDeeds, AreFetchersDeeds, events_in, entries_from, servings_in}
use Rattle.team_phases.specs.Plays.{AllCaused}
use Rattle.team_phases.specs.Working.{HasActed, HasFetched, pass_in, part_in, done_in, replies_in, shots_in}
use Rattle.team_run.specs.Faults.{is_fault, is_fault_served, fault_replies, fault_servings}
use Rattle.thread_plan.specs.Parts.{commands_in}
use Rattle.thread_plan.specs.Scenes.{flat}
use Rattle.turn_cell.specs.PassView as queue
use Rattle.volatile_cell.specs.Asked.{Asked}

works_cells : {S M : Type 0} (p : Plan S M) (d d' : Doing S M) (events : List Event) → Goes p d events d' → Works cells.passes d events d'
works_cells p d d' events went = record { number = went.number; more = went.between; seen = went.seen; mine = went.mine; are_own = went.own }

works_asks : (q q' : AskingPass) (calls : List Asked) (k : ℕ) → q.number ≡ k → AsksQueue q calls q' → Works queue.passes q (map (queue_entry k) calls) q'
works_asks q q' calls k is a = subst (λ n. Works queue.passes q (map (queue_entry n) calls) q') is
    (record { number = ap (λ v. v.number) a.same; more = a.between; seen = a.seen; mine = a.mine; are_own = a.own })

module _ {S : Type 0} (shows : S → Contents) (t : Cells S) (turn : QueueTurn) where
  abbrev pub plan : Plan S (Option (Made S))
  plan = plan_at shows (table t)

  abbrev pub levels : List Level
  levels = (made_of (table t)).levels.value

  abbrev pub keys : KeyNames
  keys = (made_of (table t)).keys.value

  -- actors came from xs to ys, with passes that are numbered from k and from j
  pub record Acted (seen : List Event) (k : ℕ) (heard : List QueueEntry) (j : ℕ) (xs ys : List (Actor S)) : Type 0 where
    pub deeds : List Deed
    pub count : length deeds ≡ length xs
    pub are : AreActorsDeeds levels k (map commands_in (map part_in xs)) (map replies_in (map done_in ys)) (map shots_in (map done_in ys)) deeds
    pub cells_back : AreBack cells.passes seen k (events_in deeds) (map cells_in (map pass_in ys))
    pub asks_back : AreBack queue.passes heard j (entries_from j deeds) (map asks_in (map pass_in ys))
    pub caused : AllCaused levels keys (shown plan) (map commands_in (map part_in xs)) (map replies_in (map done_in ys))
    pub licensed : fault_replies (flat (map replies_in (map done_in ys))) + fault_servings (servings_in deeds) ≤ total (rises_of plan) (map cells_in (map pass_in ys))

  pub acted_all : (seen : List Event) (k : ℕ) (heard : List QueueEntry) (j : ℕ) (xs ys : List (Actor S))
      → AreNew cells.passes seen k (map cells_in (map pass_in xs)) → AreNew queue.passes heard j (map asks_in (map pass_in xs)) → AllZip (HasActed shows t turn) xs ys → Acted seen k heard j xs ys
  acted_all seen k heard j [] [] new asked zip = record { deeds = []; count = refl; are = tt; cells_back = tt; asks_back = tt; caused = tt; licensed = omega arith }
  acted_all seen k heard j [] (y ∷ ys) new asked zip = absurd zip
  acted_all seen k heard j (x ∷ xs) [] new asked zip = absurd zip
  acted_all seen k heard j (x ∷ xs) (y ∷ ys) new asked zip =
      let a = zip.0.acts in let r = acted_all seen (k + 1) heard (j + 1) xs ys new.1 asked.1 zip.1 in
      let told = replies_in (done_in y) in
      record {
        deeds = a.deed ∷ r.deeds;
        count = (let e = r.count in omega arith);
        are = (subst (λ n. IsActorsDeed levels n (commands_in (part_in x)) told (shots_in (done_in y)) a.deed) new.0.number a.are, r.are);
        cells_back = (cells_in (pass_in x), new.0, works_cells plan (cells_in (pass_in x)) (cells_in (pass_in y)) a.deed.events a.does.went, r.cells_back);
        asks_back = (asks_in (pass_in x), asked.0, works_asks (asks_in (pass_in x)) (asks_in (pass_in y)) a.deed.calls j asked.0.number a.does.asked, r.asks_back);
        caused = (a.caused, r.caused);
        licensed = (let e = count_by-append (λ q. is_fault q.answer) told (flat (map replies_in (map done_in ys))) in let f = count_by-append is_fault_served a.deed.servings (servings_in r.deeds) in
            let u = a.licensed in let v = r.licensed in omega arith);
      }

  pub all_acted : (xs ys : List (Actor S)) → AllZip (HasActed shows t turn) xs ys → All (λ a. IsTeamPass t turn (pass_in a)) ys
  all_acted [] [] zip = All-nil (λ a. IsTeamPass t turn (pass_in a))
  all_acted [] (y ∷ ys) zip = absurd zip
  all_acted (x ∷ xs) [] zip = absurd zip
  all_acted (x ∷ xs) (y ∷ ys) zip = All-cons (λ a. IsTeamPass t turn (pass_in a)) y ys zip.0.pass (all_acted xs ys zip.1)

  -- fetchers came from xs to ys
  pub record Fetched (seen : List Event) (k : ℕ) (heard : List QueueEntry) (j : ℕ) (xs ys : List (TeamPass S)) : Type 0 where
    pub deeds : List Deed
    pub count : length deeds ≡ length xs
    pub are : AreFetchersDeeds levels k deeds
    pub cells_back : AreBack cells.passes seen k (events_in deeds) (map cells_in ys)
    pub asks_back : AreBack queue.passes heard j (entries_from j deeds) (map asks_in ys)

  pub fetched_all : (seen : List Event) (k : ℕ) (heard : List QueueEntry) (j : ℕ) (xs ys : List (TeamPass S))
      → AreNew cells.passes seen k (map cells_in xs) → AreNew queue.passes heard j (map asks_in xs) → AllZip (HasFetched shows t turn) xs ys → Fetched seen k heard j xs ys
  fetched_all seen k heard j [] [] new asked zip = record { deeds = []; count = refl; are = tt; cells_back = tt; asks_back = tt }
  fetched_all seen k heard j [] (y ∷ ys) new asked zip = absurd zip
  fetched_all seen k heard j (x ∷ xs) [] new asked zip = absurd zip
  fetched_all seen k heard j (x ∷ xs) (y ∷ ys) new asked zip =
      let a = zip.0.fetches in let r = fetched_all seen (k + 1) heard (j + 1) xs ys new.1 asked.1 zip.1 in record {
        deeds = a.deed ∷ r.deeds;
        count = (let e = r.count in omega arith);
        are = (subst (λ n. IsFetchersDeed levels n a.deed) new.0.number a.are, r.are);
        cells_back = (cells_in x, new.0, works_cells plan (cells_in x) (cells_in y) a.deed.events a.does.went, r.cells_back);
        asks_back = (asks_in x, asked.0, works_asks (asks_in x) (asks_in y) a.deed.calls j asked.0.number a.does.asked, r.asks_back);
      }

  pub all_fetched : (xs ys : List (TeamPass S)) → AllZip (HasFetched shows t turn) xs ys → All (IsTeamPass t turn) ys
  all_fetched [] [] zip = All-nil (IsTeamPass t turn)
  all_fetched [] (y ∷ ys) zip = absurd zip
  all_fetched (x ∷ xs) [] zip = absurd zip
  all_fetched (x ∷ xs) (y ∷ ys) zip = All-cons (IsTeamPass t turn) y ys zip.0.pass (all_fetched xs ys zip.1)
