-- What each step leaves of what is known of a lane's store.
use Rattle.std.proofs.Common.{◌≡◌, ℕ, ◌+◌, ◌-◌, ◌^◌, ◌<◌, ◌≤◌, cond, nat_le, min, Bool, true, false, true≢false, IsTrue, List, [], ◌∷◌, ◌++◌, set, sym, refl, ap, ◌∙◌, subst, Some, None, arith, eq-eqb, ne_eqb}
use mathlib.Core.Option.{some}
use mathlib.Core.Logic.{dite}
use native.Mathlib.Decide.{ℕ_discrete}
use lib.ListN.{get_elem?}
use Rattle.std.proofs.lemmas.Bool.Decides.{nat_tests}
use Rattle.arr_history.specs.declared.event.Event.{Event}
use Rattle.arr_history.specs.declared.event.Event.TheVariants as event
use Rattle.arr_history.specs.State.{State}
use Rattle.arr_history.specs.Legal.{IsLegal}
use Rattle.arr_history.specs.History.{after}
use Rattle.pass_roster.specs.History.{StartsWith, total}
use Rattle.pass_roster.proofs.Sums.{total_set}
use Rattle.pass_roster.proofs.Beginnings.{starts_whole, starts_on, starts_more}
use Rattle.pin_words.specs.declared.lane.Taken.{Taken}
use Rattle.pin_words.specs.declared.doing.Ended.{Ended}
use Rattle.pin_words.specs.declared.doing.Doing.{Doing}
use Rattle.pin_words.specs.Plan.{Plan, is_void, shape_of, start_of}
use Rattle.pin_words.specs.Standing.{StandsFor}
use Rattle.pin_words.specs.Account.{one, times_in, lives_by, has_mark, WasMarked, filled, saved_in, rise, rise_ended, rose, clean_array, due, InLane, Untouched, Stood, Known, Returns}
use Rattle.pin_words.specs.Cells.{change}
use Rattle.pin_words.specs.Lanes.{taken}
use Rattle.pin_words.proofs.Histories.{after_on, lives_on, saves_on, marked_on, Saves, steady, no_save}
use Rattle.cell_store.specs.Store.{held_of}

rose_fits : (a before now rises : ℕ) → (before < 2 ^ 64 - 1 → a + rises ≤ before) → before ≤ now → now < 2 ^ 64 - 1 → a + (rises + rose before now) ≤ now
rose_fits a before now rises h up small = go (nat_le (min (before + 1) (2 ^ 64 - 1)) now) refl
  where
    go : (b : Bool) → nat_le (min (before + 1) (2 ^ 64 - 1)) now ≡ b → a + (rises + cond b 1 0) ≤ now
    go true e = let k = h (omega arith) in let m : min (before + 1) (2 ^ 64 - 1) ≤ now = grind (arith, nat_tests) in omega arith
    go false e = let k = h (omega arith) in omega arith

pub clean_same : (s : State) (c : ℕ) → has_mark (s.cells c) ≡ false → clean_array s c ≡ Some (s.arrays c)
clean_same s c e = λ i. cond (e i) None (Some (s.arrays c))

module _ {S M : Type 0} (p : Plan S M) where
  abbrev D : Type 0
  D = Doing S M

  abbrev now : List Event → State
  now log = after (start_of p) log

  -- a history that is longer touches no fewer keys
  untouched_less : (log at : List Event) (key : List ℕ) → StartsWith log at → Untouched p log key → Untouched p at key
  untouched_less log at key b u c l m = u c l (subst (WasMarked c) (sym b.1) (marked_on c at b.0 m))

  -- the pass at id goes from d to w without an event
  pub known_stays : (l : ℕ) (x : S) (o : Taken S) (log : List Event) (views : List D) (ended : List Ended) (id : ℕ) (d w : D) → Known p l x o log views ended → get_elem? views id ≡ some d
      → ((c : ℕ) → InLane p l c → filled c w ≤ filled c d) → rise l w ≡ rise l d → Known p l x o log (set views id w) ended
  known_stays l x o log views ended id d w k at fewer same = record {
    told = k.told;
    told_log = k.told_log;
    begins = k.begins;
    stood = k.stood;
    covers = k.covers;
    puts = k.puts;
    gets = λ y c m. let q = k.gets y c m in let f = fewer c m in let s = total_set (filled c) views id d w at in omega arith;
    counted = λ small. let q = k.counted small in let s = total_set (rise l) views id d w at in omega arith;
  }

  -- the pass at id goes from d to w and makes the event e, which saves no cell of the lane
  pub known_moves : (l : ℕ) (x : S) (o : Taken S) (log : List Event) (views : List D) (ended : List Ended) (id : ℕ) (d w : D) (e : Event) → Known p l x o log views ended → get_elem? views id ≡ some d
      → IsLegal (shape_of p) (now log) e → ((c : ℕ) → InLane p l c → Saves c e → ⊥)
      → ((c : ℕ) → InLane p l c → lives_by c e + filled c w ≤ filled c d) → rise l w ≡ rise l d → Known p l x o (log ++ e ∷ []) (set views id w) ended
  known_moves l x o log views ended id d w e k at legal unsaved fewer same = record {
    told = k.told;
    told_log = k.told_log;
    stood = k.stood;
    begins = starts_on (log ++ e ∷ []) log o.at (starts_more log (e ∷ [])) k.begins;
    covers = λ y c m v h. let u = steady (shape_of p) (now log) e c legal (unsaved c m) (subst (λ (s : State). has_mark (s.cells c) ≡ false) (after_on (start_of p) log e) h) in
        k.covers y c m v u.0 ∙ ap (λ (a : ℕ → ℕ). Some a) (sym (ap (λ (s : State). s.arrays c) (after_on (start_of p) log e) ∙ u.1));
    puts = λ y c m. let q = k.puts y c m in let n = no_save c e (unsaved c m) in let s = saves_on c log e in omega arith;
    gets = λ y c m. let q = k.gets y c m in let f = fewer c m in let s = total_set (filled c) views id d w at in let n = lives_on c log e in omega arith;
    counted = λ small. let q = k.counted small in let s = total_set (rise l) views id d w at in omega arith;
  }

  -- a store at home stands for the history as it is now
  pub stands_now : (l : ℕ) (x : S) (o : Taken S) (log : List Event) (views : List D) (ended : List Ended) → Known p l x o log views ended → o.changes ≡ [] → IsTrue (p.shows x).told → Stood p l (p.shows x) (p.shows o.store) log
  stands_now l x o log views ended k none y = let s = k.stood y in record {
    arrays = λ c m v h. let q : clean_array (now o.at) c ≡ Some ((now log).arrays c) = (λ i. due p o.at (sym none i) c) ∙ k.covers y c m v h in go c m v (has_mark ((now o.at).cells c)) refl q;
    voids = s.voids;
    keys = λ key u. s.keys key (untouched_less log o.at key k.begins u);
  }
    where
      go : (c : ℕ) → InLane p l c → is_void p c ≡ false → (b : Bool) → has_mark ((now o.at).cells c) ≡ b → cond b None (Some ((now o.at).arrays c)) ≡ Some ((now log).arrays c)
          → StandsFor p (held_of (p.shows o.store)) c ((now log).arrays c)
      go c m v true e q = absurd (let x : None ≡ Some ((now log).arrays c) = q in cc)
      go c m v false e q = let x : (now o.at).arrays c ≡ (now log).arrays c = cc in subst (StandsFor p (held_of (p.shows o.store)) c) x ((k.stood y).arrays c m v e)

  -- the store as it is taken now
  pub known_taken : (l : ℕ) (x : S) (o : Taken S) (log : List Event) (views : List D) (ended : List Ended) → Known p l x o log views ended → o.changes ≡ [] → o.fills ≡ [] → Known p l x (taken o.lane o.store log) log views ended
  known_taken l x o log views ended k none no_fill = record {
    told = k.told;
    told_log = k.told_log;
    counted = k.counted;
    begins = starts_whole log;
    stood = stands_now l x o log views ended k none;
    covers = λ y c m v h. clean_same (now log) c h;
    puts = λ y c m. let q = k.puts y c m in let n : saved_in c o.changes ≡ 0 = ap (saved_in c) none in omega arith;
    gets = λ y c m. let q = k.gets y c m in let n : times_in c o.fills ≡ 0 = ap (times_in c) no_fill in omega arith;
  }

  -- the last step of a fill for the cell c
  pub known_fills : (l : ℕ) (x : S) (o : Taken S) (log : List Event) (views : List D) (ended : List Ended) (id : ℕ) (d w : D) (c : ℕ) → Known p l x o log views ended → get_elem? views id ≡ some d
      → ((a : ℕ) → filled a w ≤ one c a + filled a d) → rise l w ≡ rise l d → Known p l x (record o { fills = c ∷ o.fills }) log (set views id w) ended
  known_fills l x o log views ended id d w c k at more same = record {
    told = k.told;
    told_log = k.told_log;
    begins = k.begins;
    stood = k.stood;
    covers = k.covers;
    puts = k.puts;
    gets = λ y a m. let q = k.gets y a m in let f = more a in let s = total_set (filled a) views id d w at in omega arith;
    counted = λ small. let q = k.counted small in let s = total_set (rise l) views id d w at in omega arith;
  }

  -- a marked cell is closed while the pass has a lane
  pub known_closes : (l : ℕ) (x : S) (o : Taken S) (log : List Event) (views : List D) (ended : List Ended) (c : ℕ) (past : List Event) → Known p l x o log views ended
      → has_mark ((now log).cells c) ≡ true → Known p l x (record o { changes = change c false past ∷ o.changes }) log views ended
  known_closes l x o log views ended c past k marked = record {
    told = k.told;
    told_log = k.told_log;
    begins = k.begins;
    stood = k.stood;
    gets = k.gets;
    counted = k.counted;
    puts = λ y a m. let q = k.puts y a m in omega arith;
    covers = λ y a m v h. ap (λ (b : Bool). cond b None (due p o.at o.changes a)) (ne_eqb c a (λ e. true≢false (sym marked ∙ ((λ i. has_mark ((now log).cells (e i))) ∙ h)))) ∙ k.covers y a m v h;
  }

  -- a cell of the lane goes saved, its array being what it was at an earlier time
  pub known_saves : (l : ℕ) (x : S) (o : Taken S) (log : List Event) (views : List D) (ended : List Ended) (id : ℕ) (d w : D) (j c : ℕ) (past : List Event) → Known p l x o log views ended → get_elem? views id ≡ some d
      → IsLegal (shape_of p) (now log) (event.Gone j c true) → (now past).arrays c ≡ (now log).arrays c
      → ((a : ℕ) → filled a w ≤ filled a d) → rise l w ≡ rise l d → Known p l x (record o { changes = change c true past ∷ o.changes }) (log ++ event.Gone j c true ∷ []) (set views id w) ended
  known_saves l x o log views ended id d w j c past k at legal frozen fewer same = record {
    told = k.told;
    told_log = k.told_log;
    stood = k.stood;
    begins = starts_on (log ++ e ∷ []) log o.at (starts_more log (e ∷ [])) k.begins;
    covers = λ y a m v h. dite (ℕ_discrete a c)
        (λ q. (λ i. cond (eq-eqb c a (sym q) i) (Some ((now past).arrays a)) (due p o.at o.changes a)) ∙ ap (λ (f : ℕ → ℕ). Some f) ((λ i. (now past).arrays (q i)) ∙ frozen ∙ ((λ i. (now log).arrays (sym q i)) ∙ sym (ap (λ (s : State). s.arrays a) (after_on (start_of p) log e)))))
        (λ n. let u = steady (shape_of p) (now log) e a legal n (subst (λ (s : State). has_mark (s.cells a) ≡ false) (after_on (start_of p) log e) h) in
        (λ i. cond (ne_eqb c a (λ q. n (sym q)) i) (Some ((now past).arrays a)) (due p o.at o.changes a)) ∙ (k.covers y a m v u.0 ∙ ap (λ (f : ℕ → ℕ). Some f) (sym (ap (λ (s : State). s.arrays a) (after_on (start_of p) log e) ∙ u.1))));
    puts = λ y a m. let q = k.puts y a m in let s = saves_on a log e in omega arith;
    gets = λ y a m. let q = k.gets y a m in let f = fewer a in let s = total_set (filled a) views id d w at in let n = lives_on a log e in omega arith;
    counted = λ small. let q = k.counted small in let s = total_set (rise l) views id d w at in omega arith;
  }
    where
      e : Event
      e = event.Gone j c true

  -- the store comes home as y
  pub known_returns : (l : ℕ) (x : S) (o : Taken S) (log seen : List Event) (views : List D) (ended : List Ended) (id : ℕ) (d w : D) (y : S) → Known p l x o log views ended → get_elem? views id ≡ some d → o.lane ≡ l
      → StartsWith log seen → Returns p o seen y → ((c : ℕ) → filled c w ≤ filled c d) → rise l w ≡ rise l d + rose (p.shows o.store).faults (p.shows y).faults
      → Known p l x (taken l y log) log (set views id w) ended
  known_returns l x o log seen views ended id d w y k at l_is begins r fewer more = record {
    told = r.told ∙ k.told;
    told_log = r.told_log ∙ k.told_log;
    begins = starts_whole log;
    stood = λ told. let tells : IsTrue (p.shows o.store).told = subst IsTrue (sym k.told) told in let s = k.stood told in record {
      arrays = λ c m v h. r.arrays tells c (here c m) v ((now log).arrays c) (k.covers told c m v h);
      voids = λ c m v. r.voids tells c (here c m) v;
      keys = λ key u. r.keys tells key (untouched_less log seen key begins u) ∙ s.keys key (untouched_less log o.at key k.begins u);
    };
    covers = λ _ c m v h. clean_same (now log) c h;
    puts = λ told c m. let a = r.puts (subst IsTrue (sym k.told_log) told) c (here c m) in let b = k.puts told c m in omega arith;
    gets = λ told c m. let a = r.gets (subst IsTrue (sym k.told_log) told) c (here c m) in let b = k.gets told c m in let f = fewer c in let s = total_set (filled c) views id d w at in omega arith;
    counted = λ small. let q = rose_fits (p.shows x).faults (p.shows o.store).faults (p.shows y).faults (total (rise l) views + total (rise_ended l) ended) k.counted r.never_falls small in let s = total_set (rise l) views id d w at in omega arith;
  }
    where
      here : (c : ℕ) → InLane p l c → InLane p o.lane c
      here c m = (m.0, m.1 ∙ sym l_is)
