-- Splits, joins and trails keep the whole rule.
use Rattle.std.proofs.Common.{◌≡◌, ◌≢◌, ◌⊎◌, ℕ, zero, suc, ◌+◌, ◌<◌, ◌≤◌, List, [], ◌∷◌, ◌++◌, length, get_or, set, replicate, sym, refl, ap, ◌∙◌, subst, inl, inr, ⊎_elim, Option, Some, None, arith}
use mathlib.Core.Option.{none, some, some-injective, some-ne-none}
use mathlib.Core.Option as maybe
use mathlib.Core.Logic.{dite}
use native.Mathlib.Decide.{ℕ_discrete}
use lib.ListN.{get_elem?}
use lib.Seq.{set-get_or}
use Rattle.atomic_table.specs.Table.{State as Table, step, keeps, Allows, Splits, Joins}
use Rattle.atomic_table.proofs.Lists.{at_set, set_here, set_else, set_again, at_longer}
use Rattle.arr_history.specs.declared.event.Event.{Event}
use Rattle.arr_history.specs.State.{State}
use Rattle.arr_history.specs.History.{after, AreLegal, pass_of}
use Rattle.pass_roster.specs.History.{StartsWith, longer, entries_by}
use Rattle.pass_roster.specs.Roster.{SomeOut, Roster}
use Rattle.pass_roster.proofs.Sums.{total_set, total_snoc, at_end, within, same_view}
use Rattle.pass_roster.proofs.Beginnings.{longer_is}
use Rattle.pass_roster.proofs.Entries.{none_between}
use Rattle.pin_words.specs.declared.holding.Held.{Held}
use Rattle.pin_words.specs.declared.lane.Taken.{Taken}
use Rattle.pin_words.specs.declared.doing.Ended.{Ended}
use Rattle.pin_words.specs.declared.doing.Doing.{Doing}
use Rattle.pin_words.specs.declared.doing.Stage.{Stage}
use Rattle.pin_words.specs.declared.doing.Stage.TheVariants.{Idle, Joining}
use Rattle.pin_words.specs.Plan.{Plan, shape_of, start_of}
use Rattle.pin_words.specs.Account.{filled_in, filled, rise, rise_ended, times_in}
use Rattle.pin_words.specs.Words.{out_of, out, passes, times, times_held, visits, doing_counts, slots_held, Each, HeldOk, Knowns, Parts, works, times_left, given_to}
use Rattle.pin_words.specs.Rule.{Staged, HoldsOk, HoldsNone, Ruled, Sat}
use Rattle.pin_words.specs.Tells.{SawOthers, HasSeen}
use Rattle.pin_words.specs.Ends.{parent, child, ended_as, IsBare, joined, spent_view, trail_of, Told, settled}
use Rattle.pin_words.proofs.Parts.{cells_stay, slots_stay}
use Rattle.pin_words.proofs.Frames.{frames_stay}
use Rattle.pin_words.proofs.LaneParts.{lanes_stay}
use Rattle.pin_words.proofs.Histories.{legal_before}
use Rattle.pin_words.proofs.Keeping.{now, Shown, holds_as, quiet, knowns_stay, given_stays}
use Rattle.pass_roster.proofs.Splits.{roster_splits}
use Rattle.pass_roster.proofs.Joins.{roster_joins}

no_rise : (n l : ℕ) → ◌≡◌ {A = ℕ} (get_or (replicate n 0) l 0) 0
no_rise zero l = refl
no_rise (suc n) zero = refl
no_rise (suc n) (suc l) = no_rise n l

pub replicate_long : (n : ℕ) → length {A = ℕ} (replicate n 0) ≡ n
replicate_long zero = refl
replicate_long (suc n) = ap suc (replicate_long n)

module _ {S M : Type 0} (p : Plan S M) where
  abbrev D : Type 0
  D = Doing S M

  abbrev St : Type 0
  St = Table (Option S) D

  -- a view that counts for nothing
  pub record Blank (u : D) : Type 0 where
    pub pins : u.pins ≡ []
    pub visits : (c : ℕ) → visits c u.stage ≡ 0
    pub works : (c : ℕ) → works c u ≡ 0
    pub given : u.given ≡ []
    pub slots : u.slots ≡ []
    pub lane : u.lane ≡ None
    pub rises : (l : ℕ) → rise l u ≡ 0

  blank_counts : (u : D) → Blank u → (c : ℕ) → doing_counts c u ≡ 0
  blank_counts u b c = let t : times c u.pins ≡ 0 = ap (times c) b.pins in let v = b.visits c in omega arith

  none_some : (q : Option (Taken S)) (o : Taken S) → q ≡ None → q ≡ Some o → ⊥
  none_some q o a b = let e : None ≡ Some o = sym a ∙ b in cc

  none_given : (x : S) → None ≡ Some x → ⊥
  none_given x e = cc

  -- one more such view
  parts_longer : (log : List Event) (ended : List Ended) (ws : List ℕ) (hs : List (maybe.Option (Option S))) (views : List D) (u : D) → Parts p log ended ws hs views → Blank u → Parts p log ended ws hs (views ++ u ∷ [])
  parts_longer log ended ws hs views u r b = record {
    owner = r.owner;
    entry = r.entry;
    wide = r.wide;
    deep = r.deep;
    cells = record { each = λ c l. r.cells.each c l ∙ (let t = total_snoc (doing_counts c) views u in let z = blank_counts u b c in omega arith); beyond = r.cells.beyond; worked = λ c l. r.cells.worked c l ∙ (let t = total_snoc (works c) views u in let z = b.works c in omega arith) };
    slots = record { each = λ s l. r.slots.each s l ∙ (let t = total_snoc (slots_held s) views u in let z : slots_held s u ≡ 0 = ap (times_held s) b.slots in omega arith); taken = r.slots.taken; low = r.slots.low };
    frames = record {
      each = r.frames.each;
      small = r.frames.small;
      clear = r.frames.clear;
      held = λ j f t. ⊎_elim (λ (q : get_elem? views j ≡ some f). r.frames.held j f q)
          (λ (q : (j ≡ length views) × (u ≡ f)). subst (λ (v : D). Each (HeldOk p (after (start_of p) log) ws v.number) v.slots) q.1 (subst (Each (HeldOk p (after (start_of p) log) ws u.number)) (sym b.slots) tt)) (at_end views u f j t);
    };
    lanes = record {
      named = r.lanes.named;
      bit = r.lanes.bit;
      home = r.lanes.home;
      away = λ l h n. (let a = r.lanes.away l h n in (a.0, at_longer views (u ∷ []) (r.owner l) a.0 a.1, a.2));
      holds = λ j f o t h. ⊎_elim (λ (q : get_elem? views j ≡ some f). r.lanes.holds j f o q h) (λ (q : (j ≡ length views) × (u ≡ f)). absurd (none_some u.lane o b.lane (ap (λ (v : D). v.lane) q.1 ∙ h))) (at_end views u f j t);
    };
    known = λ l x is. let k = r.known l x is in record {
      told = k.told;
      told_log = k.told_log;
      begins = k.begins;
      stood = k.stood;
      covers = k.covers;
      puts = k.puts;
      gets = λ y c m. (let q = k.gets y c m in let t = total_snoc (filled c) views u in let z : filled c u ≡ 0 = ap (filled_in c) b.slots in omega arith);
      counted = λ small. (let q = k.counted small in let t = total_snoc (rise l) views u in let z = b.rises l in omega arith);
    };
    given = λ j f l x t o lone last. ⊎_elim (λ (q : get_elem? views j ≡ some f). r.given j f l x q o lone last)
        (λ (q : (j ≡ length views) × (u ≡ f)). absurd (none_given x (sym (ap (given_to l) (sym (ap (λ (v : D). v.given) q.1) ∙ b.given)) ∙ last))) (at_end views u f j t);
  }

  -- a view in the place of one that counts as much, with the same slots and lane; what is known of the stores is shown apart
  parts_as : (log : List Event) (ended ended' : List Ended) (ws : List ℕ) (hs : List (maybe.Option (Option S))) (views : List D) (id : ℕ) (d w : D) → (r : Parts p log ended ws hs views) → get_elem? views id ≡ some d
      → ((c : ℕ) → doing_counts c w ≡ doing_counts c d) → ((c : ℕ) → works c w ≡ works c d) → w.slots ≡ d.slots → (w.slots ≡ []) ⊎ (w.number ≡ d.number) → w.lane ≡ d.lane → w.given ≡ [] → Knowns p r.entry log (set views id w) ended' → Parts p log ended' ws hs (set views id w)
  parts_as log ended ended' ws hs views id d w r at same work slots' number lane given known = record {
    owner = r.owner;
    entry = r.entry;
    wide = r.wide;
    deep = r.deep;
    cells = cells_stay p W W ws ws views id d w r.cells at (λ c _. refl) (λ c. refl) same work;
    slots = slots_stay p W W ws ws views id d w r.slots at (λ c _. refl) (λ c. refl) (λ c i. times_held c (slots' i));
    frames = frames_stay p W W ws ws views id d w r.frames at (λ s i. refl) (λ c s h. h) (λ c. refl)
        (⊎_elim (λ (e : w.slots ≡ []). subst (Each (HeldOk p W ws w.number)) (sym e) tt) (λ (e : w.number ≡ d.number). subst (λ (q : ℕ × List Held). Each (HeldOk p W ws q.0) q.1) (λ i. (sym e i, sym slots' i)) (r.frames.held id d at)) number) (λ j f _ _. inr (λ c h. h));
    lanes = lanes_stay p r.owner r.entry ws ws hs views id d w r.lanes at (λ l _. refl) lane;
    known = known;
    given = λ j f l x t o lone last. ⊎_elim (λ (q : (j ≡ id) × (w ≡ f)). absurd (none_given x (sym (ap (given_to l) (sym (ap (λ (v : D). v.given) q.1) ∙ given)) ∙ last)))
        (λ (q : (j ≢ id) × (get_elem? views j ≡ some f)). r.given j f l x q.1 o lone last) (at_set views id j w f t);
  }
    where
      W : State
      W = after (start_of p) log

  pub splits_pass : (id : ℕ) (v : D) → v.number ≡ 0 → v.stage ≡ Idle → v.drawn < length v.ended + 64 → Splits (Ruled p) id v (parent v) (child v)
  splits_pass id v zero_is idle room s r at = record {
    log = r.log;
    drawn = r.drawn + 1;
    ended = r.ended;
    roster = roster_splits passes r.log r.drawn r.ended s.views id v w u r.roster at lv zero_is room
        record { number = refl; seen = refl; mine = refl; ended = refl; drawn = refl; out = lv; new_number = refl; new_seen = refl; new_mine = refl; new_out = refl };
    legal = r.legal;
    holds = λ j f t o. ⊎_elim (λ (q : get_elem? (set s.views id w) j ≡ some f). ⊎_elim (λ (k : (j ≡ id) × (w ≡ f)). subst (HoldsOk p (now p s r)) k.1 (holds_as p (now p s r) v w refl refl refl refl refl refl refl ok.stage ok))
        (λ (k : (j ≢ id) × (get_elem? s.views j ≡ some f)). r.holds j f k.1 o) (at_set s.views id j w f q))
        (λ (q : (j ≡ length (set s.views id w)) × (u ≡ f)). subst (HoldsOk p (now p s r)) q.1 record {
          made = ok.made;
          pins = λ c. sym (r.nobody v.drawn c (λ i g y o n. let b = (r.roster.each i g y o).below in let k = known.1 in absurd (omega arith)));
          each_pin = tt;
          each_claim = tt;
          each_slot = tt;
          each_left = tt;
          few = omega arith;
          once = λ c. omega arith;
          once_left = λ c. omega arith;
          once_filled = λ c. omega arith;
          each_rise = replicate_long (length v.rises) ∙ ok.each_rise;
          stage = tt;
        })
        (at_end (set s.views id w) u f j t);
    spent = λ j f t o. ⊎_elim (λ (q : get_elem? (set s.views id w) j ≡ some f). ⊎_elim (λ (k : (j ≡ id) × (w ≡ f)). let a : out w ≡ out f = ap out k.1 in let b : out w ≡ 1 = lv in let c : out f ≡ 0 = o in absurd (omega arith))
        (λ (k : (j ≢ id) × (get_elem? s.views j ≡ some f)). r.spent j f k.1 o) (at_set s.views id j w f q))
        (λ (q : (j ≡ length (set s.views id w)) × (u ≡ f)). let a : out u ≡ out f = ap out q.1 in let b : out u ≡ 1 = refl in let c : out f ≡ 0 = o in absurd (omega arith)) (at_end (set s.views id w) u f j t);
    nobody = λ k c none_is. r.nobody k c (λ j f t o n. dite (ℕ_discrete j id)
        (λ q. none_is id w (at_longer (set s.views id w) (u ∷ []) id w (set_here s.views id w (within s.views id v at))) lv (ap (λ (y : D). y.number) (same_view s.views id j v f (sym q) at t) ∙ n))
        (λ q. none_is j f (at_longer (set s.views id w) (u ∷ []) j f (set_else s.views id j w q ∙ t)) o n));
    parts = parts_longer r.log r.ended s.words s.homes (set s.views id w) u (parts_as r.log r.ended r.ended s.words s.homes s.views id v w r.parts at (λ c. refl) (λ c. refl) refl (inr refl) refl refl (knowns_stay p s r id v w at refl refl))
        record { pins = refl; visits = λ c. refl; works = λ c. refl; given = refl; slots = refl; lane = refl; rises = λ l. no_rise (length v.rises) l };
  }
    where
      w : D
      w = parent v

      u : D
      u = child v

      lv : out v ≡ 1
      lv = ap out_of idle

      ok : HoldsOk p (now p s r) v
      ok = r.holds id v at lv

      known : (v.ended ≡ r.ended) × (v.drawn ≡ r.drawn)
      known = (r.roster.each id v at lv).first zero_is

  pub joins_pass : (made : M) (id : ℕ) (v : D) (other : ℕ) (e : D) → v.number ≡ 0 → v.stage ≡ Idle → e.stage ≡ Idle → IsBare e → Joins (Ruled p) id v other e (joined v e) (spent_view made)
  joins_pass made id v other e zero_is idle idle' bare s r at apart_is at_b = record {
    log = r.log;
    drawn = r.drawn;
    ended = r.ended ++ ended_as e ∷ [];
    roster = roster_then;
    legal = r.legal;
    holds = λ j f t o. ⊎_elim (λ (q : (j ≡ other) × (sp ≡ f)). let y : out sp ≡ out f = ap out q.1 in let x : out sp ≡ 0 = refl in let o' : out f ≡ 1 = o in absurd (omega arith))
        (λ (q : (j ≢ other) × (get_elem? (set s.views id b) j ≡ some f)). ⊎_elim (λ (k : (j ≡ id) × (b ≡ f)). subst (HoldsOk p (now p s r)) k.1 (holds_as p (now p s r) v b refl refl refl refl refl refl refl (others, both.2) ok))
        (λ (k : (j ≢ id) × (get_elem? s.views j ≡ some f)). r.holds j f k.1 o) (at_set s.views id j b f q.1)) (at_set (set s.views id b) other j sp f t);
    spent = λ j f t o. ⊎_elim (λ (q : (j ≡ other) × (sp ≡ f)). subst (HoldsNone p) q.1 record { pins = refl; claims = refl; leaving = refl; slots = refl; lane = refl; rises = refl })
        (λ (q : (j ≢ other) × (get_elem? (set s.views id b) j ≡ some f)). ⊎_elim (λ (k : (j ≡ id) × (b ≡ f)). let y : out b ≡ out f = ap out k.1 in let x : out b ≡ 1 = refl in let o' : out f ≡ 0 = o in absurd (omega arith))
        (λ (k : (j ≢ id) × (get_elem? s.views j ≡ some f)). r.spent j f k.1 o) (at_set s.views id j b f q.1)) (at_set (set s.views id b) other j sp f t);
    nobody = λ k c none_is. dite (ℕ_discrete e.number k) (λ q. (λ i. (now p s r).pins (sym q i) c) ∙ (sym ((r.holds other e at' le).pins c) ∙ ap (times c) bare.pins))
        (λ ne. r.nobody k c (λ j f t o n. dite (ℕ_discrete j id)
        (λ q. none_is id b here refl (ap (λ (y : D). y.number) (same_view s.views id j v f (sym q) at t) ∙ n))
        (λ q. dite (ℕ_discrete j other) (λ m. ne (ap (λ (y : D). y.number) (same_view s.views other j e f (sym m) at' t) ∙ n)) (λ m. none_is j f (set_else (set s.views id b) other j sp m ∙ (set_else s.views id j b q ∙ t)) o n))));
    parts = parts_as r.log r.ended (r.ended ++ ended_as e ∷ []) s.words s.homes (set s.views id b) other e sp first at_b
        (λ c. let x : times c e.pins ≡ 0 = ap (times c) bare.pins in let y : visits c e.stage ≡ 0 = ap (visits c) idle' in let w : doing_counts c sp ≡ 0 = refl in omega arith)
        (λ c. let x : times_in c e.claims ≡ 0 = ap (times_in c) bare.claims in let y : times_left c e.leaving ≡ 0 = ap (times_left c) bare.leaving in let w : works c sp ≡ 0 = refl in omega arith)
        (sym bare.slots) (inl refl) (sym bare.lane) refl
        (λ l x is. let k = first.known l x is in record {
          told = k.told;
          told_log = k.told_log;
          begins = k.begins;
          stood = k.stood;
          covers = k.covers;
          puts = k.puts;
          gets = λ y c m. (let q = k.gets y c m in let t = total_set (filled c) (set s.views id b) other e sp at_b in let z : filled c sp ≡ 0 = refl in omega arith);
          counted = λ small. (let q = k.counted small in let t = total_set (rise l) (set s.views id b) other e sp at_b in let z : rise l sp ≡ 0 = refl in let n = total_snoc (rise_ended l) r.ended (ended_as e) in let m : rise_ended l (ended_as e) ≡ rise l e = refl in omega arith);
        });
  }
    where
      b : D
      b = joined v e

      sp : D
      sp = spent_view made

      lv : out v ≡ 1
      lv = ap out_of idle

      le : out e ≡ 1
      le = ap out_of idle'

      ok : HoldsOk p (now p s r) v
      ok = r.holds id v at lv

      at' : get_elem? s.views other ≡ some e
      at' = sym (set_else s.views id other b apart_is) ∙ at_b

      both : StartsWith r.log (longer v.seen e.seen) × StartsWith (longer v.seen e.seen) v.seen × StartsWith (longer v.seen e.seen) e.seen × ((v.seen ≡ r.log) ⊎ (e.seen ≡ r.log) → longer v.seen e.seen ≡ r.log)
      both = longer_is r.log v.seen e.seen (r.roster.each id v at lv).begins (r.roster.each other e at' le).begins

      here : get_elem? (set (set s.views id b) other sp) id ≡ some b
      here = set_else (set s.views id b) other id sp (λ q. apart_is (sym q)) ∙ set_here s.views id b (within s.views id v at)

      roster_then : Roster passes r.log r.drawn (r.ended ++ ended_as e ∷ []) (set (set s.views id b) other sp)
      roster_then = roster_joins passes r.log r.drawn r.ended s.views id v other e b sp (ended_as e) r.roster at lv zero_is apart_is at' le
          record { number = refl; seen = refl; mine = refl; ended = refl; drawn = refl; out = refl; ended_number = refl; ended_mine = refl; spent = refl }

      -- what the pass sees now and hadn't seen is others' doing: it had seen all that it made
      others : SawOthers 0 v.seen (longer v.seen e.seen)
      others = (
        both.1.0,
        both.1.1,
        none_between pass_of 0 v.seen both.1.0 (ap (entries_by pass_of 0) (sym both.1.1)
            ∙ subst (λ (k : ℕ). entries_by pass_of k (longer v.seen e.seen) ≡ entries_by pass_of k v.seen) zero_is ((roster_then.each id b here refl).all_seen ∙ sym (r.roster.each id v at lv).all_seen)),
      )

      first : Parts p r.log r.ended s.words s.homes (set s.views id b)
      first = parts_as r.log r.ended r.ended s.words s.homes s.views id v b r.parts at (λ c. ap (λ (st : Stage). times c v.pins + visits c st) (sym idle)) (λ c. refl) refl (inr refl) refl refl (knowns_stay p s r id v b at refl refl)

  pub settles_pass : (plan : M → Plan S M) → plan p.made ≡ p → (slots id : ℕ) (me : Sat S M) (a b : List Event) → me.0.stage ≡ Joining a b → Allows (Ruled p) slots id me 0 (λ n. n) (settled plan (step slots 0 0 0 none) me)
  settles_pass plan same_plan slots id me a b is s r many at below = (
    w,
    keeps,
    tt,
    subst (λ (ws : List ℕ). Ruled p record { words = ws; homes = s.homes; views = set s.views id w }) (sym (set-get_or s.words 0 0))
        (quiet p s r id d w s.words s.homes at lv refl (refl, refl, refl) refl (inr refl) (holds_as p (now p s r) d w refl refl refl refl refl refl refl tt ok) refl refl shown.0 shown.1 shown.2 r.parts.owner r.parts.entry
        (lanes_stay p r.parts.owner r.parts.entry s.words s.words s.homes s.views id d w r.parts.lanes at (λ l _. refl) refl) (knowns_stay p s r id d w at refl refl) (given_stays p s r id d w r.parts.entry at lv (refl, refl, refl) refl (λ _. refl))),
    (refl, subst (λ (k : Plan S M). Told k d d.stage) (sym (ap plan ok.made ∙ same_plan)) (subst (Told p d) (sym is) (both.0, both.1, known))),
  )
    where
      d : D
      d = me.0

      w : D
      w = record d { stage = Idle }

      lv : out d ≡ 1
      lv = ap out_of is

      ok : HoldsOk p (now p s r) d
      ok = r.holds id d at lv

      both : SawOthers 0 a d.seen × StartsWith d.seen b
      both = subst (Staged d.seen p.cells) is ok.stage

      known : HasSeen p d
      known = let k = r.roster.each id d at lv in record { legal = legal_before (shape_of p) (start_of p) d.seen k.begins.0 (subst (AreLegal (shape_of p) (start_of p)) k.begins.1 r.legal); own = k.all_seen }

      shown : Shown p s r s.words (set s.views id w)
      shown = (
        cells_stay p (now p s r) (now p s r) s.words s.words s.views id d w r.parts.cells at (λ c _. refl) (λ c. refl) (λ c. ap (λ (st : Stage). times c d.pins + visits c st) (sym is)) (λ c. refl),
        slots_stay p (now p s r) (now p s r) s.words s.words s.views id d w r.parts.slots at (λ c _. refl) (λ c. refl) (λ c. refl),
        frames_stay p (now p s r) (now p s r) s.words s.words s.views id d w r.parts.frames at (λ l i. refl) (λ c l h. h) (λ c. refl) (r.parts.frames.held id d at) (λ j f _ _. inr (λ c h. h)),
      )

  -- a view that is no pass may come at any time
  pub shows_trail : (id : ℕ) (v : D) → Splits (Ruled p) id v v (trail_of v)
  shows_trail id v s r at = subst (λ (vs : List D). Ruled p record { words = s.words; homes = s.homes; views = vs ++ u ∷ [] }) (sym (set_again s.views id v at)) record {
    log = r.log;
    drawn = r.drawn;
    ended = r.ended;
    roster = record {
      each = λ j d t o. r.roster.each j d (out_old j d t o) o;
      each_ended = λ n x t. let k = r.roster.each_ended n x t in record { mine = k.mine; below = k.below; gone = λ j d u o. k.gone j d (out_old j d u o) o };
      apart = λ i j d e t u o q n. r.roster.apart i j d e (out_old i d t o) (out_old j e u q) o q n;
      ended_apart = r.roster.ended_apart;
      cover = λ k l. ⊎_elim (λ (q : SomeOut passes s.views (λ _ f. f.number ≡ k)). inl (q.0, q.1, at_longer s.views (u ∷ []) q.0 q.1 q.2, q.3, q.4)) (λ q. inr q) (r.roster.cover k l);
      undrawn = r.roster.undrawn;
      top = let t = r.roster.top in (t.0, t.1, at_longer s.views (u ∷ []) t.0 t.1 t.2, t.3, t.4);
      count = let a = total_snoc out s.views u in let c = r.roster.count in let o : out u ≡ 0 = refl in omega arith;
      few = let a = total_snoc out s.views u in let f = r.roster.few in let o : out u ≡ 0 = refl in omega arith;
      out_or_not = λ j d t. ⊎_elim (λ (q : get_elem? s.views j ≡ some d). r.roster.out_or_not j d q) (λ (q : (j ≡ length s.views) × (u ≡ d)). let y : out u ≡ out d = ap out q.1 in let x : out u ≡ 0 = refl in let z : out d ≤ 1 = omega arith in z) (at_end s.views u d j t);
    };
    legal = r.legal;
    holds = λ j d t o. r.holds j d (out_old j d t o) o;
    spent = λ j d t o. ⊎_elim (λ (q : get_elem? s.views j ≡ some d). r.spent j d q o) (λ (q : (j ≡ length s.views) × (u ≡ d)). subst (HoldsNone p) q.1 record { pins = refl; claims = refl; leaving = refl; slots = refl; lane = refl; rises = refl }) (at_end s.views u d j t);
    nobody = λ k c none_is. r.nobody k c (λ j d t o n. none_is j d (at_longer s.views (u ∷ []) j d t) o n);
    parts = parts_longer r.log r.ended s.words s.homes s.views u r.parts record { pins = refl; visits = λ c. refl; works = λ c. refl; given = refl; slots = refl; lane = refl; rises = λ l. refl };
  }
    where
      u : D
      u = trail_of v

      out_old : (j : ℕ) (d : D) → get_elem? (s.views ++ u ∷ []) j ≡ some d → out d ≡ 1 → get_elem? s.views j ≡ some d
      out_old j d t o = ⊎_elim (λ (q : get_elem? s.views j ≡ some d). q) (λ (q : (j ≡ length s.views) × (u ≡ d)). let y : out u ≡ out d = ap out q.1 in let x : out u ≡ 0 = refl in let o' : out d ≡ 1 = o in absurd (omega arith)) (at_end s.views u d j t)
