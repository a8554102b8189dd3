-- A whole frame.
use Rattle.std.proofs.Common.{◌≡◌, ◌∙◌, ℕ, zero, suc, List, [], ◌∷◌, ◌++◌, None, slice_index_or, refl, sym, ap, subst, arith}
use Rattle.std.proofs.lemmas.List.{append-nil}
use Rattle.cell_grid.specs.declared.level.Level.{Level}
use Rattle.cell_file.specs.declared.errors.AcquireErr.{AcquireErr}
use Rattle.arr_history.specs.declared.event.Event.{Event}
use Rattle.scale_pick.specs.declared.strategy.Strategy.{Strategy}
use Rattle.scale_pick.specs.declared.strategy.Strategy.TheVariants.{Blocking, Budgeted, Volatile, DontLoad}
use Rattle.scale_pick.specs.declared.view.View.{View}
use Rattle.scale_pick.specs.declared.note.Note.{Note}
use Rattle.scale_pick.specs.Notes.{patience, notes, notes_of}
use Rattle.scale_pick.specs.Picture.{Pixels}
use Rattle.volatile_cell.specs.Asked.{Asked}
use Rattle.volatile_cell.specs.Budget.{loads_of, whole}
use Rattle.volatile_cell.specs.StrategyRule.{IsAllowed, requests_for, clearing}
use Rattle.call_events.specs.Pieces.{IsRefused}
use Rattle.hier_paint.specs.Sight.{Sight, opening_sight, nothing_missed, given_back}
use Rattle.hier_paint.specs.Visits.{Visit, AreVisits}
use Rattle.hier_paint.specs.Ways.{AreRowWays, IsCut}
use Rattle.hier_paint.specs.Works.{Works, Fails}
use Rattle.hier_paint.specs.Frames.{KeepsRule, IsFrame, IsCutOff}
use Rattle.hier_paint.proofs.Noting.{patience_by, Allows, follow_step, give_back_step}
use Rattle.hier_paint.proofs.Telling.{Remembers, Covers, visits_told}
use Rattle.hier_paint.proofs.Paintings.{rows_painted}
use Rattle.volatile_cell.specs.Front.{Looker, Front, IsFront}
use Rattle.volatile_cell.proofs.Fronts.{same_pass, same_levels}

-- the whole budget of a strategy waits as the strategy does
patience_whole : (s : Strategy) → patience_by s (loads_of s) ≡ patience s
patience_whole Blocking = refl
patience_whole (Budgeted n) = refl
patience_whole Volatile = refl
patience_whole DontLoad = refl

-- and allows what the strategy does
allowed_whole : (s : Strategy) (left : ℕ) (events : List Event) → Allows s (loads_of s) left events → IsAllowed s events
allowed_whole Blocking left events h = tt
allowed_whole (Budgeted n) left events h = omega (arith, h)
allowed_whole Volatile left events h = h
allowed_whole DontLoad left events h = h

-- nothing was missed at the beginning
none_missed : (level : ℕ) → slice_index_or nothing_missed level None ≡ None
none_missed zero = refl
none_missed (suc zero) = refl
none_missed (suc (suc zero)) = refl
none_missed (suc (suc (suc zero))) = refl
none_missed (suc (suc (suc (suc zero)))) = refl
none_missed (suc (suc (suc (suc (suc zero))))) = refl
none_missed (suc (suc (suc (suc (suc (suc zero)))))) = refl
none_missed (suc (suc (suc (suc (suc (suc (suc zero))))))) = refl
none_missed (suc (suc (suc (suc (suc (suc (suc (suc n)))))))) = refl

remembers_nothing : Remembers nothing_missed []
remembers_nothing = λ level cell h. let none : slice_index_or nothing_missed level None ≡ None = none_missed level in cc

-- what visits from the beginning of a frame tell, and the giving back of what is held
record Beginning (who : Looker) (s : Strategy) (visits : List Visit) (events : List Event) (calls : List Asked) : Type 0 where
  covers : Covers visits (notes_of s events)
  asked : calls ≡ requests_for s who.viewer who.levels (notes_of s events)
  allowed : IsAllowed s events

begun : (who : Looker) (s : Strategy) (visits : List Visit) (last : Sight) (events : List Event) (calls : List Asked) → AreVisits who (opening_sight s) visits last events calls
    → Beginning who s visits (events ++ given_back who.pass last.held) calls
begun who s visits last events calls are =
    let t = visits_told who (opening_sight s) visits last events calls are in
    let step = follow_step who (whole s) last.budget last.budget events (given_back who.pass last.held) calls [] t.seen [] t.step (give_back_step who last.budget who.pass last.held) in
    let all : List Event = events ++ given_back who.pass last.held in
    let noted : t.seen ≡ notes_of s all = sym (append-nil t.seen) ∙ sym step.noted ∙ ap (λ p. notes p all) (patience_whole s) in
    record {
      covers = subst (λ (ns : List Note). Covers visits ns) noted (t.learned [] remembers_nothing).1;
      asked = sym (append-nil calls) ∙ step.asked ∙ ap (λ (ns : List Note). requests_for s who.viewer who.levels ns) (append-nil t.seen ∙ noted);
      allowed = allowed_whole s last.budget.left all step.allowed;
    }

module _ {E : Type 0} (front : Front E) (laws : IsFront front) where
  -- the visits of a frame, as they are for the eyes at its beginning
  pub record Begun (e e' : E) (view : View) (last : Sight) (visits : List Visit) : Type 0 where
    pub looks : List Event
    pub calls : List Asked
    pub count : ℕ
    pub led : front.leads e (looks ++ given_back (front.looker e).pass last.held) (clearing (front.looker e).viewer count ∷ calls) e'
    pub are : AreVisits (front.looker e) (opening_sight view.strategy) visits last looks calls

  frame_begun : (e b m e' : E) (view : View) (s last : Sight) (count : ℕ) (Way : List Visit → Type 0) → front.leads e [] (clearing (front.looker e).viewer count ∷ []) b → s ≡ opening_sight view.strategy
      → (works : Works front b s m last Way) → front.leads m (given_back (front.looker b).pass last.held) [] e' → Begun e e' view last works.visits
  frame_begun e b m e' view s last count Way led start works back =
      let c : List Asked = clearing (front.looker e).viewer count ∷ [] in
      let k = same_pass front laws e b [] c led in
      let own : front.leads m (given_back (front.looker e).pass last.held) [] e' = subst (λ n. front.leads m (given_back n last.held) [] e') (sym k) back in
      let looks_led = laws.leads_on b m e' works.events (given_back (front.looker e).pass last.held) works.calls [] works.led own in
      record {
        looks = works.events;
        calls = works.calls;
        count = count;
        led = laws.leads_on e b e' [] (works.events ++ given_back (front.looker e).pass last.held) c works.calls led (subst (λ (us : List Asked). front.leads b (works.events ++ given_back (front.looker e).pass last.held) us e') (append-nil works.calls) looks_led);
        are = subst (λ (who : Looker). AreVisits who (opening_sight view.strategy) works.visits last works.events works.calls) (sym (laws.same e b [] c led))
            (subst (λ (x : Sight). AreVisits (front.looker b) x works.visits last works.events works.calls) start works.are);
      }

  keeps_rule : (e : E) (view : View) (visits : List Visit) (events : List Event) (calls : List Asked) (count : ℕ) → Beginning (front.looker e) view.strategy visits events calls → KeepsRule view (front.looker e).viewer (front.looker e).levels events (clearing (front.looker e).viewer count ∷ calls)
  keeps_rule e view visits events calls count t = record { allowed = t.allowed; cleared = count; asked = ap (λ (us : List Asked). clearing (front.looker e).viewer count ∷ us) t.asked }

  pub frame_done : (e b m e' : E) (view : View) (picture : Pixels) (s last : Sight) (count : ℕ) → picture.width ≡ view.width → picture.height ≡ view.height → front.leads e [] (clearing (front.looker e).viewer count ∷ []) b → s ≡ opening_sight view.strategy
      → Works front b s m last (AreRowWays (front.looker b).levels view picture picture.height) → front.leads m (given_back (front.looker m).pass last.held) [] e' → IsFrame front e e' view picture
  frame_done e b m e' view picture s last count width height led start works back =
      let own = subst (λ n. front.leads m (given_back n last.held) [] e') (sym (same_pass front laws b m works.events works.calls works.led)) back in
      let f = frame_begun e b m e' view s last count (AreRowWays (front.looker b).levels view picture picture.height) led start works own in
      let way : AreRowWays (front.looker e).levels view picture picture.height works.visits = subst (λ (ls : List Level). AreRowWays ls view picture picture.height works.visits) (sym (same_levels front laws e b [] (clearing (front.looker e).viewer count ∷ []) led)) works.way in
      let events : List Event = f.looks ++ given_back (front.looker e).pass last.held in
      let t = begun (front.looker e) view.strategy works.visits last f.looks f.calls f.are in
      record {
        events = events;
        calls = clearing (front.looker e).viewer f.count ∷ f.calls;
        led = f.led;
        painting = record { width = width; height = height; rows = rows_painted (front.looker e).levels view (notes_of view.strategy events) picture picture.height works.visits way t.covers };
        rule = keeps_rule e view works.visits events f.calls f.count t;
        visited = record { visits = works.visits; way = way; last = last; looks = f.looks; calls = f.calls; are = f.are; events_are = refl };
      }

  pub frame_cut : (e b e' : E) (view : View) (picture : Pixels) (s : Sight) (err : AcquireErr) (count : ℕ) → picture.width ≡ view.width → picture.height ≡ view.height → front.leads e [] (clearing (front.looker e).viewer count ∷ []) b → s ≡ opening_sight view.strategy
      → Fails front b s e' err (IsCut (front.looker b).levels view picture) → IsCutOff front e e' view picture err
  frame_cut e b e' view picture s err count width height led start fails =
      let f = frame_begun e b fails.between fails.free view s fails.last count (λ _. Unit {0}) led start fails.works fails.let_go in
      let events : List Event = f.looks ++ given_back (front.looker e).pass fails.last.held in
      let t = begun (front.looker e) view.strategy fails.works.visits fails.last f.looks f.calls f.are in
      record {
        between = fails.free;
        events = events;
        calls = clearing (front.looker e).viewer f.count ∷ f.calls;
        led = f.led;
        rule = keeps_rule e view fails.works.visits events f.calls f.count t;
        cell = fails.cell;
        visited = record {
          width = width;
          height = height;
          visits = fails.works.visits;
          level = fails.level;
          way = subst (λ (ls : List Level). IsCut ls view picture fails.works.visits fails.level fails.cell) (sym (same_levels front laws e b [] (clearing (front.looker e).viewer count ∷ []) led)) fails.way;
          last = fails.last;
          looks = f.looks;
          calls = f.calls;
          are = f.are;
          due = fails.due;
          loads = fails.look.loads;
          events_are = refl;
        };
        piece = fails.piece;
        refused = subst (λ (us : List Asked). front.leads fails.free fails.piece us e') fails.look.nothing_asked fails.refused;
        look = subst (λ (who : Looker). IsRefused who.alone who.pass fails.cell err fails.piece) (sym (laws.same e b [] (clearing (front.looker e).viewer count ∷ []) led)) fails.look.refused;
        cause = fails.cause;
      }
