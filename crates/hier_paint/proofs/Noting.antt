-- What the events of a frame note, load and ask for.
use Rattle.std.proofs.Common.{◌≡◌, ◌∙◌, inl, inr, ℕ, zero, suc, ◌+◌, ◌-◌, nat_lt, ◌&&◌, Bool, true, false, cond, IsTrue, List, [], ◌∷◌, ◌++◌, Option, None, Some, refl, sym, ap, subst, arith, append_assoc}
use Rattle.std.specs.Bool.{MatchBool}
use Rattle.std.specs.List.{list_all}
use Rattle.std.proofs.lemmas.List.{append-nil}
use Rattle.std.proofs.lemmas.List.Folds.{list_all-append}
use Rattle.std.proofs.lemmas.List.Sums.{sum_by-append}
use Rattle.std.proofs.lemmas.Bool.Decides.{nat_tests}
use Rattle.cell_grid.specs.declared.level.Level.{Level}
use Rattle.arr_history.specs.declared.event.Event.{Event}
use Rattle.arr_history.specs.declared.event.Event.TheVariants as event
use Rattle.scale_pick.specs.declared.strategy.Strategy.{Strategy}
use Rattle.scale_pick.specs.declared.strategy.Strategy.TheVariants.{Blocking, Budgeted, Volatile, DontLoad}
use Rattle.scale_pick.specs.declared.note.Note.{Note}
use Rattle.scale_pick.specs.declared.note.Note.TheVariants as note
use Rattle.scale_pick.specs.Looks.{is_load, loads_in}
use Rattle.scale_pick.specs.Notes.{patience_after, notes_of_event, notes, patience_left}
use Rattle.volatile_cell.specs.Asked.{Asked}
use Rattle.volatile_cell.specs.Budget.{Allowance, loads_by, left_after, spent}
use Rattle.volatile_cell.specs.Requests.{requests}
use Rattle.volatile_cell.specs.StrategyRule.{is_quiet, requests_for}
use Rattle.call_events.specs.Pieces.{misses, IsTurnOut, IsGranted}
use Rattle.volatile_cell.specs.Looks.{IsReadyLook, IsNotReadyLook}
use Rattle.hier_paint.specs.Sight.{given_back}
use Rattle.volatile_cell.specs.Front.{Looker}

-- after how many loads a miss is a cell that isn't ready, by what is left of a budget
abbrev pub patience_by : Strategy → ℕ → Option ℕ
patience_by Blocking left = None
patience_by (Budgeted loads) left = Some left
patience_by Volatile left = Some 0
patience_by DontLoad left = Some 0

-- what a strategy allows, from what is left of its budget to what is left then
abbrev pub Allows : Strategy → ℕ → ℕ → List Event → Type 0
Allows Blocking left left' events = Unit {0}
Allows (Budgeted loads) left left' events = loads_in events + left' ≡ left
Allows Volatile left left' events = IsTrue (list_all is_quiet events)
Allows DontLoad left left' events = IsTrue (list_all is_quiet events)

-- what events do to a budget, what they note, and what the calls beside them ask for
pub record Step (who : Looker) (b b' : Allowance) (events : List Event) (calls : List Asked) (seen : List Note) : Type 0 where
  pub noted : notes (patience_by b.strategy b.left) events ≡ seen
  pub patience : patience_left (patience_by b.strategy b.left) events ≡ patience_by b.strategy b'.left
  pub strategy : b'.strategy ≡ b.strategy
  pub asked : calls ≡ requests_for b.strategy who.viewer who.levels seen
  pub allowed : Allows b.strategy b.left b'.left events

pub notes-append : (p : Option ℕ) (xs ys : List Event) → notes p (xs ++ ys) ≡ notes p xs ++ notes (patience_left p xs) ys
notes-append p [] ys = refl
notes-append p (e ∷ xs) ys = ap (λ (ns : List Note). notes_of_event p e ++ ns) (notes-append (patience_after p e) xs ys) ∙ sym (append_assoc (notes_of_event p e) (notes (patience_after p e) xs) (notes (patience_left (patience_after p e) xs) ys))

patience_left-append : (p : Option ℕ) (xs ys : List Event) → patience_left p (xs ++ ys) ≡ patience_left (patience_left p xs) ys
patience_left-append p [] ys = refl
patience_left-append p (e ∷ xs) ys = patience_left-append (patience_after p e) xs ys

pub loads_in-append : (xs ys : List Event) → loads_in (xs ++ ys) ≡ loads_in xs + loads_in ys
loads_in-append xs ys = sum_by-append (λ a. cond (is_load a) 1 0) xs ys

and_true : (a b : Bool) → a ≡ true → b ≡ true → (a && b) ≡ true
and_true a b h g = ap (λ x. x && b) h ∙ g

pub quiet-append : (xs ys : List Event) → list_all is_quiet xs ≡ true → list_all is_quiet ys ≡ true → list_all is_quiet (xs ++ ys) ≡ true
quiet-append xs ys h g = list_all-append is_quiet xs ys ∙ and_true _ _ h g

allows-append : (s : Strategy) (l m n : ℕ) (xs ys : List Event) → Allows s l m xs → Allows s m n ys → Allows s l n (xs ++ ys)
allows-append Blocking l m n xs ys h g = tt
allows-append (Budgeted b) l m n xs ys h g = omega (arith, h, g, loads_in-append xs ys)
allows-append Volatile l m n xs ys h g = quiet-append xs ys h g
allows-append DontLoad l m n xs ys h g = quiet-append xs ys h g

requests_for-append : (s : Strategy) (viewer : ℕ) (levels : List Level) (xs ys : List Note) → requests_for s viewer levels (xs ++ ys) ≡ requests_for s viewer levels xs ++ requests_for s viewer levels ys
requests_for-append s viewer levels [] ys = refl
requests_for-append s viewer levels (note.NotReady c ∷ xs) ys = ap (λ (rest : List Asked). requests s viewer levels c ++ rest) (requests_for-append s viewer levels xs ys) ∙ sym (append_assoc (requests s viewer levels c) (requests_for s viewer levels xs) (requests_for s viewer levels ys))
requests_for-append s viewer levels (note.Read c i x ∷ xs) ys = requests_for-append s viewer levels xs ys

none_allowed : (s : Strategy) (l : ℕ) → Allows s l l []
none_allowed Blocking l = tt
none_allowed (Budgeted n) l = omega arith
none_allowed Volatile l = refl
none_allowed DontLoad l = refl

-- a miss isn't noted yet
abbrev Waits : Option ℕ → Type 0
Waits None = Unit {0}
Waits (Some zero) = ⊥
Waits (Some (suc n)) = Unit {0}

abbrev after_load : Option ℕ → Bool → Option ℕ
after_load None loaded = None
after_load (Some n) true = Some (n - 1)
after_load (Some n) false = Some n

-- what events do to a strategy that waits
record IsUnnoted (p q : Option ℕ) (loads : ℕ) (events : List Event) : Type 0 where
  none : notes p events ≡ []
  left : patience_left p events ≡ q
  count : loads_in events ≡ loads

abbrev one_if : Bool → ℕ
one_if t = cond t 1 0

more_loads : (e : Event) (loads : ℕ) (events : List Event) → is_load e ≡ false → loads_in events ≡ loads → loads_in (e ∷ events) ≡ loads
more_loads e loads events other h =
    let w : one_if (is_load e) ≡ 0 = ap one_if other in
    let both : loads_in (e ∷ events) ≡ one_if (is_load e) + loads_in events = loads_in-append (e ∷ []) events ∙ omega arith in
    omega (arith, both, w, h)

unnoted-miss : (p q : Option ℕ) (loads k c : ℕ) (events : List Event) → Waits p → IsUnnoted p q loads events → IsUnnoted p q loads (event.Miss k c ∷ events)
unnoted-miss None q loads k c events w u = record { none = u.none; left = u.left; count = more_loads (event.Miss k c) loads events refl u.count }
unnoted-miss (Some zero) q loads k c events w u = absurd w
unnoted-miss (Some (suc n)) q loads k c events w u = record { none = u.none; left = u.left; count = more_loads (event.Miss k c) loads events refl u.count }

unnoted-misses : (p q : Option ℕ) (loads k c n : ℕ) (events : List Event) → Waits p → IsUnnoted p q loads events → IsUnnoted p q loads (misses k c n ++ events)
unnoted-misses p q loads k c zero events w u = u
unnoted-misses p q loads k c (suc n) events w u = unnoted-miss p q loads k c (misses k c n ++ events) w (unnoted-misses p q loads k c n events w u)

-- a pin, or a load after another cell left
unnoted-pin : (p : Option ℕ) (k c : ℕ) → Waits p → IsUnnoted p (after_load p false) 0 (event.Pin k c ∷ [])
unnoted-pin None k c w = record { none = refl; left = refl; count = refl }
unnoted-pin (Some zero) k c w = absurd w
unnoted-pin (Some (suc n)) k c w = record { none = refl; left = refl; count = refl }

unnoted-load : (p : Option ℕ) (k c slot : ℕ) (turn : List Event) → Waits p → IsTurnOut k turn → IsUnnoted p (after_load p true) 1 (event.Claim k c ∷ (turn ++ event.Live k c slot ∷ []))
unnoted-load p k c slot turn w (inl e) = subst (λ (t : List Event). IsUnnoted p (after_load p true) 1 (event.Claim k c ∷ (t ++ event.Live k c slot ∷ []))) (sym e) (straight p w)
  where
    straight : (p : Option ℕ) → Waits p → IsUnnoted p (after_load p true) 1 (event.Claim k c ∷ event.Live k c slot ∷ [])
    straight None w = record { none = refl; left = refl; count = refl }
    straight (Some zero) w = absurd w
    straight (Some (suc n)) w = record { none = refl; left = refl; count = refl }
unnoted-load p k c slot turn w (inr o) = subst (λ (t : List Event). IsUnnoted p (after_load p true) 1 (event.Claim k c ∷ (t ++ event.Live k c slot ∷ []))) (sym o.2) (turned p w)
  where
    turned : (p : Option ℕ) → Waits p → IsUnnoted p (after_load p true) 1 (event.Claim k c ∷ event.Close k o.0 ∷ event.Gone k o.0 o.1 ∷ event.Live k c slot ∷ [])
    turned None w = record { none = refl; left = refl; count = refl }
    turned (Some zero) w = absurd w
    turned (Some (suc n)) w = record { none = refl; left = refl; count = refl }

-- what gives a handle notes nothing, where a miss isn't noted yet
granted-unnoted : (p : Option ℕ) (alone : Bool) (k c : ℕ) (loaded : Bool) (events : List Event) → Waits p → IsGranted alone k c loaded events → IsUnnoted p (after_load p loaded) (cond loaded 1 0) events
granted-unnoted p alone k c false events w g = subst (IsUnnoted p (after_load p false) 0) (sym g.2) (unnoted-misses p _ 0 k c g.0 _ w (unnoted-pin p k c w))
granted-unnoted p alone k c true events w g = subst (IsUnnoted p (after_load p true) 1) (sym g.5) (unnoted-misses p _ 1 k c (suc g.0) _ w (unnoted-load p k c g.2 g.3 w g.4))

some_left : (l : ℕ) → nat_lt 0 (suc l) ≡ true
some_left l = grind (arith, nat_tests)

after_load-is : (n l : ℕ) (loaded : Bool) → after_load (Some (suc l)) loaded ≡ Some (left_after (Budgeted n) (suc l) loaded)
after_load-is n l true = refl
after_load-is n l false = refl

load_paid : (n l : ℕ) (loaded : Bool) → cond loaded 1 0 + left_after (Budgeted n) (suc l) loaded ≡ suc l
load_paid n l true = omega arith
load_paid n l false = omega arith

abbrev allowance : Strategy → ℕ → Allowance
allowance s l = record { strategy = s; left = l }

module _ (who : Looker) where
  pub idle_step : (b : Allowance) → Step who b b [] [] []
  idle_step b = record { noted = refl; patience = refl; strategy = refl; asked = refl; allowed = none_allowed b.strategy b.left }

  pub follow_step : (b b' b'' : Allowance) (xs ys : List Event) (u v : List Asked) (s t : List Note) → Step who b b' xs u s → Step who b' b'' ys v t → Step who b b'' (xs ++ ys) (u ++ v) (s ++ t)
  follow_step b b' b'' xs ys u v s t p q =
      let start = patience_by b.strategy b.left in
      let noted' : notes (patience_by b.strategy b'.left) ys ≡ t = subst (λ st. notes (patience_by st b'.left) ys ≡ t) p.strategy q.noted in
      let patience' : patience_left (patience_by b.strategy b'.left) ys ≡ patience_by b.strategy b''.left = subst (λ st. patience_left (patience_by st b'.left) ys ≡ patience_by st b''.left) p.strategy q.patience in
      let asked' : v ≡ requests_for b.strategy who.viewer who.levels t = subst (λ st. v ≡ requests_for st who.viewer who.levels t) p.strategy q.asked in
      record {
        noted = notes-append start xs ys ∙ ap (λ (ns : List Note). ns ++ notes (patience_left start xs) ys) p.noted ∙ ap (λ (r : Option ℕ). s ++ notes r ys) p.patience ∙ ap (λ (ns : List Note). s ++ ns) noted';
        patience = patience_left-append start xs ys ∙ ap (λ r. patience_left r ys) p.patience ∙ patience';
        strategy = q.strategy ∙ p.strategy;
        asked = ap (λ (us : List Asked). us ++ v) p.asked ∙ ap (λ (us : List Asked). requests_for b.strategy who.viewer who.levels s ++ us) asked' ∙ sym (requests_for-append b.strategy who.viewer who.levels s t);
        allowed = allows-append b.strategy b.left b'.left b''.left xs ys p.allowed (subst (λ st. Allows st b'.left b''.left ys) p.strategy q.allowed);
      }

  -- an event that changes no patience
  one_event : (b : Allowance) (ev : Event) (seen : List Note) → ((p : Option ℕ) → notes_of_event p ev ≡ seen) → ((p : Option ℕ) → patience_after p ev ≡ p) → requests_for b.strategy who.viewer who.levels seen ≡ []
      → Allows b.strategy b.left b.left (ev ∷ []) → Step who b b (ev ∷ []) [] seen
  one_event b ev seen notes_it keeps none allowed = record {
    noted = append-nil (notes_of_event (patience_by b.strategy b.left) ev) ∙ notes_it (patience_by b.strategy b.left);
    patience = keeps (patience_by b.strategy b.left);
    strategy = refl;
    asked = sym none;
    allowed = allowed;
  }

  unpin_step : (b : Allowance) (k c : ℕ) → Step who b b (event.Unpin k c ∷ []) [] []
  unpin_step b k c = one_event b (event.Unpin k c) [] nothing keeps refl (quiet b.strategy b.left)
    where
      nothing : (p : Option ℕ) → notes_of_event p (event.Unpin k c) ≡ []
      nothing None = refl
      nothing (Some zero) = refl
      nothing (Some (suc n)) = refl

      keeps : (p : Option ℕ) → patience_after p (event.Unpin k c) ≡ p
      keeps None = refl
      keeps (Some n) = refl

      quiet : (s : Strategy) (l : ℕ) → Allows s l l (event.Unpin k c ∷ [])
      quiet Blocking l = tt
      quiet (Budgeted n) l = omega arith
      quiet Volatile l = refl
      quiet DontLoad l = refl

  pub give_back_step : (b : Allowance) (k : ℕ) (held : Option ℕ) → Step who b b (given_back k held) [] []
  give_back_step b k None = idle_step b
  give_back_step b k (Some c) = unpin_step b k c

  pub read_step : (b : Allowance) (k c i x : ℕ) → Step who b b (event.Read k c i x ∷ []) [] (note.Read c i x ∷ [])
  read_step b k c i x = one_event b (event.Read k c i x) (note.Read c i x ∷ []) reads keeps refl (quiet b.strategy b.left)
    where
      reads : (p : Option ℕ) → notes_of_event p (event.Read k c i x) ≡ note.Read c i x ∷ []
      reads None = refl
      reads (Some zero) = refl
      reads (Some (suc n)) = refl

      keeps : (p : Option ℕ) → patience_after p (event.Read k c i x) ≡ p
      keeps None = refl
      keeps (Some n) = refl

      quiet : (s : Strategy) (l : ℕ) → Allows s l l (event.Read k c i x ∷ [])
      quiet Blocking l = tt
      quiet (Budgeted n) l = omega arith
      quiet Volatile l = refl
      quiet DontLoad l = refl

  -- a look that doesn't load, and gives a handle
  plain_pin : (s : Strategy) (l : ℕ) (b' : Allowance) (k c : ℕ) (events : List Event) (calls : List Asked) → patience_by s l ≡ Some 0 → Allows s l l (event.Pin k c ∷ [])
      → events ≡ event.Pin k c ∷ [] → b' ≡ allowance s l → calls ≡ [] → Step who (allowance s l) b' events calls []
  plain_pin s l b' k c events calls w allowed es same none = record {
    noted = subst (λ (x : List Event). notes (patience_by s l) x ≡ []) (sym es) (subst (λ (p : Option ℕ). notes p (event.Pin k c ∷ []) ≡ []) (sym w) refl);
    patience = subst (λ (x : List Event). patience_left (patience_by s l) x ≡ patience_by s b'.left) (sym es) (subst (λ (x : Allowance). patience_left (patience_by s l) (event.Pin k c ∷ []) ≡ patience_by s x.left) (sym same) (subst (λ (p : Option ℕ). patience_left p (event.Pin k c ∷ []) ≡ p) (sym w) refl));
    strategy = ap (λ (x : Allowance). x.strategy) same;
    asked = none;
    allowed = subst (λ (x : List Event). Allows s l b'.left x) (sym es) (subst (λ (x : Allowance). Allows s l x.left (event.Pin k c ∷ [])) (sym same) allowed);
  }

  -- a look that loads
  loading : (s : Strategy) (l : ℕ) (b' : Allowance) (c : ℕ) (loaded : Bool) (events : List Event) (calls : List Asked) → Waits (patience_by s l) → after_load (patience_by s l) loaded ≡ patience_by s (left_after s l loaded)
      → (loads_in events ≡ cond loaded 1 0 → Allows s l (left_after s l loaded) events)
      → IsGranted who.alone who.pass c loaded events × (b' ≡ spent (allowance s l) loaded) → calls ≡ [] → Step who (allowance s l) b' events calls []
  loading s l b' c loaded events calls w after allowed g none =
      let u = granted-unnoted (patience_by s l) who.alone who.pass c loaded events w g.0 in
      record {
        noted = u.none;
        patience = u.left ∙ after ∙ sym (ap (λ (x : Allowance). patience_by s x.left) g.1);
        strategy = ap (λ (x : Allowance). x.strategy) g.1;
        asked = none;
        allowed = subst (λ (x : Allowance). Allows s l x.left events) (sym g.1) (allowed u.count);
      }

  abbrev Pinned : Strategy → ℕ → Bool → ℕ → Bool → Allowance → List Event → Type 0
  Pinned s l t c loaded b' events = MatchBool t (IsGranted who.alone who.pass c loaded events × (b' ≡ spent (allowance s l) loaded)) ((loaded ≡ false) × (events ≡ event.Pin who.pass c ∷ []) × (b' ≡ allowance s l))

  ready_by : (s : Strategy) (l c : ℕ) (loaded : Bool) (b' : Allowance) (events : List Event) (calls : List Asked) → Pinned s l (loads_by s l) c loaded b' events → calls ≡ [] → Step who (allowance s l) b' events calls []
  ready_by Blocking l c loaded b' events calls g none = loading Blocking l b' c loaded events calls tt refl (λ _. tt) g none
  ready_by (Budgeted n) zero c loaded b' events calls g none = plain_pin (Budgeted n) zero b' who.pass c events calls refl refl g.1 g.2 none
  ready_by (Budgeted n) (suc l) c loaded b' events calls g none =
      loading (Budgeted n) (suc l) b' c loaded events calls tt (after_load-is n l loaded) (λ u. omega (arith, u, load_paid n l loaded)) (subst (λ t. Pinned (Budgeted n) (suc l) t c loaded b' events) (some_left l) g) none
  ready_by Volatile l c loaded b' events calls g none = plain_pin Volatile l b' who.pass c events calls refl refl g.1 g.2 none
  ready_by DontLoad l c loaded b' events calls g none = plain_pin DontLoad l b' who.pass c events calls refl refl g.1 g.2 none

  pub ready_step : (c : ℕ) (b : Allowance) (loaded : Bool) (b' : Allowance) (events : List Event) (calls : List Asked) → IsReadyLook who c b loaded b' events calls → Step who b b' events calls []
  ready_step c b loaded b' events calls look = ready_by b.strategy b.left c loaded b' events calls look.pinned look.nothing_asked

  -- a look at a cell that isn't ready
  plain_miss : (s : Strategy) (l : ℕ) (b' : Allowance) (k c : ℕ) (events : List Event) (calls : List Asked) → patience_by s l ≡ Some 0 → Allows s l l (event.Miss k c ∷ [])
      → events ≡ event.Miss k c ∷ [] → calls ≡ requests s who.viewer who.levels c → b' ≡ allowance s l → Step who (allowance s l) b' events calls (note.NotReady c ∷ [])
  plain_miss s l b' k c events calls w allowed es us same = record {
    noted = subst (λ (x : List Event). notes (patience_by s l) x ≡ note.NotReady c ∷ []) (sym es) (subst (λ (p : Option ℕ). notes p (event.Miss k c ∷ []) ≡ note.NotReady c ∷ []) (sym w) refl);
    patience = subst (λ (x : List Event). patience_left (patience_by s l) x ≡ patience_by s b'.left) (sym es) (subst (λ (x : Allowance). patience_left (patience_by s l) (event.Miss k c ∷ []) ≡ patience_by s x.left) (sym same) (subst (λ (p : Option ℕ). patience_left p (event.Miss k c ∷ []) ≡ p) (sym w) refl));
    strategy = ap (λ (x : Allowance). x.strategy) same;
    asked = us ∙ sym (append-nil (requests s who.viewer who.levels c));
    allowed = subst (λ (x : List Event). Allows s l b'.left x) (sym es) (subst (λ (x : Allowance). Allows s l x.left (event.Miss k c ∷ [])) (sym same) allowed);
  }

  missed_by : (s : Strategy) (l k c : ℕ) (b' : Allowance) (events : List Event) (calls : List Asked) → loads_by s l ≡ false
      → events ≡ event.Miss k c ∷ [] → calls ≡ requests s who.viewer who.levels c → b' ≡ allowance s l → Step who (allowance s l) b' events calls (note.NotReady c ∷ [])
  missed_by Blocking l k c b' events calls stopped es us same = cc
  missed_by (Budgeted n) zero k c b' events calls stopped es us same = plain_miss (Budgeted n) zero b' k c events calls refl refl es us same
  missed_by (Budgeted n) (suc l) k c b' events calls stopped es us same = let yes : nat_lt 0 (suc l) ≡ true = some_left l in cc
  missed_by Volatile l k c b' events calls stopped es us same = plain_miss Volatile l b' k c events calls refl refl es us same
  missed_by DontLoad l k c b' events calls stopped es us same = plain_miss DontLoad l b' k c events calls refl refl es us same

  pub missed_step : (c : ℕ) (b b' : Allowance) (events : List Event) (calls : List Asked) → IsNotReadyLook who c b b' events calls → Step who b b' events calls (note.NotReady c ∷ [])
  missed_step c b b' events calls look = missed_by b.strategy b.left who.pass c b' events calls look.loads_no_more look.missed look.asked look.same_budget
