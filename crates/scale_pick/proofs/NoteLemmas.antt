-- The notes of events are their not-ready looks and their reads.
use Rattle.std.proofs.Common.{◌≡◌, ◌∙◌, ℕ, zero, suc, ◌+◌, ◌-◌, ◌⊎◌, inl, inr, Bool, true, false, List, [], ◌∷◌, ◌++◌, Option, None, Some, Contains, refl, sym, ap, subst, arith, append_assoc, cond, unwrap_or}
use Rattle.std.proofs.lemmas.List.Elements.{Contains-append_right, Contains-append_cases}
use Rattle.std.proofs.lemmas.Bool.{true≢false}
use Rattle.std.proofs.lemmas.List.Sums.{sum_by-append}
use Rattle.std.proofs.lemmas.Option.{none-some}
use Rattle.arr_history.specs.declared.event.Event.{Event}
use Rattle.arr_history.specs.declared.event.Event.TheVariants as event
use Rattle.arr_history.specs.declared.event.Event.TheVariants.{Pin, Miss, Unpin, Mark, Read, Write, Claim, Drop, Live, Close, Gone, Back}
use Rattle.scale_pick.specs.declared.strategy.Strategy.{Strategy}
use Rattle.scale_pick.specs.declared.strategy.Strategy.TheVariants.{Blocking, Budgeted, Volatile, DontLoad}
use Rattle.scale_pick.specs.declared.note.Note.{Note}
use Rattle.scale_pick.specs.declared.note.Note.TheVariants as note
use Rattle.scale_pick.specs.Notes.{patience, patience_after, notes_of_event, notes, patience_left, notes_of}
use Rattle.scale_pick.specs.Laws.{AreNoted}
use Rattle.scale_pick.specs.Looks.{is_load, loads_in, LoadsNoMore, FoundNotReady}

-- an empty list contains nothing
nothing : {X Y : Type 0} (x : X) → Contains [] x → Y
nothing x h = absurd (omega (arith, h.1))

-- a list of one contains that one
one : {X : Type 0} (x y : X) → Contains (x ∷ []) y → x ≡ y
one x y (zero, lt, at) = at
one x y (suc j, lt, at) = absurd (omega (arith, lt))

first : {X : Type 0} (x : X) (xs : List X) → Contains (x ∷ xs) x
first x xs = (0, omega arith, refl)

abbrev is_read : Note → Bool
is_read (note.Read c i x) = true
is_read (note.NotReady c) = false

abbrev cell_of : Note → ℕ
cell_of (note.Read c i x) = c
cell_of (note.NotReady c) = c

-- an event that notes a cell found not ready is a miss, when nothing more is loaded
look_of : (p : Option ℕ) (e : Event) (c : ℕ) → Contains (notes_of_event p e) (note.NotReady c) → (k : ℕ) × ((e ≡ Miss k c) × (p ≡ Some 0))
look_of p (Read k d i x) c h = absurd (true≢false (ap is_read (one (note.Read d i x) (note.NotReady c) h)))
look_of (Some zero) (Miss k d) c h = (k, (ap (λ n. Miss k n) (ap cell_of (one (note.NotReady d) (note.NotReady c) h)), refl))
look_of (Some (suc n)) (Miss k d) c h = nothing (note.NotReady c) h
look_of None (Miss k d) c h = nothing (note.NotReady c) h
look_of p (Pin k d) c h = nothing (note.NotReady c) h
look_of p (Unpin k d) c h = nothing (note.NotReady c) h
look_of p (Mark k d) c h = nothing (note.NotReady c) h
look_of p (Write k d i x) c h = nothing (note.NotReady c) h
look_of p (Claim k d) c h = nothing (note.NotReady c) h
look_of p (Drop k d) c h = nothing (note.NotReady c) h
look_of p (Live k d s) c h = nothing (note.NotReady c) h
look_of p (Close k d) c h = nothing (note.NotReady c) h
look_of p (Gone k d saved) c h = nothing (note.NotReady c) h
look_of p (Back k d) c h = nothing (note.NotReady c) h

-- an event that notes what was read is that read
read_of : (p : Option ℕ) (e : Event) (c i x : ℕ) → Contains (notes_of_event p e) (note.Read c i x) → (k : ℕ) × (e ≡ Read k c i x)
read_of p (Read k d j y) c i x h = (k, reads_same (one (note.Read d j y) (note.Read c i x) h))
  where
    part : (Note → ℕ) → Note → ℕ
    part f n = f n

    at_of : Note → ℕ
    at_of (note.Read d j y) = j
    at_of (note.NotReady d) = 0

    number_of : Note → ℕ
    number_of (note.Read d j y) = y
    number_of (note.NotReady d) = 0

    reads_same : note.Read d j y ≡ note.Read c i x → Read k d j y ≡ Read k c i x
    reads_same e = ap (λ n. Read k n j y) (ap cell_of e) ∙ ap (λ n. Read k c n y) (ap at_of e) ∙ ap (λ n. Read k c i n) (ap number_of e)
read_of (Some zero) (Miss k d) c i x h = absurd (true≢false (sym (ap is_read (one (note.NotReady d) (note.Read c i x) h))))
read_of (Some (suc n)) (Miss k d) c i x h = nothing (note.Read c i x) h
read_of None (Miss k d) c i x h = nothing (note.Read c i x) h
read_of p (Pin k d) c i x h = nothing (note.Read c i x) h
read_of p (Unpin k d) c i x h = nothing (note.Read c i x) h
read_of p (Mark k d) c i x h = nothing (note.Read c i x) h
read_of p (Write k d j y) c i x h = nothing (note.Read c i x) h
read_of p (Claim k d) c i x h = nothing (note.Read c i x) h
read_of p (Drop k d) c i x h = nothing (note.Read c i x) h
read_of p (Live k d s) c i x h = nothing (note.Read c i x) h
read_of p (Close k d) c i x h = nothing (note.Read c i x) h
read_of p (Gone k d saved) c i x h = nothing (note.Read c i x) h
read_of p (Back k d) c i x h = nothing (note.Read c i x) h

-- where a cell was found not ready
record Look (p : Option ℕ) (events : List Event) (c : ℕ) : Type 0 where
  pass : ℕ
  before : List Event
  later : List Event
  miss : events ≡ before ++ (Miss pass c ∷ later)
  spent : patience_left p before ≡ Some 0

look_in : (p : Option ℕ) (events : List Event) (c : ℕ) → Contains (notes p events) (note.NotReady c) → Look p events c
look_in p [] c h = nothing (note.NotReady c) h
look_in p (e ∷ events) c h = choose (λ m. look_in (patience_after p e) events c m) (Contains-append_cases (notes_of_event p e) (notes (patience_after p e) events) (note.NotReady c) h)
  where
    here : (k : ℕ) × ((e ≡ Miss k c) × (p ≡ Some 0)) → Look p (e ∷ events) c
    here m = record { pass = m.0; before = []; later = events; miss = ap (λ a. a ∷ events) m.1.0; spent = m.1.1 }

    on : Look (patience_after p e) events c → Look p (e ∷ events) c
    on l = record { pass = l.pass; before = e ∷ l.before; later = l.later; miss = ap (λ es. e ∷ es) l.miss; spent = l.spent }

    choose : (Contains (notes (patience_after p e) events) (note.NotReady c) → Look (patience_after p e) events c)
        → Contains (notes_of_event p e) (note.NotReady c) ⊎ Contains (notes (patience_after p e) events) (note.NotReady c) → Look p (e ∷ events) c
    choose rest (inl m) = here (look_of p e c m)
    choose rest (inr m) = on (rest m)

-- the notes of events that follow others
notes-append : (p : Option ℕ) (xs ys : List Event) → notes p (xs ++ ys) ≡ notes p xs ++ notes (patience_left p xs) ys
notes-append p [] ys = refl
notes-append p (e ∷ xs) ys = ap (λ ns. notes_of_event p e ++ ns) (notes-append (patience_after p e) xs ys) ∙ sym (append_assoc (notes_of_event p e) (notes (patience_after p e) xs) (notes (patience_left (patience_after p e) xs) ys))

look_out : (p : Option ℕ) (events : List Event) (c : ℕ) → Look p events c → Contains (notes p events) (note.NotReady c)
look_out p events c l =
    subst (λ es. Contains (notes p es) (note.NotReady c)) (sym l.miss)
    (subst (λ ns. Contains ns (note.NotReady c)) (sym (notes-append p l.before (Miss l.pass c ∷ l.later)))
    (Contains-append_right (notes p l.before) (notes (patience_left p l.before) (Miss l.pass c ∷ l.later)) (note.NotReady c)
    (subst (λ q. Contains (notes q (Miss l.pass c ∷ l.later)) (note.NotReady c)) (sym l.spent) (first (note.NotReady c) (notes (Some 0) l.later)))))

-- an event takes as much of the patience as it loads
patience_after_is : (n : ℕ) (e : Event) → patience_after (Some n) e ≡ Some (n - cond (is_load e) 1 0)
patience_after_is n (Live k d s) = refl
patience_after_is n (Read k d i x) = ap Some (omega arith)
patience_after_is n (Miss k d) = ap Some (omega arith)
patience_after_is n (Pin k d) = ap Some (omega arith)
patience_after_is n (Unpin k d) = ap Some (omega arith)
patience_after_is n (Mark k d) = ap Some (omega arith)
patience_after_is n (Write k d i x) = ap Some (omega arith)
patience_after_is n (Claim k d) = ap Some (omega arith)
patience_after_is n (Drop k d) = ap Some (omega arith)
patience_after_is n (Close k d) = ap Some (omega arith)
patience_after_is n (Gone k d saved) = ap Some (omega arith)
patience_after_is n (Back k d) = ap Some (omega arith)

-- and events as much as they load
patience_left_is : (n : ℕ) (events : List Event) → patience_left (Some n) events ≡ Some (n - loads_in events)
patience_left_is n [] = ap Some (omega arith)
patience_left_is n (e ∷ events) =
    let w : ℕ = cond (is_load e) 1 0 in
    let more : loads_in (e ∷ events) ≡ w + loads_in events = sum_by-append (λ a. cond (is_load a) 1 0) (e ∷ []) events ∙ omega arith in
    ap (λ p. patience_left p events) (patience_after_is n e) ∙ patience_left_is (n - w) events ∙ ap Some (omega (arith, more))

never_spent : (events : List Event) → patience_left None events ≡ None
never_spent [] = refl
never_spent (e ∷ events) = never_spent events

-- a strategy's patience is used up where it loads nothing more
is_spent : (s : Strategy) (events : List Event) → patience_left (patience s) events ≡ Some 0 → LoadsNoMore s (loads_in events)
is_spent Blocking events h = absurd (none-some 0 (sym (never_spent events) ∙ h))
is_spent (Budgeted b) events h = let same : b - loads_in events ≡ 0 = ap (λ o. unwrap_or o 0) (sym (patience_left_is b events) ∙ h) in omega (arith, same)
is_spent Volatile events h = tt
is_spent DontLoad events h = tt

spends : (s : Strategy) (events : List Event) → LoadsNoMore s (loads_in events) → patience_left (patience s) events ≡ Some 0
spends Blocking events h = absurd h
spends (Budgeted b) events h = patience_left_is b events ∙ ap Some (omega (arith, h))
spends Volatile events h = patience_left_is 0 events ∙ ap Some (omega arith)
spends DontLoad events h = patience_left_is 0 events ∙ ap Some (omega arith)

pub found_of : (s : Strategy) (events : List Event) (c : ℕ) → Contains (notes_of s events) (note.NotReady c) → FoundNotReady s events c
found_of s events c h = let l = look_in (patience s) events c h in record { pass = l.pass; before = l.before; later = l.later; miss = l.miss; spent = is_spent s l.before l.spent }

pub note_of : (s : Strategy) (events : List Event) (c : ℕ) → FoundNotReady s events c → Contains (notes_of s events) (note.NotReady c)
note_of s events c f = look_out (patience s) events c (record { pass = f.pass; before = f.before; later = f.later; miss = f.miss; spent = spends s f.before f.spent })

-- what is noted as read is a read
reads_in : (p : Option ℕ) (events : List Event) (c i x : ℕ) → Contains (notes p events) (note.Read c i x) → (k : ℕ) × Contains events (event.Read k c i x)
reads_in p [] c i x h = nothing (note.Read c i x) h
reads_in p (e ∷ events) c i x h = choose (λ m. reads_in (patience_after p e) events c i x m) (Contains-append_cases (notes_of_event p e) (notes (patience_after p e) events) (note.Read c i x) h)
  where
    here : (k : ℕ) × (e ≡ event.Read k c i x) → (k : ℕ) × Contains (e ∷ events) (event.Read k c i x)
    here m = (m.0, (0, omega arith, m.1))

    on : (k : ℕ) × Contains events (event.Read k c i x) → (k : ℕ) × Contains (e ∷ events) (event.Read k c i x)
    on m = (m.0, Contains-append_right (e ∷ []) events (event.Read m.0 c i x) m.1)

    choose : (Contains (notes (patience_after p e) events) (note.Read c i x) → (k : ℕ) × Contains events (event.Read k c i x))
        → Contains (notes_of_event p e) (note.Read c i x) ⊎ Contains (notes (patience_after p e) events) (note.Read c i x) → (k : ℕ) × Contains (e ∷ events) (event.Read k c i x)
    choose rest (inl m) = here (read_of p e c i x m)
    choose rest (inr m) = on (rest m)

-- and a read is noted
reads_out : (p : Option ℕ) (events : List Event) (k c i x : ℕ) → Contains events (event.Read k c i x) → Contains (notes p events) (note.Read c i x)
reads_out p [] k c i x h = nothing (event.Read k c i x) h
reads_out p (e ∷ events) k c i x (zero, lt, at) = subst (λ d. Contains (notes_of_event p d ++ notes (patience_after p d) events) (note.Read c i x)) (sym at) (read_first p)
  where
    read_first : (q : Option ℕ) → Contains (notes_of_event q (event.Read k c i x) ++ notes (patience_after q (event.Read k c i x)) events) (note.Read c i x)
    read_first q = first (note.Read c i x) (notes (patience_after q (event.Read k c i x)) events)
reads_out p (e ∷ events) k c i x (suc j, lt, at) =
    Contains-append_right (notes_of_event p e) (notes (patience_after p e) events) (note.Read c i x) (reads_out (patience_after p e) events k c i x (j, omega (arith, lt), at))

pub are_noted : (s : Strategy) (events : List Event) → AreNoted s events
are_noted s events = record {
  looks = λ c. (found_of s events c, note_of s events c);
  reads = λ c i x. (reads_in (patience s) events c i x, λ m. reads_out (patience s) events m.0 c i x m.1);
}
