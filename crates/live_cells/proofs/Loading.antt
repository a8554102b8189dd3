-- How a load meets the conditions of its calls, from what its own calls say.
use Rattle.std.proofs.Common.{◌≡◌, ◌∙◌, ℕ, ◌<◌, take, true, false, true≢false, IsTrue, Bool, List, [], ◌∷◌, Option, Some, None, refl, sym, ap, subst, arith}
use Rattle.std.specs.Prelude.{is_none}
use mathlib.Core.Option.{some}
use lib.ListN.{get_elem?}
use Rattle.cell_store.specs.Store.{Contents, held_of}
use Rattle.cell_store.specs.Faults.{Rose}
use Rattle.cell_grid.specs.declared.level.Level.{Level}
use Rattle.cell_grid.specs.Pyramid.{cells_of}
use Rattle.cell_file.specs.Keys.{KeyNames, edited_key, base_key}
use Rattle.cell_file.specs.Laws.{AreTheirOwn, IsStanding}
use Rattle.cell_file.specs.Standing.{refusal_of, refused_by}
use Rattle.cell_file.specs.declared.errors.FetchErr.{FetchErr}
use Rattle.cell_file.specs.declared.errors.FetchErr.TheVariants as fetching
use Rattle.arr_history.specs.History.{WasMarked}
use Rattle.arr_history.specs.Laws.{HeldFromOpening}
use Rattle.stood_arrays.specs.Opening.{store_in, store_for}
use Rattle.pin_words.specs.declared.lane.Taken.{Taken}
use Rattle.pin_words.specs.declared.doing.Doing.{Doing}
use Rattle.pin_words.specs.Plan.{Plan, lane_of, is_told, is_void, shown, shape_of, start_of}
use Rattle.pin_words.specs.Account.{InLane, Untouched, rise}
use Rattle.pin_words.specs.Cells.{held, IsFilled}
use Rattle.pin_words.specs.Lanes.{taken}
use Rattle.pin_words.proofs.Opened.{store_shown}
use Rattle.pin_rule.specs.declared.made.Made.{Made}
use Rattle.pin_rule.specs.declared.pins.Pins.{Pins}
use Rattle.pin_rule.specs.Parts.{OwnLane}
use Rattle.pin_rule.specs.Calls.{plan_at, made_of, cell_count, lane_count, voxel_count, MayFill, MayReturn}
use Rattle.pin_rule.specs.Going.{Goes}
use Rattle.pin_rule.specs.Hands.{Hands}
use Rattle.live_cells.specs.Lanes.{JustTook}
use Rattle.live_cells.specs.Loads.{IsRefusedAtFirst, IsCauseOfFetch}
use Rattle.live_cells.specs.Fetching.{HasGot, HasGotNone}
use Rattle.live_cells.proofs.Laning.{took_hands, took_clean}
use Rattle.live_cells.proofs.Fetched.{first_at, was_stood, may_fill, may_return, may_return_filled}

none_some : {A B : Type 0} (a : A) → None ≡ Some a → B
none_some a e = absurd (true≢false (ap is_none e))

-- the refusal of a cell is that of what is held under its keys
refusal_same : (levels : List Level) (keys : KeyNames) (cell : ℕ) (held other : List ℕ → Option (List ℕ)) → held (edited_key levels cell) ≡ other (edited_key levels cell) → held (base_key levels keys cell) ≡ other (base_key levels keys cell) → refusal_of levels keys held cell ≡ refusal_of levels keys other cell
unfolding refusal_of
refusal_same levels keys cell held other e f = λ i. refused_by levels cell (e i) (f i)

module _ {S : Type 0} (shows : S → Contents) (t : Pins S) where
  -- the lane of the claimed cell c was taken, whose slot is to be s
  pub record Taking (l c s : ℕ) (x : S) (d : Doing S (Option (Made S))) : Type 0 where
    pub took : JustTook (plan_at shows t) l x (c ∷ []) (held s None [] ∷ []) [] d
    pub near : c < cell_count t
    pub own : l ≡ lane_of (plan_at shows t) c
    pub below : l < lane_count t

  -- what was held when the lane was taken
  pub taken_as : (l c s : ℕ) (x : S) (a d : Doing S (Option (Made S))) → Hands (c ∷ []) (held s None [] ∷ []) [] None a → JustTook (plan_at shows t) l x a.claims a.slots a.leaving d → JustTook (plan_at shows t) l x (c ∷ []) (held s None [] ∷ []) [] d
  taken_as l c s x a d h k = record { before = k.before; took = k.took; claims_are = k.claims_are ∙ h.claims_are; slots_are = k.slots_are ∙ h.slots_are; leaving_are = k.leaving_are ∙ h.leaving_are }

  -- what was got is so many values of the cell
  pub got_here : (n c voxels : ℕ) (x y : S) (frame : List ℕ) → n ≡ c → voxels ≡ voxel_count t n → HasGot (made_of t).levels.value (made_of t).keys.value n (shows x) (shows y) (take (voxel_count t n) frame)
      → HasGot (made_of t).levels.value (made_of t).keys.value c (shows x) (shows y) (take voxels frame)
  got_here n c voxels x y frame same count g = subst (λ m. HasGot (made_of t).levels.value (made_of t).keys.value m (shows x) (shows y) (take voxels frame)) same (subst (λ m. HasGot (made_of t).levels.value (made_of t).keys.value n (shows x) (shows y) (take m frame)) (sym count) g)

  module _ (l c s : ℕ) (x : S) (d : Doing S (Option (Made S))) (k : Taking l c s x d) where
    abbrev p : Plan S (Option (Made S))
    p = plan_at shows t

    abbrev levels : List Level
    levels = (made_of t).levels.value

    abbrev keys : KeyNames
    keys = (made_of t).keys.value

    pub hands_now : (o : Taken S) × Hands (c ∷ []) (held s None [] ∷ []) [] (Some o) d
    hands_now = (taken l x d.seen, took_hands p l x (c ∷ []) (held s None [] ∷ []) [] d k.took)

    pub first : (v : S) × (get_elem? (made_of t).stores.value.items l ≡ some v)
    first = first_at (made_of t).stores.value.items l k.below

    in_lane : InLane p l c
    in_lane = (k.near, sym k.own)

    module _ (y : OwnLane S) (lane : y.lane ≡ l) where
      module _ (values : List ℕ) (g : HasGot levels keys c (shows x) (shows y.store) values) where
        pub fill_ok : MayFill p d c y values
        fill_ok = subst (λ m. MayFill p d c (record { lane = m; store = y.store }) values) (sym lane)
            (may_fill p l x first.0 c (held s None [] ∷ []) d first.1 k.took y.store values in_lane g.fetched g.gave)

        pub home_ok : (e : Doing S (Option (Made S))) → IsFilled d c s values e → MayReturn p e y
        home_ok e f = subst (λ m. MayReturn p e (record { lane = m; store = y.store })) (sym lane)
            (may_return_filled p l x first.0 c (held s None [] ∷ []) d first.1 k.took y.store values in_lane g.fetched g.gave s e f)

      module _ (err : FetchErr) (g : HasGotNone levels keys c (shows x) (shows y.store) err) where
        pub back_ok : MayReturn p d y
        back_ok = subst (λ m. MayReturn p d (record { lane = m; store = y.store })) (sym lane)
            (may_return p l x first.0 c (held s None [] ∷ []) d first.1 k.took y.store (edited_key levels c) false g.fetched)

    -- what the cell's store showed at first
    shown_first : store_for p.lanes (shown p) c ≡ shows first.0
    shown_first = ap (λ n. store_in (shown p) n) (sym k.own) ∙ store_shown p.shows p.stores l first.0 first.1

    told_now : IsTrue (is_told p c) → IsTrue (shows x).told
    told_now h = (k.took.took.stood first.0 first.1).0 ∙ (sym (ap (λ (q : Contents). q.told) shown_first) ∙ h)

    module _ (own : AreTheirOwn keys) (keyed : keys.levels ≡ levels) (opened : HeldFromOpening) (stands : (held : List ℕ → Option (List ℕ)) → IsStanding levels keys held c) where
      -- a cell without an array was never marked, so that no cell with its keys was
      untouched : (void : is_void p c ≡ true) → IsTrue (is_told p c) → (key : List ℕ) → ((m : ℕ) → m < cell_count t → edited_key levels m ≡ key → m ≡ c) → Untouched p d.seen key
      untouched void told key alone m lt was e = absurd (true≢false (sym void ∙ (opened (shape_of p) (λ n i. (start_of p).arrays n i) d.seen k.took.took.sees.legal).had_array c told (subst (λ n. WasMarked n d.seen) (alone m lt e) was)))

      edited_alone : (m : ℕ) → m < cell_count t → edited_key levels m ≡ edited_key levels c → m ≡ c
      edited_alone m lt e = subst (λ (q : List Level). m < cells_of q → c < cells_of q → edited_key q m ≡ edited_key q c → m ≡ c) keyed (own.edited m c) lt k.near e

      base_alone : (m : ℕ) → m < cell_count t → edited_key levels m ≡ base_key levels keys c → m ≡ c
      base_alone m lt e = subst (λ (q : List Level). m < cells_of q → c < cells_of q → edited_key q m ≡ base_key q keys c → m ≡ c) keyed (own.base m c) lt k.near e

      -- a cell that is refused now is void
      void_now : IsTrue (is_told p c) → (err : FetchErr) → refusal_of levels keys (held_of (shows x)) c ≡ Some err → is_void p c ≡ true
      void_now told err refused = go (is_void p c) refl
        where
          go : (b : Bool) → is_void p c ≡ b → b ≡ true
          go true e = refl
          go false e = let w = (was_stood p l x first.0 c (held s None [] ∷ []) d first.1 k.took (told_now told)).arrays c in_lane e (took_clean p l x (c ∷ []) (held s None [] ∷ []) [] d k.took c [] refl) in
              none_some w.0 (sym ((stands (held_of (shows x))).void err refused) ∙ w.1)

      -- it was refused from the first
      pub refused_first : (err : FetchErr) → (IsTrue (shows x).told → refusal_of levels keys (held_of (shows x)) c ≡ Some err) → IsRefusedAtFirst shows t c err
      refused_first err refused told = let r = refused (told_now told) in let v = void_now told err r in
          let same = (was_stood p l x first.0 c (held s None [] ∷ []) d first.1 k.took (told_now told)).keys in
          let e1 : held_of (shows x) (edited_key levels c) ≡ held_of (shows first.0) (edited_key levels c) = same (edited_key levels c) (untouched v told (edited_key levels c) edited_alone) in
          let e2 : held_of (shows x) (base_key levels keys c) ≡ held_of (shows first.0) (base_key levels keys c) = same (base_key levels keys c) (untouched v told (base_key levels keys c) base_alone) in
          ap (λ (q : Contents). refusal_of levels keys (held_of q) c) shown_first ∙ (sym (refusal_same levels keys c (held_of (shows x)) (held_of (shows first.0)) e1 e2) ∙ r)

      -- a round in which a get failed raised the pass's rises on the lane
      pub caused : (a e : Doing S (Option (Made S))) (y : OwnLane S) → y.lane ≡ l → (err : FetchErr) → HasGotNone levels keys c (shows x) (shows y.store) err → Goes p a [] d
          → ((o : Taken S) → d.lane ≡ Some o → Rose (shows o.store).faults (shows y.store).faults → rise y.lane d < rise y.lane e) → IsCauseOfFetch shows t c a e err
      caused a e y lane fetching.ReadFault g went raised = let r = raised (taken l x d.seen) (took_hands p l x (c ∷ []) (held s None [] ∷ []) [] d k.took).lane_is (g.read_fault refl) in
          subst (λ m. rise m a < rise m e) (lane ∙ k.own) (let u = went.rises y.lane in omega (arith, r, u))
      caused a e y lane (fetching.Malformed edited err) g went raised = refused_first (fetching.Malformed edited err) g.refused
      caused a e y lane (fetching.TooLong edited len limit) g went raised = refused_first (fetching.TooLong edited len limit) g.refused
      caused a e y lane fetching.Memory g went raised = tt
