-- How a turning out meets the conditions of its calls, from what its own calls say.
use Rattle.std.proofs.Common.{◌≡◌, ◌∙◌, ℕ, ◌<◌, Bool, true, false, List, [], Option, Some, slice_index, refl, sym, ap, subst}
use Rattle.std.specs.Prelude.{IsTrue}
use mathlib.Core.Option.{some}
use lib.ListN.{get_elem?}
use Rattle.cell_store.specs.Store.{Contents, held_of}
use Rattle.cell_store.specs.Faults.{Rose}
use Rattle.cell_file.specs.Standing.{standing}
use Rattle.arr_history.specs.History.{after}
use Rattle.stood_arrays.specs.Opening.{store_in}
use Rattle.pin_words.specs.declared.holding.Left.{Left}
use Rattle.pin_words.specs.declared.lane.Taken.{Taken}
use Rattle.pin_words.specs.declared.doing.Doing.{Doing}
use Rattle.pin_words.specs.Plan.{Plan, lane_of, is_told, shown, start_of}
use Rattle.pin_words.specs.Standing.{StandsFor}
use Rattle.pin_words.specs.Account.{rise}
use Rattle.pin_words.specs.Finding.{left_of}
use Rattle.pin_words.specs.Cells.{left, IsFrameNumber, IsGone, IsBack}
use Rattle.pin_words.specs.Lanes.{taken}
use Rattle.pin_words.proofs.Opened.{store_shown}
use Rattle.pin_rule.specs.declared.made.Made.{Made}
use Rattle.pin_rule.specs.declared.pins.Pins.{Pins}
use Rattle.pin_rule.specs.Parts.{OwnLane}
use Rattle.pin_rule.specs.Calls.{plan_at, made_of, cell_count, lane_count, voxel_count, MaySave, MayReturn}
use Rattle.pin_rule.specs.Hands.{Hands}
use Rattle.pin_rule.specs.Saving.{HasPut, HasTriedPut, GivesAfterSaving, GivesAfterNotSaving}
use Rattle.live_cells.specs.Lanes.{JustTook, IsTurning}
use Rattle.live_cells.proofs.Fetched.{first_at}
use Rattle.live_cells.proofs.Laning.{took_hands}
use Rattle.live_cells.proofs.Turning.{found, gone_goes, back_goes, marked_still, back_lane}

module _ {S : Type 0} (shows : S → Contents) (t : Pins S) where
  -- a pass has the lane of the marked cell that it has closed
  pub record Putting (l v s : ℕ) (x : S) (d : Doing S (Option (Made S))) : Type 0 where
    pub turning : IsTurning (plan_at shows t) v s true d
    pub took : JustTook (plan_at shows t) l x d.claims [] d.leaving d
    pub near : v < cell_count t
    pub own : l ≡ lane_of (plan_at shows t) v
    pub below : l < lane_count t

  module _ (l v s : ℕ) (x : S) (d : Doing S (Option (Made S))) (k : Putting l v s x d) where
    abbrev p : Plan S (Option (Made S))
    p = plan_at shows t

    first : (w : S) × (get_elem? (made_of t).stores.value.items l ≡ some w)
    first = first_at (made_of t).stores.value.items l k.below

    lane_is : d.lane ≡ Some (taken l x d.seen)
    lane_is = (took_hands p l x d.claims [] d.leaving d k.took).lane_is

    pub hands_now : (o : Taken S) × Hands d.claims [] d.leaving (Some o) d
    hands_now = (taken l x d.seen, took_hands p l x d.claims [] d.leaving d k.took)

    here : left_of v d ≡ left v s true k.turning.at
    here = (found p v s true d k.turning).1

    -- the cell's store tells where the one that the cells were made with does
    told_here : IsTrue (shows x).told → IsTrue (is_told p v)
    told_here h = (ap (λ n. (store_in (shown p) n).told) (sym k.own) ∙ ap (λ (c : Contents). c.told) (store_shown p.shows p.stores l first.0 first.1)) ∙ (sym (k.took.took.stood first.0 first.1).0 ∙ h)

    tried : (done : Bool) (y : S) → HasPut p v done x y → HasTriedPut p l v s k.turning.at done x y k.took.before d
    tried done y put = record {
      first = first.0;
      is_first = first.1;
      near = (k.near, sym k.own);
      leaving = k.took.leaving_are ∙ k.turning.leaving;
      not_void = k.turning.not_void;
      took = k.took.took;
      put = put;
    }

    module _ (y : OwnLane S) (lane : y.lane ≡ l) where
      at_lane : (e : Doing S (Option (Made S))) → MayReturn p e (record { lane = l; store = y.store }) → MayReturn p e y
      at_lane e = subst (λ m. MayReturn p e (record { lane = m; store = y.store })) (sym lane)

      module _ (values : List ℕ) (numbers : (i : ℕ) → i < voxel_count t v → IsFrameNumber p (left_of v d) i (slice_index values i)) (put : HasPut p v true x y.store)
          (stood : IsTrue (shows x).told → standing (made_of t).levels.value (made_of t).keys.value (held_of (shows y.store)) v ≡ Some values) where
        stands : IsTrue (shows x).told → StandsFor p (held_of (shows y.store)) v ((after (start_of p) k.turning.at).arrays v)
        stands h = (values, stood h, λ i lt. (subst (λ (q : Left). IsFrameNumber p q i (slice_index values i)) here (numbers i lt)).1 (told_here h))

        pub may_save : MaySave p d v y
        may_save = (taken l x d.seen, lane_is, lane, sym k.own, λ h. subst (λ (q : Left). StandsFor p (held_of (shows y.store)) v ((after (start_of p) q.at).arrays v)) (sym here) (stands h))

        pub home_saved : GivesAfterSaving S → (e : Doing S (Option (Made S))) → IsGone p d v e → MayReturn p e y
        home_saved law e h = at_lane e (law p l v s k.turning.at x y.store k.took.before d e (tried true y.store put) stands h (marked_still p d e _ v (gone_goes p v s true d k.turning e h) (k.turning.marked refl)))

      pub home_back : GivesAfterNotSaving S → HasPut p v false x y.store → (e : Doing S (Option (Made S))) → IsBack p d v e → MayReturn p e y
      home_back law put e h = at_lane e (law p l v s k.turning.at x y.store k.took.before d e (tried false y.store put) (back_lane p v s true d k.turning e h) (marked_still p d e _ v (back_goes p v s true d k.turning e h) (k.turning.marked refl)))

      -- a round in which the put failed raised the pass's rises on the lane
      pub rose_put : Rose (shows x).faults (shows y.store).faults → (e : Doing S (Option (Made S)))
          → ((o : Taken S) → d.lane ≡ Some o → Rose (shows o.store).faults (shows y.store).faults → rise y.lane d < rise y.lane e) → rise (lane_of p v) d < rise (lane_of p v) e
      rose_put fault e raised = subst (λ m. rise m d < rise m e) (lane ∙ k.own) (raised (taken l x d.seen) lane_is fault)
