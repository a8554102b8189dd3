-- A pin that was made and ended.
use Rattle.std.proofs.Common.{◌≡◌, ◌∙◌, ℕ, ◌&&◌, cond, Bool, true, false, List, ◌∷◌, ◌++◌, refl, ap, sym, subst, eq-eqb, Option, Ok}
use Rattle.arr_history.specs.declared.event.Event.{Event}
use Rattle.pin_words.specs.declared.holding.Pin.{Pin}
use Rattle.pin_words.specs.declared.doing.Doing.{Doing}
use Rattle.pin_words.specs.Finding.{pin, same_mark, same_pin, pins_without, drop_by}
use Rattle.pin_rule.specs.Parts.{PinnedCell}
use Rattle.pin_rule.specs.declared.made.Made.{Made}
use Rattle.pin_rule.specs.declared.pins.Pins.{Pins}
use Rattle.pin_rule.specs.Calls.{pin_of, plan_at}
use Rattle.cell_store.specs.Store.{Contents}
use Rattle.pin_rule.specs.Going.{Goes}
use Rattle.live_cells.specs.Voxels.{Visited}
use Rattle.live_cells.specs.Cells.{Acquires}
use Rattle.pin_rule.proofs.Goings.{goes_by}

same_itself : (q : Pin) → same_pin q q ≡ true
same_itself q = (λ i. eq-eqb q.cell q.cell refl i && (eq-eqb q.slot q.slot refl i && same_mark q.marked q.marked)) ∙ mark q.marked
  where
    mark : (b : Bool) → same_mark b b ≡ true
    mark true = refl
    mark false = refl

dropped_first : (q : Pin) (ps : List Pin) → drop_by (same_pin q) (q ∷ ps) ≡ ps
dropped_first q ps = ap (λ (b : Bool). cond b ps (q ∷ drop_by (same_pin q) ps)) (same_itself q)

module _ {S M : Type 0} where
  pub pins_back : (q : Pin) (d : Doing S M) (ps : List Pin) → d.pins ≡ q ∷ ps → pins_without q d ≡ ps
  pins_back q d ps e = ap (drop_by (same_pin q)) e ∙ dropped_first q ps

  -- the pin of a handle that was just given
  pub unpinned : (h : PinnedCell) (c : ℕ) (m : Bool) (d : Doing S M) (ps : List Pin) → h.cell ≡ c → h.marked ≡ m → d.pins ≡ pin c h.slot m ∷ ps → pins_without (pin_of h) d ≡ ps
  unpinned h c m d ps cell mark e = pins_back (pin_of h) d ps (e ∙ (λ i. pin (sym cell i) h.slot (sym mark i) ∷ ps))

module _ {S : Type 0} (shows : S → Contents) (t : Pins S) (c : ℕ) (a b f : Doing S (Option (Made S))) where
  -- what followed an acquire that was granted
  pub visited : (h : PinnedCell) (n : ℕ) (rest : ℕ → ℕ → List Event) → n ≡ c → Acquires shows t c a b (Ok h) → Goes (plan_at shows t) b (rest n b.number) f → Visited shows t a f c (rest c a.number)
  visited h n rest e q g = record {
    events = q.events ++ rest c a.number;
    visit = (h.loaded, q.events, q.piece, refl);
    went = goes_by (plan_at shows t) (rest c) a b f q.events q.went (subst (λ m. Goes (plan_at shows t) b (rest m b.number) f) e g);
  }
