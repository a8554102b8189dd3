-- What the word of a cell shows a pass that is alone and has nothing.
use Rattle.std.proofs.Common.{length, ◌≡◌, ◌≢◌, ◌⊎◌, inl, inr, ◌∙◌, ℕ, ◌+◌, ◌<◌, true, false, true≢false, Bool, List, [], ◌++◌, None, refl, ap, sym, subst, arith}
use Rattle.arr_history.specs.declared.event.Event.{Event}
use Rattle.arr_history.specs.declared.cell_state.CellState.{CellState}
use Rattle.arr_history.specs.declared.cell_state.CellState.TheVariants as cell
use Rattle.arr_history.specs.declared.cell_state.Seen.TheVariants as look
use Rattle.arr_history.specs.History.{after}
use Rattle.arr_history.specs.Legal.{HasSlot}
use Rattle.pin_words.specs.declared.doing.Doing.{Doing}
use Rattle.pin_words.specs.declared.doing.Ended.{Ended}
use Rattle.pin_words.specs.Account.{has_mark}
use Rattle.pin_words.specs.Plan.{Plan, start_of}
use Rattle.pin_words.specs.Layout.{face, live_word}
use Rattle.pin_words.specs.Pins.{seen_of}
use Rattle.pin_words.specs.Words.{times}
use Rattle.pin_words.specs.Finding.{has_claim, has_left}
use Rattle.pin_words.specs.Tells.{IsLone, IsOwnWork, ShowsCell}
use Rattle.pin_rule.specs.declared.cell_word.CellWord.{CellWord}
use Rattle.pin_rule.specs.Shown.{ShowsState}
use Rattle.pin_rule.specs.Going.{Goes}
use Rattle.pin_rule.specs.Hands.{Hands}
use Rattle.live_cells.specs.Lanes.{IsTurning}

module _ {S M : Type 0} (p : Plan S M) (d : Doing S M) (lone : IsLone d) (bare : Hands [] [] [] None d) (unpinned : d.pins ≡ []) where
  no_claim : (c : ℕ) → has_claim c d ≡ true → ⊥
  no_claim c e = true≢false (sym e ∙ ap (λ (x : List ℕ). has_claim c (record d { claims = x })) bare.claims_are)

  no_leaving : (c : ℕ) → has_left c d ≡ true → ⊥
  no_leaving c e = true≢false (sym e ∙ ap (λ x. has_left c (record d { leaving = x })) bare.leaving_are)

  module _ (seen : List Event) (c n : ℕ) (k : ShowsCell p d seen c n) where
    abbrev state : CellState
    state = (after (start_of p) seen).cells c

    -- nobody counts in it
    no_count : k.count ≡ 0
    no_count = k.own lone ∙ ap (times c) unpinned

    pub word_is : n ≡ face state
    word_is = let w = k.word in let z = no_count in omega (arith, w, z)

    -- it is absent or live
    settled : (P : CellState → Type 0) → P cell.Absent → ((slot : ℕ) (mark : Bool) → P (cell.Live slot mark)) → P state
    settled P absent live = go state (k.own_work lone)
      where
        go : (s : CellState) → IsOwnWork d c s → P s
        go cell.Absent w = absent
        go (cell.Loading j) w = absurd (no_claim c w.1)
        go (cell.Live slot mark) w = live slot mark
        go (cell.Leaving j slot mark) w = absurd (no_leaving c w.1)

    module _ (w : CellWord) (h : ShowsState state k.count w) where
      pub shown_absent : w.state ≡ look.Absent → state ≡ cell.Absent
      shown_absent is = settled (λ s. seen_of s ≡ look.Absent → s ≡ cell.Absent) (λ _. refl) (λ slot mark e. absurd cc) (sym h.state ∙ is)

      pub shown_live : w.state ≡ look.Live → (w.slot < p.slots) × (n ≡ live_word w.slot w.marked)
      shown_live is = settled (λ s. ((slot : ℕ) → HasSlot s slot → slot < p.slots) → ((slot : ℕ) → HasSlot s slot → w.slot ≡ slot) → w.marked ≡ has_mark s → n ≡ face s → seen_of s ≡ look.Live → (w.slot < p.slots) × (n ≡ live_word w.slot w.marked)) (λ low at mark f e. absurd cc)
          (λ slot mark low at is_mark f e. (subst (λ x. x < p.slots) (sym (at slot refl)) (low slot refl), f ∙ (λ i. live_word (sym (at slot refl) i) (sym is_mark i)))) k.low h.slot h.marked word_is (sym h.state ∙ is)

      pub never_loading : w.state ≡ look.Loading → ⊥
      never_loading is = settled (λ s. seen_of s ≡ look.Loading → ⊥) (λ e. cc) (λ slot mark e. cc) (sym h.state ∙ is)

      pub never_leaving : w.state ≡ look.Leaving → ⊥
      never_leaving is = settled (λ s. seen_of s ≡ look.Leaving → ⊥) (λ e. cc) (λ slot mark e. cc) (sym h.state ∙ is)

-- while nothing comes between, the same word is found
pub same_word : {S M : Type 0} (p : Plan S M) (d e : Doing S M) → IsLone d → Hands [] [] [] None d → d.pins ≡ [] → IsLone e → Hands [] [] [] None e → e.pins ≡ [] → (c m n : ℕ) (seen later : List Event) → later ≡ seen → ShowsCell p d seen c m → ShowsCell p e later c n → n ≡ m
same_word p d e dl db du el eb eu c m n seen later same k h = word_is p e el eb eu later c n h ∙ (ap (λ (x : List Event). face ((after (start_of p) x).cells c)) same ∙ sym (word_is p d dl db du seen c m k))

pub still_alone : {S M : Type 0} (p : Plan S M) (d e : Doing S M) (events : List Event) → Goes p d events e → IsLone d → IsLone e
still_alone p d e events g h = (g.number ∙ h.0, g.drawn ∙ (h.1 ∙ ap (λ (x : List Ended). length x + 1) (sym g.ended)))

-- what it has seen is what it had seen, and what it made
pub seen_alone : {S M : Type 0} (p : Plan S M) (d e : Doing S M) (events : List Event) → Goes p d events e → IsLone d → e.seen ≡ d.seen ++ events
seen_alone p d e events g h = g.seen ∙ ap (λ (x : List Event). d.seen ++ x) (g.lone h)

pub either : {A B C : Type 0} → A ⊎ B → (A → C) → (B → C) → C
either (inl a) f h = f a
either (inr b) f h = h b

pub at_slot : (s slot n : ℕ) → s ≡ slot → slot < n → s < n
at_slot s slot n e h = subst (λ x. x < n) (sym e) h

-- a closed cell, told by the slot and the mark of what was given
pub as_found : {S M : Type 0} (p : Plan S M) (v slot s : ℕ) (mark m : Bool) (d : Doing S M) → s ≡ slot → m ≡ mark → IsTurning p v slot mark d → IsTurning p v s m d
as_found p v slot s mark m d e f h = subst (λ (q : ℕ × Bool). IsTurning p v q.0 q.1 d) (λ i. (sym e i, sym f i)) h
