-- Going on is one step after another.
use Rattle.std.proofs.Common.{◌≡◌, ◌↔◌, ℕ, ◌+◌, ◌≤◌, None, List, [], ◌∷◌, ◌++◌, length, append_assoc, sym, refl, ap, ◌∙◌, subst, arith}
use Rattle.std.proofs.lemmas.List.{append-nil}
use Rattle.std.specs.Prelude.{slice_index_or}
use Rattle.arr_history.specs.declared.event.Event.{Event}
use Rattle.arr_history.specs.History.{AreLegal, pass_of}
use Rattle.pass_roster.specs.History.{entries_by}
use Rattle.pass_roster.proofs.Entries.{by_append, by_one}
use Rattle.pin_words.specs.declared.doing.Doing.{Doing}
use Rattle.pin_words.specs.declared.doing.Ended.{Ended}
use Rattle.pin_words.specs.Plan.{Plan, shape_of, start_of}
use Rattle.pin_words.specs.Account.{rise}
use Rattle.pin_words.specs.Ends.{IsBare}
use Rattle.pin_words.specs.Tells.{IsLone, Adds, Sees}
use Rattle.pin_rule.specs.Going.{Goes, Alike}
use Rattle.pin_rule.specs.Hands.{Hands}

module _ {S M : Type 0} where
  still_lone : (d d' : Doing S M) → d'.number ≡ d.number → d'.ended ≡ d.ended → d'.drawn ≡ d.drawn → IsLone d → IsLone d'
  still_lone d d' n e r h = (n ∙ h.0, r ∙ (h.1 ∙ ap (λ (x : List Ended). length x + 1) (sym e)))

  pub same_rise : (l : ℕ) (d d' : Doing S M) → d'.rises ≡ d.rises → rise l d ≤ rise l d'
  same_rise l d d' e = go (rise l d) (rise l d') (ap (λ x. slice_index_or x l 0) e)
    where
      go : (a b : ℕ) → b ≡ a → a ≤ b
      go a b h = omega arith

  pub bare_hands : (d : Doing S M) → IsBare d ↔ ((d.pins ≡ []) × Hands [] [] [] None d)
  bare_hands d = (
    (λ b. (b.pins, record { claims_are = b.claims; slots_are = b.slots; leaving_are = b.leaving; lane_is = b.lane })),
    λ h. record { pins = h.0; claims = h.1.claims_are; slots = h.1.slots_are; leaving = h.1.leaving_are; lane = h.1.lane_is },
  )

module _ {S M : Type 0} (p : Plan S M) where
  -- a step that makes none and sees nothing
  pub same_goes : (d d' : Doing S M) → Alike d d' → d'.seen ≡ d.seen → d'.mine ≡ d.mine → Goes p d [] d'
  same_goes d d' a seen mine = record {
    number = a.number;
    ended = a.ended;
    drawn = a.drawn;
    between = [];
    seen = seen ∙ sym (append-nil d.seen);
    own = refl;
    lone = λ _. refl;
    mine = mine ∙ sym (append-nil d.mine);
    legal = λ h. subst (AreLegal (shape_of p) (start_of p)) (sym seen) h;
    tries = a.tries;
    rises = λ l. same_rise l d d' a.rises;
    lanes = ap length a.rises;
  }

  pub goes_still : (d : Doing S M) → Goes p d [] d
  goes_still d = same_goes d d (record { number = refl; ended = refl; drawn = refl; tries = ([], refl); rises = refl }) refl refl

  pub goes_on : (a b c : Doing S M) (xs ys : List Event) → Goes p a xs b → Goes p b ys c → Goes p a (xs ++ ys) c
  goes_on a b c xs ys f g = record {
    number = g.number ∙ f.number;
    ended = g.ended ∙ f.ended;
    drawn = g.drawn ∙ f.drawn;
    between = f.between ++ g.between;
    seen = g.seen ∙ ap (λ x. x ++ g.between) f.seen ∙ append_assoc a.seen f.between g.between;
    own = by_append pass_of a.number f.between g.between ∙ ((λ i. f.own i ++ entries_by pass_of (sym f.number i) g.between) ∙ ap (λ x. xs ++ x) g.own);
    lone = λ h. ap (λ x. x ++ g.between) (f.lone h) ∙ ap (λ x. xs ++ x) (g.lone (still_lone a b f.number f.ended f.drawn h));
    mine = g.mine ∙ ap (λ x. x ++ ys) f.mine ∙ append_assoc a.mine xs ys;
    legal = λ h. g.legal (f.legal h);
    tries = (g.tries.0 ++ f.tries.0, g.tries.1 ∙ ap (λ x. g.tries.0 ++ x) f.tries.1 ∙ sym (append_assoc g.tries.0 f.tries.0 a.tries));
    rises = λ l. let x = f.rises l in let y = g.rises l in omega arith;
    lanes = g.lanes ∙ f.lanes;
  }

  -- a step that makes an event
  pub adds_goes : (d w d' : Doing S M) (e : Event) → Adds p d e w d' → Alike d w → Goes p d (e ∷ []) d'
  adds_goes d w d' e h a = let saw = h.seen.2 in record {
    number = ap (λ x. x.number) h.is ∙ a.number;
    ended = ap (λ x. x.ended) h.is ∙ a.ended;
    drawn = ap (λ x. x.drawn) h.is ∙ a.drawn;
    between = saw.between ++ e ∷ [];
    seen = h.seen.1 ∙ ap (λ x. x ++ e ∷ []) saw.is ∙ append_assoc d.seen saw.between (e ∷ []);
    own = by_append pass_of d.number saw.between (e ∷ []) ∙ ((λ i. saw.foreign i ++ entries_by pass_of d.number (e ∷ [])) ∙ by_one pass_of d.number e h.own);
    lone = λ l. ap (λ x. x ++ e ∷ []) (saw.lone l);
    mine = ap (λ x. x.mine) h.is;
    legal = λ _. h.legal;
    tries = (a.tries.0, ap (λ x. x.tries) h.is ∙ a.tries.1);
    rises = λ l. same_rise l d d' (ap (λ x. x.rises) h.is ∙ a.rises);
    lanes = ap (λ x. length x.rises) h.is ∙ ap length a.rises;
  }

  -- a step that makes none, and sees what others did
  pub sees_goes : (d w d' : Doing S M) → Sees p d w d' → Alike d w → w.mine ≡ d.mine → Goes p d [] d'
  sees_goes d w d' h a mine = record {
    number = ap (λ x. x.number) h.is ∙ a.number;
    ended = ap (λ x. x.ended) h.is ∙ a.ended;
    drawn = ap (λ x. x.drawn) h.is ∙ a.drawn;
    between = h.seen.between;
    seen = h.seen.is;
    own = h.seen.foreign;
    lone = h.seen.lone;
    mine = ap (λ x. x.mine) h.is ∙ (mine ∙ sym (append-nil d.mine));
    legal = λ _. h.legal;
    tries = (a.tries.0, ap (λ x. x.tries) h.is ∙ a.tries.1);
    rises = λ l. same_rise l d d' (ap (λ x. x.rises) h.is ∙ a.rises);
    lanes = ap (λ x. length x.rises) h.is ∙ ap length a.rises;
  }

  -- what was seen has all of the pass's own events, still
  pub goes_own : (d d' : Doing S M) (events : List Event) → Goes p d events d' → entries_by pass_of d.number d.seen ≡ d.mine → entries_by pass_of d'.number d'.seen ≡ d'.mine
  goes_own d d' events g h = (λ i. entries_by pass_of (g.number i) (g.seen i)) ∙ (by_append pass_of d.number d.seen g.between ∙ ((λ i. h i ++ g.own i) ∙ sym g.mine))

  -- the same, where what the second made is by its pass's number
  pub goes_by : (f : ℕ → List Event) (a b c : Doing S M) (xs : List Event) → Goes p a xs b → Goes p b (f b.number) c → Goes p a (xs ++ f a.number) c
  goes_by f a b c xs g h = goes_on a b c xs (f a.number) g (subst (λ k. Goes p b (f k) c) g.number h)

  -- a step without an event at the end
  pub goes_end : (a b c : Doing S M) (xs : List Event) → Goes p a xs b → Goes p b [] c → Goes p a xs c
  goes_end a b c xs g h = subst (λ x. Goes p a x c) (append-nil xs) (goes_on a b c xs [] g h)
