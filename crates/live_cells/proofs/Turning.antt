-- A closed cell of a pass.
use Rattle.std.proofs.Common.{◌≡◌, ◌∙◌, ℕ, ◌==◌, cond, Bool, true, false, List, [], ◌∷◌, ◌++◌, append_assoc, Option, Some, None, sym, refl, ap, subst, eq-eqb}
use Rattle.arr_history.specs.declared.event.Event.{Event}
use Rattle.arr_history.specs.declared.event.Event.TheVariants as event
use Rattle.pin_words.specs.declared.holding.Held.{Held}
use Rattle.pin_words.specs.declared.holding.Left.{Left}
use Rattle.pin_words.specs.declared.lane.Change.{Change}
use Rattle.pin_words.specs.declared.lane.Taken.{Taken}
use Rattle.pin_words.specs.declared.doing.Doing.{Doing}
use Rattle.pin_words.specs.Plan.{Plan}
use Rattle.pin_words.specs.Account.{WasMarked}
use Rattle.pin_words.specs.Layout.{live_word}
use Rattle.pin_words.specs.Finding.{has_left, left_of, lefts_without, find_by}
use Rattle.pin_words.specs.Cells.{held, left, change, noted, IsClosed, IsBusy, IsGone, IsBack}
use Rattle.pin_words.specs.Tells.{tried}
use Rattle.pin_rule.specs.Going.{Goes}
use Rattle.pin_rule.specs.Hands.{Hands}
use Rattle.live_cells.specs.Lanes.{IsTurning}
use Rattle.pin_rule.proofs.Goings.{adds_goes, sees_goes}

noted_none : {S : Type 0} (b : Bool) (h : Change) → noted {S = S} b h None ≡ None
noted_none true h = refl
noted_none false h = refl

module _ {S M : Type 0} (p : Plan S M) where
  pub closed_goes : (d d' : Doing S M) (c s : ℕ) (mark : Bool) → IsClosed p d c s mark d' → Goes p d (event.Close d.number c ∷ []) d'
  closed_goes d d' c s mark h = adds_goes p d _ d' _ h.0 (record { number = refl; ended = refl; drawn = refl; tries = (tried 17 c (live_word s mark) ∷ [], refl); rises = refl })

  pub busy_goes : (d d' : Doing S M) (c s n : ℕ) (mark : Bool) → IsBusy p d c s mark n d' → Goes p d [] d'
  busy_goes d d' c s n mark h = sees_goes p d _ d' h.1 (record { number = refl; ended = refl; drawn = refl; tries = (tried 17 c n ∷ [], refl); rises = refl }) refl

  pub closed_turning : (d d' : Doing S M) (c s : ℕ) (mark : Bool) → d.leaving ≡ [] → IsClosed p d c s mark d' → IsTurning p c s mark d'
  closed_turning d d' c s mark none h = record {
    at = d'.seen;
    leaving = ap (λ x. x.leaving) h.0.is ∙ ap (λ (x : List Left). left c s mark d'.seen ∷ x) none;
    marked = h.1;
    not_void = h.2;
  }

  -- what is found of it
  module _ (c s : ℕ) (mark : Bool) (d : Doing S M) (t : IsTurning p c s mark d) where
    pub found : (has_left c d ≡ true) × (left_of c d ≡ left c s mark t.at) × (lefts_without c d ≡ [])
    found = subst (λ (q : List Left). (has_left c (record d { leaving = q }) ≡ true) × (left_of c (record d { leaving = q }) ≡ left c s mark t.at) × (lefts_without c (record d { leaving = q }) ≡ [])) (sym t.leaving)
        (ap (λ (b : Bool). cond b true false) self, ap (λ (b : Bool). cond b (left c s mark t.at) (record { cell = c; slot = 0; marked = false; at = [] })) self, ap (λ (b : Bool). cond b [] (left c s mark t.at ∷ [])) self)
      where
        self : (c == c) ≡ true
        self = eq-eqb c c refl

    pub mine_left : (has_left c d ≡ true) × ((left_of c d).slot ≡ s) × ((left_of c d).marked ≡ mark)
    mine_left = (found.0, ap (λ (q : Left). q.slot) found.1, ap (λ (q : Left). q.marked) found.1)

    pub gone_lane : (d' : Doing S M) → IsGone p d c d' → d'.lane ≡ noted mark (change c true t.at) d.lane
    gone_lane d' h = ap (λ x. x.lane) h.is ∙ ap (λ (q : Left). noted q.marked (change c true q.at) d.lane) found.1

    pub gone_goes : (d' : Doing S M) → IsGone p d c d' → Goes p d (event.Gone d.number c mark ∷ []) d'
    gone_goes d' h = subst (λ (m : Bool). Goes p d (event.Gone d.number c m ∷ []) d') (ap (λ (q : Left). q.marked) found.1) (adds_goes p d _ d' _ h (record { number = refl; ended = refl; drawn = refl; tries = ([], refl); rises = refl }))

    pub back_goes : (d' : Doing S M) → IsBack p d c d' → Goes p d (event.Back d.number c ∷ []) d'
    back_goes d' h = adds_goes p d _ d' _ h (record { number = refl; ended = refl; drawn = refl; tries = ([], refl); rises = refl })

    pub gone_hands : (d' : Doing S M) (claims : List ℕ) (lane : Option (Taken S)) → Hands claims [] d.leaving lane d → IsGone p d c d' → Hands claims (held s None [] ∷ []) [] (noted mark (change c true t.at) lane) d'
    gone_hands d' claims lane k h = record {
      claims_are = ap (λ x. x.claims) h.is ∙ k.claims_are;
      slots_are = ap (λ x. x.slots) h.is ∙ (ap (λ (q : Left). held q.slot None [] ∷ d.slots) found.1 ∙ ap (λ (x : List Held). held s None [] ∷ x) k.slots_are);
      leaving_are = ap (λ x. x.leaving) h.is ∙ found.2;
      lane_is = gone_lane d' h ∙ ap (λ x. noted mark (change c true t.at) x) k.lane_is;
    }

    pub gone_free : (d' : Doing S M) (claims : List ℕ) → Hands claims [] d.leaving None d → IsGone p d c d' → Hands claims (held s None [] ∷ []) [] None d'
    gone_free d' claims k h = let r = gone_hands d' claims None k h in record { claims_are = r.claims_are; slots_are = r.slots_are; leaving_are = r.leaving_are; lane_is = r.lane_is ∙ noted_none mark (change c true t.at) }

    pub gone_kept : (d' : Doing S M) (claims : List ℕ) (o : Taken S) → mark ≡ true → Hands claims [] d.leaving (Some o) d → IsGone p d c d' → (q : Taken S) × Hands claims (held s None [] ∷ []) [] (Some q) d'
    gone_kept d' claims o is k h = let r = gone_hands d' claims (Some o) k h in (
      record o { changes = change c true t.at ∷ o.changes },
      record { claims_are = r.claims_are; slots_are = r.slots_are; leaving_are = r.leaving_are; lane_is = r.lane_is ∙ ap (λ (b : Bool). noted b (change c true t.at) (Some o)) is },
    )

    pub back_lane : (d' : Doing S M) → IsBack p d c d' → d'.lane ≡ d.lane
    back_lane d' h = ap (λ x. x.lane) h.is

    pub back_hands : (d' : Doing S M) (claims : List ℕ) (lane : Option (Taken S)) → Hands claims [] d.leaving lane d → IsBack p d c d' → Hands claims [] [] lane d'
    back_hands d' claims lane k h = record {
      claims_are = ap (λ x. x.claims) h.is ∙ k.claims_are;
      slots_are = ap (λ x. x.slots) h.is ∙ k.slots_are;
      leaving_are = ap (λ x. x.leaving) h.is ∙ found.2;
      lane_is = ap (λ x. x.lane) h.is ∙ k.lane_is;
    }

    pub back_as : (d' : Doing S M) (claims : List ℕ) (o : Taken S) → Hands claims [] d.leaving (Some o) d → IsBack p d c d' → Hands claims [] [] d.lane d'
    back_as d' claims o k h = let r = back_hands d' claims (Some o) k h in record { claims_are = r.claims_are; slots_are = r.slots_are; leaving_are = r.leaving_are; lane_is = r.lane_is ∙ sym k.lane_is }

  pub marked_still : (d d' : Doing S M) (events : List Event) (c : ℕ) → Goes p d events d' → WasMarked c d.seen → WasMarked c d'.seen
  marked_still d d' events c g m = (m.0, m.1, m.2 ++ g.between, g.seen ∙ (ap (λ x. x ++ g.between) m.3 ∙ append_assoc m.1 (event.Mark m.0 c ∷ m.2) g.between))

  -- it is still that of the pass, while the pass keeps it
  pub turning_still : (c s : ℕ) (mark : Bool) (d d' : Doing S M) (events : List Event) → IsTurning p c s mark d → Goes p d events d' → d'.leaving ≡ d.leaving → IsTurning p c s mark d'
  turning_still c s mark d d' events t g e = record { at = t.at; leaving = e ∙ t.leaving; marked = λ m. marked_still d d' events c g (t.marked m); not_void = t.not_void }

  pub busy_hands : (d d' : Doing S M) (c s n : ℕ) (mark : Bool) → Hands d.claims [] [] None d → IsBusy p d c s mark n d' → Hands d.claims [] [] None d'
  busy_hands d d' c s n mark k h = record { claims_are = ap (λ x. x.claims) h.1.is; slots_are = ap (λ x. x.slots) h.1.is ∙ k.slots_are; leaving_are = ap (λ x. x.leaving) h.1.is ∙ k.leaving_are; lane_is = ap (λ x. x.lane) h.1.is ∙ k.lane_is }

module _ {S M : Type 0} where
  pub left_same : (c : ℕ) (d d' : Doing S M) → d'.leaving ≡ d.leaving → left_of c d ≡ left_of c d'
  left_same c d d' e = ap (λ (x : List Left). find_by (λ (q : Left). q.cell == c) (record { cell = c; slot = 0; marked = false; at = [] }) x) (sym e)

  -- what is held, told by the claims of an earlier view
  pub hands_since : {slots : List Held} {leaving : List Left} {lane : Option (Taken S)} {e : Doing S M} (d d' : Doing S M) → d'.claims ≡ d.claims → Hands d'.claims slots leaving lane e → Hands d.claims slots leaving lane e
  hands_since {slots} {leaving} {lane} {e} d d' same h = subst (λ (x : List ℕ). Hands x slots leaving lane e) same h

  pub claims_as : {slots : List Held} {leaving : List Left} {lane : Option (Taken S)} {e : Doing S M} (d : Doing S M) (claims : List ℕ) → d.claims ≡ claims → Hands d.claims slots leaving lane e → Hands claims slots leaving lane e
  claims_as {slots} {leaving} {lane} {e} d claims same h = subst (λ (x : List ℕ). Hands x slots leaving lane e) same h
