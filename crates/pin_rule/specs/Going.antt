-- What a pass goes through, over steps of its own and of others.
use Rattle.std.specs.Prelude.{◌≡◌, ℕ, ◌≤◌, List, [], ◌∷◌, ◌++◌, length}
use Rattle.arr_history.specs.declared.event.Event.{Event}
use Rattle.arr_history.specs.History.{AreLegal, pass_of}
use Rattle.pass_roster.specs.History.{entries_by}
use Rattle.pin_words.specs.declared.doing.Doing.{Doing}
use Rattle.pin_words.specs.declared.doing.Try.{Try}
use Rattle.pin_words.specs.Plan.{Plan, shape_of, start_of}
use Rattle.pin_words.specs.Account.{rise}
use Rattle.pin_words.specs.Tells.{IsLone, Adds, Sees}

module _ {S M : Type 0} (p : Plan S M) where
  -- The pass came from the view d to d', and made these events. Since then it has seen what it and others did, of which just these are its
  -- own. A pass that is alone has seen nothing else.
  pub record Goes (d : Doing S M) (events : List Event) (d' : Doing S M) : Type 0 where
    pub number : d'.number ≡ d.number
    pub ended : d'.ended ≡ d.ended
    pub drawn : d'.drawn ≡ d.drawn
    pub between : List Event
    pub seen : d'.seen ≡ d.seen ++ between
    pub own : entries_by pass_of d.number between ≡ events
    pub lone : IsLone d → between ≡ events
    pub mine : d'.mine ≡ d.mine ++ events
    pub legal : AreLegal (shape_of p) (start_of p) d.seen → AreLegal (shape_of p) (start_of p) d'.seen
    pub tries : (more : List Try) × (d'.tries ≡ more ++ d.tries)
    pub rises : (l : ℕ) → rise l d ≤ rise l d'
    pub lanes : length d'.rises ≡ length d.rises

module _ {S M : Type 0} where
  -- the view w is that of the same pass, which has tried more since d
  pub record Alike (d w : Doing S M) : Type 0 where
    pub number : w.number ≡ d.number
    pub ended : w.ended ≡ d.ended
    pub drawn : w.drawn ≡ d.drawn
    pub tries : (more : List Try) × (w.tries ≡ more ++ d.tries)
    pub rises : w.rises ≡ d.rises

module _ (S M : Type 0) where
  -- a pass that does nothing goes through nothing
  abbrev pub StaysWithNothing : Type 0
  StaysWithNothing = (p : Plan S M) (d : Doing S M) → Goes p d [] d

  -- one way after another is a way, by the events of both
  abbrev pub GoesOn : Type 0
  GoesOn = (p : Plan S M) (a b c : Doing S M) (xs ys : List Event) → Goes p a xs b → Goes p b ys c → Goes p a (xs ++ ys) c

  -- a step that makes an event goes through this event
  abbrev pub GoesByAnEvent : Type 0
  GoesByAnEvent = (p : Plan S M) (d w d' : Doing S M) (e : Event) → Adds p d e w d' → Alike d w → Goes p d (e ∷ []) d'

  -- a step that makes none goes through none of its own
  abbrev pub GoesBySeeing : Type 0
  GoesBySeeing = (p : Plan S M) (d w d' : Doing S M) → Sees p d w d' → Alike d w → w.mine ≡ d.mine → Goes p d [] d'

  -- a pass that had seen all of its own events, still has
  abbrev pub KeepsItsOwn : Type 0
  KeepsItsOwn = (p : Plan S M) (d d' : Doing S M) (events : List Event) → Goes p d events d' → entries_by pass_of d.number d.seen ≡ d.mine → entries_by pass_of d'.number d'.seen ≡ d'.mine
