-- The laws of what leads one of a team on.
use Rattle.std.proofs.Common.{◌≡◌, ◌∙◌, ℕ, List, [], ◌∷◌, ◌++◌, refl, sym, ap, subst}
use Rattle.cell_grid.specs.declared.level.Level.{Level}
use Rattle.arr_history.specs.declared.event.Event.{Event}
use Rattle.pin_words.specs.declared.doing.Doing.{Doing}
use Rattle.pin_words.specs.Plan.{Plan}
use Rattle.pin_words.specs.Words.{times}
use Rattle.pin_rule.specs.declared.pins.Pins.{Pins}
use Rattle.pin_rule.specs.Calls.{made_of, plan_at}
use Rattle.pin_rule.proofs.Goings.{goes_still, goes_on}
use Rattle.volatile_cell.specs.Asked.{Asked}
use Rattle.volatile_cell.specs.Front.{pins_next, pins_after}
use Rattle.queue_desk.specs.AskingLaws.{asks_nothing, asks_more}
use Rattle.team_eyes.specs.Teammate.{Teammate, plan_in, levels_in, GoesPinned, looker_of, TeamLeads, team_front}

-- the pins after two lists of events, one after the other
pub pins_on : (k c : ℕ) (p q : List Event) (n : ℕ) → pins_after k c (p ++ q) n ≡ pins_after k c q (pins_after k c p n)
pins_on k c [] q n = refl
pins_on k c (e ∷ p) q n = pins_on k c p q (pins_next k c e n)

pub stays_pinned : {S M : Type 0} (p : Plan S M) (d : Doing S M) → GoesPinned p d [] d
stays_pinned p d = record { went = goes_still p d; pinned = λ c. refl }

pub pinned_on : {S M : Type 0} (p : Plan S M) (a b c : Doing S M) (xs ys : List Event) → GoesPinned p a xs b → GoesPinned p b ys c → GoesPinned p a (xs ++ ys) c
pinned_on p a b c xs ys f g = record {
  went = goes_on p a b c xs ys f.went g.went;
  pinned = λ n. g.pinned n ∙ ap (λ k. pins_after k n ys (times n b.pins)) f.went.number ∙ ap (pins_after a.number n ys) (f.pinned n) ∙ sym (pins_on a.number n xs ys (times n a.pins));
}

same_looker : (j k v w : ℕ) (levels others : List Level) → j ≡ k → v ≡ w → levels ≡ others → looker_of j v levels ≡ looker_of k w others
same_looker j k v w levels others pass viewer are =
    ap (λ (n : ℕ). looker_of n v levels) pass ∙ ap (λ (n : ℕ). looker_of k n levels) viewer ∙ ap (λ (ls : List Level). looker_of k w ls) are

module _ {S : Type 0} where
  -- nothing leads from a moment to itself
  pub team_still : (m : Teammate S) → TeamLeads m [] [] m
  team_still m = record { shows = refl; table = refl; viewer = refl; cells = stays_pinned (plan_in m) m.cells; queue = asks_nothing m.queue }

  -- what leads on from where something led
  pub team_on : (a b c : Teammate S) (xs ys : List Event) (u v : List Asked) → TeamLeads a xs u b → TeamLeads b ys v c → TeamLeads a (xs ++ ys) (u ++ v) c
  team_on a b c xs ys u v f g = record {
    shows = g.shows ∙ f.shows;
    table = g.table ∙ f.table;
    viewer = g.viewer ∙ f.viewer;
    cells = pinned_on (plan_in a) a.cells b.cells c.cells xs ys f.cells (subst (λ (p : Plan _ _). GoesPinned p b.cells ys c.cells) (λ i. plan_at (f.shows i) (f.table i)) g.cells);
    queue = asks_more a.queue b.queue c.queue u v f.queue g.queue;
  }

  -- the looker stays the same
  pub same_team : (a b : Teammate S) (xs : List Event) (u : List Asked) → TeamLeads a xs u b → team_front.looker a ≡ team_front.looker b
  same_team a b xs u f = same_looker a.cells.number b.cells.number a.viewer b.viewer (levels_in a) (levels_in b) (sym f.cells.went.number) (sym f.viewer) (ap (λ (t : Pins S). (made_of t).levels.value) (sym f.table))
