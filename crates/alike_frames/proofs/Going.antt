-- A frame under way: the visits that are ahead of it, with their events, and its end.
use Rattle.std.proofs.Common.{◌≡◌, ◌∙◌, ℕ, true, List, [], ◌∷◌, ◌++◌, Option, None, Some, refl, sym, ap, subst, subst₂, append_assoc, append-nil}
use Rattle.cell_grid.specs.declared.level.Level.{Level}
use Rattle.store_calls.specs.Calls.{StoreCall, FailAlike}
use Rattle.arr_history.specs.declared.event.Event.{Event}
use Rattle.sole_cache.specs.Cached.{Cached}
use Rattle.volatile_cell.specs.Asked.{Asked}
use Rattle.volatile_cell.specs.Budget.{loads_by}
use Rattle.hier_paint.specs.Sight.{Sight, given_back}
use Rattle.hier_paint.specs.Visits.{Visit, IsLookedFor, IsVisit, AreVisits}
use Rattle.alike_caches.specs.Alike.{AreAlike}
use Rattle.alike_frames.proofs.Parts.{is_calm}
use Rattle.alike_frames.proofs.Peeling.{nothing_left}
use Rattle.alike_frames.proofs.Tandem.{AlikeLaws, Ends, Tandem, both_give_back}
use Rattle.alike_frames.proofs.Getting.{Refuses}
use Rattle.alike_frames.proofs.Visiting.{calm_visits, calm_end}
use Rattle.alike_frames.proofs.Ways.{Refused}
use Rattle.sole_eyes.specs.SoleEyes.{sole}

-- what is known of a frame's end: where a look is refused, it is due, and loads
abbrev pub IsFate : Cached → List StoreCall → Sight → Option Refused → Type 0
IsFate c left s None = Unit {0}
IsFate c left s (Some r) = IsLookedFor s r.level r.cell × (loads_by s.budget.strategy s.budget.left ≡ true) × Refuses c r.cell left

module _ (viewer : ℕ) (levels : List Level) (end : Cached) (left : List StoreCall) (cut : Option Refused) where
  pub record Going (s : Sight) (visits : List Visit) (events : List Event) : Type 0 where
    pub last : Sight
    pub looks : List Event
    pub calls : List Asked
    pub are : AreVisits (sole viewer levels) s visits last looks calls
    pub events_are : events ≡ looks ++ given_back 0 last.held
    pub fate : IsFate end left last cut

  -- the next visit
  pub record Gone (s : Sight) (v : Visit) (visits : List Visit) (events : List Event) : Type 0 where
    pub then : Sight
    pub first : List Event
    pub rest : List Event
    pub asked : List Asked
    pub visit : IsVisit (sole viewer levels) s v.level v.note then first asked
    pub going : Going then visits rest
    pub is : events ≡ first ++ rest

  pub go_on : (s : Sight) (v : Visit) (visits : List Visit) (events : List Event) → Going s (v ∷ visits) events → Gone s v visits events
  go_on s v visits events g = let (t, first, later, asked, more, visit, are, is, called) = g.are in record {
    then = t;
    first = first;
    rest = later ++ given_back 0 g.last.held;
    asked = asked;
    visit = visit;
    going = record { last = g.last; looks = later; calls = more; are = are; events_are = refl; fate = g.fate };
    is = g.events_are ∙ ap (λ (es : List Event). es ++ given_back 0 g.last.held) is ∙ append_assoc first later (given_back 0 g.last.held);
  }

  -- its end
  pub at_end : (s : Sight) (events : List Event) → Going s [] events → (events ≡ given_back 0 s.held) × IsFate end left s cut
  at_end s events g = (
    g.events_are ∙ ap (λ (es : List Event). es ++ given_back 0 g.last.held) g.are.none ∙ ap (λ (t : Sight). given_back 0 t.held) g.are.same,
    subst (λ (t : Sight). IsFate end left t cut) g.are.same g.fate,
  )

  pub is_calm_ahead : (s : Sight) (visits : List Visit) (events : List Event) → Going s visits events → is_calm events ≡ true
  is_calm_ahead s visits events g =
      ap is_calm g.events_are ∙ calm_visits viewer levels s g.last visits g.looks (given_back 0 g.last.held) g.calls g.are (calm_end viewer levels g.last.held)

-- where two frames end
pub record Ended (z : Ends) (e f : List Event) : Type 0 where
  pub same : f ≡ e
  pub levels : z.first.levels ≡ z.levels
  pub alike : AreAlike z.first z.second
  pub fail : FailAlike z.left z.other

pub both_end : (laws : AlikeLaws) (z : Ends) (c d : Cached) (held : Option ℕ) (e f : List Event) → e ≡ given_back 0 held → f ≡ given_back 0 held → Tandem z c d e f → Ended z e f
both_end laws z c d held e f e_is f_is t =
    let back = given_back 0 held in
    let on = both_give_back laws z c d held [] [] (subst₂ (Tandem z c d) (e_is ∙ sym (append-nil back)) (f_is ∙ sym (append-nil back)) t) in
    let here = nothing_left on.c on.pair.calls z.first on.pair.follows in
    let there = nothing_left on.d on.pair.others z.second on.pair.goes in
    record {
      same = f_is ∙ sym e_is;
      levels = ap (λ (b : Cached). b.levels) here.0 ∙ on.pair.levels;
      alike = subst₂ AreAlike (sym here.0) (sym there.0) on.pair.alike;
      fail = subst₂ FailAlike (ap (λ (k : List StoreCall). k ++ z.left) here.1) (ap (λ (k : List StoreCall). k ++ z.other) there.1) on.pair.fail;
    }
