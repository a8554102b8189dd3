-- The laws of what leads from one cache, and from one queue, to another.
use Rattle.std.proofs.Common.{◌≡◌, ◌∙◌, ℕ, zero, suc, List, [], ◌∷◌, ◌++◌, refl, sym, ap, subst, append_assoc}
use Rattle.cell_grid.specs.declared.level.Level.{Level}
use Rattle.store_calls.specs.Calls.{StoreCall}
use Rattle.arr_history.specs.declared.event.Event.{Event}
use Rattle.arr_history.specs.Tally.{IsTally, tally_raised, AreUncounted}
use Rattle.arr_history.proofs.Counts.{raised_more, raised_none, raised_fits}
use Rattle.sole_cache.specs.Cached.{Cached}
use Rattle.sole_cache.proofs.Composed.{moves_on, moves_none}
use Rattle.sole_eyes.specs.SoleEyes.{EyesLeadOn, EyesLead, sole}
use Rattle.sole_eyes.specs.Steps.{AreSteps, FollowsStep}

uncounted : AreUncounted []
uncounted = record { hits = refl; misses = refl; loads = refl; evictions = refl; writebacks = refl }

-- no events lead from a cache to itself
pub leads_nowhere : (c : Cached) → EyesLeadOn c [] c
leads_nowhere c = record { moves = moves_none c; tally = λ fits. sym (raised_none c.tally [] fits uncounted) }

-- what leads on from where something led
pub leads_after : (a b c : Cached) (p q : List Event) → EyesLeadOn a p b → EyesLeadOn b q c → EyesLeadOn a (p ++ q) c
leads_after a b c p q l m = record {
  moves = moves_on a b c p q l.moves m.moves;
  tally = λ fits.
      let first = l.tally fits in
      let then_fits : IsTally b.tally = subst IsTally (sym first) (raised_fits a.tally p []) in
      m.tally then_fits ∙ ap (λ t. tally_raised t q []) first ∙ raised_more a.tally p q;
}

steps_after : (m : ℕ) (a b c : Cached) (p q : List Event) (u v : List StoreCall) → AreSteps m a p u b → FollowsStep b q v c → FollowsStep a (p ++ q) (u ++ v) c
steps_after zero a b c p q u v (same, none, silent) more =
    subst (λ e. FollowsStep a (e ++ q) (u ++ v) c) (sym none) (subst (λ w. FollowsStep a q (w ++ v) c) (sym silent) (subst (λ d. FollowsStep d q v c) same more))
steps_after (suc m) a b c p q u v (mid, first, rest, asked, others, step, steps, split, asks) more =
    let then = steps_after m mid b c rest q others v steps more in
    record {
      count = suc then.count;
      steps = (mid, first, rest ++ q, asked, others ++ v, step, then.steps, ap (λ e. e ++ q) split ∙ append_assoc first rest q, ap (λ w. w ++ v) asks ∙ append_assoc asked others v);
    }

-- no step leads from a cache to itself, and steps follow on from where others led
pub follows_nowhere : (c : Cached) → FollowsStep c [] [] c
follows_nowhere c = record { count = 0; steps = (refl, refl, refl) }

pub follows_after : (a b c : Cached) (p q : List Event) (u v : List StoreCall) → FollowsStep a p u b → FollowsStep b q v c → FollowsStep a (p ++ q) (u ++ v) c
follows_after a b c p q u v first more = steps_after first.count a b c p q u v first.steps more

-- the same of eyes
pub eyes_nowhere : (c : Cached) → EyesLead c [] c
eyes_nowhere c = record { leads = leads_nowhere c; calls = []; follows = follows_nowhere c }

pub eyes_after : (a b c : Cached) (p q : List Event) → EyesLead a p b → EyesLead b q c → EyesLead a (p ++ q) c
eyes_after a b c p q l m = record {
  leads = leads_after a b c p q l.leads m.leads;
  calls = l.calls ++ m.calls;
  follows = follows_after a b c p q l.calls m.calls l.follows m.follows;
}

-- the same viewer of the same levels
pub same_sole : (v w : ℕ) (levels others : List Level) → v ≡ w → levels ≡ others → sole v levels ≡ sole w others
same_sole v w levels others same are = ap (λ (n : ℕ). sole n levels) same ∙ ap (λ (ls : List Level). sole w ls) are
