-- The phases of a run whose replies refuse nothing, and what they write.
use Rattle.std.proofs.Common.{◌≡◌, ◌∙◌, ℕ, ◌+◌, false, List, [], ◌∷◌, ◌++◌, length, refl, sym, ap, subst}
use Rattle.std.specs.List.{list_any, AllByRecursion as Each}
use Rattle.std.proofs.lemmas.Bool.{or_parts, true≢false}
use Rattle.std.proofs.lemmas.List.Folds.{list_any-append}
use Rattle.arr_history.specs.declared.event.Event.{Event}
use Rattle.arr_history.specs.History.{pass_of}
use Rattle.cell_grid.specs.declared.level.Level.{Level}
use Rattle.fetchers.specs.declared.served.Served.{Served}
use Rattle.pass_roster.specs.Phases.{IsOf}
use Rattle.run_report.specs.declared.reply.Reply.{Reply}
use Rattle.run_report.specs.declared.shot.Shot.{Shot}
use Rattle.run_report.specs.Reply.{refuses}
use Rattle.team_actors.specs.Deeds.{Deed, fetcher_of}
use Rattle.team_phases.specs.Phases.{AreLost, AllLost, AreActorsDeeds, AreFetchersDeeds, ArePlayed, IsPhaseOf, IsPlayed, events_in}
use Rattle.thread_plan.specs.Scenes.{flat}
use Rattle.view_script.specs.Script.{NumberedCommand}
use Rattle.demo_frames.proofs.Commands.{SetsBy, IsWritten, commands_fit, sets_written, written_more}
use Rattle.demo_frames.proofs.Each.{each_append, each_front, each_mapped, each_unmapped, each_weaker}
use Rattle.demo_frames.proofs.Entries.{Reaches, each_entry, works_reach}
use Rattle.demo_frames.proofs.Pieces.{servings_fit}
use Rattle.demo_frames.proofs.Written.{AreWritesBy}

-- no reply refuses
abbrev pub NoneRefused : List Reply → Type 0
NoneRefused replies = list_any (λ r. refuses r.answer) replies ≡ false

pub none_refused : (lists : List (List Reply)) → NoneRefused (flat lists) → Each NoneRefused lists
none_refused [] none = tt
none_refused (replies ∷ lists) none =
    let parts = or_parts _ _ (sym (list_any-append (λ r. refuses r.answer) replies (flat lists)) ∙ none) in
    (parts.0, none_refused lists parts.1)

-- a phase that is lost has no commands then
lost_is_none : (commands : List NumberedCommand) (replies : List Reply) (shots : List Shot) → AreLost commands replies shots → NoneRefused replies → commands ≡ []
lost_is_none [] replies shots lost none = refl
lost_is_none (c ∷ commands) [] shots lost none = absurd lost
lost_is_none (c ∷ commands) (r ∷ replies) shots (here, later, split, is, one, others) none =
    absurd (true≢false (sym (ap (λ (q : Reply). refuses q.answer) is) ∙ (or_parts _ _ none).0))

pub all_lost_are_none : (commands : List (List NumberedCommand)) (replies : List (List Reply)) (shots : List (List Shot)) → AllLost commands replies shots → Each NoneRefused replies → Each (λ c. c ≡ []) commands
all_lost_are_none [] replies shots lost none = tt
all_lost_are_none (c ∷ commands) (r ∷ replies) (s ∷ shots) lost none = (lost_is_none c r s lost.0 none.0, all_lost_are_none commands replies shots lost.1 none.1)
all_lost_are_none (c ∷ commands) replies shots lost none = absurd lost

-- the first of some phases, and the others
pub record FirstPhase (levels : List Level) (fetchers k : ℕ) (commands : List (List NumberedCommand)) (phases : List (List (List NumberedCommand))) (replies : List (List (List Reply))) (shots : List (List (List Shot))) (deeds : List (List Deed)) : Type 0 where
  pub told : List (List Reply)
  pub left : List (List Shot)
  pub here : List Deed
  pub now : List Served
  pub later : List Served
  pub more_told : List (List (List Reply))
  pub more_left : List (List (List Shot))
  pub more : List (List Deed)
  pub replies_are : replies ≡ told ∷ more_told
  pub shots_are : shots ≡ left ∷ more_left
  pub deeds_are : deeds ≡ here ∷ more
  pub phase : IsPhaseOf levels fetchers k commands told left now here
  pub others : ArePlayed levels fetchers (k + length here) phases more_told more_left later more

pub first_phase : (levels : List Level) (fetchers k : ℕ) (commands : List (List NumberedCommand)) (phases : List (List (List NumberedCommand))) (replies : List (List (List Reply))) (shots : List (List (List Shot))) (served : List Served) (deeds : List (List Deed))
    → ArePlayed levels fetchers k (commands ∷ phases) replies shots served deeds → FirstPhase levels fetchers k commands phases replies shots deeds
first_phase levels fetchers k commands phases (r ∷ replies) (s ∷ shots) served (here ∷ deeds) (now, later, split, phase, others) = record {
  told = r;
  left = s;
  here = here;
  now = now;
  later = later;
  more_told = replies;
  more_left = shots;
  more = deeds;
  replies_are = refl;
  shots_are = refl;
  deeds_are = refl;
  phase = phase;
  others = others;
}
first_phase levels fetchers k commands phases replies shots served deeds played = absurd played

pub no_more_phases : (levels : List Level) (fetchers k : ℕ) (replies : List (List (List Reply))) (shots : List (List (List Shot))) (served : List Served) (deeds : List (List Deed)) → ArePlayed levels fetchers k [] replies shots served deeds
    → (replies ≡ []) × (shots ≡ []) × (deeds ≡ [])
no_more_phases levels fetchers k [] [] served [] played = (refl, refl, refl)
no_more_phases levels fetchers k replies shots served deeds played = absurd played

module _ (levels : List Level) where
  module _ (Allowed : ℕ → ℕ → ℕ → Type 0) where
    actors_fit : (k : ℕ) (commands : List (List NumberedCommand)) (replies : List (List Reply)) (shots : List (List Shot)) (deeds : List Deed) → AreActorsDeeds levels k commands replies shots deeds
        → Each (λ (list : List NumberedCommand). Each (λ c. SetsBy levels Allowed c.command) list) commands → Each (λ (d : Deed). AreWritesBy Allowed d.events) deeds
    actors_fit k commands replies shots [] acted allowed = tt
    actors_fit k [] [] [] (d ∷ deeds) acted allowed = absurd acted
    actors_fit k [] [] (s ∷ shots) (d ∷ deeds) acted allowed = absurd acted
    actors_fit k [] (r ∷ replies) shots (d ∷ deeds) acted allowed = absurd acted
    actors_fit k (c ∷ commands) [] shots (d ∷ deeds) acted allowed = absurd acted
    actors_fit k (c ∷ commands) (r ∷ replies) [] (d ∷ deeds) acted allowed = absurd acted
    actors_fit k (c ∷ commands) (r ∷ replies) (s ∷ shots) (d ∷ deeds) acted allowed = (commands_fit false k levels Allowed c r s d.servings d.events d.calls acted.0 allowed.0, actors_fit (k + 1) commands replies shots deeds acted.1 allowed.1)

    fetchers_fit : (k : ℕ) (deeds : List Deed) → AreFetchersDeeds levels k deeds → Each (λ (d : Deed). AreWritesBy Allowed d.events) deeds
    fetchers_fit k [] fetched = tt
    fetchers_fit k (d ∷ deeds) fetched = (servings_fit Allowed (fetcher_of k levels) d.servings d.events d.calls fetched.0, fetchers_fit (k + 1) deeds fetched.1)

    -- a phase writes what the sets of its commands set, and nothing else
    pub phase_fits : (fetchers k : ℕ) (commands : List (List NumberedCommand)) (replies : List (List Reply)) (shots : List (List Shot)) (served : List Served) (deeds : List Deed) (part : List Event)
        → IsPlayed levels fetchers k commands replies shots served deeds → IsOf pass_of k (events_in deeds) part
        → Each (λ (list : List NumberedCommand). Each (λ c. SetsBy levels Allowed c.command) list) commands → AreWritesBy Allowed part
    phase_fits fetchers k commands replies shots served deeds part played stand allowed =
        let all : Each (λ (d : Deed). AreWritesBy Allowed d.events) (played.acts ++ played.serves) =
        each_append (λ (d : Deed). AreWritesBy Allowed d.events) played.acts played.serves (actors_fit k commands replies shots played.acts played.acted allowed) (fetchers_fit (k + length played.acts) played.serves played.fetched) in
        let here : Each (λ (d : Deed). AreWritesBy Allowed d.events) deeds = subst (λ (l : List Deed). Each (λ d. AreWritesBy Allowed d.events) l) (sym played.deeds_are) all in
        each_entry pass_of _ k (events_in deeds) part stand (each_mapped (λ (own : List Event). AreWritesBy Allowed own) (λ (d : Deed). d.events) deeds here)

  actors_written : (k : ℕ) (commands : List (List NumberedCommand)) (replies : List (List Reply)) (shots : List (List Shot)) (deeds : List Deed) (part : List Event) → AreActorsDeeds levels k commands replies shots deeds → Each NoneRefused replies
      → Each (λ (d : Deed). Reaches part d.events) deeds → Each (λ (list : List NumberedCommand). Each (λ c. IsWritten levels part c.command) list) commands
  actors_written k [] replies shots deeds part acted none reach = tt
  actors_written k (c ∷ commands) (r ∷ replies) (s ∷ shots) (d ∷ deeds) part acted none reach = (
    each_weaker (λ (n : NumberedCommand). IsWritten levels d.events n.command) (λ n. IsWritten levels part n.command) (λ n. written_more false k levels d.events part reach.0 n.command) c
        (sets_written false k levels c r s d.servings d.events d.calls acted.0 none.0),
    actors_written (k + 1) commands replies shots deeds part acted.1 none.1 reach.1,
  )
  actors_written k (c ∷ commands) replies shots deeds part acted none reach = absurd acted

  -- the deeds of a phase's actors stand in its part of the history
  pub acts_reach : (fetchers k : ℕ) (commands : List (List NumberedCommand)) (replies : List (List Reply)) (shots : List (List Shot)) (served : List Served) (deeds : List Deed) (part : List Event)
      → (played : IsPlayed levels fetchers k commands replies shots served deeds) → IsOf pass_of k (events_in deeds) part → Each (λ (d : Deed). Reaches part d.events) played.acts
  acts_reach fetchers k commands replies shots served deeds part played stand =
      each_front (λ (d : Deed). Reaches part d.events) played.acts played.serves
      (subst (λ (l : List Deed). Each (λ d. Reaches part d.events) l) played.deeds_are (each_unmapped (λ (own : List Event). Reaches part own) (λ (d : Deed). d.events) deeds (works_reach pass_of k (events_in deeds) part stand)))

  -- each set of a phase is written in its part of the history
  pub phase_written : (fetchers k : ℕ) (commands : List (List NumberedCommand)) (replies : List (List Reply)) (shots : List (List Shot)) (served : List Served) (deeds : List Deed) (part : List Event)
      → IsPlayed levels fetchers k commands replies shots served deeds → IsOf pass_of k (events_in deeds) part → Each NoneRefused replies
      → Each (λ (list : List NumberedCommand). Each (λ c. IsWritten levels part c.command) list) commands
  phase_written fetchers k commands replies shots served deeds part played stand none =
      actors_written k commands replies shots played.acts part played.acted none (acts_reach fetchers k commands replies shots served deeds part played stand)
