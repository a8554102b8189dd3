-- What the passes of a run's phases do. No cache, word or thread stands in it.
use Rattle.std.specs.Prelude.{◌≡◌, ◌⊎◌, ℕ, ◌+◌, false, All, List, [], ◌∷◌, ◌++◌, length, map}
use Rattle.std.specs.List.{flat_map}
use Rattle.arr_history.specs.declared.event.Event.{Event}
use Rattle.cell_file.specs.declared.errors.AcquireErr.TheVariants as cause
use Rattle.cell_grid.specs.declared.level.Level.{Level}
use Rattle.fetchers.specs.declared.served.Served.{Served}
use Rattle.queue_desk.specs.Asking.{queue_entry}
use Rattle.queue_desk.specs.Desk.{QueueEntry}
use Rattle.run_report.specs.declared.reply.Answer.TheVariants as answer
use Rattle.run_report.specs.declared.reply.Refusal.TheVariants as refusal
use Rattle.run_report.specs.declared.reply.Reply.{Reply}
use Rattle.run_report.specs.declared.shot.Shot.{Shot}
use Rattle.team_actors.specs.Deeds.{Deed, IsActorsDeed, IsFetchersDeed, nothing}
use Rattle.view_script.specs.declared.command.Command.{Command}
use Rattle.view_script.specs.declared.command.Command.TheVariants as command
use Rattle.view_script.specs.Script.{NumberedCommand}

-- the shot of a command that was not carried out: that of a view, which is not shown
abbrev pub IsLostShot : Command → List Shot → Type 0
IsLostShot (command.View name view) shots = (shot : Shot) × (shots ≡ shot ∷ []) × (shot.name ≡ name) × (shot.shown ≡ false)
IsLostShot other shots = shots ≡ []

-- the replies of commands that were not carried out, since their passes found no memory, and their shots
abbrev pub AreLost : List NumberedCommand → List Reply → List Shot → Type 0
AreLost [] [] shots = shots ≡ []
AreLost (c ∷ commands) (r ∷ replies) shots = (here : List Shot) × (later : List Shot) × (shots ≡ here ++ later)
    × (r ≡ record { phase = c.phase; actor = c.actor; call = c.call; answer = answer.Refused (refusal.Acquire cause.Memory) }) × IsLostShot c.command here × AreLost commands replies later
AreLost commands replies shots = ⊥

-- the same of a phase's actors
abbrev pub AllLost : List (List NumberedCommand) → List (List Reply) → List (List Shot) → Type 0
AllLost [] [] [] = Unit {0}
AllLost (c ∷ commands) (r ∷ replies) (s ∷ shots) = AreLost c r s × AllLost commands replies shots
AllLost commands replies shots = ⊥

-- what passes served together
abbrev pub servings_in : List Deed → List Served
servings_in deeds = flat_map (λ deed. deed.servings) deeds

abbrev pub events_in : List Deed → List (List Event)
events_in deeds = map (λ deed. deed.events) deeds

-- the calls of passes that are numbered from k, as entries of the queue's history
abbrev pub entries_from : ℕ → List Deed → List (List QueueEntry)
entries_from k [] = []
entries_from k (deed ∷ deeds) = map (queue_entry k) deed.calls ∷ entries_from (k + 1) deeds

-- the same of phases
abbrev pub entries_in : ℕ → List (List Deed) → List (List (List QueueEntry))
entries_in k [] = []
entries_in k (deeds ∷ phases) = entries_from k deeds ∷ entries_in (k + length deeds) phases

module _ (levels : List Level) where
  -- the deeds of a phase's actors, whose passes are numbered from k
  abbrev pub AreActorsDeeds : ℕ → List (List NumberedCommand) → List (List Reply) → List (List Shot) → List Deed → Type 0
  AreActorsDeeds k [] [] [] [] = Unit {0}
  AreActorsDeeds k (c ∷ commands) (r ∷ replies) (s ∷ shots) (deed ∷ deeds) = IsActorsDeed levels k c r s deed × AreActorsDeeds (k + 1) commands replies shots deeds
  AreActorsDeeds k commands replies shots deeds = ⊥

  -- those of its fetchers, with the passes that come after
  abbrev pub AreFetchersDeeds : ℕ → List Deed → Type 0
  AreFetchersDeeds k [] = Unit {0}
  AreFetchersDeeds k (deed ∷ deeds) = IsFetchersDeed levels k deed × AreFetchersDeeds (k + 1) deeds

  -- Each actor of a phase carried its commands out, beside so many fetchers. Passes are numbered from k, those of the actors first.
  pub record IsPlayed (fetchers k : ℕ) (commands : List (List NumberedCommand)) (replies : List (List Reply)) (shots : List (List Shot)) (served : List Served) (deeds : List Deed) : Type 0 where
    pub acts : List Deed
    pub serves : List Deed
    pub deeds_are : deeds ≡ acts ++ serves
    pub acted : AreActorsDeeds k commands replies shots acts
    pub count : length serves ≡ fetchers
    pub fetched : AreFetchersDeeds (k + length acts) serves
    pub served_are : served ≡ servings_in acts

  -- The passes of a phase found no memory: no command was carried out, and the passes that were drawn did nothing.
  pub record IsLostPhase (commands : List (List NumberedCommand)) (replies : List (List Reply)) (shots : List (List Shot)) (served : List Served) (deeds : List Deed) : Type 0 where
    pub lost : AllLost commands replies shots
    pub none_served : served ≡ []
    pub idle : All (λ deed. deed ≡ nothing) deeds

  abbrev pub IsPhaseOf : ℕ → ℕ → List (List NumberedCommand) → List (List Reply) → List (List Shot) → List Served → List Deed → Type 0
  IsPhaseOf fetchers k commands replies shots served deeds = IsPlayed fetchers k commands replies shots served deeds ⊎ IsLostPhase commands replies shots served deeds

  -- phases one after another
  abbrev pub ArePlayed : ℕ → ℕ → List (List (List NumberedCommand)) → List (List (List Reply)) → List (List (List Shot)) → List Served → List (List Deed) → Type 0
  ArePlayed fetchers k [] [] [] served [] = served ≡ []
  ArePlayed fetchers k (c ∷ phases) (r ∷ replies) (s ∷ shots) served (here ∷ deeds) = (now : List Served) × (later : List Served) × (served ≡ now ++ later)
      × IsPhaseOf fetchers k c r s now here × ArePlayed fetchers (k + length here) phases replies shots later deeds
  ArePlayed fetchers k phases replies shots served deeds = ⊥
