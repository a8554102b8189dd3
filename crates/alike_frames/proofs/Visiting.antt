-- Visits of two frames over caches that are alike.
use Rattle.std.proofs.Common.{◌≡◌, ◌∙◌, inl, inr, ℕ, ◌<◌, Bool, true, false, cond, List, [], ◌∷◌, ◌++◌, Option, None, Some, refl, sym, ap, subst, subst₂, append_assoc, append-nil, true≢false}
use Rattle.cell_grid.specs.declared.level.Level.{Level}
use Rattle.cell_grid.specs.Pyramid.{cells_of}
use Rattle.arr_history.specs.declared.event.Event.{Event}
use Rattle.arr_history.specs.declared.event.Event.TheVariants as event
use Rattle.scale_pick.specs.declared.note.Note.{Note}
use Rattle.scale_pick.specs.declared.note.Note.TheVariants as note
use Rattle.sole_cache.specs.Cached.{Cached}
use Rattle.volatile_cell.specs.Asked.{Asked}
use Rattle.volatile_cell.specs.Budget.{loads_by, spent}
use Rattle.hier_paint.specs.Sight.{Sight, holding, missing, given_back}
use Rattle.hier_paint.specs.Visits.{Visit, IsLookedFor, Finds, IsVisit, AreVisits}
use Rattle.alike_frames.proofs.Parts.{is_calm}
use Rattle.alike_frames.proofs.Tandem.{AlikeLaws, Ends, Tandem, Onward, both_give_back, both_read, both_miss}
use Rattle.alike_frames.proofs.Getting.{Gets, ready_of, Refuses, both_get, not_pin_miss, not_miss_pin, not_get_refused, not_refused_get}
use Rattle.sole_eyes.specs.SoleEyes.{sole}

calm_back : (held : Option ℕ) (events : List Event) → is_calm events ≡ true → is_calm (given_back 0 held ++ events) ≡ true
calm_back None events h = h
calm_back (Some cell) events h = refl

calm_got : (cell : ℕ) (loaded : Bool) (piece rest : List Event) → Gets cell loaded piece → is_calm (piece ++ rest) ≡ true
calm_got cell false piece rest h = ap (λ (p : List Event). is_calm (p ++ rest)) h
calm_got cell true piece rest h = ap (λ (p : List Event). is_calm (p ++ rest)) h.3

module _ (viewer : ℕ) (levels : List Level) where
  calm_found : (s t : Sight) (level cell : ℕ) (ready : Bool) (events rest : List Event) (calls : List Asked) → Finds (sole viewer levels) s level cell ready t events calls → is_calm rest ≡ true → is_calm (events ++ rest) ≡ true
  calm_found s t level cell true events rest calls (inl idle) h = ap (λ (p : List Event). is_calm (p ++ rest)) idle.1.none ∙ h
  calm_found s t level cell true events rest calls (inr look) h =
      ap (λ (p : List Event). is_calm (p ++ rest)) look.events_are ∙ ap is_calm (append_assoc (given_back 0 s.held) look.piece rest)
      ∙ calm_back s.held (look.piece ++ rest) (calm_got cell look.loaded look.piece rest (ready_of cell s.budget look.loaded look.left look.piece calls look.look).gets)
  calm_found s t level cell false events rest calls (inl idle) h = ap (λ (p : List Event). is_calm (p ++ rest)) idle.2.none ∙ h
  calm_found s t level cell false events rest calls (inr look) h =
      ap (λ (p : List Event). is_calm (p ++ rest)) look.events_are ∙ ap is_calm (append_assoc (given_back 0 s.held) look.piece rest)
      ∙ calm_back s.held (look.piece ++ rest) (ap (λ (p : List Event). is_calm (p ++ rest)) look.look.missed)

  calm_visit : (s t : Sight) (level : ℕ) (n : Note) (events rest : List Event) (calls : List Asked) → IsVisit (sole viewer levels) s level n t events calls → is_calm rest ≡ true → is_calm (events ++ rest) ≡ true
  calm_visit s t level (note.Read cell at x) events rest calls (found, finds, is) h =
      ap (λ (p : List Event). is_calm (p ++ rest)) is ∙ ap is_calm (append_assoc found (event.Read 0 cell at x ∷ []) rest) ∙ calm_found s t level cell true found (event.Read 0 cell at x ∷ rest) calls finds refl
  calm_visit s t level (note.NotReady cell) events rest calls finds h = calm_found s t level cell false events rest calls finds h

  -- what is ahead of a frame doesn't begin in the midst of a loading
  pub calm_visits : (s t : Sight) (visits : List Visit) (events rest : List Event) (calls : List Asked) → AreVisits (sole viewer levels) s visits t events calls → is_calm rest ≡ true → is_calm (events ++ rest) ≡ true
  calm_visits s t [] events rest calls idle h = ap (λ (p : List Event). is_calm (p ++ rest)) idle.none ∙ h
  calm_visits s t (v ∷ visits) events rest calls (mid, first, later, asked, more, visit, are, is, called) h =
      ap (λ (p : List Event). is_calm (p ++ rest)) is ∙ ap is_calm (append_assoc first later rest)
      ∙ calm_visit s mid v.level v.note first (later ++ rest) asked visit (calm_visits mid t visits later rest more are h)

  pub calm_end : (held : Option ℕ) → is_calm (given_back 0 held) ≡ true
  calm_end None = refl
  calm_end (Some cell) = refl

module _ (laws : AlikeLaws) (z : Ends) (viewer : ℕ) where
  moved : (c d : Cached) (p q p' q' e f : List Event) → p ≡ p' → q ≡ q' → Tandem z c d (p ++ e) (q ++ f) → Tandem z c d (p' ++ e) (q' ++ f)
  moved c d p q p' q' e f h g t = subst₂ (λ (a b : List Event). Tandem z c d (a ++ e) (b ++ f)) h g t

  given : (c d : Cached) (held : Option ℕ) (p q e f : List Event) → Tandem z c d ((given_back 0 held ++ p) ++ e) ((given_back 0 held ++ q) ++ f) → Onward z (p ++ e) (q ++ f)
  given c d held p q e f t =
      both_give_back laws z c d held (p ++ e) (q ++ f) (subst₂ (Tandem z c d) (append_assoc (given_back 0 held) p e) (append_assoc (given_back 0 held) q f) t)

  -- both find a cell ready
  both_ready : (c d : Cached) (s t u : Sight) (level cell : ℕ) (p q e f : List Event) (k l : List Asked) → cell < cells_of z.levels
      → Finds (sole viewer z.levels) s level cell true t p k → Finds (sole viewer z.levels) s level cell true u q l → Tandem z c d (p ++ e) (q ++ f) → (u ≡ t) × (q ≡ p) × Onward z e f
  both_ready c d s t u level cell p q e f k l inside (inl h) (inl g) pair =
      (g.1.same ∙ sym h.1.same, g.1.none ∙ sym h.1.none, record { c = c; d = d; pair = moved c d p q [] [] e f h.1.none g.1.none pair })
  both_ready c d s t u level cell p q e f k l inside (inl h) (inr g) pair = absurd (true≢false (sym h.0 ∙ g.due.not_held))
  both_ready c d s t u level cell p q e f k l inside (inr h) (inl g) pair = absurd (true≢false (sym g.0 ∙ h.due.not_held))
  both_ready c d s t u level cell p q e f k l inside (inr h) (inr g) pair =
      let one = ready_of cell s.budget h.loaded h.left h.piece k h.look in
      let two = ready_of cell s.budget g.loaded g.left g.piece l g.look in
      let free = given c d s.held h.piece g.piece e f (moved c d p q (given_back 0 s.held ++ h.piece) (given_back 0 s.held ++ g.piece) e f h.events_are g.events_are pair) in
      let on = both_get laws z free.c free.d cell h.loaded g.loaded h.piece g.piece e f inside one.gets two.gets free.pair in
      let same_left : g.left ≡ h.left = two.left_is ∙ ap (λ b. cond (loads_by s.budget.strategy s.budget.left) (spent s.budget b) s.budget) on.0 ∙ sym one.left_is in
      (g.held ∙ ap (holding s cell) same_left ∙ sym h.held, g.events_are ∙ ap (λ (es : List Event). given_back 0 s.held ++ es) on.1 ∙ sym h.events_are, on.2)

  -- both find a cell not ready
  pub both_missed : (c d : Cached) (s t u : Sight) (level cell : ℕ) (p q e f : List Event) (k l : List Asked) → is_calm e ≡ true → is_calm f ≡ true
      → Finds (sole viewer z.levels) s level cell false t p k → Finds (sole viewer z.levels) s level cell false u q l → Tandem z c d (p ++ e) (q ++ f) → (u ≡ t) × (q ≡ p) × Onward z e f
  both_missed c d s t u level cell p q e f k l calm quiet (inl h) (inl g) pair =
      (g.2.same ∙ sym h.2.same, g.2.none ∙ sym h.2.none, record { c = c; d = d; pair = moved c d p q [] [] e f h.2.none g.2.none pair })
  both_missed c d s t u level cell p q e f k l calm quiet (inl h) (inr g) pair = absurd (true≢false (sym h.1 ∙ g.due.not_missed))
  both_missed c d s t u level cell p q e f k l calm quiet (inr h) (inl g) pair = absurd (true≢false (sym g.1 ∙ h.due.not_missed))
  both_missed c d s t u level cell p q e f k l calm quiet (inr h) (inr g) pair =
      let free = given c d s.held h.piece g.piece e f (moved c d p q (given_back 0 s.held ++ h.piece) (given_back 0 s.held ++ g.piece) e f h.events_are g.events_are pair) in
      let on = both_miss laws z free.c free.d cell e f calm quiet (moved free.c free.d h.piece g.piece (event.Miss 0 cell ∷ []) (event.Miss 0 cell ∷ []) e f h.look.missed g.look.missed free.pair) in
      let same_left : g.left ≡ h.left = g.look.same_budget ∙ sym h.look.same_budget in (
        g.missed ∙ ap (missing s level cell) same_left ∙ sym h.missed,
        g.events_are ∙ ap (λ (es : List Event). given_back 0 s.held ++ es) (g.look.missed ∙ sym h.look.missed) ∙ sym h.events_are,
        on,
      )

  -- not one ready and the other not
  pub not_ready_missed : (c d : Cached) (s t u : Sight) (level cell : ℕ) (p q e f : List Event) (k l : List Asked) → is_calm f ≡ true
      → Finds (sole viewer z.levels) s level cell true t p k → Finds (sole viewer z.levels) s level cell false u q l → Tandem z c d (p ++ e) (q ++ f) → ⊥
  not_ready_missed c d s t u level cell p q e f k l calm (inl h) (inl g) pair = true≢false (sym h.0 ∙ g.0)
  not_ready_missed c d s t u level cell p q e f k l calm (inl h) (inr g) pair = true≢false (sym h.0 ∙ g.due.not_held)
  not_ready_missed c d s t u level cell p q e f k l calm (inr h) (inl g) pair = true≢false (sym g.1 ∙ h.due.not_missed)
  not_ready_missed c d s t u level cell p q e f k l calm (inr h) (inr g) pair =
      let one = ready_of cell s.budget h.loaded h.left h.piece k h.look in
      let pin : h.piece ≡ event.Pin 0 cell ∷ [] = subst (λ b. Gets cell b h.piece) (one.unloaded g.look.loads_no_more) one.gets in
      let free = given c d s.held h.piece g.piece e f (moved c d p q (given_back 0 s.held ++ h.piece) (given_back 0 s.held ++ g.piece) e f h.events_are g.events_are pair) in
      not_pin_miss laws z free.c free.d cell e f calm (moved free.c free.d h.piece g.piece (event.Pin 0 cell ∷ []) (event.Miss 0 cell ∷ []) e f pin g.look.missed free.pair)

  pub not_missed_ready : (c d : Cached) (s t u : Sight) (level cell : ℕ) (p q e f : List Event) (k l : List Asked) → is_calm e ≡ true
      → Finds (sole viewer z.levels) s level cell false t p k → Finds (sole viewer z.levels) s level cell true u q l → Tandem z c d (p ++ e) (q ++ f) → ⊥
  not_missed_ready c d s t u level cell p q e f k l calm (inl h) (inl g) pair = true≢false (sym g.0 ∙ h.0)
  not_missed_ready c d s t u level cell p q e f k l calm (inr h) (inl g) pair = true≢false (sym g.0 ∙ h.due.not_held)
  not_missed_ready c d s t u level cell p q e f k l calm (inl h) (inr g) pair = true≢false (sym h.1 ∙ g.due.not_missed)
  not_missed_ready c d s t u level cell p q e f k l calm (inr h) (inr g) pair =
      let two = ready_of cell s.budget g.loaded g.left g.piece l g.look in
      let pin : g.piece ≡ event.Pin 0 cell ∷ [] = subst (λ b. Gets cell b g.piece) (two.unloaded h.look.loads_no_more) two.gets in
      let free = given c d s.held h.piece g.piece e f (moved c d p q (given_back 0 s.held ++ h.piece) (given_back 0 s.held ++ g.piece) e f h.events_are g.events_are pair) in
      not_miss_pin laws z free.c free.d cell e f calm (moved free.c free.d h.piece g.piece (event.Miss 0 cell ∷ []) (event.Pin 0 cell ∷ []) e f h.look.missed pin free.pair)

  -- not one ready and the other refused
  pub not_ready_cut : (c d : Cached) (s t : Sight) (level cell : ℕ) (p e : List Event) (k : List Asked) → cell < cells_of z.levels
      → Finds (sole viewer z.levels) s level cell true t p k → IsLookedFor s level cell → Tandem z c d (p ++ e) (given_back 0 s.held) → Refuses z.second cell z.other → ⊥
  not_ready_cut c d s t level cell p e k inside (inl h) due pair r = true≢false (sym h.0 ∙ due.not_held)
  not_ready_cut c d s t level cell p e k inside (inr h) due pair r =
      let one = ready_of cell s.budget h.loaded h.left h.piece k h.look in
      let back = given_back 0 s.held in
      let whole : Tandem z c d ((back ++ h.piece) ++ e) ((back ++ []) ++ []) =
      subst₂ (Tandem z c d) (ap (λ (a : List Event). a ++ e) h.events_are) (sym (append-nil (back ++ []) ∙ append-nil back)) pair in
      let free = given c d s.held h.piece [] e [] whole in
      not_get_refused laws z free.c free.d cell h.loaded h.piece e inside one.gets free.pair r

  pub not_cut_ready : (c d : Cached) (s t : Sight) (level cell : ℕ) (p e : List Event) (k : List Asked) → cell < cells_of z.levels
      → Finds (sole viewer z.levels) s level cell true t p k → IsLookedFor s level cell → Tandem z c d (given_back 0 s.held) (p ++ e) → Refuses z.first cell z.left → ⊥
  not_cut_ready c d s t level cell p e k inside (inl h) due pair r = true≢false (sym h.0 ∙ due.not_held)
  not_cut_ready c d s t level cell p e k inside (inr h) due pair r =
      let one = ready_of cell s.budget h.loaded h.left h.piece k h.look in
      let back = given_back 0 s.held in
      let whole : Tandem z c d ((back ++ []) ++ []) ((back ++ h.piece) ++ e) =
      subst₂ (Tandem z c d) (sym (append-nil (back ++ []) ∙ append-nil back)) (ap (λ (a : List Event). a ++ e) h.events_are) pair in
      let free = given c d s.held [] h.piece [] e whole in
      not_refused_get laws z free.c free.d cell h.loaded h.piece e inside one.gets free.pair r

  -- nor one not ready and the other refused
  pub not_missed_cut : (s t : Sight) (level cell : ℕ) (p : List Event) (k : List Asked) → Finds (sole viewer z.levels) s level cell false t p k → IsLookedFor s level cell → loads_by s.budget.strategy s.budget.left ≡ true → ⊥
  not_missed_cut s t level cell p k (inl h) due loads = true≢false (sym h.1 ∙ due.not_missed)
  not_missed_cut s t level cell p k (inr h) due loads = true≢false (sym loads ∙ h.look.loads_no_more)

  -- both visit a voxel, and read it
  pub both_visit : (c d : Cached) (s t u : Sight) (level cell at x y : ℕ) (p q e f : List Event) (k l : List Asked) → cell < cells_of z.levels
      → IsVisit (sole viewer z.levels) s level (note.Read cell at x) t p k → IsVisit (sole viewer z.levels) s level (note.Read cell at y) u q l → Tandem z c d (p ++ e) (q ++ f)
      → (y ≡ x) × (u ≡ t) × (q ≡ p) × Onward z e f
  both_visit c d s t u level cell at x y p q e f k l inside (found, finds, is) (seen, sees, are) pair =
      let opened = subst₂ (Tandem z c d) (ap (λ (a : List Event). a ++ e) is ∙ append_assoc found (event.Read 0 cell at x ∷ []) e) (ap (λ (a : List Event). a ++ f) are ∙ append_assoc seen (event.Read 0 cell at y ∷ []) f) pair in
      let on = both_ready c d s t u level cell found seen (event.Read 0 cell at x ∷ e) (event.Read 0 cell at y ∷ f) k l inside finds sees opened in
      let read = both_read laws z on.2.c on.2.d cell at x y e f on.2.pair in
      (read.0, on.0, are ∙ ap (λ n. seen ++ event.Read 0 cell at n ∷ []) read.0 ∙ ap (λ (a : List Event). a ++ event.Read 0 cell at x ∷ []) on.1 ∙ sym is, read.1)
