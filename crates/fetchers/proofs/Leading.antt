-- What front.leads from one moment to another in servings, one after another.
use Rattle.std.proofs.Common.{◌≡◌, ◌∙◌, inl, inr, ℕ, ◌+◌, ◌<◌, Bool, true, List, [], ◌∷◌, ◌++◌, Some, Ok, Err, refl, sym, ap, subst, append_assoc, append-nil}
use Rattle.std.specs.List.{count_by}
use Rattle.cell_grid.specs.declared.level.Level.{Level}
use Rattle.cell_grid.specs.Pyramid.{cells_of}
use Rattle.cell_file.specs.declared.errors.AcquireErr.{AcquireErr}
use Rattle.cell_file.specs.declared.errors.AcquireErr.TheVariants as refusal
use Rattle.arr_history.specs.declared.event.Event.{Event}
use Rattle.arr_history.specs.declared.event.Event.TheVariants.{Unpin}
use Rattle.fetch_queue.specs.declared.request.Request.{Request}
use Rattle.volatile_cell.specs.Asked.{Asked}
use Rattle.call_events.specs.Pieces.{IsGranted}
use Rattle.fetchers.specs.declared.served.Served.{Served}
use Rattle.fetchers.specs.declared.served.Served.TheVariants.{Idle, Held, Loaded, Refused}
use Rattle.fetchers.specs.declared.fetched.Fetched.{Fetched}
use Rattle.fetchers.specs.Servings.{taking, IsGrantedServing, IsServing, AreServings, AreServed, goes_on, is_loaded, was_held, is_refused, counts_of, IsWholeFetch, IsFetch}
use Rattle.fetchers.proofs.Counting.{counts_more, counts_idle, whole_more, ended_by}
use Rattle.volatile_cell.specs.Front.{Front, IsFront}

module _ {E : Type 0} (front : Front E) where
  -- So many requests were served so far, and counted.
  pub record Serves (e : E) (n : ℕ) (fetched : Fetched) (e' : E) : Type 0 where
    pub servings : List Served
    pub events : List Event
    pub calls : List Asked
    pub led : front.leads e events calls e'
    pub are : AreServings front e servings events calls e'
    pub whole : IsWholeFetch n servings
    pub counts : fetched ≡ counts_of servings

  -- a serving that was made
  abbrev pub Made : E → Served → E → Type 0
  Made e served e' = (events : List Event) × (calls : List Asked) × IsServing front e served events calls e'

  module _ (laws : IsFront front) where
    -- a cell that was pinned for a request, and given back
    pub cell_served : (e mid got e' : E) (request : Request) (cell : ℕ) (told loaded : Bool) (piece : List Event) → request.cell < cells_of (front.looker e).levels → front.leads e [] (taking (Some request)) mid → front.leads mid piece [] got
        → IsGranted (front.looker mid).alone (front.looker mid).pass request.cell told piece → told ≡ loaded → cell ≡ request.cell → front.leads got (Unpin (front.looker got).pass cell ∷ []) [] e'
        → (events : List Event) × (calls : List Asked) × IsGrantedServing front e loaded events calls e'
    cell_served e mid got e' request cell told loaded piece inside took acquired granted is same released =
        let first = laws.same e mid [] (taking (Some request)) took in
        let second = laws.same mid got piece [] acquired in
        let back : front.leads got (Unpin (front.looker e).pass request.cell ∷ []) [] e' = rw (first, second, ← same) released in (
          piece ++ Unpin (front.looker e).pass request.cell ∷ [],
          taking (Some request),
          record {
            request = request;
            inside = inside;
            took = refl;
            piece = piece;
            granted = rw (first, ← is) granted;
            given_back = refl;
            led = laws.leads_on e mid e' [] _ (taking (Some request)) [] took (laws.leads_on mid got e' piece _ [] [] acquired back);
          },
        )

    -- what leads on in a serving
    serving_led : (e e' : E) (served : Served) (p : List Event) (u : List Asked) → IsServing front e served p u e' → front.leads e p u e'
    serving_led e e' Idle p u s = s.led
    serving_led e e' Held p u s = s.led
    serving_led e e' Loaded p u s = s.led
    serving_led e e' (Refused err) p u s = subst (λ (x : List Asked). front.leads e p x e') (append-nil u) (laws.leads_on e s.mid e' [] p u [] s.taken s.tried)

    -- a serving after others
    servings_more : (e e' e'' : E) (servings : List Served) (last : Served) (p q : List Event) (u v : List Asked) → AreServings front e servings p u e' → IsServing front e' last q v e''
        → AreServings front e (servings ++ last ∷ []) (p ++ q) (u ++ v) e''
    servings_more e e' e'' [] last p q u v h s = (
      e'',
      q,
      [],
      v,
      [],
      subst (λ (x : E). IsServing front x last q v e'') h.2 s,
      (refl, refl, refl),
      ap (λ (l : List Event). l ++ q) h.0 ∙ sym (append-nil q),
      ap (λ (l : List Asked). l ++ v) h.1 ∙ sym (append-nil v),
    )
    servings_more e e' e'' (x ∷ servings) last p q u v h s = (
      h.0,
      h.1,
      h.2 ++ q,
      h.3,
      h.4 ++ v,
      h.5,
      servings_more h.0 e' e'' servings last h.2 q h.4 v h.6 s,
      ap (λ (l : List Event). l ++ q) h.7 ∙ append_assoc h.1 h.2 q,
      ap (λ (l : List Asked). l ++ v) h.8 ∙ append_assoc h.3 h.4 v,
    )

    -- one request more
    pub serves_more : (e e' e'' : E) (n : ℕ) (f g : Fetched) (last : Served) → goes_on last ≡ true → Serves e n f e' → Made e' last e''
        → g.loaded ≡ f.loaded + count_by is_loaded (last ∷ []) → g.held ≡ f.held + count_by was_held (last ∷ []) → g.refused ≡ f.refused + count_by is_refused (last ∷ []) → Serves e (n + 1) g e''
    serves_more e e' e'' n f g last goes h s loaded held refused = record {
      servings = h.servings ++ last ∷ [];
      events = h.events ++ s.0;
      calls = h.calls ++ s.1;
      led = laws.leads_on e e' e'' h.events s.0 h.calls s.1 h.led (serving_led e' e'' last s.0 s.1 s.2);
      are = servings_more e e' e'' h.servings last h.events s.0 h.calls s.1 h.are s.2;
      whole = whole_more n h.servings last h.whole goes;
      counts = counts_more f g h.servings last h.counts loaded held refused;
    }

    -- a fetch that served all
    pub fetch_whole : {X : Type 0} (e e' : E) (n count : ℕ) (f : Fetched) → n ≡ count → Serves e n f e' → IsFetch front {X = X} e count (Ok f) e'
    fetch_whole e e' n count f all h = record {
      servings = h.servings;
      events = h.events;
      calls = h.calls;
      led = h.led;
      are = h.are;
      answer = (h.counts, inl (record { served = h.whole.served; all = h.whole.all ∙ all }));
    }

    -- a fetch that found the queue empty
    pub fetch_idle : {X : Type 0} (e e' e'' : E) (n count : ℕ) (f : Fetched) → n < count → Serves e n f e' → Made e' Idle e'' → IsFetch front {X = X} e count (Ok f) e''
    fetch_idle e e' e'' n count f few h s = record {
      servings = h.servings ++ Idle ∷ [];
      events = h.events ++ s.0;
      calls = h.calls ++ s.1;
      led = laws.leads_on e e' e'' h.events s.0 h.calls s.1 h.led (serving_led e' e'' Idle s.0 s.1 s.2);
      are = servings_more e e' e'' h.servings Idle h.events s.0 h.calls s.1 h.are s.2;
      answer = (counts_idle f h.servings h.counts, inr (ended_by n count h.servings Idle few h.whole));
    }

    -- a fetch that was refused memory
    pub fetch_memory : {X : Type 0} (e e' e'' : E) (n count : ℕ) (f : Fetched) (x : X) → n < count → Serves e n f e' → Made e' (Refused refusal.Memory) e'' → IsFetch front e count (Err x) e''
    fetch_memory e e' e'' n count f x few h s = record {
      servings = h.servings ++ Refused refusal.Memory ∷ [];
      events = h.events ++ s.0;
      calls = h.calls ++ s.1;
      led = laws.leads_on e e' e'' h.events s.0 h.calls s.1 h.led (serving_led e' e'' (Refused refusal.Memory) s.0 s.1 s.2);
      are = servings_more e e' e'' h.servings (Refused refusal.Memory) h.events s.0 h.calls s.1 h.are s.2;
      answer = ended_by n count h.servings (Refused refusal.Memory) few h.whole;
    }

    -- one serving more
    pub served_more : (e e' e'' : E) (last : Served) → AreServed front e e' → Made e' last e'' → AreServed front e e''
    served_more e e' e'' last h s = record {
      servings = h.servings ++ last ∷ [];
      events = h.events ++ s.0;
      calls = h.calls ++ s.1;
      led = laws.leads_on e e' e'' h.events s.0 h.calls s.1 h.led (serving_led e' e'' last s.0 s.1 s.2);
      are = servings_more e e' e'' h.servings last h.events s.0 h.calls s.1 h.are s.2;
    }

  -- no serving
  pub served_none : IsFront front → (e : E) → AreServed front e e
  served_none laws e = record { servings = []; events = []; calls = []; led = laws.stays e; are = (refl, refl, refl) }
