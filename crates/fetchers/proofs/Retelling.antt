-- Servings over some eyes, as another front tells them.
use Rattle.std.proofs.Common.{◌≡◌, ℕ, ◌<◌, Bool, true, false, List, [], ◌∷◌, ◌++◌, ap, subst, subst₂}
use Rattle.cell_grid.specs.declared.level.Level.{Level}
use Rattle.cell_grid.specs.Pyramid.{cells_of}
use Rattle.cell_file.specs.declared.errors.AcquireErr.{AcquireErr}
use Rattle.arr_history.specs.declared.event.Event.{Event}
use Rattle.arr_history.specs.declared.event.Event.TheVariants.{Unpin}
use Rattle.volatile_cell.specs.Asked.{Asked}
use Rattle.volatile_cell.specs.Front.{Front}
use Rattle.call_events.specs.Pieces.{IsGranted, IsRefused}
use Rattle.fetchers.specs.declared.served.Served.{Served}
use Rattle.fetchers.specs.declared.served.Served.TheVariants.{Idle, Held, Loaded, Refused}
use Rattle.fetchers.specs.Servings.{IsGrantedServing, IsServing, AreServings}

module _ {E F : Type 0} (front : Front E) (other : Front F) (f : E → F)
    (moves : (a b : E) (p : List Event) (u : List Asked) → front.leads a p u b → other.leads (f a) p u (f b))
    (causes : (a b : E) (cell : ℕ) (err : AcquireErr) → front.caused a b cell err → other.caused (f a) (f b) cell err)
    (levels : (e : E) → (front.looker e).levels ≡ (other.looker (f e)).levels) (pass : (e : E) → (front.looker e).pass ≡ (other.looker (f e)).pass)
    (alone : (e : E) → (front.looker e).alone ≡ (other.looker (f e)).alone) where
  granted_as : (e e' : E) (loaded : Bool) (events : List Event) (calls : List Asked) → IsGrantedServing front e loaded events calls e' → IsGrantedServing other (f e) loaded events calls (f e')
  granted_as e e' loaded events calls h = record {
    request = h.request;
    inside = subst (λ (ls : List Level). h.request.cell < cells_of ls) (levels e) h.inside;
    took = h.took;
    piece = h.piece;
    granted = subst₂ (λ b k. IsGranted b k h.request.cell loaded h.piece) (alone e) (pass e) h.granted;
    given_back = subst (λ k. events ≡ h.piece ++ Unpin k h.request.cell ∷ []) (pass e) h.given_back;
    led = moves e e' events calls h.led;
  }

  serving_as : (e e' : E) (served : Served) (events : List Event) (calls : List Asked) → IsServing front e served events calls e' → IsServing other (f e) served events calls (f e')
  serving_as e e' Idle events calls h = record { took = h.took; none = h.none; led = moves e e' events calls h.led }
  serving_as e e' Held events calls h = granted_as e e' false events calls h
  serving_as e e' Loaded events calls h = granted_as e e' true events calls h
  serving_as e e' (Refused err) events calls h = record {
    request = h.request;
    inside = subst (λ (ls : List Level). h.request.cell < cells_of ls) (levels e) h.inside;
    took = h.took;
    mid = f h.mid;
    taken = moves e h.mid [] calls h.taken;
    tried = moves h.mid e' events [] h.tried;
    refused = subst₂ (λ b k. IsRefused b k h.request.cell err events) (alone e) (pass e) h.refused;
    cause = causes h.mid e' h.request.cell err h.cause;
  }

  pub servings_as : (e e' : E) (servings : List Served) (events : List Event) (calls : List Asked) → AreServings front e servings events calls e' → AreServings other (f e) servings events calls (f e')
  servings_as e e' [] events calls h = (h.0, h.1, ap f h.2)
  servings_as e e' (s ∷ servings) events calls (mid, first, rest, asked, more, one, others, split, asks) =
      (f mid, first, rest, asked, more, serving_as e mid s first asked one, servings_as mid e' servings rest more others, split, asks)
