-- Frames and servings over eyes that steps of one cache and calls of one queue lead on.
use Rattle.std.proofs.Common.{◌≡◌, ◌∙◌, ℕ, ◌<◌, Bool, true, false, List, [], ◌∷◌, ◌++◌, None, Some, Result, refl, sym, ap, subst, subst₂}
use Rattle.std.specs.declared.result.Result.TheVariants.{Err}
use Rattle.cell_grid.specs.declared.level.Level.{Level}
use Rattle.cell_grid.specs.Pyramid.{cells_of}
use Rattle.cell_file.specs.declared.errors.AcquireErr.{AcquireErr}
use Rattle.store_calls.specs.Calls.{StoreCall, FailAlike}
use Rattle.arr_history.specs.declared.event.Event.{Event}
use Rattle.arr_history.specs.declared.event.Event.TheVariants.{Unpin}
use Rattle.scale_pick.specs.declared.view.View.{View}
use Rattle.scale_pick.specs.Picture.{Pixels}
use Rattle.fetch_queue.specs.Queue.{Queue}
use Rattle.sole_cache.specs.Cached.{Cached}
use Rattle.sole_cache.specs.Acquires.{Acquires}
use Rattle.volatile_cell.specs.Asked.{Asked, AskedFrom}
use Rattle.call_events.specs.Pieces.{IsGranted, IsRefused}
use Rattle.sole_eyes.specs.Steps.{FollowsStep}
use Rattle.hier_paint.specs.Frames.{KeepsRule, IsVisited, IsVisitedTo, IsFrame, IsCutOff}
use Rattle.fetchers.specs.declared.served.Served.{Served}
use Rattle.fetchers.specs.declared.served.Served.TheVariants.{Idle, Held, Loaded, Refused}
use Rattle.fetchers.specs.declared.fetched.Fetched.{Fetched}
use Rattle.fetchers.specs.Servings.{IsGrantedServing, IsRefusedServing, IsServing, AreServings, IsAnswer}
use Rattle.alike_caches.specs.Alike.{AreAlike}
use Rattle.alike_frames.specs.Frames.{ShowSame, Paints, CutsOff, FramesAreAlike, FramesAskAlike}
use Rattle.alike_frames.specs.Servings.{Grants, Refuses, Serves, ServesAll, FetchesAreAlike}
use Rattle.alike_frames.proofs.Peeling.{nothing_left}
use Rattle.alike_frames.proofs.Refusing.{one_piece}
use Rattle.volatile_cell.specs.Front.{Looker, Front}
use Rattle.sole_eyes.specs.SoleEyes.{sole}

module _ {E : Type 0} (front : Front E) (cache : E → Cached) (queue : E → Queue) (is_sole : (e : E) → front.looker e ≡ sole (front.looker e).viewer (cache e).levels)
    (stores : (e : E) (events : List Event) (asked : List Asked) (e' : E) → front.leads e events asked e' → List StoreCall)
    (follows : (e : E) (events : List Event) (asked : List Asked) (e' : E) (l : front.leads e events asked e') → FollowsStep (cache e) events (stores e events asked e' l) (cache e'))
    (asks : (e : E) (events : List Event) (asked : List Asked) (e' : E) → front.leads e events asked e' → AskedFrom (queue e) asked (queue e'))
    (tried : (e e' : E) (cell : ℕ) (err : AcquireErr) → front.caused e e' cell err → List StoreCall)
    (acquires : (e e' : E) (cell : ℕ) (err : AcquireErr) (c : front.caused e e' cell err) → (events : List Event) × Acquires (cache e) cell (Err err) events (tried e e' cell err c) (cache e')) where
  levels_are : (e : E) → (front.looker e).levels ≡ (cache e).levels
  levels_are e = ap (λ (who : Looker). who.levels) (is_sole e)

  -- a frame that was painted
  pub frame_paints : (e e' : E) (view : View) (picture : Pixels) (f : IsFrame front e e' view picture)
      → Paints (cache e) (front.looker e).viewer view picture f.events (stores e f.events f.calls e' f.led) (cache e')
  frame_paints e e' view picture f = record {
    width = f.painting.width;
    height = f.painting.height;
    visited = subst (λ (who : Looker). IsVisited who view picture f.events) (is_sole e) f.visited;
    follows = follows e f.events f.calls e' f.led;
  }

  -- a frame that was cut off
  pub frame_cuts : (e e' : E) (view : View) (picture : Pixels) (err : AcquireErr) (f : IsCutOff front e e' view picture err)
      → CutsOff (cache e) (front.looker e).viewer view picture err f.events f.piece (stores e f.events f.calls f.between f.led ++ tried f.between e' f.cell err f.cause) (cache e')
  frame_cuts e e' view picture err f =
      let got = acquires f.between e' f.cell err f.cause in
      let asked : List StoreCall = tried f.between e' f.cell err f.cause in
      let look : IsRefused true 0 f.cell err f.piece = subst (λ (who : Looker). IsRefused who.alone who.pass f.cell err f.piece) (is_sole e) f.look in
      let same : got.0 ≡ f.piece = one_piece (cache f.between) (cache e') f.cell err f.piece got.0 (stores f.between f.piece [] e' f.refused) asked look (follows f.between f.piece [] e' f.refused) got.1 in
      record {
        cell = f.cell;
        visited = subst (λ (who : Looker). IsVisitedTo who view picture f.cell f.events) (is_sole e) f.visited;
        between = cache f.between;
        before = stores e f.events f.calls f.between f.led;
        follows = follows e f.events f.calls f.between f.led;
        asked = asked;
        acquires = subst (λ (es : List Event). Acquires (cache f.between) f.cell (Err err) es asked (cache e')) same got.1;
        calls_are = refl;
      }

  -- what a serving asked of the stores
  abbrev pub serving_stores : (e : E) (served : Served) (events : List Event) (asked : List Asked) (e' : E) → IsServing front e served events asked e' → List StoreCall
  serving_stores e Idle events asked e' s = stores e events asked e' s.led
  serving_stores e Held events asked e' s = stores e events asked e' s.led
  serving_stores e Loaded events asked e' s = stores e events asked e' s.led
  serving_stores e (Refused err) events asked e' s = tried s.mid e' s.request.cell err s.cause

  grants : (e : E) (loaded : Bool) (events : List Event) (asked : List Asked) (e' : E) (s : IsGrantedServing front e loaded events asked e')
      → Grants (cache e) (queue e) loaded events asked (stores e events asked e' s.led) (cache e') (queue e')
  grants e loaded events asked e' s = record {
    request = s.request;
    takes = record { inside = subst (λ (who : Looker). s.request.cell < cells_of who.levels) (is_sole e) s.inside; took = s.took; led = asks e events asked e' s.led };
    piece = s.piece;
    granted = subst (λ (who : Looker). IsGranted who.alone who.pass s.request.cell loaded s.piece) (is_sole e) s.granted;
    given_back = s.given_back ∙ ap (λ (who : Looker). s.piece ++ Unpin who.pass s.request.cell ∷ []) (is_sole e);
    follows = follows e events asked e' s.led;
  }

  refuses : (e : E) (err : AcquireErr) (events : List Event) (asked : List Asked) (e' : E) (s : IsRefusedServing front e err events asked e')
      → Refuses (cache e) (queue e) err events asked (tried s.mid e' s.request.cell err s.cause) (cache e') (queue e')
  refuses e err events asked e' s =
      let got = acquires s.mid e' s.request.cell err s.cause in
      let calls : List StoreCall = tried s.mid e' s.request.cell err s.cause in
      let look : IsRefused true 0 s.request.cell err events = subst (λ (who : Looker). IsRefused who.alone who.pass s.request.cell err events) (is_sole e) s.refused in
      let same : got.0 ≡ events = one_piece (cache s.mid) (cache e') s.request.cell err events got.0 (stores s.mid events [] e' s.tried) calls look (follows s.mid events [] e' s.tried) got.1 in
      let still = nothing_left (cache e) (stores e [] asked s.mid s.taken) (cache s.mid) (follows e [] asked s.mid s.taken) in
      let idle : queue s.mid ≡ queue e' = asks s.mid events [] e' s.tried in
      record {
        request = s.request;
        takes = record { inside = subst (λ (who : Looker). s.request.cell < cells_of who.levels) (is_sole e) s.inside; took = s.took; led = subst (AskedFrom (queue e) asked) idle (asks e [] asked s.mid s.taken) };
        acquires = subst₂ (λ (c : Cached) (es : List Event). Acquires c s.request.cell (Err err) es calls (cache e')) still.0 same got.1;
      }

  -- a serving
  pub serving_serves : (e : E) (served : Served) (events : List Event) (asked : List Asked) (e' : E) (s : IsServing front e served events asked e')
      → Serves (cache e) (queue e) served events asked (serving_stores e served events asked e' s) (cache e') (queue e')
  serving_serves e Idle events asked e' s = record { took = s.took; led = asks e events asked e' s.led; none = s.none; follows = follows e events asked e' s.led }
  serving_serves e Held events asked e' s = grants e false events asked e' s
  serving_serves e Loaded events asked e' s = grants e true events asked e' s
  serving_serves e (Refused err) events asked e' s = refuses e err events asked e' s

  -- what servings asked of the stores
  abbrev pub servings_stores : (e : E) (servings : List Served) (events : List Event) (asked : List Asked) (e' : E) → AreServings front e servings events asked e' → List StoreCall
  servings_stores e [] events asked e' s = []
  servings_stores e (served ∷ servings) events asked e' (mid, first, rest, taken, more, one, are, p, q) = serving_stores e served first taken mid one ++ servings_stores mid servings rest more e' are

  -- servings
  pub servings_serve : (e : E) (servings : List Served) (events : List Event) (asked : List Asked) (e' : E) (s : AreServings front e servings events asked e')
      → ServesAll (cache e) (queue e) servings events asked (servings_stores e servings events asked e' s) (cache e') (queue e')
  servings_serve e [] events asked e' s = record { cache = ap cache s.2; queue = ap queue s.2; no_events = s.0; not_asked = s.1; no_calls = refl }
  servings_serve e (served ∷ servings) events asked e' (mid, first, rest, taken, more, one, are, p, q) = (
    cache mid,
    queue mid,
    first,
    rest,
    taken,
    more,
    serving_stores e served first taken mid one,
    servings_stores mid servings rest more e' are,
    serving_serves e served first taken mid one,
    servings_serve mid servings rest more e' are,
    p,
    q,
    refl,
  )

  same_asked : FramesAskAlike → (e e' d d' : E) (view : View) (events others : List Event) (calls told : List Asked) → KeepsRule view (front.looker e).viewer (front.looker e).levels events calls → KeepsRule view (front.looker d).viewer (front.looker d).levels others told
      → AskedFrom (queue e) calls (queue e') → AskedFrom (queue d) told (queue d') → AreAlike (cache e) (cache d) → queue d ≡ queue e → (front.looker d).viewer ≡ (front.looker e).viewer → others ≡ events → (told ≡ calls) × (queue d' ≡ queue e')
  same_asked ask e e' d d' view events others calls told rule keeps led went alike one_queue one_viewer same =
      let one_pyramid : (front.looker d).levels ≡ (front.looker e).levels = levels_are d ∙ alike.levels ∙ sym (levels_are e) in
      let kept : KeepsRule view (front.looker e).viewer (front.looker e).levels events told =
      subst (λ (es : List Event). KeepsRule view (front.looker e).viewer (front.looker e).levels es told) same (subst₂ (λ w (ls : List Level). KeepsRule view w ls others told) one_viewer one_pyramid keeps) in
      ask (queue e) (queue e') (queue d') (front.looker e).viewer (front.looker e).levels view events calls told rule kept led (subst (λ r. AskedFrom r told (queue d')) one_queue went)

  -- Two frames of one view over such eyes: what was painted is painted in both, alike.
  pub paints_alike : FramesAreAlike → FramesAskAlike → (e e' d d' : E) (view : View) (picture other : Pixels) (m n : List StoreCall) (f : IsFrame front e e' view picture) (g : IsFrame front d d' view other)
      → AreAlike (cache e) (cache d) → queue d ≡ queue e → (front.looker d).viewer ≡ (front.looker e).viewer → FailAlike (stores e f.events f.calls e' f.led ++ m) (stores d g.events g.calls d' g.led ++ n)
      → (g.events ≡ f.events) × (g.calls ≡ f.calls) × ShowSame picture other × AreAlike (cache e') (cache d') × (queue d' ≡ queue e') × FailAlike m n
  paints_alike law ask e e' d d' view picture other m n f g alike one_queue one_viewer fail =
      let second = subst (λ w. Paints (cache d) w view other g.events (stores d g.events g.calls d' g.led) (cache d')) one_viewer (frame_paints d d' view other g) in
      let both = law (cache e) (cache d) (cache e') (cache d') (front.looker e).viewer view picture other None None f.events g.events [] []
      (stores e f.events f.calls e' f.led) (stores d g.events g.calls d' g.led) m n alike (frame_paints e e' view picture f, refl) (second, refl) fail in
      let asked = same_asked ask e e' d d' view f.events g.events f.calls g.calls f.rule g.rule (asks e f.events f.calls e' f.led) (asks d g.events g.calls d' g.led) alike one_queue one_viewer both.1 in
      (both.1, asked.0, both.3 refl, both.4, asked.1, both.5)

  -- what was cut off is cut off in both, for the same cause
  pub cuts_alike : FramesAreAlike → FramesAskAlike → (e e' d d' : E) (view : View) (picture other : Pixels) (err cause : AcquireErr) (m n : List StoreCall)
      (f : IsCutOff front e e' view picture err) (g : IsCutOff front d d' view other cause)
      → AreAlike (cache e) (cache d) → queue d ≡ queue e → (front.looker d).viewer ≡ (front.looker e).viewer
      → FailAlike ((stores e f.events f.calls f.between f.led ++ tried f.between e' f.cell err f.cause) ++ m) ((stores d g.events g.calls g.between g.led ++ tried g.between d' g.cell cause g.cause) ++ n)
      → (cause ≡ err) × (g.events ≡ f.events) × (g.piece ≡ f.piece) × (g.calls ≡ f.calls) × AreAlike (cache e') (cache d') × (queue d' ≡ queue e') × FailAlike m n
  cuts_alike law ask e e' d d' view picture other err cause m n f g alike one_queue one_viewer fail =
      let k : List StoreCall = stores e f.events f.calls f.between f.led ++ tried f.between e' f.cell err f.cause in
      let l : List StoreCall = stores d g.events g.calls g.between g.led ++ tried g.between d' g.cell cause g.cause in
      let second = subst (λ w. CutsOff (cache d) w view other cause g.events g.piece l (cache d')) one_viewer (frame_cuts d d' view other cause g) in
      let both = law (cache e) (cache d) (cache e') (cache d') (front.looker e).viewer view picture other (Some err) (Some cause) f.events g.events f.piece g.piece k l m n alike (frame_cuts e e' view picture err f) second fail in
      let asked = same_asked ask e f.between d g.between view f.events g.events f.calls g.calls f.rule g.rule (asks e f.events f.calls f.between f.led) (asks d g.events g.calls g.between g.led) alike one_queue one_viewer both.1 in
      let same : cause ≡ err = cc both.0 in
      let here : queue f.between ≡ queue e' = asks f.between f.piece [] e' f.refused in
      let there : queue g.between ≡ queue d' = asks g.between g.piece [] d' g.refused in
      (same, both.1, both.2, asked.0, both.4, sym there ∙ asked.1 ∙ here, both.5)

  -- not one painted and the other cut off
  pub not_paints_cuts : FramesAreAlike → (e e' d d' : E) (view : View) (picture other : Pixels) (cause : AcquireErr) (m n : List StoreCall)
      (f : IsFrame front e e' view picture) (g : IsCutOff front d d' view other cause)
      → AreAlike (cache e) (cache d) → (front.looker d).viewer ≡ (front.looker e).viewer
      → FailAlike (stores e f.events f.calls e' f.led ++ m) ((stores d g.events g.calls g.between g.led ++ tried g.between d' g.cell cause g.cause) ++ n) → ⊥
  not_paints_cuts law e e' d d' view picture other cause m n f g alike one_viewer fail =
      let l : List StoreCall = stores d g.events g.calls g.between g.led ++ tried g.between d' g.cell cause g.cause in
      let second = subst (λ w. CutsOff (cache d) w view other cause g.events g.piece l (cache d')) one_viewer (frame_cuts d d' view other cause g) in
      let both = law (cache e) (cache d) (cache e') (cache d') (front.looker e).viewer view picture other None (Some cause) f.events g.events [] g.piece
      (stores e f.events f.calls e' f.led) l m n alike (frame_paints e e' view picture f, refl) second fail in
      cc both.0

  pub not_cuts_paints : FramesAreAlike → (e e' d d' : E) (view : View) (picture other : Pixels) (err : AcquireErr) (m n : List StoreCall)
      (f : IsCutOff front e e' view picture err) (g : IsFrame front d d' view other)
      → AreAlike (cache e) (cache d) → (front.looker d).viewer ≡ (front.looker e).viewer
      → FailAlike ((stores e f.events f.calls f.between f.led ++ tried f.between e' f.cell err f.cause) ++ m) (stores d g.events g.calls d' g.led ++ n) → ⊥
  not_cuts_paints law e e' d d' view picture other err m n f g alike one_viewer fail =
      let k : List StoreCall = stores e f.events f.calls f.between f.led ++ tried f.between e' f.cell err f.cause in
      let second = subst (λ w. Paints (cache d) w view other g.events (stores d g.events g.calls d' g.led) (cache d')) one_viewer (frame_paints d d' view other g) in
      let both = law (cache e) (cache d) (cache e') (cache d') (front.looker e).viewer view picture other (Some err) None f.events g.events f.piece []
      k (stores d g.events g.calls d' g.led) m n alike (frame_cuts e e' view picture err f) (second, refl) fail in
      cc both.0

  -- two fetches of so many requests over such eyes
  pub fetches_over : FetchesAreAlike → (e e' d d' : E) (count : ℕ) (servings others : List Served) (told other : Result Fetched (Unit {0})) (p q : List Event) (u v : List Asked) (m n : List StoreCall)
      (f : AreServings front e servings p u e') (g : AreServings front d others q v d')
      → IsAnswer count servings told → IsAnswer count others other → AreAlike (cache e) (cache d) → queue d ≡ queue e
      → FailAlike (servings_stores e servings p u e' f ++ m) (servings_stores d others q v d' g ++ n)
      → (others ≡ servings) × (other ≡ told) × (q ≡ p) × (v ≡ u) × AreAlike (cache e') (cache d') × (queue d' ≡ queue e') × FailAlike m n
  fetches_over law e e' d d' count servings others told other p q u v m n f g answer answer' alike one_queue fail =
      let k : List StoreCall = servings_stores e servings p u e' f in
      let l : List StoreCall = servings_stores d others q v d' g in
      let second = subst (λ r. ServesAll (cache d) r others q v l (cache d') (queue d')) one_queue (servings_serve d others q v d' g) in
      let both = law (cache e) (cache d) (cache e') (cache d') (queue e) (queue e') (queue d') count servings others told other
      p q u v k l m n alike (servings_serve e servings p u e' f) answer second answer' fail in
      both
