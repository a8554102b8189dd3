-- Servings over caches that are alike.
use Rattle.std.proofs.Common.{◌≡◌, ◌∙◌, Bool, true, false, List, [], ◌∷◌, ◌++◌, Option, None, Some, refl, sym, ap, subst, subst₂, true≢false}
use Rattle.std.specs.declared.result.Result.TheVariants.{Err}
use Rattle.cell_file.specs.declared.errors.AcquireErr.{AcquireErr}
use Rattle.store_calls.specs.Calls.{StoreCall, FailAlike}
use Rattle.arr_history.specs.declared.event.Event.{Event}
use Rattle.arr_history.specs.declared.event.Event.TheVariants.{Unpin}
use Rattle.fetch_queue.specs.Queue.{Queue}
use Rattle.fetch_queue.specs.declared.request.Request.{Request}
use Rattle.sole_cache.specs.Cached.{Cached}
use Rattle.sole_cache.specs.Acquires.{Acquires}
use Rattle.volatile_cell.specs.Asked.{Asked, AskedFrom}
use Rattle.sole_eyes.specs.Steps.{FollowsStep}
use Rattle.volatile_cell.specs.declared.queue_reply.QueueReply.TheVariants as reply
use Rattle.fetchers.specs.declared.served.Served.{Served}
use Rattle.fetchers.specs.declared.served.Served.TheVariants.{Idle, Held, Loaded, Refused}
use Rattle.fetchers.specs.Servings.{taking}
use Rattle.alike_caches.specs.Alike.{AreAlike}
use Rattle.alike_frames.specs.Servings.{Rests, Grants, Refuses, Serves}
use Rattle.alike_frames.proofs.Tandem.{AlikeLaws, Ends, Tandem, both_unpin}
use Rattle.alike_frames.proofs.Getting as getting
use Rattle.alike_frames.proofs.Peeling.{nothing_left}
use Rattle.alike_frames.proofs.Asking.{one_queue}

-- a take of one queue has one answer
one_take : (q r t : Queue) (o p : Option Request) (u v : List Asked) → u ≡ taking o → v ≡ taking p → AskedFrom q u r → AskedFrom q v t → (p ≡ o) × (v ≡ u) × (t ≡ r)
one_take q r t o p u v u_is v_is led went =
    let first : AskedFrom q (taking o) r = subst (λ (a : List Asked). AskedFrom q a r) u_is led in
    let second : AskedFrom q (taking p) t = subst (λ (a : List Asked). AskedFrom q a t) v_is went in
    let told : reply.Taken p ≡ reply.Taken o = second.0 ∙ sym first.0 in
    let same : p ≡ o = cc told in
    let calls : v ≡ u = v_is ∙ ap taking same ∙ sym u_is in
    (same, calls, one_queue q r t u led (subst (λ (a : List Asked). AskedFrom q a t) calls went))

abbrev Together : Cached → Cached → Queue → Queue → Served → Served → List Event → List Event → List Asked → List Asked → List StoreCall → List StoreCall → Type 0
Together c' d' r t served told e f u v m n = (told ≡ served) × (f ≡ e) × (v ≡ u) × AreAlike c' d' × (t ≡ r) × FailAlike m n

both_rest : (c d c' d' : Cached) (q r t : Queue) (e f : List Event) (u v : List Asked) (k l m n : List StoreCall) → AreAlike c d → Rests c q e u k c' r → Rests d q f v l d' t → FailAlike (k ++ m) (l ++ n)
    → Together c' d' r t Idle Idle e f u v m n
both_rest c d c' d' q r t e f u v k l m n alike one two fail =
    let take = one_take q r t None None u v one.took two.took one.led two.led in
    let here = nothing_left c k c' (subst (λ (es : List Event). FollowsStep c es k c') one.none one.follows) in
    let there = nothing_left d l d' (subst (λ (es : List Event). FollowsStep d es l d') two.none two.follows) in (
      refl,
      two.none ∙ sym one.none,
      take.1,
      subst₂ AreAlike (sym here.0) (sym there.0) alike,
      take.2,
      subst₂ FailAlike (ap (λ (x : List StoreCall). x ++ m) here.1) (ap (λ (x : List StoreCall). x ++ n) there.1) fail,
    )

same_request : (a b : Request) → Some b ≡ Some a → b ≡ a
same_request a b h = cc h

both_grant : (laws : AlikeLaws) (c d c' d' : Cached) (q r t : Queue) (loaded told : Bool) (e f : List Event) (u v : List Asked) (k l m n : List StoreCall)
    → AreAlike c d → Grants c q loaded e u k c' r → Grants d q told f v l d' t → FailAlike (k ++ m) (l ++ n) → (told ≡ loaded) × (f ≡ e) × (v ≡ u) × AreAlike c' d' × (t ≡ r) × FailAlike m n
both_grant laws c d c' d' q r t loaded told e f u v k l m n alike one two fail =
    let take = one_take q r t (Some one.request) (Some two.request) u v one.takes.took two.takes.took one.takes.led two.takes.led in
    let cell_is : two.request.cell ≡ one.request.cell = ap (λ (a : Request). a.cell) (same_request one.request two.request take.0) in
    let cell = one.request.cell in
    let z : Ends = record { levels = c.levels; first = c'; second = d'; left = m; other = n } in
    let gets = getting.gets_of cell loaded one.piece one.granted in
    let got : getting.Gets cell told two.piece = subst (λ i. getting.Gets i told two.piece) cell_is (getting.gets_of two.request.cell told two.piece two.granted) in
    let f_is : f ≡ two.piece ++ Unpin 0 cell ∷ [] = two.given_back ∙ ap (λ i. two.piece ++ Unpin 0 i ∷ []) cell_is in
    let pair : Tandem z c d (one.piece ++ Unpin 0 cell ∷ []) (two.piece ++ Unpin 0 cell ∷ []) = subst₂ (Tandem z c d) one.given_back f_is
    (record { alike = alike; levels = refl; calls = k; others = l; follows = one.follows; goes = two.follows; fail = fail }) in
    let on = getting.both_get laws z c d cell loaded told one.piece two.piece (Unpin 0 cell ∷ []) (Unpin 0 cell ∷ []) one.takes.inside gets got pair in
    let back = both_unpin laws z on.2.c on.2.d cell [] [] on.2.pair in
    let here = nothing_left back.c back.pair.calls c' back.pair.follows in
    let there = nothing_left back.d back.pair.others d' back.pair.goes in (
      on.0,
      f_is ∙ ap (λ (p : List Event). p ++ Unpin 0 cell ∷ []) on.1 ∙ sym one.given_back,
      take.1,
      subst₂ AreAlike (sym here.0) (sym there.0) back.pair.alike,
      take.2,
      subst₂ FailAlike (ap (λ (x : List StoreCall). x ++ m) here.1) (ap (λ (x : List StoreCall). x ++ n) there.1) back.pair.fail,
    )

both_refuse : (laws : AlikeLaws) (c d c' d' : Cached) (q r t : Queue) (err cause : AcquireErr) (e f : List Event) (u v : List Asked) (k l m n : List StoreCall)
    → AreAlike c d → Refuses c q err e u k c' r → Refuses d q cause f v l d' t → FailAlike (k ++ m) (l ++ n) → Together c' d' r t (Refused err) (Refused cause) e f u v m n
both_refuse laws c d c' d' q r t err cause e f u v k l m n alike one two fail =
    let take = one_take q r t (Some one.request) (Some two.request) u v one.takes.took two.takes.took one.takes.led two.takes.led in
    let cell_is : two.request.cell ≡ one.request.cell = ap (λ (a : Request). a.cell) (same_request one.request two.request take.0) in
    let law = laws.acquires c d c' d' one.request.cell (Err err) (Err cause) e f k l m n alike one.takes.inside one.acquires (subst (λ i. Acquires d i (Err cause) f l d') cell_is two.acquires) fail in
    let same : cause ≡ err = cc law.0 in
    (ap Refused same, law.1, take.1, law.2, take.2, law.3)

-- not one granted and the other refused
not_grant_refuse : (laws : AlikeLaws) (c d c' d' : Cached) (q r t : Queue) (loaded : Bool) (err : AcquireErr) (e f : List Event) (u v : List Asked) (k l m n : List StoreCall)
    → AreAlike c d → Grants c q loaded e u k c' r → Refuses d q err f v l d' t → FailAlike (k ++ m) (l ++ n) → ⊥
not_grant_refuse laws c d c' d' q r t loaded err e f u v k l m n alike one two fail =
    let take = one_take q r t (Some one.request) (Some two.request) u v one.takes.took two.takes.took one.takes.led two.takes.led in
    let cell_is : two.request.cell ≡ one.request.cell = ap (λ (a : Request). a.cell) (same_request one.request two.request take.0) in
    let cell = one.request.cell in
    let z : Ends = record { levels = c.levels; first = c'; second = d; left = m; other = l ++ n } in
    let pair : Tandem z c d (one.piece ++ Unpin 0 cell ∷ []) [] =
    record { alike = alike; levels = refl; calls = k; others = []; follows = subst (λ (es : List Event). FollowsStep c es k c') one.given_back one.follows; goes = record { count = 0; steps = (refl, refl, refl) }; fail = fail } in
    getting.not_get_refused laws z c d cell loaded one.piece (Unpin 0 cell ∷ []) one.takes.inside (getting.gets_of cell loaded one.piece one.granted) pair
    (record { err = err; events = f; asked = l; more = n; after = d'; acquires = subst (λ i. Acquires d i (Err err) f l d') cell_is two.acquires; calls_are = refl })

not_refuse_grant : (laws : AlikeLaws) (c d c' d' : Cached) (q r t : Queue) (loaded : Bool) (err : AcquireErr) (e f : List Event) (u v : List Asked) (k l m n : List StoreCall)
    → AreAlike c d → Refuses c q err e u k c' r → Grants d q loaded f v l d' t → FailAlike (k ++ m) (l ++ n) → ⊥
not_refuse_grant laws c d c' d' q r t loaded err e f u v k l m n alike one two fail =
    let take = one_take q r t (Some one.request) (Some two.request) u v one.takes.took two.takes.took one.takes.led two.takes.led in
    let cell_is : two.request.cell ≡ one.request.cell = ap (λ (a : Request). a.cell) (same_request one.request two.request take.0) in
    let cell = one.request.cell in
    let z : Ends = record { levels = c.levels; first = c; second = d'; left = k ++ m; other = n } in
    let f_is : f ≡ two.piece ++ Unpin 0 cell ∷ [] = two.given_back ∙ ap (λ i. two.piece ++ Unpin 0 i ∷ []) cell_is in
    let pair : Tandem z c d [] (two.piece ++ Unpin 0 cell ∷ []) =
    record { alike = alike; levels = refl; calls = []; others = l; follows = record { count = 0; steps = (refl, refl, refl) }; goes = subst (λ (es : List Event). FollowsStep d es l d') f_is two.follows; fail = fail } in
    getting.not_refused_get laws z c d cell loaded two.piece (Unpin 0 cell ∷ []) one.takes.inside (subst (λ i. getting.Gets i loaded two.piece) cell_is (getting.gets_of two.request.cell loaded two.piece two.granted)) pair
    (record { err = err; events = e; asked = k; more = m; after = c'; acquires = one.acquires; calls_are = refl })

-- a take gives a request, or none
not_none : (q r t : Queue) (request : Request) (u v : List Asked) → u ≡ taking None → v ≡ taking (Some request) → AskedFrom q u r → AskedFrom q v t → ⊥
not_none q r t request u v u_is v_is led went = let take = one_take q r t None (Some request) u v u_is v_is led went in cc take.0

-- Servings whose calls of the stores fail alike come to the same.
pub serving_alike : (laws : AlikeLaws) (c d c' d' : Cached) (q r t : Queue) (served told : Served) (e f : List Event) (u v : List Asked) (k l m n : List StoreCall)
    → AreAlike c d → Serves c q served e u k c' r → Serves d q told f v l d' t → FailAlike (k ++ m) (l ++ n) → Together c' d' r t served told e f u v m n
serving_alike laws c d c' d' q r t Idle Idle e f u v k l m n alike one two fail = both_rest c d c' d' q r t e f u v k l m n alike one two fail
serving_alike laws c d c' d' q r t Idle Held e f u v k l m n alike one two fail = absurd (not_none q r t two.request u v one.took two.takes.took one.led two.takes.led)
serving_alike laws c d c' d' q r t Idle Loaded e f u v k l m n alike one two fail = absurd (not_none q r t two.request u v one.took two.takes.took one.led two.takes.led)
serving_alike laws c d c' d' q r t Idle (Refused err) e f u v k l m n alike one two fail = absurd (not_none q r t two.request u v one.took two.takes.took one.led two.takes.led)
serving_alike laws c d c' d' q r t Held Idle e f u v k l m n alike one two fail = absurd (not_none q t r one.request v u two.took one.takes.took two.led one.takes.led)
serving_alike laws c d c' d' q r t Loaded Idle e f u v k l m n alike one two fail = absurd (not_none q t r one.request v u two.took one.takes.took two.led one.takes.led)
serving_alike laws c d c' d' q r t (Refused err) Idle e f u v k l m n alike one two fail = absurd (not_none q t r one.request v u two.took one.takes.took two.led one.takes.led)
serving_alike laws c d c' d' q r t Held Held e f u v k l m n alike one two fail = let b = both_grant laws c d c' d' q r t false false e f u v k l m n alike one two fail in (refl, b.1, b.2, b.3, b.4, b.5)
serving_alike laws c d c' d' q r t Held Loaded e f u v k l m n alike one two fail = let b = both_grant laws c d c' d' q r t false true e f u v k l m n alike one two fail in absurd (true≢false b.0)
serving_alike laws c d c' d' q r t Loaded Held e f u v k l m n alike one two fail = let b = both_grant laws c d c' d' q r t true false e f u v k l m n alike one two fail in absurd (true≢false (sym b.0))
serving_alike laws c d c' d' q r t Loaded Loaded e f u v k l m n alike one two fail = let b = both_grant laws c d c' d' q r t true true e f u v k l m n alike one two fail in (refl, b.1, b.2, b.3, b.4, b.5)
serving_alike laws c d c' d' q r t Held (Refused err) e f u v k l m n alike one two fail = absurd (not_grant_refuse laws c d c' d' q r t false err e f u v k l m n alike one two fail)
serving_alike laws c d c' d' q r t Loaded (Refused err) e f u v k l m n alike one two fail = absurd (not_grant_refuse laws c d c' d' q r t true err e f u v k l m n alike one two fail)
serving_alike laws c d c' d' q r t (Refused err) Held e f u v k l m n alike one two fail = absurd (not_refuse_grant laws c d c' d' q r t false err e f u v k l m n alike one two fail)
serving_alike laws c d c' d' q r t (Refused err) Loaded e f u v k l m n alike one two fail = absurd (not_refuse_grant laws c d c' d' q r t true err e f u v k l m n alike one two fail)
serving_alike laws c d c' d' q r t (Refused err) (Refused cause) e f u v k l m n alike one two fail = both_refuse laws c d c' d' q r t err cause e f u v k l m n alike one two fail
