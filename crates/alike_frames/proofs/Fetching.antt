-- Fetches over caches that are alike.
use Rattle.std.proofs.Common.{◌≡◌, ◌∙◌, ◌⊎◌, inl, inr, ℕ, ◌-◌, ◌<◌, ◌&&◌, Bool, true, false, List, [], ◌∷◌, ◌++◌, length, Result, refl, sym, ap, ap₂, subst, subst₂, append_assoc, true≢false, arith}
use Rattle.std.specs.declared.result.Result.TheVariants.{Ok, Err}
use Rattle.std.specs.List.{list_all}
use Rattle.cell_file.specs.declared.errors.AcquireErr.TheVariants as refusal
use Rattle.store_calls.specs.Calls.{StoreCall, FailAlike}
use Rattle.arr_history.specs.declared.event.Event.{Event}
use Rattle.fetch_queue.specs.Queue.{Queue}
use Rattle.sole_cache.specs.Cached.{Cached}
use Rattle.volatile_cell.specs.Asked.{Asked}
use Rattle.fetchers.specs.declared.served.Served.{Served}
use Rattle.fetchers.specs.declared.served.Served.TheVariants.{Idle, Refused}
use Rattle.fetchers.specs.declared.fetched.Fetched.{Fetched}
use Rattle.fetchers.specs.Servings.{goes_on, IsAnswer}
use Rattle.alike_caches.specs.Alike.{AreAlike}
use Rattle.alike_frames.specs.Servings.{ServesAll, FetchesAreAlike}
use Rattle.alike_frames.proofs.Tandem.{AlikeLaws}
use Rattle.alike_frames.proofs.Serving.{serving_alike}

-- the servings of a fetch of so many requests, from one on: it goes on while they do, and there are requests left
abbrev AreFetch : ℕ → List Served → Type 0
AreFetch count [] = count ≡ 0
AreFetch count (s ∷ servings) = (0 < count) × (((goes_on s ≡ true) × AreFetch (count - 1) servings) ⊎ ((goes_on s ≡ false) × (servings ≡ [])))

both_true : (a b : Bool) → (a && b) ≡ true → (a ≡ true) × (b ≡ true)
both_true true b h = (refl, h)
both_true false b h = absurd (true≢false (sym h))

fetch_whole : (servings : List Served) (count : ℕ) → list_all goes_on servings ≡ true → length servings ≡ count → AreFetch count servings
fetch_whole [] count h all = sym all
fetch_whole (s ∷ servings) count h all =
    let both = both_true (goes_on s) (list_all goes_on servings) h in
    let more : length servings ≡ count - 1 = omega (arith, all) in
    (omega (arith, all), inl (both.0, fetch_whole servings (count - 1) both.1 more))

fetch_ended : (last : Served) → goes_on last ≡ false → (before : List Served) (count : ℕ) → list_all goes_on before ≡ true → length before < count → AreFetch count (before ++ last ∷ [])
fetch_ended last ends [] count h fewer = (omega (arith, fewer), inr (ends, refl))
fetch_ended last ends (s ∷ before) count h fewer =
    let both = both_true (goes_on s) (list_all goes_on before) h in
    let less : length before < count - 1 = omega (arith, fewer) in
    (omega (arith, fewer), inl (both.0, fetch_ended last ends before (count - 1) both.1 less))

fetch_of : (count : ℕ) (servings : List Served) (told : Result Fetched (Unit {0})) → IsAnswer count servings told → AreFetch count servings
fetch_of count servings (Ok fetched) (counts, inl whole) = fetch_whole servings count whole.served whole.all
fetch_of count servings (Ok fetched) (counts, inr ended) = subst (AreFetch count) (sym ended.are) (fetch_ended Idle refl ended.before count ended.served ended.fewer)
fetch_of count servings (Err memory) ended = subst (AreFetch count) (sym ended.are) (fetch_ended (Refused refusal.Memory) refl ended.before count ended.served ended.fewer)

-- whether the last serving was refused for want of memory
abbrev is_starved : Served → Bool
is_starved (Refused refusal.Memory) = true
is_starved other = false

abbrev ends_starved : List Served → Bool
ends_starved [] = false
ends_starved (s ∷ []) = is_starved s
ends_starved (s ∷ t ∷ servings) = ends_starved (t ∷ servings)

starved_last : (last : Served) (before : List Served) → ends_starved (before ++ last ∷ []) ≡ is_starved last
starved_last last [] = refl
starved_last last (s ∷ []) = refl
starved_last last (s ∷ t ∷ before) = starved_last last (t ∷ before)

not_starved : (s : Served) → goes_on s ≡ true → is_starved s ≡ false
not_starved (Refused refusal.Memory) h = absurd (true≢false (sym h))
not_starved _ h = refl

whole_not_starved : (servings : List Served) → list_all goes_on servings ≡ true → ends_starved servings ≡ false
whole_not_starved [] h = refl
whole_not_starved (s ∷ []) h = not_starved s (both_true (goes_on s) true h).0
whole_not_starved (s ∷ t ∷ servings) h = whole_not_starved (t ∷ servings) (both_true (goes_on s) (list_all goes_on (t ∷ servings)) h).1

-- a fetch that has an answer by its servings did not end so
ok_not_starved : (count : ℕ) (servings : List Served) (fetched : Fetched) → IsAnswer {X = Unit {0}} count servings (Ok fetched) → ends_starved servings ≡ false
ok_not_starved count servings fetched (counts, inl whole) = whole_not_starved servings whole.served
ok_not_starved count servings fetched (counts, inr ended) = ap ends_starved ended.are ∙ starved_last Idle ended.before

err_starved : (count : ℕ) (servings : List Served) (memory : Unit {0}) → IsAnswer count servings (Err memory) → ends_starved servings ≡ true
err_starved count servings memory ended = ap ends_starved ended.are ∙ starved_last (Refused refusal.Memory) ended.before

one_answer : (count : ℕ) (servings : List Served) (told other : Result Fetched (Unit {0})) → IsAnswer count servings told → IsAnswer count servings other → other ≡ told
one_answer count servings (Ok a) (Ok b) h g = ap Ok (g.0 ∙ sym h.0)
one_answer count servings (Err a) (Err b) h g = refl
one_answer count servings (Ok a) (Err b) h g = absurd (true≢false (sym (err_starved count servings b g) ∙ ok_not_starved count servings a h))
one_answer count servings (Err a) (Ok b) h g = absurd (true≢false (sym (err_starved count servings a h) ∙ ok_not_starved count servings b g))

abbrev Alike : Cached → Cached → Queue → Queue → List Served → List Served → List Event → List Event → List Asked → List Asked → List StoreCall → List StoreCall → Type 0
Alike c' d' r t servings others e f u v m n = (others ≡ servings) × (f ≡ e) × (v ≡ u) × AreAlike c' d' × (t ≡ r) × FailAlike m n

-- two fetches go on, or end, after the same serving
ahead_of : (count : ℕ) (s o : Served) (servings others : List Served) → o ≡ s → ((goes_on s ≡ true) × AreFetch (count - 1) servings) ⊎ ((goes_on s ≡ false) × (servings ≡ []))
    → ((goes_on o ≡ true) × AreFetch (count - 1) others) ⊎ ((goes_on o ≡ false) × (others ≡ [])) → (left : ℕ) × AreFetch left servings × AreFetch left others
ahead_of count s o servings others same (inl h) (inl g) = (count - 1, h.1, g.1)
ahead_of count s o servings others same (inl h) (inr g) = absurd (true≢false (sym h.0 ∙ ap goes_on (sym same) ∙ g.0))
ahead_of count s o servings others same (inr h) (inl g) = absurd (true≢false (sym g.0 ∙ ap goes_on same ∙ h.0))
ahead_of count s o servings others same (inr h) (inr g) = (0, subst (AreFetch 0) (sym h.1) refl, subst (AreFetch 0) (sym g.1) refl)

all_alike : (laws : AlikeLaws) (servings others : List Served) (count : ℕ) (c d c' d' : Cached) (q r t : Queue) (e f : List Event) (u v : List Asked) (k l m n : List StoreCall)
    → AreFetch count servings → AreFetch count others → AreAlike c d → ServesAll c q servings e u k c' r → ServesAll d q others f v l d' t → FailAlike (k ++ m) (l ++ n)
    → Alike c' d' r t servings others e f u v m n
all_alike laws [] [] count c d c' d' q r t e f u v k l m n h g alike one two fail = (
  refl,
  two.no_events ∙ sym one.no_events,
  two.not_asked ∙ sym one.not_asked,
  subst₂ AreAlike (sym one.cache) (sym two.cache) alike,
  two.queue ∙ sym one.queue,
  subst₂ FailAlike (ap (λ (x : List StoreCall). x ++ m) one.no_calls) (ap (λ (x : List StoreCall). x ++ n) two.no_calls) fail,
)
all_alike laws [] (s ∷ others) count c d c' d' q r t e f u v k l m n h g alike one two fail = absurd (omega (arith, h, g.0))
all_alike laws (s ∷ servings) [] count c d c' d' q r t e f u v k l m n h g alike one two fail = absurd (omega (arith, g, h.0))
all_alike laws (s ∷ servings) (o ∷ others) count c d c' d' q r t e f u v k l m n h g alike
    (mid, between, first, rest, taken, more, made, ahead, serves, are, e_is, u_is, k_is) (mid', between', first', rest', taken', more', made', ahead', serves', are', f_is, v_is, l_is) fail =
    let joined : FailAlike (made ++ (ahead ++ m)) (made' ++ (ahead' ++ n)) =
    subst₂ FailAlike (ap (λ (x : List StoreCall). x ++ m) k_is ∙ append_assoc made ahead m) (ap (λ (x : List StoreCall). x ++ n) l_is ∙ append_assoc made' ahead' n) fail in
    let on = serving_alike laws c d mid mid' q between between' s o first first' taken taken' made made' (ahead ++ m) (ahead' ++ n) alike serves serves' joined in
    let left = ahead_of count s o servings others on.0 h.1 g.1 in
    let r = all_alike laws servings others left.0 mid mid' c' d' between r t rest rest' more more' ahead ahead' m n left.1 left.2 on.3 are (subst (λ b. ServesAll mid' b others rest' more' ahead' d' t) on.4 are') on.5 in (
      ap₂ (λ (a : Served) (b : List Served). a ∷ b) on.0 r.0,
      f_is ∙ ap₂ (λ (a b : List Event). a ++ b) on.1 r.1 ∙ sym e_is,
      v_is ∙ ap₂ (λ (a b : List Asked). a ++ b) on.2 r.2 ∙ sym u_is,
      r.3,
      r.4,
      r.5,
    )

pub fetches_are_alike : AlikeLaws → FetchesAreAlike
fetches_are_alike laws c d c' d' q r t count servings others told other e f u v k l m n alike one answer two answer' fail =
    let a = all_alike laws servings others count c d c' d' q r t e f u v k l m n (fetch_of count servings told answer) (fetch_of count others other answer') alike one two fail in
    (a.0, one_answer count servings told other answer (subst (λ (s : List Served). IsAnswer count s other) a.0 answer'), a.1, a.2, a.3, a.4, a.5)
