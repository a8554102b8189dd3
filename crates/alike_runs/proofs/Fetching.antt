-- Fetches over moments that nothing tells apart.
use Rattle.std.proofs.Common.{◌≡◌, ◌∙◌, List, ◌++◌, refl, sym, ap, subst}
use Rattle.store_calls.specs.Calls.{StoreCall, FailAlike}
use Rattle.team_run.specs.Desk.{desk_front}
use Rattle.team_run.specs.Fetches.{fetch_answer}
use Rattle.alike_frames.specs.Servings.{FetchesAreAlike}
use Rattle.alike_frames.proofs.OverEyes as over
use Rattle.alike_runs.specs.Commands.{FetchCommandsAreAlike}
use Rattle.alike_runs.proofs.AtDesk.{cache_at, queue_at, stores_at, follows_at, asks_at, tried_at, acquires_at, asked_at, stores_same}

pub fetches_alike : FetchesAreAlike → FetchCommandsAreAlike
fetches_alike law a b a' b' count x y e f u v k l m n p q alike g h fail =
    let first : k ≡ asked_at a a' x e u g.are = g.stores_are ∙ stores_same a a' x e u g.are in
    let second : l ≡ asked_at b b' y f v h.are = h.stores_are ∙ stores_same b b' y f v h.are in
    let both = over.fetches_over (desk_front 0) cache_at queue_at (λ _. refl) stores_at follows_at asks_at tried_at acquires_at law
    a a' b b' count x y g.result h.result e f u v m n g.are h.are g.answer h.answer alike.cache alike.queue
    (subst (λ (c : List StoreCall). FailAlike (c ++ m) (asked_at b b' y f v h.are ++ n)) first (subst (λ (c : List StoreCall). FailAlike (k ++ m) (c ++ n)) second fail)) in
    (h.told_is ∙ ap fetch_answer both.1 ∙ sym g.told_is, record { cache = both.4; queue = both.5 }, both.6)
