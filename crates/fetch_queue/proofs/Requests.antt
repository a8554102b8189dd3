-- Nodes read as requests.
use Rattle.std.proofs.Common.{◌≡◌, ℕ, ◌+◌, ◌*◌, ◌/◌, ◌%◌, ◌<◌, inl, inr, Bool, true, false, not, ◌&&◌, List, [], ◌∷◌, ◌++◌, filter, map, refl, sym, ap, ◌∙◌}
use Rattle.std.specs.Prelude.{◌==◌}
use Rattle.std.proofs.lemmas.Bool.{eq-eqb, ne_eqb, eqb-true, cases_eq, and_parts, and_from, false_from_ne_true}
use Rattle.std.proofs.lemmas.List.{map-append}
use Rattle.std.proofs.lemmas.Nat.{div-mul-add, mod-mul-add, div-add-mod'}
use Rattle.ix_links.specs.NodeList.{without}
use Rattle.fetch_queue.specs.declared.request.Request.{Request}
use Rattle.fetch_queue.specs.Queue as queue
use Rattle.fetch_queue.specs.Ranking.{joined_nodes}
use Rattle.fetch_queue.specs.Requests.{request_of, requests_of}
use Rattle.fetch_queue.proofs.Filters.{flat}

pub map-filter : {X Y : Type 0} (f : X → Y) (p : X → Bool) (q : Y → Bool) → ((x : X) → q (f x) ≡ p x) → (xs : List X) → map f (filter p xs) ≡ filter q (map f xs)
map-filter f p q agree [] = refl
map-filter {X} {Y} f p q agree (x ∷ xs) = by_test (p x) refl (map-filter f p q agree xs)
  where
    by_test : (b : Bool) → p x ≡ b → map f (filter p xs) ≡ filter q (map f xs) → map f (filter p (x ∷ xs)) ≡ filter q (f x ∷ map f xs)
    by_test true e later = rw e (rw (agree x ∙ e) (ap (λ (ys : List Y). f x ∷ ys) later))
    by_test false e later = rw e (rw (agree x ∙ e) later)

pub map-flat : {X Y : Type 0} (f : X → Y) (ls : List (List X)) → map f (flat ls) ≡ flat (map (λ xs. map f xs) ls)
map-flat f [] = refl
map-flat {X} {Y} f (xs ∷ ls) = map-append f xs (flat ls) ∙ ap (λ (ys : List Y). map f xs ++ ys) (map-flat f ls)

-- the request of a pair's node is the pair
pub request_of_pair : (cells viewer cell : ℕ) → cell < cells → request_of cells (viewer * cells + cell) ≡ record { viewer = viewer; cell = cell }
request_of_pair cells viewer cell h =
    let make : ℕ → ℕ → Request = λ a b. record { viewer = a; cell = b } in
    ap (λ (a : ℕ). make a ((viewer * cells + cell) % cells)) (div-mul-add viewer cells cell h) ∙ ap (λ (b : ℕ). make viewer b) (mod-mul-add viewer cells cell h)

-- two nodes are one exactly if their requests are
pub same_nodes : (cells a b : ℕ) → queue.same (request_of cells a) (request_of cells b) ≡ (a == b)
same_nodes cells a b =
    elim (cases_eq a b) [
      | inl e ↦ and_from (a / cells == b / cells) (a % cells == b % cells) (eq-eqb (a / cells) (b / cells) (ap (λ (k : ℕ). k / cells) e)) (eq-eqb (a % cells) (b % cells) (ap (λ (k : ℕ). k % cells) e)) ∙ sym (eq-eqb a b e)
      | inr ne ↦ false_from_ne_true ((a / cells == b / cells) && (a % cells == b % cells)) (λ both. ne (joined_again (and_parts (a / cells == b / cells) (a % cells == b % cells) both))) ∙ sym (ne_eqb a b ne)
    ]
  where
    joined_again : ((a / cells == b / cells) ≡ true) × ((a % cells == b % cells) ≡ true) → a ≡ b
    joined_again p =
        sym (div-add-mod' a cells) ∙ ap (λ (k : ℕ). k * cells + a % cells) (eqb-true (a / cells) (b / cells) p.0)
        ∙ ap (λ (k : ℕ). (b / cells) * cells + k) (eqb-true (a % cells) (b % cells) p.1) ∙ div-add-mod' b cells

pub requests-without : (cells : ℕ) (xs : List ℕ) (node : ℕ) → requests_of cells (without xs node) ≡ queue.without_request (requests_of cells xs) (request_of cells node)
requests-without cells xs node =
    map-filter (request_of cells) (λ y. not (node == y)) (λ r. not (queue.same (request_of cells node) r)) (λ x. ap (λ (b : Bool). not b) (same_nodes cells node x)) xs

pub requests-joined_nodes : (cells : ℕ) (xs : List ℕ) (node : ℕ) (to_front : Bool) → requests_of cells (joined_nodes xs node to_front) ≡ queue.joined (requests_of cells xs) (request_of cells node) to_front
requests-joined_nodes cells xs node true = refl
requests-joined_nodes cells xs node false = map-append (request_of cells) xs (node ∷ [])

-- the lists of requests, each without the one
pub rows-without : (cells : ℕ) (ls : List (List ℕ)) (node : ℕ) →
    map (requests_of cells) (map (λ xs. without xs node) ls) ≡ map (λ rs. queue.without_request rs (request_of cells node)) (map (requests_of cells) ls)
rows-without cells [] node = refl
rows-without cells (xs ∷ ls) node =
    ap (λ (rs : List Request). rs ∷ map (requests_of cells) (map (λ ys. without ys node) ls)) (requests-without cells xs node)
    ∙ ap (λ (rows : List (List Request)). queue.without_request (requests_of cells xs) (request_of cells node) ∷ rows) (rows-without cells ls node)
