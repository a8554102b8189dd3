-- The queue of what is fetched next: a list of requests for each priority, and the prefetch list behind them.
use Rattle.std.specs.Prelude.{ℕ, ◌-◌, ◌<◌, ◌==◌, ◌&&◌, Bool, true, false, not, List, [], ◌∷◌, ◌++◌, length, drop, map, filter, replicate, Option, None, Some, slice_get, slice_set, slice_index_or}
use Rattle.std.specs.List.{flat_map}
use Rattle.fetch_queue.specs.declared.request.Request.{Request}

-- how many viewers and cells there are, the bound of the prefetch list, and the lists
pub record Queue : Type 0 where
  pub viewers : ℕ
  pub cells : ℕ
  pub bound : ℕ
  pub lists : List (List Request)
  pub prefetch : List Request

abbrev pub opening_queue : ℕ → ℕ → ℕ → ℕ → Queue
opening_queue viewers cells priorities bound =
    record { viewers = viewers; cells = cells; bound = bound; lists = replicate priorities []; prefetch = [] }

-- whether two requests are the same pair
abbrev pub same : Request → Request → Bool
same a b = (a.viewer == b.viewer) && (a.cell == b.cell)

-- the requests but this one
abbrev pub without_request : List Request → Request → List Request
without_request rs r = filter (λ s. not (same r s)) rs

-- the pair is taken out wherever it stands
abbrev pub dropped : Queue → Request → Queue
dropped q r =
    record { viewers = q.viewers; cells = q.cells; bound = q.bound; lists = map (λ rs. without_request rs r) q.lists; prefetch = without_request q.prefetch r }

-- the pair comes to the front or to the back of its priority
abbrev pub joined : List Request → Request → Bool → List Request
joined rs r true = r ∷ rs
joined rs r false = rs ++ r ∷ []

abbrev pub added : Queue → Request → ℕ → Bool → Queue
added q r priority to_front =
    record { viewers = q.viewers; cells = q.cells; bound = q.bound; lists = slice_set q.lists priority (joined (slice_index_or q.lists priority []) r to_front); prefetch = q.prefetch }

-- the pair of a viewer and a cell
abbrev pub pair : ℕ → ℕ → Request
pair viewer cell = record { viewer = viewer; cell = cell }

-- the pair is moved to the front or to the back of a priority
abbrev pub put_request : Queue → Request → ℕ → Bool → Queue
put_request q r priority to_front = added (dropped q r) r priority to_front

-- the head of the first priority that isn't empty, then of the prefetch list
abbrev pub next_request : Queue → Option Request
next_request q = slice_get (flat_map (λ rs. rs) q.lists ++ q.prefetch) 0

abbrev pub without_next : Queue → Option Request → Queue
without_next q None = q
without_next q (Some r) = dropped q r

-- the viewer's requests with a priority, by priority and place
abbrev pub of_viewer : Queue → ℕ → List Request
of_viewer q viewer = filter (λ r. r.viewer == viewer) (flat_map (λ rs. rs) q.lists)

-- the last ones of a list, at most so many
abbrev pub last_ones : ℕ → List Request → List Request
last_ones bound rs = drop (length rs - bound) rs

-- the viewer's requests go to the back of the prefetch list, whose front is dropped down to its bound
abbrev pub cleared : Queue → ℕ → Queue
cleared q viewer =
    record { viewers = q.viewers; cells = q.cells; bound = q.bound; lists = map (λ rs. filter (λ r. not (r.viewer == viewer)) rs) q.lists; prefetch = last_ones q.bound (q.prefetch ++ of_viewer q viewer) }

-- a request of a viewer and a cell that there are
pub record IsRequest (q : Queue) (r : Request) : Type 0 where
  pub viewer_in_range : r.viewer < q.viewers
  pub cell_in_range : r.cell < q.cells
