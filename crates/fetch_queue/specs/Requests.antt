-- The pair of a node.
use Rattle.std.specs.Prelude.{ℕ, ◌/◌, ◌%◌, List, map}
use Rattle.fetch_queue.specs.declared.request.Request.{Request}

abbrev pub request_of : ℕ → ℕ → Request
request_of cells node = record { viewer = node / cells; cell = node % cells }

abbrev pub requests_of : ℕ → List ℕ → List Request
requests_of cells nodes = map (request_of cells) nodes
