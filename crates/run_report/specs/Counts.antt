-- What a run counted, and what it could not put, in words.
use Rattle.std.specs.Prelude.{ℕ, List, Bool, codes, if◌then◌else◌}
use Rattle.std.specs.Fmt.{decimal}
use Rattle.arr_history.specs.declared.closed.Unsaved.{Unsaved}
use Rattle.arr_history.specs.declared.tally.Tally.{Tally}
use Rattle.run_report.specs.Words.{◌␣◌}

abbrev pub tally_text : Tally → List ℕ
tally_text t =
    (codes "tally hits" ␣ decimal t.hits ␣ codes "misses" ␣ decimal t.misses ␣ codes "loads" ␣ decimal t.loads) ␣
    (codes "evictions" ␣ decimal t.evictions ␣ codes "writebacks" ␣ decimal t.writebacks ␣ codes "closed" ␣ decimal t.closed)

-- why a put was not done
abbrev pub put_text : Bool → List ℕ
put_text memory = if memory then codes "memory" else codes "write-fault"

abbrev pub unsaved_text : Unsaved → List ℕ
unsaved_text u = codes "unsaved" ␣ decimal u.cell ␣ put_text u.memory
