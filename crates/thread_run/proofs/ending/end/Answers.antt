-- The queue was closed, the cells were shut, and the report was made.
use Rattle.std.proofs.Common.{◌∙◌, refl}
use Rattle.thread_run.proofs.ending.end.Goals as goal

pub close-queue-requires : goal.close-queue-requires
close-queue-requires g c = let still = c.requires.still in record { pass = still.first.pass.asks; first = still.first.asks_number; joined = still.asks_joined }

pub shut-closed-requires : goal.shut-closed-requires
shut-closed-requires g c = let still = c.requires.still in record { pass = still.first.pass.cells; first = still.first.cells_number; joined = still.cells_joined; unpinned = still.first.pass.free }

pub returns : goal.returns
returns g c = record {
  ended = record {
    told = c.new-report.result;
    shown = c.shut-closed.result.1;
    report_is = refl;
    trail_is = refl;
    left = c.close-queue.result;
    led = c.close-queue.ensures.led;
    all_asked = c.close-queue.ensures.whole;
    unsaved = c.shut-closed.result.0.unsaved.items;
    tally = c.shut-closed.result.0.tally;
    shut = c.shut-closed.ensures.shut;
    replied = c.new-report.ensures.replies ∙ c.from_vec.ensures;
    pictured = c.new-report.ensures.shots ∙ c.from_vec-2.ensures;
    tallied = c.new-report.ensures.tally;
    named = c.new-report.ensures.unsaved;
    ascending = c.new-report.ensures.ascending;
  };
}
