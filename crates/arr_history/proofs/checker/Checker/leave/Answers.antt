use Rattle.arr_history.proofs.Tracks.{leaving_unpinned}
use Rattle.arr_history.proofs.checker.Checker.leave.Goals as goal

pub vacate-requires-clause-unpinned : goal.vacate-requires-clause-unpinned
vacate-requires-clause-unpinned c = leaving_unpinned _ _ _ _ _ c.state.ensures.pinned c.in-Leaving.is
