use Rattle.arr_history.proofs.Sound.{sound_after, unwritten, stays, still_pinned, unput}
use Rattle.arr_history.proofs.Pinned.{own_pins}
use Rattle.arr_history.proofs.AtWork.{owners}
use Rattle.arr_history.proofs.laws.histories_keep_laws.Goals as goal

pub returns : goal.returns
returns c = λ b s events sound legal. record {
  sound = sound_after b s events sound legal;
  unwritten = unwritten s events;
  stays = λ n slot live pinned. stays b s events n slot legal live pinned;
  still_pinned = still_pinned s events;
  own_pins = own_pins s events;
  unput = λ n h none. unput b s events n legal h none;
  owners = λ k n. owners b s events k n legal;
}
