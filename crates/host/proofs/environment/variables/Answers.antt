use Rattle.host.proofs.Blocks.{one_more}
use Rattle.host.proofs.environment.variables.Goals as goal
use Rattle.host.proofs.environment.variables.Goals.{in-0+in_ok-push_word-in-0, in_default+in_ok-room-in_default}

-- a variable more, or a wider room
pub loop-preserved : goal.loop-preserved
loop-preserved c =
    elim c.match-errno.branch [
      | in-0+in_ok-push_word-in-0 w ↦ rw w.block-is (one_more c.loop.block.items _ _ c.loop.invariant w.in_ok-push_word-in-0.ensures.whole w.in_ok-push_word-in-0.ensures.pushed)
      | in_default+in_ok-room-in_default w ↦ rw w.block-is c.loop.invariant
    ]
