use Rattle.std.proofs.Common.{◌≡◌, ◌++◌, take, drop}
use Rattle.shares.specs.Sharing.{text_of, without_open}
use Rattle.shares.proofs.sharing.index_of.Given as goal

abbrev pub invariant-loop-index : goal.invariant-loop-index
invariant-loop-index l =
    (without_open l.command l.items ≡ take l.index l.items ++ without_open l.command (drop l.index l.items))
    × (text_of l.command l.items ≡ text_of l.command (drop l.index l.items))
