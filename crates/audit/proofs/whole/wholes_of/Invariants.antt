use Rattle.std.proofs.Common.{◌≡◌, take}
use Rattle.audit.specs.Standing.{nowhere}
use Rattle.audit.specs.Wholes.{AreWhole}
use Rattle.audit.proofs.Members.{after_all}
use Rattle.audit.proofs.whole.wholes_of.Given as goal

abbrev pub invariant-loop-fact : goal.invariant-loop-fact
invariant-loop-fact l = AreWhole l.old (take l.fact-index l.facts) l.wholes × (l.own ≡ after_all nowhere l.wholes)
