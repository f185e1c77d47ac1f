-- What only looks, one after another.
use Rattle.std.proofs.Common.{Bool}
use Rattle.model.specs.Calls.{OnlyLooks}
use Rattle.model.specs.World.{World}
use Rattle.theory.proofs.Looks.{looks_nothing, looks_then}

pub looks_same : (tells : Bool) (w : World) → OnlyLooks tells w w
looks_same tells w = looks_nothing tells w

pub looks_more : (tells : Bool) (old mid new : World) → OnlyLooks tells old mid → OnlyLooks tells mid new → OnlyLooks tells old new
looks_more tells old mid new first second = looks_then tells old mid new first second

-- what follows of looks one behind another
pub ruleset looking = (looks_same, looks_more)
