use Rattle.std.proofs.Common.{refl}
use Rattle.ninja_words.proofs.Leaving.{none_left, same}
use Rattle.ninja_words.proofs.escapes.escapes_are_left_out.Goals as goal

pub returns-clause-same : goal.returns-clause-same
returns-clause-same c = same

pub returns-clause-none : goal.returns-clause-none
returns-clause-none c = none_left

pub returns-clause-worked : goal.returns-clause-worked
returns-clause-worked c = refl
