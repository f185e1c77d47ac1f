use Rattle.std.proofs.Common.{[], inl, inr, refl}
use Rattle.stand_in.proofs.build.build_first.Goals as goal

pub returns-then-is_empty-clause-none : goal.returns-then-is_empty-clause-none
returns-then-is_empty-clause-none g c = inl refl
