use Rattle.std.proofs.Common.{Option, IsSome, sym, subst}
use Rattle.std.proofs.lemmas.Bool.{false≢true}
use Rattle.scopes.specs.Block.{first_value}
use Rattle.scopes.specs.Marks.{IsMarked, AreMarked}
use Rattle.scopes.specs.declared.block.Bound.{Bound}
use Rattle.scopes.proofs.Marking.{bound_marked}
use Rattle.scopes.proofs.block.first_marks.Goals as goal

pub returns-in-Some : goal.returns-in-Some
returns-in-Some c =
    subst (λ (o : Option Bound). AreMarked (first_value o) c.with.result) (sym c.in-Some.is)
    (bound_marked c.in-Some.bound c.with.result (subst (IsMarked c.with.result) c.as_str.ensures c.with.ensures.marked))

pub returns-in-None : goal.returns-in-None
returns-in-None c = λ name some. absurd (false≢true (subst (λ (o : Option Bound). IsSome (first_value o name)) c.in-None.is some))
