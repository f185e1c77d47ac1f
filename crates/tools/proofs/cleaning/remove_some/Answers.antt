use Rattle.std.proofs.Common.{◌≡◌, ℕ, List, Option, IfSome, true, subst}
use denote.Ref.{Bor}
use Rattle.model.specs.Graph.{has}
use Rattle.tools.proofs.Removed.{removes_here, removes_none}
use Rattle.tools.proofs.cleaning.remove_some.Goals as goal

pub returns-in-Some : goal.returns-in-Some
returns-in-Some g c = λ paths among.
    let is : has paths c.in-Some.path.now ≡ true = subst (λ (o : Option (Bor (List ℕ))). IfSome o (λ one. has paths one.now ≡ true)) c.in-Some.is among in
    removes_here g.S.Texts.tells c.args.only_count paths c.in-Some.path.now (g.S.Texts.world c.args.site.now) (g.S.Texts.world c.remove_there.new.site) is c.remove_there.ensures

pub returns-in-None : goal.returns-in-None
returns-in-None g c = λ paths among. removes_none g.S.Texts.tells c.args.only_count paths (g.S.Texts.world c.args.site.now)
