use Rattle.std.proofs.Common.{List, ℕ, Option, IfSome, refl, sym, subst}
use Rattle.audit.specs.declared.lead.Trail.{Trail}
use Rattle.audit.specs.declared.whole.Other.{Other}
use Rattle.audit.specs.declared.whole.Whole.{Whole}
use Rattle.audit.specs.Wholes.{IsLedBy, IsOtherOf, IsPath, IsWholeOf}
use Rattle.audit.proofs.whole.whole_by.Goals as goal

pub returns : goal.returns
returns c =
    let own = c.args.own.now in
    let old = c.args.old.now in
    let fact = c.args.fact.now in
    let path : IsPath fact.path c.in-Some.path = subst (λ (o : Option (List ℕ)). IfSome o (IsPath fact.path)) c.in-Some.is c.in_ok-path.ensures in
    let led : IsLedBy own old fact c.in-Some-2.led = subst (λ (o : Option Trail). IfSome o (IsLedBy own old fact)) c.in-Some-2.is c.in_ok-led.ensures in
    let other : IsOtherOf own old fact c.in-Some-3.other.path =
    subst (λ (o : Option Other). IfSome o (λ other. IsOtherOf own old fact other.path)) c.in-Some-3.is c.in_ok-other.ensures in
    subst (λ (w : Whole). IsWholeOf own old fact w) (sym c.whole_from.ensures) (record { deed = refl; path = path; led = led; other = other; up = refl })
