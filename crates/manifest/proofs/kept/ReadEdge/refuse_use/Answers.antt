use Rattle.std.proofs.Common.{ap, refl, ◌∙◌}
use Rattle.manifest.specs.declared.fault.FaultKind.TheVariants.{Line, Circle as KindCircle}
use Rattle.lexer.specs.declared.fault.FaultKind.TheVariants.{TooLarge as LineTooLarge}
use Rattle.manifest.proofs.EdgeChecks.{at_build}
use Rattle.manifest.proofs.kept.ReadEdge.refuse_use.Goals as goal

pub returns-in-TooLarge : goal.returns-in-TooLarge
returns-in-TooLarge c = λ build is. rw c.in-TooLarge.is (at_build _ build.place _ (Line LineTooLarge) c.too_large.result (c.place.ensures build is) refl c.too_large.ensures)

pub returns-in_ok-to_text-in-Circle : goal.returns-in_ok-to_text-in-Circle
returns-in_ok-to_text-in-Circle c = λ build is. rw c.in-Circle.is
    (at_build _ build.place _ (KindCircle build.rule_name) c.fault.result (c.place-in-Circle.ensures build is) (ap KindCircle (c.in_ok-to_text-in-Circle.ensures ∙ is.rule_name)) c.fault.ensures)
