use Rattle.std.proofs.Common.{refl}
use Rattle.lexer.specs.declared.fault.FaultKind.TheVariants.{TooLarge, EmptyPath}
use Rattle.manifest.specs.declared.fault.FaultKind.TheVariants.{Line}
use Rattle.manifest.specs.Readings.Unless.{in_order}
use Rattle.manifest.specs.Places.{place_of}
use Rattle.manifest.proofs.TextLemmas.{not_true}
use Rattle.manifest.proofs.Binds.{unless_at, unless_fault}
use Rattle.manifest.proofs.path_reader.PathReader.check.Goals as goal

pub returns-then-self : goal.returns-then-self
returns-then-self c = unless_at _ _ (place_of c.args.place.now) (Line EmptyPath) c.fault.result c.if-self.true c.fault.ensures

pub returns-then-self-2 : goal.returns-then-self-2
returns-then-self-2 c =
    unless_fault _ _ _ c.too_large.result (not_true _ c.if-self.false)
    (unless_at _ _ (place_of c.args.place.now) (Line TooLarge) c.too_large.result c.if-self-2.true c.too_large.ensures)

pub returns : goal.returns
returns c = in_order (not_true _ c.if-self.false) (in_order (not_true _ c.if-self-2.false) refl)
