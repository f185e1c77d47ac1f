use Rattle.log_text.specs.Kept.{texts_of}
use Rattle.log_text.proofs.texts.Texts.widen.Goals as goal

pub invariant_of-self : goal.invariant_of-self
invariant_of-self c = (c.self.invariant.0, c.self.invariant.1, c.double.ensures (texts_of c.self.inside.texts.keys) c.self.invariant.2)
