use Rattle.std.proofs.Common.{List, ℕ, Bor, sym, subst}
use Rattle.log_text.specs.Kept.{AreDistinct}
use Rattle.log_text.specs.Found.{texts_in}
use Rattle.log_text.proofs.deps_log.DepsLog.push_record.Goals as goal

pub record_line-requires-clause-once : goal.record_line-requires-clause-once
record_line-requires-clause-once c = subst (λ (os : List (Bor (List ℕ))). AreDistinct (texts_in os)) (sym c.as_slice-2.ensures) c.requires.1
