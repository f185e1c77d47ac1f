use Rattle.std.proofs.Common.{Option, ap, ◌∙◌}
use Rattle.seen_log.specs.declared.note.Noted.{Noted}
use Rattle.ninja_asked.specs.Written.{is_others}
use Rattle.ninja_asked.proofs.written.is_written.Goals as goal

pub returns-clause-found : goal.returns-clause-found
returns-clause-found g c = λ all keeps. (c.in_ok-found.found, c.is_others.ensures ∙ ap (λ (noted : Option Noted). is_others noted c.in_ok-found.found) (c.lookup-noted.ensures all keeps), c.in_ok-found.ensures.measure)
