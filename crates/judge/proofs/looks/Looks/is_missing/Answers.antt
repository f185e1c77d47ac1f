use Rattle.std.proofs.Common.{sym, ◌∙◌}
use Rattle.std.proofs.lemmas.Bool.{false≢true}
use Rattle.theory.proofs.Lists.{some_none}
use Rattle.graph.specs.Told.{declared_by}
use Rattle.judge.proofs.Lacking.{missing_by}
use Rattle.judge.proofs.NumbersAsTexts.{if_ok_then}
use Rattle.judge.proofs.SourcesSeen.{source_asked}
use Rattle.judge.proofs.looks.Looks.is_missing.Goals as goal

pub returns-in-None-clause-missing : goal.returns-in-None-clause-missing
returns-in-None-clause-missing g c =
    if_ok_then c.is_absent.result c.is_absent.ensures.absent (λ is said told set kept seen files same source.
    missing_by (declared_by c.args.graph.now).edges c.args.graph.now.manifest.paths files c.args.path (c.in-None.ensures.text c.requires.within) is (said told set kept seen files same (source (sym c.in-None.ensures.value))))

pub returns-in-Some-clause-source : goal.returns-in-Some-clause-source
returns-in-Some-clause-source g c so = absurd (false≢true so)

pub returns-in-None-clause-source : goal.returns-in-None-clause-source
returns-in-None-clause-source g c = if_ok_then c.is_absent.result c.is_absent.ensures.absent (λ is said so. c.in-None.ensures.text c.requires.within)

-- an edge makes it
pub returns-in-Some-clause-there : goal.returns-in-Some-clause-there
returns-in-Some-clause-there g c so source = absurd (some_none c.in-Some.field-0 (c.in-Some.ensures.value ∙ source))

pub returns-in-None-clause-there : goal.returns-in-None-clause-there
returns-in-None-clause-there g c = if_ok_then c.is_absent.result c.is_absent.ensures.seen (λ is absent so. source_asked c.args.graph.now c.is_absent.new.self.seen.items c.args.path is absent so)
