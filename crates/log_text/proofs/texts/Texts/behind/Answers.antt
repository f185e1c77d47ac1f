use Rattle.std.proofs.Common.{sym, ◌∙◌, subst}
use Rattle.log_text.specs.Line.{IsPlain}
use Rattle.log_text.proofs.Notes.{same_some}
use Rattle.log_text.proofs.texts.Texts.behind.Goals as goal

pub behind_text-requires : goal.behind_text-requires
behind_text-requires c = subst IsPlain (sym (same_some _ _ (c.in_ok-text.ensures ∙ c.requires.1))) c.requires.2

pub returns : goal.returns
returns c = (c.in_ok-text.text.now, sym c.in_ok-text.ensures, c.in_ok-after.ensures.utf8, c.in_ok-after.ensures.found)
