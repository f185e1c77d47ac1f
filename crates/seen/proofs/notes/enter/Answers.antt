use Rattle.std.proofs.Common.{◌≡◌, ◌∙◌, ap, subst, sym}
use Rattle.seen.specs.declared.makers.Makers.{Makers}
use Rattle.seen.specs.declared.own.Own.{Own}
use Rattle.seen.specs.Makers.{pairs_of}
use Rattle.seen.specs.Own.{AreOwnIn}
use Rattle.seen.proofs.Folders.{if_ok_then}
use Rattle.seen.proofs.notes.enter.Goals as goal

pub returns-clause-own : goal.returns-clause-own
returns-clause-own g c =
    if_ok_then c.read_with.result c.read_with.ensures.own
    (λ entry is. subst (λ (own : Own). AreOwnIn c.args.folder.now own) (sym is) c.in_ok-own.ensures)

-- what was listed is handed on
pub returns-clause-lists : goal.returns-clause-lists
returns-clause-lists g c =
    if_ok_then c.read_with.result c.read_with.ensures.makers
    (λ entry is. ap (λ (m : Makers). pairs_of m.listed.items) is ∙ c.in_ok-makers.ensures.lists)
