use Rattle.std.proofs.Common.{sym, subst}
use Rattle.plan.specs.declared.step.Changed.{Changed}
use Rattle.plan.specs.Changed.{IsForEach, AreNoted}
use Rattle.plan.proofs.plan.note_changes.Goals as goal

pub returns-in-All-clause-flags : goal.returns-in-All-clause-flags
returns-in-All-clause-flags c =
    subst (λ (which : Changed). AreNoted c.args.flags.now c.note_all.new.flags c.args.paths.now which) (sym c.in-All.is) c.note_all.ensures.flags

pub note_each-requires-clause-fits : goal.note_each-requires-clause-fits
note_each-requires-clause-fits c = subst (λ (which : Changed). IsForEach which c.args.paths.now) c.in-Each.is c.requires.fits

pub returns-in-Each-clause-flags : goal.returns-in-Each-clause-flags
returns-in-Each-clause-flags c =
    subst (λ (which : Changed). AreNoted c.args.flags.now c.note_each.new.flags c.args.paths.now which) (sym c.in-Each.is) c.note_each.ensures.flags
