use Rattle.tools.proofs.Removed.{has_at}
use Rattle.tools.proofs.Burying.{either_dead, either_kept}
use Rattle.tools.proofs.dead.bury.Goals as goal

pub returns-in_default : goal.returns-in_default
returns-in_default c = either_dead c.args.listed.now c.args.output.now c.args.found.now c.add.new.self c.in_ok-add.field-0 c.in_default.ensures.place c.in_ok-add.ensures.added

pub returns : goal.returns
returns c =
    either_kept c.args.listed.now c.args.output.now c.args.found.now c.add-2.new.self c.in_ok-add-2.field-0 (has_at c.args.listed.now c.in-Some.field-0 c.args.output.now c.in-Some.ensures.place) c.in_ok-add-2.ensures.added
