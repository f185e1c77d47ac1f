use Rattle.tools.proofs.Burying.{number_none, number_some}
use Rattle.tools.proofs.dead.add_number.Goals as goal

pub returns-in_default : goal.returns-in_default
returns-in_default c = number_none c.args.records.now.logs.deps_log.log.outputs c.args.listed.now c.args.number c.in_default.ensures

pub returns : goal.returns
returns c =
    number_some c.args.records.now.logs.deps_log.log.outputs c.args.listed.now c.add.new.self c.args.number c.in_ok-add.field-0 c.in-Some.path.now c.in-Some.ensures c.in_ok-add.ensures.added
