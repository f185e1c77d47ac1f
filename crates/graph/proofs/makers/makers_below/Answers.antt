use Rattle.graph.proofs.Flaws.{fault_told}
use Rattle.graph.proofs.makers.makers_below.Goals as goal

pub returns-in_ok-fault_of-in-Err-clause-fault : goal.returns-in_ok-fault_of-in-Err-clause-fault
returns-in_ok-fault_of-in-Err-clause-fault c = fault_told c.args.manifest.now c.len.ensures.once c.args.count c.in-Err.flaw c.in_ok-fault_of-in-Err.field-0 c.in-Err.ensures.flaw c.in_ok-fault_of-in-Err.ensures
