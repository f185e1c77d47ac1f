use Rattle.paths.specs.Lists.{line_at}
use Rattle.manifest.proofs.Describing.{alias_marked, rule_marked}
use Rattle.manifest.proofs.kept.ReadEdge.is_generator.Goals as goal

pub returns-in_default : goal.returns-in_default
returns-in_default c = alias_marked c.args.declared.now (line_at c.args.declared.now.paths.lines c.args.edge) c.args.self.now c.args.self.now.rule c.in_default.is

pub returns : goal.returns
returns c =
    rule_marked c.args.declared.now (line_at c.args.declared.now.paths.lines c.args.edge) c.args.self.now c.args.self.now.rule c.in-Some.rule c.deref.result.now _ _ c.expands_generator.result c.in-Some.is
    c.deref.ensures c.in_ok-shown.ensures.inputs c.in_ok-shown.ensures.outputs c.expands_generator.ensures
