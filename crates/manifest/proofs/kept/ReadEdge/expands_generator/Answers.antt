use Rattle.std.proofs.Common.{ap, arith, map, Err}
use Rattle.std.specs.Map.Iter.{deref}
use Rattle.manifest.proofs.Describing.{marks_fault, marks_value, used_so}
use Rattle.manifest.proofs.kept.ReadEdge.expands_generator.Goals as goal

pub expand_use-requires : goal.expand_use-requires
expand_use-requires c = omega (arith, c.plain_use-at.ensures.scope, c.requires)

pub returns-in-Ok : goal.returns-in-Ok
returns-in-Ok c = record {
  at = c.plain_use-at.result;
  uses = used_so _ _ _ _ c.args.self.now c.args.rule.now c.plain_use-at.result c.plain_use-at.ensures (ap (map deref) c.as_slice.ensures) (ap (map deref) c.as_slice-2.ensures);
  marks = marks_value c.args.scopes.now c.plain_use-at.result c.in-Ok.value c.is_empty.result c.in-Ok.ensures.value c.in-Ok.ensures.size c.is_empty.ensures;
}

pub returns-in-Err : goal.returns-in-Err
returns-in-Err c =
    marks_fault c.args.scopes.now c.plain_use-at.result _ _ c.args.self.now c.args.rule.now c.in-Err.fault c.no_mark.result
    (used_so _ _ _ _ c.args.self.now c.args.rule.now c.plain_use-at.result c.plain_use-at.ensures (ap (map deref) c.as_slice.ensures) (ap (map deref) c.as_slice-2.ensures))
    (λ e. c.in-Err.ensures.circle (ap Err e)) (λ e. c.in-Err.ensures.large (ap Err e)) c.no_mark.ensures
