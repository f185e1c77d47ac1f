use Rattle.std.proofs.Common.{ap, ◌∙◌, map}
use Rattle.std.proofs.lemmas.List.{take_all}
use Rattle.manifest.proofs.Describing.{name_of, names_next, below_next}
use Rattle.manifest.proofs.described.rule_names.Goals as goal

pub loop-edge-preserved : goal.loop-edge-preserved
loop-edge-preserved c = record {
  named = names_next c.args.edges.now c.loop-edge.edge-index c.edge-item.result c.loop-edge.names c.add.new.self c.loop-edge.numbers.items c.push.new.self.items c.in_ok-number.number c.as_str.result.now
      c.loop-edge-test.true c.edge-item.is c.in_ok-number.ensures.added (c.as_str.ensures ∙ c.in_ok-name.ensures) c.loop-edge.invariant.below c.loop-edge.invariant.named c.in_ok-push.ensures.items;
  below = below_next c.loop-edge.names c.add.new.self c.loop-edge.numbers.items c.push.new.self.items c.in_ok-number.number c.as_str.result.now c.in_ok-number.ensures.added c.loop-edge.invariant.below c.in_ok-push.ensures.items;
}

pub returns : goal.returns
returns c = c.loop-edge.invariant.named ∙ ap (map name_of) (take_all c.loop-edge.edge-index c.args.edges.now c.loop-edge-test.false)
