use Rattle.std.proofs.Common.{rules}
use Rattle.depfile.proofs.Once.{said_nothing, says_more}
use Rattle.depfile.proofs.reading.push_inputs.Goals as goal

pub rules-init : goal.rules-init
rules-init c = record {
  utf8 = search rules;
  far = said_nothing c.args.text.now c.args.paths.now.keys c.requires;
}

pub rules-preserved : goal.rules-preserved
rules-preserved c = record {
  utf8 = search rules;
  far = says_more c.args.text.now c.rules.at.now c.in_ok-at.at.now c.rules.paths.keys c.rule_at.new.paths.keys c.rules.invariant.far c.in_ok-at.ensures.adds;
}
