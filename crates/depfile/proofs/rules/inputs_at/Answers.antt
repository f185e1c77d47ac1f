use Rattle.std.proofs.Common.{rules, arith, ◌++◌}
use Rattle.depfile.specs.Signs.{signs}
use Rattle.depfile.specs.Words.{front_word}
use Rattle.depfile.proofs.Lines.{name_behind, end_behind, name_shorter}
use Rattle.depfile.proofs.Once.{adds_nothing, adds_one_more, adds_all, named_path}
use Rattle.depfile.proofs.rules.inputs_at.Goals as goal

pub inputs-init : goal.inputs-init
inputs-init c = record {
  utf8 = search rules;
  far = λ all kept. adds_nothing c.args.text.now all c.args.paths.now.keys kept;
  shorter = omega arith;
}

pub returns-in-RuleEnd-default-clause-adds : goal.returns-in-RuleEnd-default-clause-adds
returns-in-RuleEnd-default-clause-adds c all kept =
    let token = rw c.in-RuleEnd-default.is-0 at c.token_at.ensures in
    adds_all c.args.text.now c.inputs.at.now c.token_at.result.1.now all c.inputs.paths.keys (c.inputs.invariant.far all kept) (end_behind c.inputs.at.now c.token_at.result.1.now token)

pub inputs-preserved : goal.inputs-preserved
inputs-preserved c =
    let token = rw c.in-Name-default.is-0 at c.token_at.ensures in
    record {
      utf8 = search rules;
      far = λ all kept. let far = c.inputs.invariant.far all kept in
          adds_one_more c.args.text.now c.inputs.at.now c.token_at.result.1.now all c.inputs.paths.keys c.add_path.new.paths.keys (front_word (signs token.start)) far
          (named_path c.inputs.at.now c.token_at.result.1.now c.in-Name-default.word token (all ++ far.paths) c.add_path.new.paths.keys (c.in_ok-add_path-in-Name-default.ensures.adds (all ++ far.paths) far.now))
          (name_behind c.inputs.at.now c.token_at.result.1.now c.in-Name-default.word token);
      shorter = let a = name_shorter c.inputs.at.now c.token_at.result.1.now c.in-Name-default.word token in let b = c.inputs.invariant.shorter in omega arith;
    }
