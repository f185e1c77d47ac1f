use Rattle.std.proofs.Common.{Bool, true, ◌∙◌, ap, refl, arith, rules, cond}
use Rattle.depfile.specs.Signs.{signs}
use Rattle.depfile.specs.Words.{among_targets, behind_targets}
use Rattle.depfile.proofs.Lines.{name_among, end_among, name_shorter}
use Rattle.depfile.proofs.rules.targets_at.Goals as goal

pub returns-then-named-clause-fault : goal.returns-then-named-clause-fault
returns-then-named-clause-fault c =
    let token = rw c.in-RuleEnd-default.is-0 at c.token_at.ensures in
    (refl, c.targets.invariant.left ∙ ap (λ (named : Bool). among_targets named (signs c.targets.at.now)) c.if-named.true ∙ (end_among c.targets.at.now c.token_at.result.1.now token).1)

pub returns-in-RuleEnd-default-clause-behind : goal.returns-in-RuleEnd-default-clause-behind
returns-in-RuleEnd-default-clause-behind c =
    let token = rw c.in-RuleEnd-default.is-0 at c.token_at.ensures in
    c.targets.invariant.left ∙ ap (λ (named : Bool). among_targets named (signs c.targets.at.now)) c.if-named.false ∙ (end_among c.targets.at.now c.token_at.result.1.now token).0

pub returns-then-word-clause-behind : goal.returns-then-word-clause-behind
returns-then-word-clause-behind c =
    let token = rw c.in-Name-default.is-0 at c.token_at.ensures in
    c.targets.invariant.left ∙ name_among c.targets.named c.targets.at.now c.token_at.result.1.now c.in-Name-default.word token
    ∙ ap (λ (b : Bool). cond b (behind_targets (signs c.token_at.result.1.now)) (among_targets true (signs c.token_at.result.1.now))) c.if-word.true

pub targets-preserved : goal.targets-preserved
targets-preserved c =
    let token = rw c.in-Name-default.is-0 at c.token_at.ensures in
    record {
      utf8 = search rules;
      left = c.targets.invariant.left ∙ name_among c.targets.named c.targets.at.now c.token_at.result.1.now c.in-Name-default.word token
          ∙ ap (λ (b : Bool). cond b (behind_targets (signs c.token_at.result.1.now)) (among_targets true (signs c.token_at.result.1.now))) c.if-word.false;
      shorter = let a = name_shorter c.targets.at.now c.token_at.result.1.now c.in-Name-default.word token in let b = c.targets.invariant.shorter in omega arith;
    }
