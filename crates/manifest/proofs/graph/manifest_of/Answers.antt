use Rattle.std.proofs.Common.{sym, ◌∙◌, arith}
use Rattle.std.proofs.lemmas.Bool.{ltb-true, lt-ltb}
use Rattle.manifest.proofs.Naming.{known_at, dyndep_at}
use Rattle.manifest.proofs.graph.manifest_of.Goals as goal

pub invariant_of-result-clause-numbered : goal.invariant_of-result-clause-numbered
invariant_of-result-clause-numbered c = λ p low. c.requires.numbered p ∙ lt-ltb p c.args.named low

pub invariant_of-result-clause-within : goal.invariant_of-result-clause-within
invariant_of-result-clause-within c = λ p has.
    let below = ltb-true p c.args.named (sym (c.requires.numbered p) ∙ has) in
    omega (arith, below, c.requires.names)

pub invariant_of-result-clause-known : goal.invariant_of-result-clause-known
invariant_of-result-clause-known c = λ k low. known_at _ _ k low c.requires.known

pub invariant_of-result-clause-dyndeps : goal.invariant_of-result-clause-dyndeps
invariant_of-result-clause-dyndeps c = λ k. dyndep_at _ _ k c.requires.dyndeps
