use Rattle.std.proofs.Common.{◌≡◌, ◌∙◌, [], List, ℕ, IfOk, IfErr, subst}
use Rattle.dyndep.specs.Dyndep.{IsPath}
use Rattle.dyndep.specs.Refused.{RefusedWhere}
use Rattle.dyndep.proofs.paths.joined_path.Goals as goal

pub returns-clause-path : goal.returns-clause-path
returns-clause-path c = subst (λ (l : List ℕ). IfOk c.canonical_path.result (IsPath l)) (c.as_str.ensures.value ∙ c.in_ok-text.ensures) c.canonical_path.ensures.path

pub returns-clause-fault : goal.returns-clause-fault
returns-clause-fault c = subst (λ (l : List ℕ). IfErr c.canonical_path.result (RefusedWhere (l ≡ []))) (c.as_str.ensures.value ∙ c.in_ok-text.ensures) c.canonical_path.ensures.fault
