use Rattle.std.proofs.Common.{◌≡◌, [], List, ℕ, IfOk, IfErr, subst, sym}
use Rattle.dyndep.specs.Dyndep.{IsPath}
use Rattle.dyndep.specs.Refused.{RefusedWhere}
use Rattle.dyndep.proofs.paths.path_of.Goals as goal

pub returns-in-Some-clause-path : goal.returns-in-Some-clause-path
returns-in-Some-clause-path c = subst (λ (l : List ℕ). IfOk c.canonical_path.result (IsPath l)) (sym {A = List ℕ} c.in-Some.ensures) c.canonical_path.ensures.path

pub returns-in-Some-clause-fault : goal.returns-in-Some-clause-fault
returns-in-Some-clause-fault c = subst (λ (l : List ℕ). IfErr c.canonical_path.result (RefusedWhere (l ≡ []))) (sym {A = List ℕ} c.in-Some.ensures) c.canonical_path.ensures.fault
