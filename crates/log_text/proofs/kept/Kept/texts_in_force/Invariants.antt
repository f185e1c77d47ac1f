use Rattle.std.proofs.Common.{◌≡◌, ℕ, take, List, map}
use Rattle.log_text.specs.Kept.{Saying, IsTableOf, AreNumbersOf, left_to}
use Rattle.log_text.proofs.kept.Kept.texts_in_force.Given as goal

abbrev pub invariant-loop-number : goal.invariant-loop-number
invariant-loop-number g l = (all : List (Saying g.row.T.Denot)) (os : List (List ℕ)) → IsTableOf all l.self → AreNumbersOf l.self.outputs l.outputs os → map (λ o. o.now) l.left.items ≡ left_to all l.place (take l.number-index os)
