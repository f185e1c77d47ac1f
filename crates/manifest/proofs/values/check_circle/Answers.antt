use Rattle.manifest.proofs.values.check_circle.Goals as goal
use Rattle.manifest.proofs.values.check_circle.Goals.{in-Ok, in-Err-TooLarge, in-Err}

pub returns-clause-none : goal.returns-clause-none
returns-clause-none c = elim c.match-expand_use.branch [
  | in-Ok w ↦ rw w.result-is (λ past of circle. c.values_are_unique.ensures.no_circle _ _ _ _ (w.in-Ok.ensures.value past of) circle)
  | in-Err-TooLarge w ↦ rw w.result-is (λ past of circle. let large = w.in-Err-TooLarge.ensures.large (cc) past of in c.values_are_unique.ensures.no_circle _ _ _ _ large.is_value circle)
  | in-Err w ↦ rw w.result-is tt
]
