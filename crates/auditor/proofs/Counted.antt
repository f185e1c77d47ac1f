-- A command is counted behind the same counts, and what was left before is the same.
use Rattle.std.proofs.Common.{◌≡◌, ◌∙◌, List, ℕ, ap, subst}
use Rattle.audit.specs.declared.whole.Whole.{Whole}
use Rattle.auditor.specs.declared.scratch.Scratch.{Scratch}
use Rattle.auditor.specs.declared.tally.Counts.{Counts}
use Rattle.auditor.specs.declared.tally.Tally.{Tally}
use Rattle.auditor.specs.Left.{with_left}
use Rattle.auditor.specs.Scratch.{AreAround}
use Rattle.auditor.specs.Tally.{IsCountedOf, with_one}

pub counted_from : (scratch : Scratch) (wholes : List Whole) (first old new : Tally) → old.counts ≡ first.counts → old.left ≡ first.left
    → IsCountedOf scratch wholes old new → IsCountedOf scratch wholes first new
counted_from scratch wholes first old new counts left of = record {
  lists = of.lists;
  sums = of.sums;
  are = of.are;
  is = record {
    keeps = of.is.keeps;
    arounds = of.is.arounds;
    each = subst (λ (l : List (List ℕ)). AreAround scratch l of.sums.paths of.is.arounds) left of.is.each;
    found = of.is.found;
    is = of.is.is ∙ ap (λ (c : Counts). with_one c of.is.keeps) counts;
    left = of.is.left ∙ ap (λ (l : List (List ℕ)). with_left scratch l of.sums.paths of.sums.uses) left;
  };
}
