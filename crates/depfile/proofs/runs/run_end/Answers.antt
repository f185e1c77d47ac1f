use Rattle.std.proofs.Common.{◌≡◌, ◌∙◌, sym, subst, true, get_or, arith, inl, inr}
use Rattle.std.proofs.lemmas.Bool.{cases_eq}
use Rattle.depfile.specs.Pieces.{is_of}
use Rattle.depfile.proofs.runs.run_end.Goals as goal

pub loop-at-preserved : goal.loop-at-preserved
loop-at-preserved c = (
  omega (arith, c.loop-at.invariant.0),
  omega arith,
  λ k from to.
      elim (cases_eq k c.loop-at.at) [
        | inl here ↦ subst (λ j. is_of c.args.class (get_or c.args.bytes.now j 0) ≡ true) (sym here) (sym c.is_of.ensures ∙ c.if-is_of.true)
        | inr other ↦ c.loop-at.invariant.2 k from (omega arith)
      ],
)

pub returns-else-is_of : goal.returns-else-is_of
returns-else-is_of c = (
  c.loop-at.invariant.0,
  c.loop-at.invariant.1,
  c.loop-at.invariant.2,
  λ _. sym c.is_of.ensures ∙ c.if-is_of.false,
)

pub returns-after-loop-at : goal.returns-after-loop-at
returns-after-loop-at c = (
  c.loop-at.invariant.0,
  c.loop-at.invariant.1,
  c.loop-at.invariant.2,
  λ lt. absurd (omega (arith, c.loop-at-test.false)),
)
