use Rattle.std.proofs.Common.{◌≡◌, inl, inr, ℕ, sym, ◌∙◌, subst}
use Rattle.judge.specs.declared.looks.Look.TheVariants.{Unasked}
use Rattle.judge.specs.Seen.{look_at}
use Rattle.judge.proofs.Numbers.{same_or_other, there_before, not_there}
use Rattle.judge.proofs.looks.Looks.forget.Goals as goal

pub loop-path-preserved : goal.loop-path-preserved
loop-path-preserved c =
    let paths = c.args.paths.now in
    let place = c.loop-path.path-index in
    let path = c.path-item.result in
    record {
      sums = c.forget_one.ensures.sums ∙ c.loop-path.invariant.sums;
      forgotten = λ p h. elim (same_or_other path p) [
        | inl here ↦ subst (λ (q : ℕ). look_at c.forget_one.new.self.seen.items q ≡ Unasked) (sym {A = ℕ} here) c.forget_one.ensures.forgotten
        | inr other ↦ c.forget_one.ensures.others p other ∙ c.loop-path.invariant.forgotten p (there_before paths place path c.loop-path-test.true p h (λ is. other (is ∙ sym {A = ℕ} c.path-item.is)))
      ];
      others = λ p h.
          let before = not_there paths place path c.loop-path-test.true p h in
          c.forget_one.ensures.others p (λ is. before.1 (is ∙ c.path-item.is)) ∙ c.loop-path.invariant.others p before.0;
      fits = c.forget_one.ensures.fits ∙ c.loop-path.invariant.fits;
    }
