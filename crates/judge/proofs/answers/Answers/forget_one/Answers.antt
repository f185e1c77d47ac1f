use Rattle.std.proofs.Common.{◌≡◌, ◌==◌, ◌∙◌, ℕ, true, false, None, refl, sym, subst, arith}
use Rattle.std.proofs.Math.ListN.{set}
use Rattle.std.proofs.lemmas.Bool.{false≢true, eq-eqb, or_left}
use Rattle.theory.proofs.Lists.{has_number-is}
use Rattle.judge.proofs.KeptAnswers.{at, set_here, set_there, past_none}
use Rattle.judge.proofs.answers.Answers.forget_one.Goals as goal

pub returns-then-place-len-clause-others : goal.returns-then-place-len-clause-others
returns-then-place-len-clause-others c =
    let known = c.args.self.now.known.items in
    let place = c.index-place.ensures.place in
    record {
      gone = λ e listed.
          subst (λ (q : ℕ). at (set known c.index-place.result None) q ≡ None) (has_number-is c.args.edge e listed)
          (subst (λ (p : ℕ). at (set known p None) c.args.edge ≡ None) (sym {A = ℕ} place) (set_here known c.args.edge None (omega (arith, c.if-place-len.true, c.len.ensures, c.args.self.now.known.ok.0, place))));
      others = λ e other.
          subst (λ (p : ℕ). at (set known p None) e ≡ at known e) (sym {A = ℕ} place)
          (set_there known c.args.edge e None (λ is. false≢true (sym other ∙ or_left (c.args.edge == e) false (eq-eqb c.args.edge e (sym is)))));
    }

pub returns-else-place-len-clause-others : goal.returns-else-place-len-clause-others
returns-else-place-len-clause-others c = record {
  gone = λ e listed.
      subst (λ (q : ℕ). at c.args.self.now.known.items q ≡ None) (has_number-is c.args.edge e listed)
      (past_none c.args.self.now.known.items c.args.edge (omega (arith, c.if-place-len.false, c.len.ensures, c.args.self.now.known.ok.0, c.index-place.ensures.place)));
  others = λ e other. refl;
}
