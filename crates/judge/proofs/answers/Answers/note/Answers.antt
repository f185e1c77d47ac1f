use Rattle.std.proofs.Common.{◌≡◌, ℕ, Some, inl, inr, refl, sym, subst, arith}
use Rattle.std.proofs.Math.ListN.{set}
use Rattle.judge.proofs.KeptAnswers.{at, set_here, set_there}
use Rattle.judge.proofs.answers.Answers.note.Goals as goal

pub returns-then-place-len-clause-with_it : goal.returns-then-place-len-clause-with_it
returns-then-place-len-clause-with_it c =
    let known = c.args.self.now.known.items in
    let place = c.index-place.ensures.place in
    record {
      this = inl (subst (λ (p : ℕ). at (set known p (Some c.args.answer)) c.args.edge ≡ Some c.args.answer) (sym {A = ℕ} place)
          (set_here known c.args.edge (Some c.args.answer) (omega (arith, c.if-place-len.true, c.len.ensures, c.args.self.now.known.ok.0, place))));
      others = λ e other. subst (λ (p : ℕ). at (set known p (Some c.args.answer)) e ≡ at known e) (sym {A = ℕ} place) (set_there known c.args.edge e (Some c.args.answer) other);
    }

pub returns-else-place-len-clause-with_it : goal.returns-else-place-len-clause-with_it
returns-else-place-len-clause-with_it c = record { this = inr refl; others = λ e other. refl }
