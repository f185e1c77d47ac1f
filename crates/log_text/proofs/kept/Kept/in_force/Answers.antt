use Rattle.std.proofs.Common.{◌<◌, ◌≤◌, ◌++◌, ℕ, List, sym, ap, ◌∙◌, length, subst}
use Rattle.log_text.specs.Kept.{Telling, tellings, left_to, outputs_at, some_of}
use Rattle.log_text.proofs.Lookups.{first_next, first_all}
use Rattle.log_text.proofs.kept.Kept.in_force.Goals as goal

pub loop-place-preserved : goal.loop-place-preserved
loop-place-preserved g c = record {
  found = λ all is.
      let within : c.loop-place.place < length (tellings all) = subst (λ (n : ℕ). c.loop-place.place < n) (c.tellings-place-end.ensures all is) c.loop-place-test.true in
      let next = first_next all c.loop-place.place within in
      c.in_ok-push_record.ensures.found all next.0 is next.2
      ∙ (ap (λ (l : List (Telling g.row.T.Denot)). l ++ some_of (left_to all c.loop-place.place (outputs_at (tellings all) c.loop-place.place)) next.0) (c.loop-place.invariant.found all is) ∙ sym next.1);
  named = λ all is. c.in_ok-push_record.ensures.named all is (c.loop-place.invariant.named all is);
}

pub returns-clause-found : goal.returns-clause-found
returns-clause-found g c = λ all is.
    let past : length (tellings all) ≤ c.loop-place.place = subst (λ (n : ℕ). n ≤ c.loop-place.place) (c.tellings-place-end.ensures all is) c.loop-place-test.false in
    c.loop-place.invariant.found all is ∙ first_all all c.loop-place.place past
