use Rattle.std.proofs.Common.{◌≡◌, ◌++◌, ◌+◌, ◌∷◌, [], List, ℕ, ap, ◌∙◌, sym, subst, length, arith}
use Rattle.std.proofs.lemmas.List.{append_assoc}
use Rattle.log_text.specs.Kept.{Table}
use Rattle.log_text.specs.Taken.{AreTakenFrom}
use Rattle.log_text.proofs.Notes.{taken_one, taken_append}
use Rattle.log_text.proofs.kept.Kept.take_some.Goals as goal

pub returns-in-Ok-clause-taken : goal.returns-in-Ok-clause-taken
returns-in-Ok-clause-taken g c =
    let number = c.in-Ok.number in
    let found = c.in-Ok.ensures.taken in
    record {
      more = number ∷ [];
      pushed = c.in_ok-push-in-Ok.ensures.items;
      some = omega arith;
      few = c.requires.most;
      taken = taken_one c.take_by_sum.new.self c.args.bytes.now number found.0 c.in-Ok.after.now found.1 found.2 found.3;
    }

pub returns-in-Some-follow_on-clause-taken : goal.returns-in-Some-follow_on-clause-taken
returns-in-Some-follow_on-clause-taken g c =
    let number = c.in-Some-follow_on.number in
    let bytes = c.args.bytes.now in
    let after = c.in-Some-follow_on.after.now in
    let known = c.follow_more.new.self.outputs in
    let found = c.in-Some-follow_on.ensures.taken in
    let behind = c.in_ok-rest.ensures.taken in
    let same : known ≡ c.follow_on.new.self = ap (λ (t : Table g.row.T.Denot). t.outputs) c.in_ok-rest.ensures.same in
    let one : AreTakenFrom known bytes 1 (number ∷ []) after = subst (λ (xs : List (List ℕ)). AreTakenFrom xs bytes 1 (number ∷ []) after) (sym same) (taken_one c.follow_on.new.self bytes number found.0 after found.1 found.2 found.3) in
    let few = behind.few in
    let many : 1 + length behind.more ≡ length (number ∷ behind.more) = omega arith in
    record {
      more = number ∷ behind.more;
      pushed = behind.pushed ∙ (ap (λ (l : List ℕ). l ++ behind.more) c.in_ok-push.ensures.items ∙ append_assoc c.args.numbers.now.items (number ∷ []) behind.more);
      some = omega arith;
      few = let most = c.requires.most in omega (arith, few, most);
      taken = subst (λ (n : ℕ). AreTakenFrom known bytes n (number ∷ behind.more) c.in_ok-rest.rest.now) many (taken_append known bytes 1 (number ∷ []) after (length behind.more) behind.more c.in_ok-rest.rest.now one behind.taken);
    }
