use Rattle.std.proofs.Common.{◌≡◌, ◌++◌, ◌+◌, ◌∷◌, [], List, ℕ, refl, ap, ◌∙◌, sym, subst, length, arith}
use Rattle.std.proofs.lemmas.List.{append_assoc, length-append}
use Rattle.log_text.specs.Taken.{AreTakenFrom}
use Rattle.log_text.proofs.Notes.{taken_push}
use Rattle.log_text.proofs.kept.Kept.follow_more.Goals as goal

pub loop-preserved : goal.loop-preserved
loop-preserved g c =
    let inv = c.loop.invariant in
    let number = c.in-Some.number in
    let more = inv.taken.more in
    let known = c.follow_on.new.self in
    let found = c.in-Some.ensures.taken in
    let before : AreTakenFrom known c.args.bytes.now (length more) more c.loop.rest.now = subst (λ (xs : List (List ℕ)). AreTakenFrom xs c.args.bytes.now (length more) more c.loop.rest.now) (sym c.follow_on.ensures.same) inv.taken.taken in
    let many : length (more ++ number ∷ []) ≡ length more + 1 = length-append more (number ∷ []) in
    let few = inv.taken.few in
    record {
      outputs = c.follow_on.ensures.same ∙ inv.outputs;
      in_force = inv.in_force;
      told = inv.told;
      records = inv.records;
      taken = record {
        more = more ++ number ∷ [];
        pushed = c.in_ok-push.ensures.items ∙ (ap (λ (l : List ℕ). l ++ number ∷ []) inv.taken.pushed ∙ append_assoc c.args.numbers.now.items more (number ∷ []));
        few = omega arith;
        taken = taken_push known c.args.bytes.now more (more ++ number ∷ []) c.loop.rest.now number found.0 c.in-Some.after.now before refl found.1 found.2 found.3;
      };
    }
