use Rattle.std.proofs.Common.{◌≡◌, ◌+◌, ◌∷◌, [], ◌++◌, List, ℕ, sym, ap, ◌∙◌, subst}
use Rattle.log_text.specs.Kept.{IsTableOf}
use Rattle.log_text.specs.Steps.{IsSaid}
use Rattle.log_text.proofs.KeptRecords.{said_more}
use Rattle.log_text.proofs.TwoOutputLines.{both_distinct}
use Rattle.log_text.proofs.kept.Kept.put_two.Goals as goal

pub returns-clause-ok : goal.returns-clause-ok
returns-clause-ok g c = λ a b at_a at_b other all is.
    let counted = rw c.in_ok-records.ensures.ok_part at c.checked_add.ensures in
    let count : c.in_ok-records.records ≡ c.args.self.now.records + 1 = counted.1 ∙ ap (λ v. v.records + 1) c.self.view_is in
    let numbers : c.from_vec.result ≡ c.args.first ∷ c.args.second ∷ [] =
    c.from_vec.ensures
    ∙ (c.in_ok-push-2.ensures.items ∙ ap (λ (l : List ℕ). l ++ c.args.second ∷ []) (c.in_ok-push.ensures.items ∙ ap (λ (l : List ℕ). l ++ c.args.first ∷ []) c.in_ok-numbers.ensures.items)) in
    let said = subst (λ (l : List ℕ). IsSaid c.args.self.now l c.args.said c.say.new.self) numbers c.in_ok-say.ensures.ok in
    let more = said_more all c.args.self.now c.say.new.self (a ∷ b ∷ []) (c.args.first ∷ c.args.second ∷ []) c.args.said c.in_ok-records.records is (both_distinct a b other) (at_a, (at_b, tt)) said count in
    subst (λ v. IsTableOf (all ++ (a ∷ b ∷ [], c.args.said) ∷ []) (record { outputs = v.outputs; in_force = v.in_force; told = v.told; records = c.in_ok-records.records })) (sym c.self-2.view_is) more
