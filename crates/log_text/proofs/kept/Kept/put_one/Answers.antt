use Rattle.std.proofs.Common.{◌≡◌, ◌+◌, ◌∷◌, [], ◌++◌, sym, ap, ◌∙◌, subst}
use Rattle.log_text.specs.Kept.{IsTableOf}
use Rattle.log_text.proofs.KeptRecords.{said_more}
use Rattle.log_text.proofs.Plain.{alone}
use Rattle.log_text.proofs.kept.Kept.put_one.Goals as goal

pub returns-clause-ok : goal.returns-clause-ok
returns-clause-ok g c = λ text at all is.
    let counted = rw c.in_ok-records.ensures.ok_part at c.checked_add.ensures in
    let count : c.in_ok-records.records ≡ c.args.self.now.records + 1 = counted.1 ∙ ap (λ v. v.records + 1) c.self.view_is in
    let more = said_more all c.args.self.now c.say_one.new.self (text ∷ []) (c.args.number ∷ []) c.args.said c.in_ok-records.records is (alone text) (at, tt) c.in_ok-say_one.ensures.ok count in
    subst (λ v. IsTableOf (all ++ (text ∷ [], c.args.said) ∷ []) (record { outputs = v.outputs; in_force = v.in_force; told = v.told; records = c.in_ok-records.records })) (sym c.self-2.view_is) more
