use Rattle.std.proofs.Common.{◌≡◌, ◌+◌, ◌∷◌, [], ◌++◌, sym, ap, ◌∙◌, subst}
use Rattle.log_text.specs.Kept.{IsTableOf}
use Rattle.log_text.proofs.KeptRecords.{said_more}
use Rattle.log_text.proofs.kept.Kept.put.Goals as goal

pub returns-clause-ok : goal.returns-clause-ok
returns-clause-ok g c = λ all is.
    let counted = rw c.in_ok-records.ensures.ok_part at c.checked_add.ensures in
    let count : c.in_ok-records.records ≡ c.numbers.new.self.records + 1 = counted.1 ∙ (ap (λ v. v.records + 1) c.self.view_is ∙ ap (λ n. n + 1) (sym c.in_ok-numbers.ensures.records)) in
    let more = said_more all c.numbers.new.self c.say.new.self c.args.outputs.now c.in_ok-numbers.numbers c.args.said c.in_ok-records.records (c.in_ok-numbers.ensures.same all is) c.requires c.in_ok-numbers.ensures.numbers c.in_ok-say.ensures.ok count in
    subst (λ v. IsTableOf (all ++ (c.args.outputs.now, c.args.said) ∷ []) (record { outputs = v.outputs; in_force = v.in_force; told = v.told; records = c.in_ok-records.records })) (sym c.self-2.view_is) more
