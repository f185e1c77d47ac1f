use Rattle.std.proofs.Common.{ℕ, Option, string_bytes, subst}
use Rattle.tools.specs.Answers.{Puts, maker_lines}
use Rattle.tools.proofs.Putting.{on_ok, puts_none}
use Rattle.tools.proofs.asked_paths.push_if_made.Goals as goal

pub returns-in-Some : goal.returns-in-Some
returns-in-Some c =
    on_ok c.push_maker.result
    (λ put. subst (λ (o : Option ℕ). Puts (string_bytes c.args.told.now) (string_bytes c.push_maker.new.told) (maker_lines c.args.declared.now o)) c.in-Some.ensures.value put)
    c.push_maker.ensures

pub returns-in-None : goal.returns-in-None
returns-in-None c =
    let told = string_bytes c.args.told.now in
    subst (λ (o : Option ℕ). Puts told told (maker_lines c.args.declared.now o)) c.in-None.ensures.value (puts_none told)
