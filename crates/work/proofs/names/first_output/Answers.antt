use Rattle.std.proofs.Common.{sym, ◌∙◌, ap}
use Rattle.std.specs.Option.{option_copied}
use Rattle.std.proofs.lemmas.Result.{IfOk-weaker}
use Rattle.work.proofs.Telling.{first_some, first_none}
use Rattle.work.proofs.names.first_output.Goals as goal

pub returns-in-Some : goal.returns-in-Some
returns-in-Some c =
    let first = first_some c.args.manifest.now c.args.edge c.in-Some.output.now c.outputs.result.now c.outputs.ensures (sym (ap option_copied c.in-Some.is) ∙ c.first.ensures.value) in
    IfOk-weaker c.path_text.result _ _ (λ path is. is ∙ first) c.path_text.ensures

pub returns-in-None : goal.returns-in-None
returns-in-None c = c.new.ensures ∙ first_none c.args.manifest.now c.args.edge c.outputs.result.now c.outputs.ensures (sym (ap option_copied c.in-None.is) ∙ c.first.ensures.value)
