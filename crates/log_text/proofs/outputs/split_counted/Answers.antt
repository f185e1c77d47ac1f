use Rattle.std.proofs.Common.{◌<◌, sym, ◌∙◌, rules}
use Rattle.log_text.proofs.Parts.{too_few}
use Rattle.log_text.proofs.outputs.split_counted.Goals as goal

pub returns-clause-none : goal.returns-clause-none
returns-clause-none c =
    let lt : c.in_ok-count.count < 18446744073709551616 = search rules in
    too_few c.split_front.result c.args.fields.now c.in_ok-first.first.now c.in_ok-first.rest.now c.in_ok-count.count c.in_ok-first.ensures.cases.0 (sym c.as_str.ensures ∙ c.in_ok-count.ensures.found) lt c.split_front.ensures.none
