use Rattle.std.proofs.Common.{[], ℕ, List, get_or, refl, subst, sym}
use Rattle.std.proofs.lemmas.List.{take_all}
use Rattle.log_text.specs.Kept.{texts_at}
use Rattle.tools.specs.Missing.{AddsDeps, IsMadeFor}
use Rattle.tools.specs.declared.missing.MissingDep.{MissingDep}
use Rattle.tools.proofs.Lacking.{made_more, made_start}
use Rattle.tools.proofs.missing.made_inputs.Goals as goal

pub loop-number-init : goal.loop-number-init
loop-number-init c =
    let graph = c.args.logged.declared.now.graph in
    subst (λ (l : List MissingDep). AddsDeps [] l (IsMadeFor graph c.args.output [] c.args.file.now)) (sym c.new-made.ensures.items) (made_start graph c.args.output c.args.file.now [])

pub loop-number-preserved : goal.loop-number-preserved
loop-number-preserved c =
    let numbers = c.args.numbers.now in
    let place = c.loop-number.number-index in
    made_more c.args.logged.declared.now.graph c.args.output c.args.file.now c.args.logged.records.now.logs.deps_log.log.outputs numbers place (get_or numbers place 0) [] c.loop-number.made.items c.push_made.new.made.items
    c.loop-number-test.true refl c.loop-number.invariant c.in_ok-push_made.ensures

pub returns : goal.returns
returns c =
    let graph = c.args.logged.declared.now.graph in
    let outputs = c.args.logged.records.now.logs.deps_log.log.outputs in
    subst (λ (l : List ℕ). AddsDeps [] c.loop-number.made.items (IsMadeFor graph c.args.output (texts_at outputs l) c.args.file.now)) (take_all c.loop-number.number-index c.args.numbers.now c.loop-number-test.false) c.loop-number.invariant
