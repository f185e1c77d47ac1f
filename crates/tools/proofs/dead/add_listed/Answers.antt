use Rattle.std.proofs.Common.{◌≡◌, [], ℕ, List, true, get_or, refl, subst}
use Rattle.std.proofs.lemmas.Bool.{false≢true}
use Rattle.std.proofs.lemmas.List.{take_all}
use Rattle.model.specs.Graph.{has}
use Rattle.log_text.specs.Kept.{texts_at}
use Rattle.tools.specs.Clean.{AddsJust}
use Rattle.tools.proofs.Adding.{IsHad, adds_none}
use Rattle.tools.proofs.Burying.{numbers_more}
use Rattle.tools.proofs.dead.add_listed.Goals as goal

pub loop-number-init : goal.loop-number-init
loop-number-init c = adds_none c.args.listed.now (IsHad []) (λ t is. false≢true is)

pub loop-number-preserved : goal.loop-number-preserved
loop-number-preserved c =
    let numbers = c.args.numbers.now in
    let place = c.loop-number.number-index in
    numbers_more c.args.records.now.logs.deps_log.log.outputs numbers place (get_or numbers place 0) c.args.listed.now c.loop-number.listed c.add_number.new.listed c.loop-number-test.true refl c.loop-number.invariant c.in_ok-add_number.ensures

pub returns : goal.returns
returns c =
    let log = c.args.records.now.logs.deps_log.log in
    subst (λ (numbers : List ℕ). AddsJust c.args.listed.now c.loop-number.listed (λ text. has (texts_at log.outputs numbers) text ≡ true))
    (take_all c.loop-number.number-index c.args.numbers.now c.loop-number-test.false) c.loop-number.invariant
