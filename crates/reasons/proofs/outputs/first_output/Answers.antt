use Rattle.std.proofs.Common.{◌≡◌, ◌<◌, ℕ, Bool, true, false, [], Some, length, get_or, sym, ◌∙◌, ap, subst, arith}
use Rattle.reasons.specs.Why.{seen_output, holds_of_output}
use Rattle.reasons.proofs.Firsts.{at_has, found_at, passed_at, none_past}
use Rattle.reasons.proofs.Taking.{tells_alone}
use Rattle.reasons.proofs.outputs.first_output.Goals as goal

pub returns-then-tells : goal.returns-then-tells
returns-then-tells c paths rs ds of told within =
    let outputs = c.args.outputs.now in
    let place = c.loop-output.output-index in
    let item = c.output-item.result in
    let act = c.args.act.now in
    let test : ℕ → Bool = λ p. holds_of_output act c.args.reason (seen_output paths rs ds c.args.looks.now.seen.items p) in
    let low : item < length paths = subst (λ (p : ℕ). p < length paths) (sym {A = ℕ} c.output-item.is) (within _ (at_has outputs place item c.loop-output-test.true)) in
    let one = c.add_output.ensures paths rs ds of told low [] (c.new-alone.ensures act) in
    let is : test (get_or outputs place item) ≡ true =
    ap test (sym {A = ℕ} c.output-item.is) ∙ (sym (tells_alone act _ c.add_output.new.summary one c.args.reason) ∙ (sym c.tells.ensures ∙ c.if-tells.true)) in
    sym (c.loop-output.invariant paths rs ds of told within ∙ (found_at test outputs place item c.loop-output-test.true is ∙ ap (λ (p : ℕ). Some p) (sym {A = ℕ} c.output-item.is)))

pub loop-output-preserved : goal.loop-output-preserved
loop-output-preserved c paths rs ds of told within =
    let outputs = c.args.outputs.now in
    let place = c.loop-output.output-index in
    let item = c.output-item.result in
    let act = c.args.act.now in
    let test : ℕ → Bool = λ p. holds_of_output act c.args.reason (seen_output paths rs ds c.args.looks.now.seen.items p) in
    let low : item < length paths = subst (λ (p : ℕ). p < length paths) (sym {A = ℕ} c.output-item.is) (within _ (at_has outputs place item c.loop-output-test.true)) in
    let one = c.add_output.ensures paths rs ds of told low [] (c.new-alone.ensures act) in
    let is : test (get_or outputs place item) ≡ false =
    ap test (sym {A = ℕ} c.output-item.is) ∙ (sym (tells_alone act _ c.add_output.new.summary one c.args.reason) ∙ (sym c.tells.ensures ∙ c.if-tells.false)) in
    c.loop-output.invariant paths rs ds of told within ∙ passed_at test outputs place item c.loop-output-test.true is

pub returns : goal.returns
returns c paths rs ds of told within =
    sym (c.loop-output.invariant paths rs ds of told within ∙ none_past (λ p. holds_of_output c.args.act.now c.args.reason (seen_output paths rs ds c.args.looks.now.seen.items p)) c.args.outputs.now c.loop-output.output-index (omega arith))
