use Rattle.std.proofs.Common.{◌≡◌, ◌+◌, ◌∷◌, [], ◌++◌, List, ℕ, Some, sym, ap, ◌∙◌, subst, take, slice_get}
use Rattle.log_text.specs.Kept.{AreNumbersOf}
use Rattle.log_text.proofs.Bytes.{take_more}
use Rattle.log_text.proofs.KeptRecords.{numbers_push, numbers_grown, grown_more}
use Rattle.log_text.proofs.kept.Kept.numbers.Goals as goal

pub loop-text-preserved : goal.loop-text-preserved
loop-text-preserved g c =
    let texts = c.number.new.self.outputs in
    let done = take c.loop-text.text-index c.args.texts.now in
    let output = c.text-item.result in
    let grown = c.in_ok-number.ensures.grown in
    let before : AreNumbersOf texts c.loop-text.numbers.items done = subst (λ (xs : List (List ℕ)). AreNumbersOf xs c.loop-text.numbers.items done) (sym grown.outputs) (numbers_grown c.loop-text.self.outputs grown.more c.loop-text.numbers.items done c.loop-text.invariant.numbers) in
    let here : slice_get texts c.in_ok-number.number ≡ Some output = c.in_ok-number.ensures.number ∙ ap (λ (x : List ℕ). Some x) c.as_str.ensures in
    let more : take (c.loop-text.text-index + 1) c.args.texts.now ≡ done ++ output ∷ [] = take_more c.args.texts.now c.loop-text.text-index output c.loop-text-test.true ∙ ap (λ (x : List ℕ). done ++ x ∷ []) (sym c.text-item.is) in
    record {
      same = λ all is. c.in_ok-number.ensures.same all (c.loop-text.invariant.same all is);
      grown = grown_more c.loop-text.invariant.grown grown;
      records = c.in_ok-number.ensures.records ∙ c.loop-text.invariant.records;
      numbers = rw (c.in_ok-push.ensures.items, more) (numbers_push texts c.loop-text.numbers.items done c.in_ok-number.number output before here);
    }

pub returns-in_err-number-clause-grown : goal.returns-in_err-number-clause-grown
returns-in_err-number-clause-grown g c = grown_more c.loop-text.invariant.grown c.number.ensures.grown
