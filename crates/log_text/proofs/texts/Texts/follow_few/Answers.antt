use Rattle.std.proofs.Common.{◌≡◌, ◌+◌, ◌∷◌, [], ap, ◌∙◌, length, arith}
use Rattle.std.proofs.lemmas.List.{length-append}
use Rattle.log_text.proofs.Notes.{taken_push}
use Rattle.log_text.proofs.texts.Texts.follow_few.Goals as goal

pub loop-rest-preserved : goal.loop-rest-preserved
loop-rest-preserved c =
    let numbers = c.loop-rest.numbers.items in
    let number = c.in-Some.number in
    let found = c.in-Some.ensures in
    let more : length c.push.new.self.items ≡ length numbers + 1 = ap length c.in_ok-push.ensures.items ∙ length-append numbers (number ∷ []) in
    record {
      taken = taken_push c.args.self.now c.args.bytes.now numbers c.push.new.self.items c.loop-rest.rest.now number found.0 c.in-Some.after.now c.loop-rest.invariant.taken c.in_ok-push.ensures.items found.1 found.2 found.3;
      most = let t = c.loop-rest-test.true in let e = c.len.ensures in let ok = c.loop-rest.numbers.ok.0 in omega arith;
    }
