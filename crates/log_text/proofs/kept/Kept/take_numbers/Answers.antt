use Rattle.std.proofs.Common.{◌≡◌, ◌+◌, List, ℕ, ap, ◌∙◌, sym, subst, length, arith}
use Rattle.std.specs.List.{flat_map}
use Rattle.std.proofs.lemmas.List.{length-append}
use Rattle.text.specs.Marks.{Lacks}
use Rattle.log_text.specs.Line.{field_and_tab}
use Rattle.log_text.specs.Taken.{AreTakenFrom}
use Rattle.log_text.proofs.Bytes.{Lacks-back}
use Rattle.log_text.proofs.KeptRecords.{grown_more}
use Rattle.log_text.proofs.Notes.{taken_grown, taken_behind, at_some}
use Rattle.log_text.proofs.kept.Kept.take_numbers.Goals as goal

pub loop-alloc-preserved : goal.loop-alloc-preserved
loop-alloc-preserved g c =
    let known = c.take_some.new.self.outputs in
    let numbers = c.loop-alloc.numbers.items in
    let rest = c.loop-alloc.rest.now in
    let after = c.in-Some.after.now in
    let inv = c.loop-alloc.invariant in
    let grown = c.in_ok-after.ensures.grown in
    let before : AreTakenFrom known c.args.bytes.now (length numbers) numbers rest = subst (λ (xs : List (List ℕ)). AreTakenFrom xs c.args.bytes.now (length numbers) numbers rest) (sym grown.outputs) (taken_grown c.loop-alloc.self.outputs grown.more c.args.bytes.now (length numbers) numbers rest inv.taken) in
    let is = at_some _ c.in_ok-after.field-0 c.in-Some.after c.in-Some.is c.in_ok-after.ensures.taken in
    let pushed : length c.take_some.new.numbers.items ≡ length numbers + length is.more = ap length is.pushed ∙ length-append numbers is.more in
    let room = is.few in
    record {
      same = λ all is. c.in_ok-after.ensures.same all (inv.same all is);
      records = c.in_ok-after.ensures.records ∙ inv.records;
      grown = grown_more inv.grown grown;
      taken = taken_behind known c.args.bytes.now numbers c.take_some.new.numbers.items rest _ after before is;
      most = let t = c.loop-alloc-test.true in let e = c.len.ensures in let ok = c.loop-alloc.numbers.ok.0 in omega arith;
      line_feed = Lacks-back 10 (flat_map field_and_tab is.taken.texts) after (subst (Lacks 10) is.taken.spelled inv.line_feed);
    }
