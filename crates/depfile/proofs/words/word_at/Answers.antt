use Rattle.std.proofs.Common.{◌<◌, ◌∙◌, sym, refl, length, arith}
use Rattle.depfile.specs.Words.{WordSoFar}
use Rattle.depfile.proofs.Fronts.{word_ends, cut_front}
use Rattle.depfile.proofs.PlainWords.{plain_so_far}
use Rattle.depfile.proofs.words.word_at.Goals as goal

pub returns-then-is_word_end-clause-word : goal.returns-then-is_word_end-clause-word
returns-then-is_word_end-clause-word c =
    let text = c.args.text.now in
    let run = c.split_run.result.0 in
    let after = c.split_run.result.1.now in
    let some : 0 < length run.now = grind arith in
    let cut = c.plain_word.ensures.written ∙ sym (cut_front text run.now after c.split_run.ensures.spelled) in
    let far : WordSoFar text after c.plain_word.result.is_plain c.plain_word.result.ends_with_colon = rw (c.plain_word.ensures.is_plain, c.plain_word.ensures.ends) (plain_so_far text run after c.split_run.ensures.spelled some c.split_run.ensures.run) in
    word_ends text after c.plain_word.result c.plain_word.ensures.from cut far (c.if-is_word_end.ensures.ends refl)

pub word_behind_run-requires : goal.word_behind_run-requires
word_behind_run-requires c =
    let some : 0 < length c.split_run.result.0.now = grind arith in
    plain_so_far c.args.text.now c.split_run.result.0 c.split_run.result.1.now c.split_run.ensures.spelled some c.split_run.ensures.run
