use Rattle.std.proofs.Common.{◌∙◌, refl, arith, rules}
use Rattle.depfile.specs.Words.{WordSoFar}
use Rattle.depfile.proofs.Cuts.{cut_at_rest}
use Rattle.depfile.proofs.Fronts.{word_ends}
use Rattle.depfile.proofs.PlainWords.{colon_so_far}
use Rattle.depfile.proofs.words.target_at.Goals as goal

pub overflow_sub-text : goal.overflow_sub-text
overflow_sub-text c =
    let far = colon_so_far c.args.text.now c.args.after.now c.in_ok-behind.behind.now c.requires c.in_ok-behind.ensures in
    omega (arith, far.shorter)

pub split_at-requires : goal.split_at-requires
split_at-requires c =
    let far = colon_so_far c.args.text.now c.args.after.now c.in_ok-behind.behind.now c.requires c.in_ok-behind.ensures in
    cut_at_rest c.args.text.now far.taken c.in_ok-behind.behind.now far.written (search rules)

pub returns : goal.returns
returns c =
    let far : WordSoFar c.args.text.now c.in_ok-behind.behind.now c.plain_word.result.is_plain c.plain_word.result.ends_with_colon = rw (c.plain_word.ensures.is_plain, c.plain_word.ensures.ends) (colon_so_far c.args.text.now c.args.after.now c.in_ok-behind.behind.now c.requires c.in_ok-behind.ensures) in
    word_ends c.args.text.now c.in_ok-behind.behind.now c.plain_word.result c.plain_word.ensures.from (c.plain_word.ensures.written ∙ c.split_at.ensures.front) far (c.if-not-is_word_end.ensures.ends refl)
