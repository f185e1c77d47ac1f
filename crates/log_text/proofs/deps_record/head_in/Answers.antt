use Rattle.std.proofs.Common.{rules}
use Rattle.std.specs.Str.{IsUtf8}
use Rattle.log_text.proofs.Plain.{head_is, kind_utf8, one_utf8}
use Rattle.log_text.proofs.deps_record.head_in.Goals as goal

pub returns-clause-head : goal.returns-clause-head
returns-clause-head c =
    head_is c.args.front.now c.in_ok-named.named.now c.in_ok-output.told.now c.in_ok-start.counted.now c.in_ok-count.paths.now c.in_ok-output.output.now c.in_ok-start.start c.in_ok-count.count c.in_ok-named.ensures c.in_ok-output.ensures.found c.in_ok-start.ensures.number c.in_ok-count.ensures.number

pub returns-clause-texts : goal.returns-clause-texts
returns-clause-texts c =
    let output : IsUtf8 c.in_ok-output.output.now = search rules in
    (kind_utf8, (one_utf8, (output, (c.in_ok-start.ensures.utf8, (c.in_ok-count.ensures.utf8, tt)))))
