use Rattle.std.proofs.lemmas.Bool.{true≢false}
use Rattle.log_text.proofs.TwoOutputLines.{if_ok_then}
use Rattle.log_text.proofs.two_outputs.put_front.Goals as goal

pub returns-then-branch-clause-put : goal.returns-then-branch-clause-put
returns-then-branch-clause-put c = λ yes. c.in_ok-put_short.ensures.put c.if-branch.true

pub returns-then-branch-clause-none : goal.returns-then-branch-clause-none
returns-then-branch-clause-none c = λ no. absurd (true≢false no)

pub returns-clause-put : goal.returns-clause-put
returns-clause-put c = if_ok_then c.put_pair.result c.put_pair.ensures.put (λ is so yes.
    let put = so yes in
    (put.0, put.1, put.2, λ records keeps. put.3 records (c.in_ok-put_short.ensures.none c.if-branch.false records keeps)))

pub returns-clause-none : goal.returns-clause-none
returns-clause-none c = if_ok_then c.put_pair.result c.put_pair.ensures.none (λ is so no records keeps. so no records (c.in_ok-put_short.ensures.none c.if-branch.false records keeps))

pub returns-clause-table : goal.returns-clause-table
returns-clause-table c = λ all is.
    let some = c.put_short.ensures.table all is in
    c.put_pair.ensures.table some.0 some.1
