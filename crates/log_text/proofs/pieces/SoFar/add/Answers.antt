use Rattle.std.proofs.Common.{◌++◌, List, ℕ, sym, ap, ◌∙◌, subst, append_assoc}
use Rattle.log_text.specs.Pieces.{BeginNoLog, StandsAt, HasRead}
use Rattle.log_text.proofs.Amid.{stands_still, goes_on, goes_on_so}
use Rattle.log_text.proofs.pieces.SoFar.add.Goals as goal

-- no line of records stands behind
pub returns-in_default : goal.returns-in_default
returns-in_default g c = λ lines read.
    let passed = c.pass_first-records.ensures in
    let mid = c.pass_first-records.new.self in
    let rest = c.pass_first-records.result.now in
    subst (λ (xs : List ℕ). HasRead g.L.Records.forms g.L.Records.Keeps xs mid) (append_assoc lines passed.front rest ∙ ap (λ (xs : List ℕ). lines ++ xs) (sym passed.parts))
    (stands_still g.L.Records.forms g.L.Records.Keeps c.are_readable.ensures (lines ++ passed.front) rest mid.log mid.stage passed.ends passed.none c.in_default.not-Lines (passed.passed lines read))

-- each line behind is a record's
pub returns-then-branch : goal.returns-then-branch
returns-then-branch g c = λ lines read.
    let forms = g.L.Records.forms in
    let Keeps = g.L.Records.Keeps in
    let passed = c.pass_first-records.ensures in
    let mid = c.pass_first-records.new.self in
    let rest = c.pass_first-records.result.now in
    let version = c.in-Lines.version in
    let put = c.in_ok-put_lines.ensures.put c.if-branch.true in
    let kept = subst (StandsAt forms Keeps (lines ++ passed.front) mid.log) c.in-Lines.is (passed.passed lines read) in
    let all = goes_on forms Keeps version (lines ++ passed.front) rest put.0 mid.log c.put_lines.new.log put.1 put.2 put.3 kept in
    subst (λ (xs : List ℕ). StandsAt forms Keeps xs c.put_lines.new.log mid.stage) (append_assoc lines passed.front rest ∙ ap (λ (xs : List ℕ). lines ++ xs) (sym passed.parts)) (subst (StandsAt forms Keeps ((lines ++ passed.front) ++ rest) c.put_lines.new.log) (sym c.in-Lines.is) all)

-- one is none's
pub returns : goal.returns
returns g c = λ lines read.
    let forms = g.L.Records.forms in
    let passed = c.pass_first-records.ensures in
    let mid = c.pass_first-records.new.self in
    let rest = c.pass_first-records.result.now in
    let kept = subst (StandsAt forms g.L.Records.Keeps (lines ++ passed.front) mid.log) c.in-Lines.is (passed.passed lines read) in
    subst (BeginNoLog forms) (append_assoc lines passed.front rest ∙ ap (λ (xs : List ℕ). lines ++ xs) (sym passed.parts)) (goes_on_so forms c.are_readable.ensures c.in-Lines.version (lines ++ passed.front) rest kept.0 kept.1 passed.ends (c.in_ok-put_lines.ensures.none c.if-branch.false))
