use Rattle.std.proofs.Common.{◌≡◌, [], ◌∷◌, ◌++◌, ap, sym, ◌∙◌, length}
use Rattle.std.proofs.lemmas.Bool.{eqb-false, eqb-true}
use Rattle.log_text.proofs.Bytes.{length_nil}
use Rattle.log_text.proofs.Amid.{keeps_none, keeps_then}
use Rattle.log_text.proofs.Reading.{starts, one_more, stops_at_line, stops_at_end, all_read}
use Rattle.log_text.proofs.read.put_lines.Goals as goal

pub returns-then-not-branch-clause-none : goal.returns-then-not-branch-clause-none
returns-then-not-branch-clause-none g c = λ no.
    stops_at_line (g.L.Records.forms c.args.version) c.args.lines.now c.lines.invariant.0 c.lines.rest.now c.in-Some.line.now c.in-Some.after.now c.lines.invariant.1 c.in-Some.ensures.found c.in-Some.ensures.first (c.in_ok-put_line.ensures.none c.if-not-branch.true)

pub lines-init : goal.lines-init
lines-init g c = ([], starts (g.L.Records.forms c.args.version) c.args.lines.now, keeps_none g.L.Records.Keeps c.args.log.now)

pub lines-preserved : goal.lines-preserved
lines-preserved g c =
    let put = c.in_ok-put_line.ensures.put c.if-not-branch.false in
    let records = c.lines.invariant.0 in
    (records ++ put.0 ∷ [], one_more (g.L.Records.forms c.args.version) (c.are_readable.ensures.one_record c.args.version) c.args.lines.now records c.lines.rest.now c.in-Some.line.now c.in-Some.after.now put.0 c.lines.invariant.1 c.in-Some.ensures.found put.1 put.2, keeps_then g.L.Records.Keeps records put.0 c.args.log.now c.lines.log c.put_line.new.log c.lines.invariant.2 put.3)

pub returns-clause-put : goal.returns-clause-put
returns-clause-put g c = λ yes.
    let records = c.lines.invariant.0 in
    let none : c.lines.rest.now ≡ [] = length_nil c.lines.rest.now (eqb-true _ 0 (sym c.is_empty.ensures ∙ yes))
    in (records, all_read (g.L.Records.forms c.args.version) c.args.lines.now records c.lines.rest.now c.lines.invariant.1 none, c.lines.invariant.1.fit, c.lines.invariant.2)

pub returns-clause-none : goal.returns-clause-none
returns-clause-none g c = λ no.
    stops_at_end (g.L.Records.forms c.args.version) c.args.lines.now c.lines.invariant.0 c.lines.rest.now c.lines.invariant.1 c.in_default.ensures.none (λ e. eqb-false _ 0 (sym c.is_empty.ensures ∙ no) (ap length e))
