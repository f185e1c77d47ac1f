use Rattle.std.proofs.Common.{◌∙◌, ◌≤◌, ap, sym, refl, inl, inr, length, arith, rules, Some}
use Rattle.lexer.specs.Grammar.{Is, Give, Many}
use Rattle.lexer.specs.Grammar.Outcome.{Reached}
use Rattle.lexer.specs.Grammar.Then.{goes_on}
use Rattle.lexer.specs.Said.{Fragments}
use Rattle.lexer.specs.Tokens.{piece, ends}
use Rattle.lexer.specs.Values.{joined}
use Rattle.lexer.proofs.Pieces.{read_none, read_more, read_nothing, must_be_shorter}
use Rattle.lexer.proofs.Places.{behind_none, behind_both, behind_length}
use Rattle.lexer.proofs.Reading.{breaks_first, breaks_many}
use Rattle.lexer.proofs.values.pieces_at.Goals as goal

pub pieces-init : goal.pieces-init
pieces-init c = (behind_none _, inl refl, rw c.new-pieces.ensures (read_none c.args.class c.args.cursor.rest.now))

pub pieces-preserved-in_ok-push : goal.pieces-preserved-in_ok-push
pieces-preserved-in_ok-push c =
    let onwards : length c.pieces.at.rest.now ≤ length c.args.cursor.rest.now = behind_length _ _ c.pieces.invariant.0 in
    let shorter = c.in_ok-found.ensures.shorter in
    let reads = rw c.in-Some.is at c.in_ok-found.ensures.reads in (
      behind_both _ _ _ c.pieces.invariant.0 c.in_ok-found.ensures.behind,
      inr (omega arith),
      rw c.in_ok-push.ensures.ok (read_more c.args.class c.pieces.pieces (Some c.in-Some.piece) _ _ _ c.pieces.invariant.2 (sym c.ends.ensures ∙ c.pieces-test.true) reads),
    )

pub pieces-preserved : goal.pieces-preserved
pieces-preserved c =
    let onwards : length c.pieces.at.rest.now ≤ length c.args.cursor.rest.now = behind_length _ _ c.pieces.invariant.0 in
    let shorter = c.in_ok-found.ensures.shorter in
    let reads = rw c.in_default.is at c.in_ok-found.ensures.reads in (
      behind_both _ _ _ c.pieces.invariant.0 c.in_ok-found.ensures.behind,
      inr (omega arith),
      read_nothing c.args.class c.pieces.pieces _ _ _ c.pieces.invariant.2 (sym c.ends.ensures ∙ c.pieces-test.true) reads,
    )

pub returns-clause-reads : goal.returns-clause-reads
returns-clause-reads c =
    let row = c.pieces.invariant.2 in
    goes_on {value = row.all} (row.row, sym c.ends.ensures ∙ c.pieces-test.false) (ap (λ (f : Fragments). Reached f c.pieces.at.rest.now) row.stands)

pub returns-clause-shorter : goal.returns-clause-shorter
returns-clause-shorter c = λ open_end. must_be_shorter c.args.class _ _ c.pieces.invariant.1 (sym c.ends.ensures ∙ c.pieces-test.false) open_end

pub returns-in_err-found-clause-fault : goal.returns-in_err-found-clause-fault
returns-in_err-found-clause-fault c =
    let row = c.pieces.invariant.2 in
    let many = breaks_many (Is (piece c.args.class)) (ends c.args.class) row.all c.args.cursor c.pieces.at _ row.row c.pieces.invariant.0 (sym c.ends.ensures ∙ c.pieces-test.true) c.in_err-found.ensures.fault in
    let stops = breaks_first (Many (Is (piece c.args.class)) (ends c.args.class)) (λ all. Give (joined all)) c.args.cursor _ many in
    search (rules, stops)
