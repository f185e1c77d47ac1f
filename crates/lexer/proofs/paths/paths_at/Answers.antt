use Rattle.std.proofs.Common.{◌∙◌, ap, sym, refl, not, rules}
use Rattle.lexer.specs.Grammar.{Many}
use Rattle.lexer.specs.Grammar.Then.{goes_on}
use Rattle.lexer.specs.Said.{paths_of}
use Rattle.lexer.specs.Values.{Blanks, PathAndBlanks, ends_paths}
use Rattle.lexer.proofs.Pieces.{paths_more}
use Rattle.lexer.proofs.Places.{behind_none, behind_both}
use Rattle.lexer.proofs.Reading.{breaks_next, breaks_many}
use Rattle.lexer.proofs.paths.paths_at.Goals as goal

pub paths-init : goal.paths-init
paths-init c = (c.skip_blanks-at.result, c.skip_blanks-at.ensures.blanks, c.skip_blanks-at.ensures.behind, behind_none _, rw c.in_ok-paths.ensures refl)

pub paths-preserved : goal.paths-preserved
paths-preserved c =
    let row = c.paths.invariant in (
      row.0,
      row.1,
      row.2,
      behind_both _ _ _ row.3 c.in_ok-path.ensures.behind,
      rw c.in_ok-push.ensures.ok (paths_more c.paths.paths c.in_ok-path.path _ _ _ row.4 (sym c.begins_path-in-paths.ensures ∙ c.paths-test.true) c.in_ok-path.ensures.reads),
    )

pub returns-clause-reads : goal.returns-clause-reads
returns-clause-reads c =
    let row = c.paths.invariant in
    goes_on {value = tt} row.1 (row.4, ap not (sym c.begins_path-in-paths.ensures ∙ c.paths-test.false))

pub returns-clause-behind : goal.returns-clause-behind
returns-clause-behind c = behind_both _ _ _ c.paths.invariant.2 c.paths.invariant.3

pub returns-in_err-path-clause-fault : goal.returns-in_err-path-clause-fault
returns-in_err-path-clause-fault c =
    let row = c.paths.invariant in
    let many = breaks_many PathAndBlanks ends_paths (paths_of c.paths.paths) row.0 c.paths.at _ row.4 row.3 (ap not (sym c.begins_path-in-paths.ensures ∙ c.paths-test.true)) c.in_err-path.ensures.fault in
    let stops = breaks_next Blanks (λ _. Many PathAndBlanks ends_paths) tt c.args.cursor row.0 _ row.1 row.2 many in
    search (rules, stops)
