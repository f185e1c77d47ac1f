use Rattle.std.proofs.Common.{◌≡◌, ◌∷◌, ◌++◌, [], List, ℕ, sym, ◌∙◌, subst}
use Rattle.text.specs.Marks.{Lacks}
use Rattle.shares.specs.Reading.{ReadsTo}
use Rattle.shares.proofs.Pieces.{lacks_both, passed_more, piece_passed, rest_more, text_passed}
use Rattle.shares.proofs.reading.LinesTakes.take.Goals as goal

pub lines-preserved : goal.lines-preserved
lines-preserved g c =
    let passed = c.lines.invariant.0 in
    let front = c.in-Some.front.now in (
      (passed ++ front) ++ 10 ∷ [],
      passed_more c.args.piece.now passed c.lines.left.now front c.in-Some.behind.now c.lines.invariant.1 c.in-Some.ensures.found,
      λ text to.
          subst (λ (xs : List ℕ). ReadsTo g.T.TakesLines.Read xs c.end_line.new.self) (text_passed text passed front)
          (c.in_ok-end_line.ensures (text ++ passed) (c.lines.invariant.2 text to)),
    )

pub returns : goal.returns
returns g c = λ taken to.
    let passed = c.lines.invariant.0 in
    let left = c.lines.left.now in
    let at = c.lines.invariant.2 taken to in
    let items = c.in_ok-extend_from_slice.ensures.items in
    record {
      lines = at.lines;
      parts =
          piece_passed taken c.args.piece.now passed left c.lines.invariant.1
          ∙ rest_more (taken ++ passed) at.lines c.lines.self.rest.items left c.extend_from_slice.new.self.items at.parts items;
      whole = at.whole;
      lacks = subst (Lacks 10) (sym items) (lacks_both 10 c.lines.self.rest.items left at.lacks c.in_default.ensures.none);
      told = at.told;
    }
