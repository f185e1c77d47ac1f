use Rattle.std.proofs.Common.{◌≡◌, ◌∷◌, ◌++◌, [], List, ℕ, sym, ◌∙◌, subst}
use Rattle.text.specs.Marks.{Lacks}
use Rattle.shares.proofs.Pieces.{all_more, lacks_both, line_more}
use Rattle.shares.proofs.reading.Lines.end_line.Goals as goal

pub returns : goal.returns
returns g c = λ text to.
    let rest = c.args.self.now.rest.items in
    let front = c.args.front.now in
    let line : c.as_slice.result.now ≡ rest ++ front = c.as_slice.ensures.value ∙ c.in_ok-extend_from_slice.ensures.items in
    record {
      lines = to.lines ++ c.as_slice.result.now ∷ [];
      parts = line_more text to.lines rest front c.as_slice.result.now c.clear.new.self.items to.parts line c.clear.ensures.items;
      whole = all_more to.lines c.as_slice.result.now to.whole (subst (Lacks 10) (sym line) (lacks_both 10 rest front to.lacks c.requires));
      lacks = subst (Lacks 10) (sym c.clear.ensures.items) tt;
      told = c.in_ok-take_line.ensures to.lines to.told;
    }
