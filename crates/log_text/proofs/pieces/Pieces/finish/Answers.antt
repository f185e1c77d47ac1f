use Rattle.std.proofs.Common.{◌++◌, [], List, ℕ, refl, sym, ap, ◌∙◌, subst}
use Rattle.text.specs.Marks.{Lacks}
use Rattle.log_text.specs.Text.{IsRead}
use Rattle.log_text.specs.Pieces.{StandsAt}
use Rattle.log_text.proofs.Amid.{broken_damaged}
use Rattle.log_text.proofs.pieces.Pieces.finish.Goals as goal

pub tail_of_header-requires : goal.tail_of_header-requires
tail_of_header-requires g c = subst (Lacks 10) (sym c.as_slice.ensures.value) c.requires.1.lacks

pub returns-in-First : goal.returns-in-First
returns-in-First g c = λ text to.
    let forms = g.L.Records.forms in
    let rest = c.args.self.rest.items in
    let stands = subst (StandsAt forms g.L.Records.Keeps to.lines c.args.self.so_far.log) c.in-First.is to.told in
    ([], subst (λ (xs : List ℕ). IsRead forms xs [] c.tail_of_header.result) (c.as_slice.ensures.value ∙ (ap (λ (xs : List ℕ). xs ++ rest) (sym stands.0) ∙ sym to.parts)) c.tail_of_header.ensures, stands.1)

pub tail_behind-requires : goal.tail_behind-requires
tail_behind-requires g c = subst (Lacks 10) (sym c.as_slice-in-Lines.ensures.value) c.requires.1.lacks

pub returns-in-Lines : goal.returns-in-Lines
returns-in-Lines g c = λ text to.
    let forms = g.L.Records.forms in
    let stands = subst (StandsAt forms g.L.Records.Keeps to.lines c.args.self.so_far.log) c.in-Lines.is to.told in
    (stands.0, subst (λ (xs : List ℕ). IsRead forms xs stands.0 c.tail_behind.result) (ap (λ (xs : List ℕ). to.lines ++ xs) c.as_slice-in-Lines.ensures.value ∙ sym to.parts) (c.tail_behind.ensures to.lines stands.0 stands.1), stands.2)

pub returns : goal.returns
returns g c = λ text to.
    let forms = g.L.Records.forms in
    let broken = subst (StandsAt forms g.L.Records.Keeps to.lines c.args.self.so_far.log) c.in-Broken.is to.told in
    ([], (refl, broken_damaged forms text to.lines c.args.self.rest.items to.parts to.lacks broken), c.new.ensures)
