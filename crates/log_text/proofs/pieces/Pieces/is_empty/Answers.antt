use Rattle.std.proofs.Common.{sym, ap, ◌∙◌, length}
use Rattle.std.proofs.lemmas.Bool.{eqb-true, eq-eqb, false≢true}
use Rattle.log_text.proofs.Amid.{is_nothing, was_nothing}
use Rattle.log_text.proofs.Bytes.{length_nil}
use Rattle.log_text.proofs.pieces.Pieces.is_empty.Goals as goal

pub returns-then-not-is_first : goal.returns-then-not-is_first
returns-then-not-is_first g c = λ text to. (
  λ yes. absurd (false≢true yes),
  λ none. absurd (c.is_first.ensures.no c.if-not-is_first.true (is_nothing g.L.Records.forms g.L.Records.Keeps text to.lines c.args.self.now.rest.items c.args.self.now.so_far.log c.args.self.now.so_far.stage to.parts to.told none).0),
)

pub returns : goal.returns
returns g c = λ text to.
    let rest = c.args.self.now.rest.items in
    let log = c.args.self.now.so_far.log in
    let stage = c.args.self.now.so_far.stage in (
      λ yes.
          let none = length_nil rest (ap length (sym c.as_slice.ensures.value) ∙ eqb-true _ 0 (sym c.is_empty.ensures ∙ yes)) in
          was_nothing g.L.Records.forms g.L.Records.Keeps text to.lines rest log stage to.parts to.told (c.is_first.ensures.yes c.if-not-is_first.false) none,
      λ empty.
          let none = (is_nothing g.L.Records.forms g.L.Records.Keeps text to.lines rest log stage to.parts to.told empty).1 in
          c.is_empty.ensures ∙ eq-eqb _ 0 (ap length (c.as_slice.ensures.value ∙ none)),
    )
