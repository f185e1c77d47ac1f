use Rattle.std.proofs.Common.{List, ℕ, Option, None, get_or, sym, ◌∙◌, ap}
use Rattle.work.proofs.Numbering.{only_same, only_numbered, has_its_number, numbered_more, numbered_same, numbered_too, number_held}
use Rattle.work.proofs.recorded.Numbers.number_of.Goals as goal

pub returns-in-Some-clause-number : goal.returns-in-Some-clause-number
returns-in-Some-clause-number c texts there are =
    number_held c.args.graph.now texts c.args.self.now.known.items c.args.path c.in-Some.number c.args.text.now are
    (ap (λ (l : List (Option ℕ)). get_or l c.args.path None) (sym c.deref.ensures.value) ∙ (sym c.number_at.ensures ∙ c.in-Some.is)) there

pub returns-in_err-number-clause-numbered : goal.returns-in_err-number-clause-numbered
returns-in_err-number-clause-numbered c texts there are k n is =
    let old = c.args.graph.now in
    let new = c.add_named.new.self in
    numbered_more old new (only_same old new c.in_err-number.ensures.err).grown texts c.args.self.now.known.items are k n is

pub returns-in_err-note_number-clause-numbered : goal.returns-in_err-note_number-clause-numbered
returns-in_err-note_number-clause-numbered c texts there are k n is =
    let old = c.args.graph.now in
    let new = c.add_named.new.self in
    let more = (only_numbered old new c.args.text.now c.in_ok-number.number c.in_ok-number.ensures.added).grown in
    numbered_same new texts c.args.self.now.known.items c.note_number.new.numbers.items c.in_err-note_number.ensures.err (numbered_more old new more texts c.args.self.now.known.items are) k n is

pub returns-clause-numbered : goal.returns-clause-numbered
returns-clause-numbered c texts there are k n is =
    let old = c.args.graph.now in
    let new = c.add_named.new.self in
    let text = c.args.text.now in
    let number = c.in_ok-number.number in
    let its = has_its_number old new text number c.in_ok-number.ensures.added in
    let more = (only_numbered old new text number c.in_ok-number.ensures.added).grown in
    numbered_too new texts c.args.self.now.known.items c.note_number.new.numbers.items c.args.path number text there its.0 its.1 c.in_ok-note_number.ensures.ok (numbered_more old new more texts c.args.self.now.known.items are) k n is

pub returns-clause-number : goal.returns-clause-number
returns-clause-number c texts there are = has_its_number c.args.graph.now c.add_named.new.self c.args.text.now c.in_ok-number.number c.in_ok-number.ensures.added

pub returns-in_err-number-clause-grown : goal.returns-in_err-number-clause-grown
returns-in_err-number-clause-grown c = only_same c.args.graph.now c.add_named.new.self c.in_err-number.ensures.err

pub returns-clause-grown : goal.returns-clause-grown
returns-clause-grown c = only_numbered c.args.graph.now c.add_named.new.self c.args.text.now c.in_ok-number.number c.in_ok-number.ensures.added
