use Rattle.std.proofs.Common.{◌<◌, List, ℕ, sym, subst, length, refl, arith}
use Rattle.std.proofs.lemmas.Option.{slice_get_read}
use Rattle.log_text.specs.Kept.{texts_of}
use Rattle.log_text.specs.Noted.{IsGuessIn}
use Rattle.log_text.proofs.Notes.{notes_put}
use Rattle.log_text.proofs.texts.Texts.note_guess.Goals as goal

pub invariant_of-self : goal.invariant_of-self
invariant_of-self c =
    let texts = texts_of c.self.inside.texts.keys in
    let notes = c.self.inside.notes.items in
    let guess : IsGuessIn texts c.args.guess = subst (λ (ts : List (List ℕ)). IsGuessIn ts c.args.guess) (sym c.self.view_is) c.requires in
    let low : c.args.last < length notes = let t = c.if-last-len.true in let e = c.len.ensures in let ok = c.self.inside.notes.ok.0 in omega arith in
    (notes_put texts notes c.args.last c.index-note.result.now c.args.guess c.self.invariant.0 low (slice_get_read notes (length notes) c.args.last c.index-note.result.now refl low c.index-note.ensures) guess, c.self.invariant.1, c.self.invariant.2)
