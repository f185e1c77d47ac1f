use Rattle.std.proofs.Common.{List, ℕ, subst}
use Rattle.log_text.specs.Noted.{IsGuessIn}
use Rattle.log_text.proofs.Notes.{note_read, guess_plain}
use Rattle.log_text.proofs.texts.Texts.guess_at.Goals as goal

pub returns : goal.returns
returns c =
    let note = c.in_ok-note.note.now in
    let at = note_read c.self.inside.table.items c.deref.result.now c.slot_of.result note c.in_ok-note.ensures.lookup.3.0 c.in_ok-note.ensures.lookup.1 c.deref.ensures.value in
    let is = c.standing.ensures _ (c.self.invariant.2 c.slot_of.result note at) in
    guess_plain c.args.self.now c.standing.result (subst (λ (texts : List (List ℕ)). IsGuessIn texts c.standing.result) c.self.view_is is)
