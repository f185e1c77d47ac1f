use Rattle.std.proofs.Common.{◌<◌, List, ℕ, sym, subst, length, refl, arith}
use Rattle.std.proofs.lemmas.Option.{slice_get_read}
use Rattle.log_text.specs.Kept.{texts_of}
use Rattle.log_text.specs.Noted.{IsGuessIn}
use Rattle.log_text.proofs.Notes.{notes_put}
use Rattle.log_text.proofs.texts.Texts.note_sum.Goals as goal

pub invariant_of-self : goal.invariant_of-self
invariant_of-self c =
    let texts = texts_of c.self.inside.texts.keys in
    let table = c.self.inside.table.items in
    let slot = c.slot_of-slot.result in
    let guess : IsGuessIn texts c.args.guess = subst (λ (ts : List (List ℕ)). IsGuessIn ts c.args.guess) (sym c.self.view_is) c.requires in
    let low : slot < length table = let t = c.if-slot-len.true in let e = c.len-2.ensures in let ok = c.self.inside.table.ok.0 in omega arith in
    (c.self.invariant.0, c.self.invariant.1, notes_put texts table slot c.index-note.result.now c.args.guess c.self.invariant.2 low (slice_get_read table (length table) slot c.index-note.result.now refl low c.index-note.ensures) guess)
