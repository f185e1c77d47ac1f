use Rattle.std.proofs.Common.{◌≡◌, ◌∷◌, [], ◌++◌, List, ℕ, Some, None, sym, ap, ◌∙◌, string_bytes}
use Rattle.model.specs.Graph.{has}
use Rattle.log_text.specs.declared.texts.Note.{Note}
use Rattle.log_text.proofs.KeptRecords.{stored, put_in, texts_have}
use Rattle.log_text.proofs.Notes.{notes_push, notes_grown, runs_grown}
use Rattle.log_text.proofs.texts.Texts.add.Goals as goal

pub returns-clause-added : goal.returns-clause-added
returns-clause-added c =
    let keys = c.self.inside.texts.keys in
    let q = c.args.text.now in
    let none = sym (sym (texts_have keys q) ∙ (ap (λ v. has v q) c.self.view_is ∙ c.requires.absent)) in
    put_in keys c.insert_full.new.self.keys c.in_ok-own.own q none c.in_ok-own.ensures.ok c.in_ok-number.ensures.keys ∙ ap (λ v. v ++ q ∷ []) c.self.view_is

pub invariant_of-self-2 : goal.invariant_of-self-2
invariant_of-self-2 c =
    let keys = c.self.inside.texts.keys in
    let q = c.args.text.now in
    let none = sym (sym (texts_have keys q) ∙ (ap (λ v. has v q) c.self.view_is ∙ c.requires.absent)) in
    let texts = put_in keys c.insert_full.new.self.keys c.in_ok-own.own q none c.in_ok-own.ensures.ok c.in_ok-number.ensures.keys in
    let notes : c.push.new.self.items ≡ c.self.inside.notes.items ++ record { next = None; other = None } ∷ [] = c.in_ok-push.ensures.items ∙ ap (λ (xs : List Note). xs ++ record { next = None; other = None } ∷ []) c.in_ok-reserve.ensures.items in
    rw (texts, notes) (notes_push _ c.self.inside.notes.items q c.self.invariant.0, runs_grown _ (q ∷ []) c.self.inside.runs.items c.self.invariant.1, notes_grown _ (q ∷ []) c.self.inside.table.items c.self.invariant.2)

pub returns-clause-number : goal.returns-clause-number
returns-clause-number c =
    let at = c.in_ok-number.ensures.stored in
    stored c.insert_full.new.self.keys c.in_ok-number.number at.0 (string_bytes c.in_ok-own.own) at.1 at.2 ∙ ap (λ (x : List ℕ). Some x) c.in_ok-own.ensures.ok
