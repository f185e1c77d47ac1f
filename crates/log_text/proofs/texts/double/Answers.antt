use Rattle.std.proofs.Common.{◌≡◌, ◌-◌, ◌++◌, ℕ, List, length, sym, ap, ◌∙◌, subst, arith, vec_len}
use Rattle.std.specs.List.{slice_range}
use Rattle.std.proofs.lemmas.List.{take_all}
use Rattle.log_text.specs.Noted.{AreNotesOf}
use Rattle.log_text.specs.declared.texts.Note.{Note}
use Rattle.log_text.proofs.Notes.{notes_none, notes_append}
use Rattle.log_text.proofs.texts.double.Goals as goal

-- all of a list is what stands from its first place up to its end
range_whole : (xs : List Note) (n : ℕ) → n ≡ length xs → slice_range xs 0 n ≡ xs
range_whole xs n is = take_all (n - 0) xs (omega (arith, is))

pub returns-then-is_empty : goal.returns-then-is_empty
returns-then-is_empty c = λ texts are. subst (AreNotesOf texts) (sym c.in_ok-push.ensures.items) (notes_none texts c.args.table.now.items are)

pub returns : goal.returns
returns c = λ texts are.
    subst (AreNotesOf texts) (sym (c.in_ok-extend_from_within.ensures.items ∙ ap (λ (xs : List Note). c.args.table.now.items ++ xs) (range_whole c.args.table.now.items (vec_len c.args.table.now) c.args.table.now.ok.0))) (notes_append texts c.args.table.now.items c.args.table.now.items are are)
