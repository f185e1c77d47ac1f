use Rattle.std.proofs.Common.{[], ◌∷◌, sym, ◌∙◌, refl, arith, ap, List, ℕ}
use Rattle.depfile.proofs.Escapes.{behind_is}
use Rattle.depfile.proofs.Parts.{same_piece, escaped_piece, colon_piece, dollars_signs, dollar_signs, cr_signs, no_newline}
use Rattle.depfile.proofs.pieces.lone_at.Goals as goal

pub returns-in-Some : goal.returns-in-Some
returns-in-Some c = colon_piece c.args.text.now c.in-Some.rest.now (behind_is 58 c.args.text.now c.in-Some.rest.now (sym c.in-Some.ensures))

pub returns-in-Some-strip_one-2 : goal.returns-in-Some-strip_one-2
returns-in-Some-strip_one-2 c =
    let is = behind_is 36 c.args.text.now c.in-Some-strip_one.rest.now (sym c.in-Some-strip_one.ensures)
    ∙ ap (λ (xs : List ℕ). 36 ∷ xs) (behind_is 36 c.in-Some-strip_one.rest.now c.in-Some-strip_one-2.behind.now (sym c.in-Some-strip_one-2.ensures)) in
    escaped_piece c.args.text.now _ c.in-Some-strip_one-2.behind.now [] (36 ∷ []) (refl, refl) (36 ∷ 36 ∷ []) is (omega arith) (omega arith) (dollars_signs c.args.text.now c.in-Some-strip_one-2.behind.now is)

pub returns-in-None : goal.returns-in-None
returns-in-None c =
    let is = behind_is 36 c.args.text.now c.in-Some-strip_one.rest.now (sym c.in-Some-strip_one.ensures) in
    same_piece c.args.text.now _ c.in-Some-strip_one.rest.now is (omega arith) (dollar_signs c.args.text.now c.in-Some-strip_one.rest.now is (sym c.in-None.ensures))

pub returns : goal.returns
returns c =
    let is = behind_is 13 c.args.text.now c.in-Some-strip_one-3.rest.now (sym c.in-Some-strip_one-3.ensures) in
    same_piece c.args.text.now _ c.in-Some-strip_one-3.rest.now is (omega arith) (cr_signs c.args.text.now c.in-Some-strip_one-3.rest.now is (no_newline c.args.text.now c.requires.apart))
