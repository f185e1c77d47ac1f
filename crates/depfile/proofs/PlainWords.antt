-- A word that is one run of plain characters, with or without a colon behind it.
use Rattle.std.proofs.Common.{◌≡◌, ℕ, ◌<◌, ◌++◌, List, Some, true, false, length, ◌∙◌, sym, ap, refl, Bor}
use Rattle.depfile.specs.declared.characters.Class.TheVariants as class
use Rattle.depfile.specs.declared.pieces.Piece.TheVariants.{Plain, Colon}
use Rattle.depfile.specs.Signs.{signs}
use Rattle.depfile.specs.Pieces.{run_of, behind}
use Rattle.depfile.proofs.Cuts.{run_passes}
use Rattle.depfile.proofs.Escapes.{plain_run_signs, behind_is}
use Rattle.depfile.specs.Words.{WordSoFar}
use Rattle.depfile.proofs.Fronts.{word_begins, word_goes_on}
use Rattle.depfile.proofs.Parts.{same_piece, colon_piece}

pub plain_so_far : (text : List ℕ) (run : Bor (List ℕ)) (after : List ℕ) → text ≡ run.now ++ after → 0 < length run.now → run.now ≡ run_of class.Plain text → WordSoFar text after true false
plain_so_far text run after is some plain =
    let told = ap signs is ∙ plain_run_signs run.now after (rw plain (run_passes class.Plain text)) in
    word_begins text after (Plain run) (same_piece text run after is some told)

pub colon_so_far : (text after rest : List ℕ) → WordSoFar text after true false → Some rest ≡ behind 58 after → WordSoFar text rest true true
colon_so_far text after rest far is =
    word_goes_on text after rest Colon true false true true far (colon_piece after rest (behind_is 58 after rest (sym is))) (λ _. (refl, refl)) refl
