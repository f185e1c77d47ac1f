use Rattle.std.proofs.Common.{◌≡◌, true, sym, ◌∙◌, refl, rules}
use Rattle.depfile.proofs.Cuts.{cut_at_rest}
use Rattle.depfile.proofs.Fronts.{word_goes_on, word_ends}
use Rattle.depfile.specs.Pieces.{is_itself}
use Rattle.depfile.proofs.words.word_going_on.Goals as goal
use Rattle.depfile.proofs.words.word_going_on.Goals.{then-is_plain, else-is_plain}

pub pieces-init : goal.pieces-init
pieces-init c = record {
  utf8 = search rules;
  far = c.requires;
}

pub pieces-preserved : goal.pieces-preserved
pieces-preserved c =
    let both : c.if-is_plain.is_plain ≡ true → (c.pieces.is_plain ≡ true) × (is_itself c.in-Some.piece ≡ true) =
    λ still. elim c.if-is_plain.branch [
      | then-is_plain w ↦ (w.if-is_plain.true, sym w.is_itself-is_plain.ensures ∙ sym w.is_plain-is ∙ still)
      | else-is_plain w ↦ absurd (let e = sym w.is_plain-is ∙ still in cc)
    ] in
    record {
      utf8 = search rules;
      far = word_goes_on c.args.text.now c.pieces.at.now c.in-Some.rest.now c.in-Some.piece c.pieces.is_plain c.pieces.ends_with_colon c.if-is_plain.is_plain c.is_colon-ends_with_colon.result
          c.pieces.invariant.far c.in-Some.ensures.piece both c.is_colon-ends_with_colon.ensures;
    }

pub split_at-requires : goal.split_at-requires
split_at-requires c = cut_at_rest c.args.text.now c.pieces.invariant.far.taken c.pieces.at.now c.pieces.invariant.far.written c.pieces.invariant.utf8

pub returns : goal.returns
returns c = word_ends c.args.text.now c.pieces.at.now _ refl c.split_at.ensures.front c.pieces.invariant.far c.in_default.ensures.none
