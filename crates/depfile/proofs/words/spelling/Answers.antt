use Rattle.std.proofs.Common.{rules, string_bytes}
use Rattle.depfile.proofs.Fronts.{spelt_goes_on, spelt_ends}
use Rattle.depfile.proofs.words.spelling.Goals as goal

pub pieces-preserved : goal.pieces-preserved
pieces-preserved c = record {
  utf8 = search rules;
  far = spelt_goes_on c.args.text.now c.pieces.at.now c.in-Some.rest.now (string_bytes c.pieces.word) (string_bytes c.push_onto.new.text) c.in-Some.piece c.pieces.invariant.far c.in-Some.ensures.piece c.in_ok-push_onto.ensures;
}

pub returns : goal.returns
returns c = spelt_ends c.args.text.now c.pieces.at.now (string_bytes c.pieces.word) c.pieces.invariant.far c.in_default.ensures.none
