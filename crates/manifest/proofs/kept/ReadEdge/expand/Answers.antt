use Rattle.std.proofs.Common.{◌∙◌, ap, map}
use Rattle.std.specs.Map.Iter.{deref}
use Rattle.manifest.proofs.EdgeUses.{bare_words, quoted_words}
use Rattle.manifest.proofs.kept.ReadEdge.expand.Goals as goal

pub returns : goal.returns
returns c = λ past build of is shows.
    c.expand_quoted-2.ensures past build of is shows
    (quoted_words c.args.plain _ build (ap (map deref) c.as_slice.ensures.value ∙ c.in_ok-input_words.ensures ∙ c.in_ok-inputs.ensures) (ap (map deref) c.as_slice-2.ensures.value ∙ c.in_ok-output_words.ensures ∙ c.in_ok-outputs.ensures) shows)
