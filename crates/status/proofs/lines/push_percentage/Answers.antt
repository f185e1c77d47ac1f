use Rattle.std.proofs.Common.{◌≡◌, ap, ◌∙◌, length, arith}
use Rattle.std.specs.Prelude.{decimal}
use Rattle.std.proofs.lemmas.Fmt.{length-decimal-le}
use Rattle.status.proofs.lines.push_percentage.Goals as goal

pub push_in_places-requires : goal.push_in_places-requires
push_in_places-requires c =
    let digits : c.as_bytes.result.now ≡ decimal c.percentage.result = c.as_bytes.ensures.value ∙ c.format.ensures.text in
    rw digits (length-decimal-le 3 c.percentage.result (omega arith) (omega arith) (omega arith))
