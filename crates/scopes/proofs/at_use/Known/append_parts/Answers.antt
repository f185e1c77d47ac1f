use Rattle.std.proofs.Common.{rules, ◌≡◌, ◌<◌, Err, length, string_bytes}
use Rattle.scopes.specs.declared.fault.ExpandFault.TheVariants.{TooLarge as Larger}
use Rattle.scopes.specs.Texts.{part_text}
use Rattle.scopes.specs.Known.{known_value}
use Rattle.scopes.proofs.Growth.{large_front}
use Rattle.scopes.proofs.at_use.Known.append_parts.Goals as goal

pub returns-in_err-append_part-clause-large : goal.returns-in_err-append_part-clause-large
returns-in_err-append_part-clause-large c = λ same past at.
    let failed : c.append_part.result ≡ Err Larger = search rules in
    let below : c.loop-part.part-index < length c.args.parts.now = search rules in
    large_front (part_text (known_value c.args.self.now past)) (string_bytes c.args.text.now) _ c.args.parts.now c.loop-part.part-index _ c.part-item.result below (c.loop-part.invariant.0 past at) c.part-item.is (c.append_part.ensures.large failed past at)
