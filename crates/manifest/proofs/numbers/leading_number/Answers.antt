use Rattle.std.proofs.Common.{rules, ◌≤◌, ◌<◌, get_or, length, arith}
use Rattle.manifest.proofs.NumberLemmas.{number_step, digits_step}
use Rattle.manifest.proofs.numbers.leading_number.Goals as goal

pub loop-byte-preserved : goal.loop-byte-preserved
loop-byte-preserved c =
    let bytes = c.as_bytes-byte-items.ensures in
    let below : c.loop-byte.byte-index < length c.as_bytes-byte-items.result.now = omega arith in
    let inside : (48 ≤ get_or c.as_bytes-byte-items.result.now c.loop-byte.byte-index 0) × (get_or c.as_bytes-byte-items.result.now c.loop-byte.byte-index 0 ≤ 57) = search rules in
    record {
      number = number_step c.args.text.now c.as_bytes-byte-items.result.now c.loop-byte.byte-index c.loop-byte.number c.saturating_mul.result c.saturating_add-number.result c.from.result
          bytes.value below c.loop-byte.invariant.number c.saturating_mul.ensures c.from.ensures c.saturating_add-number.ensures;
      digits = digits_step c.args.text.now c.as_bytes-byte-items.result.now c.loop-byte.byte-index bytes.value below inside.0 inside.1 c.loop-byte.invariant.digits;
    }
