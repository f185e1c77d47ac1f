use Rattle.std.proofs.Common.{◌∙◌, ap, sym, ◌++◌, List, ℕ}
use Rattle.std.specs.Prelude.{option_map}
use Rattle.trace.specs.Hex.{unhex}
use Rattle.trace.proofs.Names.{one_read}
use Rattle.trace.proofs.hex.unhex.Goals as goal

pub bytes-preserved : goal.bytes-preserved
bytes-preserved c =
    c.bytes.invariant
    ∙ (ap (option_map (λ more. c.bytes.bytes.items ++ more)) c.in-Some.ensures.found
    ∙ (one_read c.bytes.bytes.items c.in-Some.byte (unhex c.in-Some.next.now)
    ∙ ap (λ (bs : List ℕ). option_map (λ more. bs ++ more) (unhex c.in-Some.next.now)) (sym c.in_ok-push.ensures.items)))
