use Rattle.std.proofs.Common.{◌≡◌, ◌∙◌, sym, ap, Bool, false, List, ℕ, Option, Some, None, Result, Ok, Err, refl}
use Rattle.std.specs.Prelude.{IfOk, codes, if◌then◌else◌}
use Rattle.trace.specs.declared.processes.Known.{Known}
use Rattle.trace.specs.declared.lines.Reached.{Reached}
use Rattle.trace.specs.Calls.{begins}
use Rattle.trace.specs.Processes.{known_or_new}
use Rattle.trace.specs.Lines.{after_body, after_text, is_end}
use Rattle.trace.proofs.lines.Reached.take_body.Goals as goal

of_text : (start : List ℕ) (reached : Reached) (number body : List ℕ) → is_end body ≡ false → begins (codes "--- ") body ≡ false
    → after_body start reached (number, body) ≡ after_text reached (known_or_new start number reached.processes) body
of_text start reached number body one two = rw (one, two) refl

told_so : {E : Type 0} (r : Result Bool E) (x y : Option Reached) (new : Reached) → x ≡ y → IfOk r (λ is. y ≡ (if is then Some new else None)) → IfOk r (λ is. x ≡ (if is then Some new else None))
told_so (Ok is) x y new same h = same ∙ h
told_so (Err e) x y new same h = h

pub returns : goal.returns
returns c =
    told_so c.take_text.result _ _ c.take_text.new.self
    (of_text c.args.start.now c.args.self.now c.args.number.now c.args.body.now (sym c.is_end.ensures ∙ c.if-is_end.false) (sym c.starts_with.ensures.value ∙ c.if-starts_with.false)
    ∙ ap (λ (k : Known). after_text c.args.self.now k c.args.body.now) (sym c.in_ok-known.ensures))
    c.take_text.ensures
