use Rattle.std.proofs.Common.{◌≡◌, ◌∙◌, ap, refl, Bool, true, false, List, ℕ, Option, None}
use Rattle.std.specs.Str.{IsUtf8, is_utf8}
use Rattle.std.proofs.lemmas.Str.{IsUtf8-from_is_utf8, is_utf8-from_IsUtf8}
use Rattle.trace.specs.declared.calls.Row.{Row}
use Rattle.trace.specs.Calls.{row_named}
use Rattle.trace.specs.Facts.{row_of}
use Rattle.trace.proofs.parts.row_of.Goals as goal

of_text : (name : List ℕ) (row : Option Row) → is_utf8 name ≡ true → row ≡ row_named name → row ≡ row_of name
of_text name row text is = rw text is

of_none : (name : List ℕ) → (IsUtf8 name → ⊥) → (is : Bool) → is_utf8 name ≡ is → None ≡ row_of name
of_none name no_text true is = absurd (no_text (IsUtf8-from_is_utf8 name is))
of_none name no_text false is = rw is refl

pub returns-in-Ok : goal.returns-in-Ok
returns-in-Ok c =
    of_text c.args.name.now c.row_named.result (is_utf8-from_IsUtf8 c.args.name.now c.in-Ok.ensures.cases.1)
    (c.row_named.ensures ∙ ap row_named c.in-Ok.ensures.cases.0)

pub returns-in-Err : goal.returns-in-Err
returns-in-Err c = of_none c.args.name.now c.in-Err.ensures.cases.0 (is_utf8 c.args.name.now) refl
