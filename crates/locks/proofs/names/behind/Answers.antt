use Rattle.std.proofs.Common.{◌≡◌, ◌++◌, sym, ◌∙◌, ap, subst, List, ℕ, Bor, Some, Result, Ok, Err, IfSome}
use Rattle.std.specs.Result.{MatchResult, result_ok}
use Rattle.std.specs.Str.{IsUtf8}
use Rattle.std.proofs.lemmas.Bool.Decides.{Decides-eqb}
use Rattle.std.proofs.lemmas.Slice.Eq.{strip_prefix_is}
use Rattle.locks.proofs.names.behind.Goals as goal

-- what is a text stands behind the beginning as its bytes do
as_text : {E : Type 0} (F : E → Type 0) (text start bytes : List ℕ) (found : Result (Bor (List ℕ)) E) → text ≡ start ++ bytes → MatchResult found (λ s. (s.now ≡ bytes) × IsUtf8 bytes) F → IfSome (result_ok found) (λ rest. text ≡ start ++ rest.now)
as_text F text start bytes (Ok s) is cases = is ∙ ap (λ b. start ++ b) (sym cases.0)
as_text F text start bytes (Err e) is cases = tt

-- src/names.rt:33:1
pub returns : goal.returns
returns c =
    let text : List ℕ = c.as_bytes.result.now in
    let start : List ℕ = c.as_bytes-2.result.now in
    let rest = c.in_ok-rest.rest in
    let stripped : text ≡ start ++ rest.now = strip_prefix_is Decides-eqb text start (Some rest) c.in_ok-rest.ensures.cases in
    let is : c.args.text.now ≡ c.args.start.now ++ rest.now = sym c.as_bytes.ensures.value ∙ stripped ∙ ap (λ s. s ++ rest.now) c.as_bytes-2.ensures.value in
    subst (λ found. IfSome found (λ rest. c.args.text.now ≡ c.args.start.now ++ rest.now)) (sym c.ok.ensures.value) (as_text _ c.args.text.now c.args.start.now rest.now c.from_utf8.result is c.from_utf8.ensures.cases)
