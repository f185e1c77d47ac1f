use Rattle.std.proofs.Common.{◌≡◌, ◌++◌, sym, ◌∙◌, ap, subst, List, ℕ, Bor, Some, Result, Ok, Err, IfSome}
use Rattle.std.specs.Result.{MatchResult, result_ok}
use Rattle.std.specs.Str.{IsUtf8}
use Rattle.std.proofs.lemmas.Bool.Decides.{Decides-eqb}
use Rattle.std.proofs.lemmas.Slice.Eq.{strip_suffix_is}
use Rattle.locks.proofs.names.in_front.Goals as goal

-- what is a text stands in front of the end as its bytes do
as_text : {E : Type 0} (F : E → Type 0) (text end bytes : List ℕ) (found : Result (Bor (List ℕ)) E) → text ≡ bytes ++ end → MatchResult found (λ s. (s.now ≡ bytes) × IsUtf8 bytes) F → IfSome (result_ok found) (λ front. text ≡ front.now ++ end)
as_text F text end bytes (Ok s) is cases = is ∙ ap (λ b. b ++ end) (sym cases.0)
as_text F text end bytes (Err e) is cases = tt

pub returns : goal.returns
returns c =
    let text : List ℕ = c.as_bytes.result.now in
    let end : List ℕ = c.as_bytes-2.result.now in
    let front = c.in_ok-front.front in
    let stripped : text ≡ front.now ++ end = strip_suffix_is Decides-eqb text end (Some front) c.in_ok-front.ensures.cases in
    let is : c.args.text.now ≡ front.now ++ c.args.end.now = sym c.as_bytes.ensures.value ∙ stripped ∙ ap (λ e. front.now ++ e) c.as_bytes-2.ensures.value in
    subst (λ found. IfSome found (λ front. c.args.text.now ≡ front.now ++ c.args.end.now)) (sym c.ok.ensures.value) (as_text _ c.args.text.now c.args.end.now front.now c.from_utf8.result is c.from_utf8.ensures.cases)
