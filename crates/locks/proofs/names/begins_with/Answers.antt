use Rattle.std.proofs.Common.{rules, ◌∙◌, sym, ℕ, List, drop, length}
use Rattle.std.proofs.lemmas.Bool.Decides.{Decides-eqb}
use Rattle.std.proofs.lemmas.Slice.Eq.{starts_is}
use Rattle.locks.proofs.names.begins_with.Goals as goal

-- src/names.rt:22:1
pub returns : goal.returns
returns c =
    let text : List ℕ = c.as_bytes.result.now in
    let start : List ℕ = c.as_bytes-2.result.now in
    let said = starts_is Decides-eqb text start c.starts_with.result c.starts_with.ensures.value in (
      λ yes. (drop (length start) text, sym c.as_bytes.ensures.value ∙ said.0 yes ∙ search rules),
      λ begins. said.1 begins.0 (c.as_bytes.ensures.value ∙ begins.1 ∙ search rules),
    )
