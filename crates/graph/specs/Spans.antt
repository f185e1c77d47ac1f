-- Lists in flat memory.
use Rattle.std.specs.Prelude.{ℕ, ◌≤◌, List}
use Rattle.std.specs.List.{AllByRecursion}
use Rattle.paths.specs.Lists.{between}
use Rattle.graph.specs.declared.recorded.Span.{Span}

-- what stands in a span
abbrev pub span_of : List ℕ → Span → List ℕ
span_of numbers span = between numbers span.start span.stop

pub record IsSpanIn (count : ℕ) (span : Span) : Type 0 where
  pub in_order : span.start ≤ span.stop
  pub within : span.stop ≤ count

abbrev pub AreSpansIn : ℕ → List Span → Type 0
AreSpansIn count spans = AllByRecursion (IsSpanIn count) spans
