-- What is said of results: of what was found, where something was, and of an answer yes or no.
use Rattle.std.specs.Prelude.{Bool, Option, Result, IfOk, IfSome, IfNone, IsTrue, IsFalse}

-- where something was found, this is so of it
abbrev pub IfFound : {X E : Type 0} → Result (Option X) E → (X → Type 0) → Type 0
IfFound result P = IfOk result (λ found. IfSome found P)

-- where nothing was found, this is so
abbrev pub IfMissing : {X E : Type 0} → Result (Option X) E → Type 0 → Type 0
IfMissing result P = IfOk result (λ found. IfNone found P)

-- where the answer is yes, this is so
abbrev pub IfYes : {E : Type 0} → Result Bool E → Type 0 → Type 0
IfYes result P = IfOk result (λ is. IsTrue is → P)

-- where the answer is no, this is so
abbrev pub IfNo : {E : Type 0} → Result Bool E → Type 0 → Type 0
IfNo result P = IfOk result (λ is. IsFalse is → P)
