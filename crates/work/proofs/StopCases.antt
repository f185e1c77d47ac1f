-- What is so of a refusal, or of a fault, whatever has ended a build.
use Rattle.std.proofs.Common.{◌≡◌, IfErr, Result, Ok, Err, sym, subst}
use Rattle.std.specs.Result.{IsErrAnd}
use Rattle.work.specs.declared.report.Refusal.{Refusal}
use Rattle.work.specs.declared.stop.Stop.{Stop}
use Rattle.work.specs.declared.stop.Stop.TheVariants as stop
use Rattle.work.specs.Standing.{IfRefused}

pub refused_then : {P Q : Refusal → Type 0} (s : Stop) → IfRefused s P → ((refusal : Refusal) → P refusal → Q refusal) → IfRefused s Q
refused_then (stop.Refused refusal) p f = f refusal p
refused_then (stop.Fault fault) p f = tt

-- what is so of a stop is so of an exit by `?` that passes it on
pub passed : {T : Type 0} (P : Stop → Type 0) (told : Stop) (r : Result T Stop) → IsErrAnd r (λ s. s ≡ told) → P told → IfErr r P
passed P told (Ok x) is p = tt
passed P told (Err s) is p = subst P (sym {A = Stop} is) p
