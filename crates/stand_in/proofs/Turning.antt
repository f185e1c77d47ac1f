-- What comes of it once generators had their turn.
use Rattle.std.proofs.Common.{◌≡◌, ◌⊎◌, inl, inr, ℕ, Bool, true, false, List, [], Option, None, Some, Result, Ok, Err, IfErr, IsErrAnd, refl, sym, ap, ◌∙◌, subst}
use Rattle.model.specs.declared.act.Act.{Act}
use Rattle.model.specs.declared.fault.SiteFault.{SiteFault}
use Rattle.model.specs.declared.outcome.Outcome.{Outcome}
use Rattle.model.specs.Calls.{OnlyLooks}
use Rattle.model.specs.World.{IsIdle, View, World}
use Rattle.theory.specs.Seen.{Looked}
use Rattle.theory.proofs.Looks.{looks_nothing}
use Rattle.tools.specs.declared.declared.Declared.{Declared}
use Rattle.tools.specs.declared.fault.Fault.{Fault as Refusal}
use Rattle.tools.specs.declared.fault.Fault.TheVariants as no_memory
use Rattle.work.specs.declared.report.Options.{Options}
use Rattle.work.specs.declared.report.Report.{Report}
use Rattle.work.specs.declared.report.Report.TheVariants.{Fault, Success}
use Rattle.stand_in.specs.Moves.{FailedAt, IsEndOf, IsNext, IsPrepared, MayBeBuiltFirst, OnlyAsks, WasReadAlone, end_in}
use Rattle.stand_in.specs.declared.build.Ended.{Ended}
use Rattle.stand_in.specs.declared.build.Next.{Next}
use Rattle.stand_in.specs.declared.build.Next.TheVariants.{Build, ReadAnew, End as EndsBy}
use Rattle.stand_in.specs.declared.build.Outcome.{Outcome as End}
use Rattle.stand_in.specs.declared.build.Outcome.TheVariants.{Built}
use Rattle.stand_in.proofs.Stages.{alone_looks, end_by, fault_end, next_by, prepared_at, prepared_by}

module _ (tells : Bool) (outcome : Act → View → Outcome) (options : Options) where
  -- the site goes on behind what was built first
  pub first_runs : (old mid : World) → MayBeBuiltFirst tells outcome options old mid → old.stopped ≡ false → mid.stopped ≡ false
  first_runs old mid (inl same) runs = ap (λ (w : World). w.stopped) same ∙ runs
  first_runs old mid (inr built) runs = built.restarted.stopped

  module _ (entry old mid : World) (declared : Declared) (was : WasReadAlone tells options.file entry old declared) (built : MayBeBuiltFirst tells outcome options old mid) where
    runs : mid.stopped ≡ false
    runs = first_runs old mid built was.since.unrefused.goes_on

    pub turned : (new : World) → OnlyLooks tells mid new → IsPrepared tells outcome options entry new
    turned new looks = prepared_by tells outcome options entry old mid new (alone_looks tells outcome options entry old declared was) built looks

    -- a call of a generator's turn was refused
    pub turn_failed : (new : World) (fault : SiteFault) → OnlyLooks tells mid new → FailedAt tells mid new fault → IsEndOf tells outcome options entry new (Built (Fault fault))
    turn_failed new fault looks failed =
        fault_end tells outcome options entry mid new fault (prepared_by tells outcome options entry old mid mid (alone_looks tells outcome options entry old declared was) built (looks_nothing tells mid)) failed

    -- where none ran, either nothing was built first, so that all is as it was read; or all is read anew
    pub none_ran : (new : World) (first : List (List ℕ)) (next : Next) → Looked tells mid new → (next ≡ Build) ⊎ (next ≡ ReadAnew false) → (next ≡ Build → first ≡ []) → (first ≡ [] → mid ≡ old) → IsNext tells outcome options entry old new (Ok next)
    none_ran new first next looked (inl is) none same = subst (λ (n : Next). IsNext tells outcome options entry old new (Ok n)) (sym is) (subst (λ (w : World). Looked tells w new) (same (none is)) looked)
    none_ran new first next looked (inr is) none same = subst (λ (n : Next). IsNext tells outcome options entry old new (Ok n)) (sym is) (turned new looked.looks)

  -- what comes next, by what that is
  pub next_end : (entry old new : World) (next : Next) (end : End) → next ≡ EndsBy end → IsNext tells outcome options entry old new (Ok next) → IsEndOf tells outcome options entry new end
  next_end entry old new next end is comes = subst (λ (n : Next). IsNext tells outcome options entry old new (Ok n)) is comes

  pub next_build : (entry old new : World) (next : Next) → next ≡ Build → IsNext tells outcome options entry old new (Ok next) → Looked tells old new
  next_build entry old new next is comes = subst (λ (n : Next). IsNext tells outcome options entry old new (Ok n)) is comes

  pub next_anew : (entry old new : World) (next : Next) (is_old : Bool) → next ≡ ReadAnew is_old → IsNext tells outcome options entry old new (Ok next) → IsPrepared tells outcome options entry new
  next_anew entry old new next is_old is comes = subst (λ (n : Next). IsNext tells outcome options entry old new (Ok n)) is comes

  -- an outcome that is known
  pub end_as : (entry new : World) (ended : Ended) (end : End) → ended.outcome ≡ end → IsEndOf tells outcome options entry new end → IsEndOf tells outcome options entry new (end_in (Ok ended))
  end_as entry new ended end is ends = subst (λ (e : End). IsEndOf tells outcome options entry new e) (sym is) ends

-- what is said where there was no memory
pub goes_by : {A : Type 0} {P : Type 0} (r : Result A Refusal) (fault : Refusal) → r ≡ Err fault → fault ≡ no_memory.Memory → IfErr r (λ (told : Refusal). told ≡ no_memory.Memory → P) → P
goes_by {A = A} (Ok value) fault is none so = absurd (ok_err value fault is)
  where
    ok_err : (value : A) (fault : Refusal) → Ok value ≡ Err fault → ⊥
    ok_err value fault is = cc
goes_by {A = A} (Err told) fault is none so = so (ap (err_of told) is ∙ none)
  where
    err_of : Refusal → Result A Refusal → Refusal
    err_of other (Ok value) = other
    err_of other (Err error) = error
