-- Calls that only look, as they are told.
use Rattle.std.proofs.Common.{◌≡◌, ◌⊎◌, inl, inr, Bool, true, false, Result, Ok, Err, ap}
use Rattle.std.specs.Prelude.{IsTrue, OnErr, OnOk}
use Rattle.model.specs.declared.fault.SiteFault.{SiteFault}
use Rattle.model.specs.World.{World}
use Rattle.theory.specs.Seen.{Unrefused}
use Rattle.seen_law.specs.Laws.{LooksAreTold}
use Rattle.seen.specs.Asking.{Asks, WasAnswered}
use Rattle.seen.specs.Begun.{Begun, BeginsTold, GoesOn, told_world}
use Rattle.seen.proofs.Told.{cause_on, err_on, looks_on, ok_on, waits_on}

unrefused_on : (tells : Bool) (b : Begun) (x y : World) → Unrefused x y → Unrefused (told_world tells b x) (told_world tells b y)
unrefused_on false b x y is = is
unrefused_on true b x y is = record { failures = is.failures; began = is.began; goes_on = is.goes_on; earlier = is.earlier }

answered_on : (tells : Bool) (b : Begun) (x y : World) → WasAnswered x y → WasAnswered (told_world tells b x) (told_world tells b y)
answered_on tells b x y (inl same) = inl (ap (told_world tells b) same)
answered_on tells b x y (inr is) = inr (unrefused_on tells b x y is)

pub asks_on : {T : Type 0} (tells : Bool) (b : Begun) (x y : World) → GoesOn tells b x → (IsTrue tells → BeginsTold b) → LooksAreTold → (r : Result T SiteFault)
    → Asks tells x y r → Asks tells (told_world tells b x) (told_world tells b y) r
asks_on tells b x y so_far begins law r asks = record {
  looks = looks_on tells b x y so_far begins law asks.looks;
  waits = waits_on tells b x y asks.waits;
  ok = ok_on r (answered_on tells b x y) asks.ok;
  err = err_on r (cause_on tells b x y r) asks.err;
}
