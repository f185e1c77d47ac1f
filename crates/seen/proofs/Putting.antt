-- Lines that are put behind the notes.
use Rattle.std.proofs.Common.{◌≡◌, ℕ, Bool, List, [], ◌∷◌, ◌++◌, Option, Some, None, Result, Ok, Err, inl, inr, refl, sym, subst, arith}
use Rattle.std.specs.Prelude.{◌==◌, IsErr, OnErr, OnOk, false, true, length}
use Rattle.std.proofs.lemmas.Bool.{eqb-true, false≢true}
use Rattle.model.specs.declared.fault.SiteFault.{SiteFault}
use Rattle.model.specs.World.{World}
use Rattle.model.specs.Calls.{Appends, OnlyLooks, Writes}
use Rattle.seen.specs.Begun.{Begun, told_world}
use Rattle.seen.specs.Noting.{Grows, MayReplace, PutsBehind, PutsLines}
use Rattle.seen.specs.First.{IsNotedFirst, NotesFirst}

-- where there is nothing to put
none_in : (lines : List ℕ) → length lines ≡ 0 → lines ≡ []
none_in [] e = refl
none_in (b ∷ lines) e = absurd (omega arith)

pub puts_none : (tells : Bool) (path lines : List ℕ) (w : World) → true ≡ (length lines == 0) → PutsLines tells path lines w w
puts_none tells path lines w is = inl (none_in lines (eqb-true (length lines) 0 (sym is)), refl)

pub puts_them : (tells : Bool) (path lines : List ℕ) (old between new : World) → MayReplace tells path old between → Appends tells path lines between new → PutsLines tells path lines old new
puts_them tells path lines old between new before puts = inr (record { between = between; before = before; puts = puts })

pub may_not : {T : Type 0} (tells : Bool) (path : List ℕ) (w : World) (r : Result T SiteFault) → OnOk r (MayReplace tells path w w)
may_not tells path w (Ok v) = inl refl
may_not tells path w (Err fault) = tt

pub may_replace : {T : Type 0} (tells : Bool) (path base : List ℕ) (old new : World) (r : Result T SiteFault) → OnOk r (Writes tells path (Some base) old new) → OnOk r (MayReplace tells path old new)
may_replace tells path base old new (Ok v) is = inr (base, is)
may_replace tells path base old new (Err fault) is = tt

-- ---- before a record

pub first_noted : (tells : Bool) (b : Begun) (notes before lines : List ℕ) (old asked new : World) → OnlyLooks tells (told_world tells b old) (told_world tells b asked) → Grows before lines → PutsLines tells notes lines asked new → NotesFirst tells b notes before old new
first_noted tells b notes before lines old asked new looks grows puts = record {
  more = grows.0;
  asked = asked;
  looks = looks;
  puts = subst (λ (l : List ℕ). PutsLines tells notes l asked new) grows.1 puts;
}

pub noted_first : {T : Type 0} (tells : Bool) (b : Begun) (notes lines path bytes : List ℕ) (old noted new : World) (r : Result T SiteFault)
    → NotesFirst tells b notes lines old noted → OnOk r (Appends tells path bytes (told_world tells b noted) (told_world tells b new)) → OnOk r (IsNotedFirst tells b notes lines path bytes old new)
noted_first tells b notes lines path bytes old noted new (Ok x) first appends = record { noted = noted; first = first; appends = appends }
noted_first tells b notes lines path bytes old noted new (Err fault) first appends = tt

pub ok_always : {T P : Type 0} (r : Result T SiteFault) → P → OnOk r P
ok_always (Ok x) is = is
ok_always (Err fault) is = tt

pub err_always : {T P : Type 0} (r : Result T SiteFault) → P → OnErr r P
err_always (Ok x) is = tt
err_always (Err fault) is = is

pub ok_never : {T : Type 0} (P : Type 0) (r : Result T SiteFault) → IsErr r → OnOk r P
ok_never P (Ok x) is = absurd (false≢true is)
ok_never P (Err fault) is = tt
