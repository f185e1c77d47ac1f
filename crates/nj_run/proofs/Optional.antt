-- Options, taken apart.
use Rattle.std.proofs.Common.{◌≡◌, Option, Some, IfSome, subst}

-- what is so of the value that there is
pub some_so : {T : Type 0} (P : T → Type 0) (o : Option T) (x : T) → o ≡ Some x → IfSome o P → P x
some_so {T} P o x is so = subst (λ (r : Option T). IfSome r P) is so
