-- What holds where there is nothing.
use Rattle.std.proofs.Common.{◌≡◌, MatchOption, Option, Some, None}

pub none_of : {T : Type 0} (o : Option T) (P : Type 0) (Q : T → Type 0) → o ≡ None → MatchOption o P Q → P
none_of {T} (Some y) P Q is h = cc
none_of {T} None P Q is h = h
