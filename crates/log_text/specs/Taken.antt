-- Numbers of texts whose fields stand in front of bytes.
use Rattle.std.specs.Prelude.{◌≡◌, ◌<◌, ◌≤◌, ℕ, List, ◌++◌, Option, Some, Result, length, slice_get}
use Rattle.std.specs.Borrow.{Bor}
use Rattle.std.specs.List.{flat_map}
use Rattle.std.specs.Str.{IsUtf8}
use Rattle.log_text.specs.Line.{field_and_tab, AreTexts}
use Rattle.log_text.specs.Answered.{IfFound}
use Rattle.log_text.specs.Kept.{AreNumbersOf}

-- the fields of so many texts, which have these numbers, stand in front of the bytes, and the rest behind them
pub record AreTakenFrom (known : List (List ℕ)) (bytes : List ℕ) (count : ℕ) (numbers : List ℕ) (rest : List ℕ) : Type 0 where
  pub texts : List (List ℕ)
  pub spelled : bytes ≡ flat_map field_and_tab texts ++ rest
  pub utf8 : AreTexts texts
  pub many : length texts ≡ count
  pub numbered : AreNumbersOf known numbers texts

-- the fields of the texts with these numbers stand in front of the bytes, and the rest behind them
abbrev pub AreTaken : List (List ℕ) → List ℕ → List ℕ → List ℕ → Type 0
AreTaken known bytes numbers rest = AreTakenFrom known bytes (length numbers) numbers rest

-- the field of the text with this number stands in front of the bytes, and the rest behind it
abbrev pub IsTaken : List (List ℕ) → List ℕ → ℕ → List ℕ → Type 0
IsTaken known bytes n rest = (t : List ℕ) × (slice_get known n ≡ Some t) × IsUtf8 t × (bytes ≡ field_and_tab t ++ rest)

-- the numbers of texts whose fields stand in front of the bytes, one at least and so many at most, were put behind the old ones
pub record SomeAreTakenBehind (known : List (List ℕ)) (old bytes : List ℕ) (most : ℕ) (new rest : List ℕ) : Type 0 where
  pub more : List ℕ
  pub pushed : new ≡ old ++ more
  pub some : 0 < length more
  pub few : length more ≤ most
  pub taken : AreTakenFrom known bytes (length more) more rest

-- the numbers of texts whose fields stand in front of the bytes, so many at most, were put behind the old ones
pub record AreTakenBehind (known : List (List ℕ)) (old bytes : List ℕ) (most : ℕ) (new rest : List ℕ) : Type 0 where
  pub more : List ℕ
  pub pushed : new ≡ old ++ more
  pub few : length more ≤ most
  pub taken : AreTakenFrom known bytes (length more) more rest

-- where something was found, that is so of it
abbrev pub TakesSome : {E : Type 0} → Result (Option (Bor (List ℕ))) E → List (List ℕ) → List ℕ → ℕ → List ℕ → List ℕ → Type 0
TakesSome result known bytes most old new = IfFound result (λ rest. SomeAreTakenBehind known old bytes most new rest.now)
