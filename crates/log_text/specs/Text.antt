-- The text of a log, and how it ends.
use Rattle.std.specs.Prelude.{◌≡◌, ◌≢◌, ℕ, List, [], ◌∷◌, ◌++◌, ◌⊎◌}
use Rattle.text.specs.Marks.{Lacks}
use Rattle.log_text.specs.declared.form.Version.{Version}
use Rattle.log_text.specs.declared.form.Version.TheVariants.{One, Two}
use Rattle.log_text.specs.declared.tail.Tail.{Tail}
use Rattle.log_text.specs.declared.tail.Tail.TheVariants.{Whole, Old, Torn, Damaged}
use Rattle.log_text.specs.Form.{Form, lines_text, HaveLines}

abbrev pub header : {R : Type 0} → Form R → List ℕ
header form = form.first ++ 10 ∷ []

-- the text is the whole log of these records: the first line and theirs
pub record IsLogOf {R : Type 0} (form : Form R) (text : List ℕ) (records : List R) : Type 0 where
  pub lines : text ≡ header form ++ lines_text form records
  pub fit : HaveLines form records

-- a beginning of the first line, without a line feed
pub record IsTornHeader {R : Type 0} (form : Form R) (bytes : List ℕ) (records : List R) : Type 0 where
  pub some : bytes ≢ []
  pub lacks : Lacks 10 bytes
  pub rest : List ℕ
  pub begins : header form ≡ bytes ++ rest
  pub none : records ≡ []

-- a log, and bytes without a line feed behind it
pub record IsTornLine {R : Type 0} (form : Form R) (bytes : List ℕ) (records : List R) : Type 0 where
  pub whole : List ℕ
  pub rest : List ℕ
  pub parts : bytes ≡ whole ++ rest
  pub some : rest ≢ []
  pub lacks : Lacks 10 rest
  pub log : IsLogOf form whole records

-- nothing at all, or a log of this form
abbrev pub IsEnded : {R : Type 0} → Form R → List ℕ → List R → Type 0
IsEnded form bytes records = ((bytes ≡ []) × (records ≡ [])) ⊎ IsLogOf form bytes records

abbrev pub IsTornOf : {R : Type 0} → Form R → List ℕ → List R → Type 0
IsTornOf form bytes records = IsTornHeader form bytes records ⊎ IsTornLine form bytes records

-- of either version
abbrev pub IsTorn : {R : Type 0} → (Version → Form R) → List ℕ → List R → Type 0
IsTorn forms bytes records = (version : Version) × IsTornOf (forms version) bytes records

-- neither a whole log nor an old nor a torn one
pub record IsDamaged {R : Type 0} (forms : Version → Form R) (bytes : List ℕ) : Type 0 where
  pub not_ended : (version : Version) (records : List R) → IsEnded (forms version) bytes records → ⊥
  pub not_torn : (records : List R) → IsTorn forms bytes records → ⊥

-- these are the records of the bytes, and this is how they end; a damaged log has no records
abbrev pub IsRead : {R : Type 0} → (Version → Form R) → List ℕ → List R → Tail → Type 0
IsRead forms bytes records Whole = IsEnded (forms Two) bytes records
IsRead forms bytes records Old = IsLogOf (forms One) bytes records
IsRead forms bytes records Torn = IsTorn forms bytes records
IsRead forms bytes records Damaged = (records ≡ []) × IsDamaged forms bytes

-- of each log of this form
abbrev pub OfLogs : {R : Type 0} → Form R → (List ℕ → List R → Type 0) → Type 0
OfLogs {R} form P = (text : List ℕ) (records : List R) → IsLogOf form text records → P text records

-- how each log of this version ends with these bytes behind it
abbrev pub EndsBehind : {R : Type 0} → (Version → Form R) → Version → List ℕ → Tail → Type 0
EndsBehind forms version rest tail = OfLogs (forms version) (λ text records. IsRead forms (text ++ rest) records tail)

-- whole lines
abbrev pub EndsLine : List ℕ → Type 0
EndsLine bytes = (bytes ≡ []) ⊎ ((front : List ℕ) × (bytes ≡ front ++ 10 ∷ []))
