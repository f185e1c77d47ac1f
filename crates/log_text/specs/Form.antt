-- How the text of a log is put together of lines, whatever its records are.
use Rattle.std.specs.Prelude.{◌≡◌, ℕ, List, [], ◌∷◌, ◌++◌, ◌⊎◌}
use Rattle.std.specs.List.{flat_map, AllByRecursion}
use Rattle.text.specs.Marks.{Lacks}
use Rattle.log_text.specs.declared.form.Version.{Version}
use Rattle.log_text.specs.declared.form.Version.TheVariants.{One, Two}
use Rattle.log_text.specs.Line.{line_text, AreTexts}

-- one version of a log: its first line without the line feed, the fields of a record's line, and which records have a line
pub record Form (R : Type 0) : Type 1 where
  pub first : List ℕ
  pub fields : R → List (List ℕ)
  pub Fits : R → Type 0

-- a record that has a line, of which each field is a text
pub record HasLine {R : Type 0} (form : Form R) (r : R) : Type 0 where
  pub fits : form.Fits r
  pub texts : AreTexts (form.fields r)

-- the line of a record, with its line feed
abbrev pub record_line : {R : Type 0} → Form R → R → List ℕ
record_line form r = line_text (form.fields r) ++ 10 ∷ []

abbrev pub lines_text : {R : Type 0} → Form R → List R → List ℕ
lines_text form records = flat_map (record_line form) records

abbrev pub HaveLines : {R : Type 0} → Form R → List R → Type 0
HaveLines form = AllByRecursion (HasLine form)

-- the fields are no record's
abbrev pub AreNoRecord : {R : Type 0} → Form R → List (List ℕ) → Type 0
AreNoRecord {R} form fields = (r : R) → form.Fits r → fields ≡ form.fields r → ⊥

-- the line is no record's
abbrev pub IsNoLineOf : {R : Type 0} → Form R → List ℕ → Type 0
IsNoLineOf {R} form line = (r : R) → HasLine form r → line ≡ line_text (form.fields r) → ⊥

-- the lines are no records'
abbrev pub AreNoLinesOf : {R : Type 0} → Form R → List ℕ → Type 0
AreNoLinesOf {R} form lines = (records : List R) → HaveLines form records → lines ≡ lines_text form records → ⊥

-- these bytes are the line of this record, which has one
pub record IsLineOf {R : Type 0} (form : Form R) (r : R) (line : List ℕ) : Type 0 where
  pub spelled : line ≡ record_line form r
  pub has : HasLine form r

-- the line of this record, which has one, was written behind the old text
pub record IsAppended {R : Type 0} (form : Form R) (r : R) (old new : List ℕ) : Type 0 where
  pub text : new ≡ old ++ record_line form r
  pub has : HasLine form r

-- the fields are those of a record that has a line, or of none
abbrev pub IsRecordOrNone : {R : Type 0} → Form R → List (List ℕ) → Type 0
IsRecordOrNone {R} form fields = ((r : R) × (fields ≡ form.fields r) × form.Fits r) ⊎ AreNoRecord form fields

-- what makes texts of both versions readable in one way: a line is of one record, the first line tells the version, and of any
-- fields it can be told whether they are a record's
pub record IsReadable {R : Type 0} (forms : Version → Form R) : Type 0 where
  pub one_record : (version : Version) (r s : R) → (forms version).Fits r → (forms version).Fits s → (forms version).fields r ≡ (forms version).fields s → r ≡ s
  pub one_line : (version : Version) → Lacks 10 (forms version).first
  pub differ : (forms One).first ≡ (forms Two).first → ⊥
  pub decided : (version : Version) (fields : List (List ℕ)) → IsRecordOrNone (forms version) fields
