-- What is in force in the build log, in the words of the model.
use Rattle.std.proofs.Common.{◌≡◌, ◌<◌, ◌+◌, ℕ, zero, suc, Bool, true, false, cond, List, [], ◌∷◌, ◌++◌, length, map, Option, Some, None, slice_get, refl, sym, ap, ◌∙◌, subst, arith, append_assoc, append-nil}
use Rattle.std.specs.Option.{option_map, option_and_then}
use Rattle.std.proofs.lemmas.List.{map-append}
use Rattle.std.proofs.lemmas.List.Concat.{flat_map-append}
use Rattle.model.specs.declared.record.Record.{Record}
use Rattle.model.specs.declared.record.Record.TheVariants.{Begun, Done as DoneRecord}
use Rattle.model.specs.Graph.{has}
use Rattle.model.specs.Records.{Made, in_force, in_force_from as model_from}
use Rattle.log_text.specs.declared.done.Done.{Done}
use Rattle.log_text.specs.declared.form.Version.TheVariants.{Two}
use Rattle.log_text.specs.Form.{record_line, lines_text, HaveLines, IsAppended}
use Rattle.log_text.specs.Text.{header}
use Rattle.log_text.specs.Kept.{Saying, Telling, tellings, tolds, told_from, told_of, place_of, left_to, outputs_at, some_of, Table, IsTableOf}
use Rattle.log_text.specs.BuildRecord.{forms, outputs_of}
use Rattle.log_text.specs.BuildLog.{made_of, saying, done_record, Keeps, makings, IsLog}
use Rattle.log_text.specs.Written.{left_of, written_of, IsWritten}
use Rattle.log_text.proofs.Lookups.{got, told_place, first_in_force, first_next}
use Rattle.log_text.proofs.LawLemmas.{HaveLines-append}

map-cond : (b : Bool) (x y : Option Done) → option_map made_of (cond b x y) ≡ cond b (option_map made_of x) (option_map made_of y)
map-cond true x y = refl
map-cond false x y = refl

in_force_told_from : (records : List Record) (o : List ℕ) (held : Option Done) → model_from o (option_map made_of held) records ≡ option_map made_of (told_from o held (map saying records))
in_force_told_from [] o held = refl
in_force_told_from (Begun os ∷ rs) o held =
    ap (λ (h : Option Made). model_from o h rs) (sym (map-cond (has os o) None held)) ∙ in_force_told_from rs o (cond (has os o) None held)
in_force_told_from (DoneRecord os start act ∷ rs) o held =
    ap (λ (h : Option Made). model_from o h rs) (sym (map-cond (has os o) (Some (record { start = start; act = act })) held)) ∙ in_force_told_from rs o (cond (has os o) (Some (record { start = start; act = act })) held)

-- what is in force is what is told of the output
pub in_force_told : (records : List Record) (o : List ℕ) → in_force records o ≡ option_map made_of (told_of (map saying records) o)
in_force_told records o = in_force_told_from records o None

get-makings : (ts : List (Telling Done)) (n : ℕ) → slice_get (map (λ t. made_of t.1) ts) n ≡ option_map made_of (slice_get (map (λ t. t.1) ts) n)
get-makings [] n = refl
get-makings (t ∷ ts) zero = refl
get-makings (t ∷ ts) (suc n) = get-makings ts n

pub making_at : (records : List Record) (n : ℕ) (found : Option Done) → found ≡ slice_get (tolds (map saying records)) n → option_map made_of found ≡ slice_get (makings records) n
making_at records n found e = ap (option_map made_of) e ∙ sym (get-makings (tellings (map saying records)) n)

found_at : (records : List Record) (p : Option ℕ) → option_and_then (slice_get (makings records)) p ≡ option_map made_of (got (tolds (map saying records)) p)
found_at records None = refl
found_at records (Some n) = get-makings (tellings (map saying records)) n

pub making_found : (records : List Record) (o : List ℕ) (p : Option ℕ) → p ≡ place_of (map saying records) o → option_and_then (slice_get (makings records)) p ≡ in_force records o
making_found records o p e =
    found_at records p ∙ (ap (λ (q : Option ℕ). option_map made_of (got (tolds (map saying records)) q)) e ∙ (ap (option_map made_of) (sym (told_place (map saying records) o)) ∙ sym (in_force_told records o)))

pub made_found : (records : List Record) (o : List ℕ) (found : Option Done) → found ≡ told_of (map saying records) o → option_map made_of found ≡ in_force records o
made_found records o found e = ap (option_map made_of) e ∙ sym (in_force_told records o)

-- ---- one record more

pub keeps_more : (records : List Record) (r : Record) (said : Saying Done) (log : Table Done) → saying r ≡ said → IsTableOf (map saying records ++ said ∷ []) log → Keeps (records ++ r ∷ []) log
keeps_more records r said log e is = subst (λ (l : List (Saying Done)). IsTableOf l log) (sym (map-append saying records (r ∷ []) ∙ ap (λ (s : Saying Done). map saying records ++ s ∷ []) e)) is

pub said_outputs : (r : Record) (said : Saying Done) → saying r ≡ said → outputs_of r ≡ said.0
said_outputs (Begun os) said e = ap (λ (s : Saying Done). s.0) e
said_outputs (DoneRecord os start act) said e = ap (λ (s : Saying Done). s.0) e

-- ---- compaction

record_of-some : (outputs : List (List ℕ)) (done : Done) → 0 < length outputs → map done_record (some_of outputs done) ≡ DoneRecord outputs done.start done.act ∷ []
record_of-some [] done lt = absurd (omega arith)
record_of-some (o ∷ os) done lt = refl

-- a line was written
pub wrote : (all : List (Saying Done)) (n : ℕ) (outputs : List (List ℕ)) (done : Done) (old new : List ℕ) → Some done ≡ slice_get (tolds all) n → outputs ≡ left_to all n (outputs_at (tellings all) n) → 0 < length outputs → IsAppended (forms Two) (DoneRecord outputs done.start done.act) old new → IsWritten all n old new
wrote all n outputs done old new at e lt appended =
    let is : written_of all n ≡ DoneRecord outputs done.start done.act ∷ [] = ap (left_of all n) (sym at) ∙ (ap (λ (os : List (List ℕ)). map done_record (some_of os done)) (sym e) ∙ record_of-some outputs done lt) in
    record {
      text = appended.text ∙ ap (λ (xs : List ℕ). old ++ xs) (sym (ap (lines_text (forms Two)) is ∙ append-nil (record_line (forms Two) (DoneRecord outputs done.start done.act))));
      fit = subst (HaveLines (forms Two)) (sym is) (appended.has, tt);
    }

-- the text so far is the log of the first records in force
abbrev pub IsBegun : List (Saying Done) → ℕ → List ℕ → Type 0
IsBegun all n text = IsLog text (map done_record (first_in_force all n))

pub next_written : (all : List (Saying Done)) (n : ℕ) (old new : List ℕ) → n < length (tellings all) → IsBegun all n old → IsWritten all n old new → IsBegun all (n + 1) new
next_written all n old new lt log step =
    let next = first_next all n lt in
    let written : written_of all n ≡ map done_record (some_of (left_to all n (outputs_at (tellings all) n)) next.0) = ap (left_of all n) next.2 in
    let more : map done_record (first_in_force all (n + 1)) ≡ map done_record (first_in_force all n) ++ written_of all n = ap (map done_record) next.1 ∙ (map-append done_record (first_in_force all n) (some_of (left_to all n (outputs_at (tellings all) n)) next.0) ∙ ap (λ (l : List Record). map done_record (first_in_force all n) ++ l) (sym written)) in
    let records = map done_record (first_in_force all n) in
    record {
      lines = step.text ∙ (ap (λ (xs : List ℕ). xs ++ lines_text (forms Two) (written_of all n)) log.lines ∙ (append_assoc (header (forms Two)) (lines_text (forms Two) records) (lines_text (forms Two) (written_of all n)) ∙ ap (λ (xs : List ℕ). header (forms Two) ++ xs) (sym (ap (lines_text (forms Two)) more ∙ flat_map-append (record_line (forms Two)) records (written_of all n)))));
      fit = subst (HaveLines (forms Two)) (sym more) (HaveLines-append (forms Two) records (written_of all n) log.fit step.fit);
    }
