-- What is reached by a line has all that was reached before it.
use Rattle.std.proofs.Common.{◌≡◌, ◌⊎◌, inl, inr, ℕ, Bool, true, false, List, [], ◌∷◌, ◌++◌, Option, Some, None, refl, sym, ap, ◌∙◌, subst, append_assoc, append-nil}
use Rattle.std.specs.Prelude.{◌&&◌, is_some, not, option_map, option_and_then, codes, if◌then◌else◌}
use Rattle.trace.specs.declared.fact.Fact.{Fact}
use Rattle.trace.specs.declared.processes.Known.{Known}
use Rattle.trace.specs.declared.lines.Reached.{Reached}
use Rattle.trace.specs.Marks.{cut}
use Rattle.trace.specs.Arguments.{is_nothing}
use Rattle.trace.specs.Calls.{begins}
use Rattle.trace.specs.Facts.{call_of}
use Rattle.trace.specs.Processes.{first_forking, is_calling, is_none, known_or_new}
use Rattle.trace.specs.Steps.{step_of}
use Rattle.trace.specs.Lines.{after, after_all, after_body, after_call, after_end, after_step, after_text, after_text_of, after_whole, all_done, begins_call, is_end, is_undone, lines_of, nothing_yet, numbered, settled, stepped, whole, without_ended}
use Rattle.trace.specs.Kept.{EachLineIsTold, TellsLine}

some_same : {A : Type 0} (x y : A) → Some x ≡ Some y → x ≡ y
some_same x y e = cc

none_some : {A : Type 0} {P : Type 0} (x : A) → None ≡ Some x → P
none_some x e = absurd (cc)

then_some : {A B : Type 0} (f : A → Option B) (o : Option A) (b : B) → option_and_then f o ≡ Some b → (a : A) × (o ≡ Some a) × (f a ≡ Some b)
then_some f None b e = none_some b e
then_some f (Some a) b e = (a, refl, e)

mapped_some : {A B : Type 0} (f : A → B) (o : Option A) (b : B) → option_map f o ≡ Some b → (a : A) × (o ≡ Some a) × (f a ≡ b)
mapped_some f None b e = none_some b e
mapped_some f (Some a) b e = (a, refl, some_same (f a) b e)

cases_if : {A : Type 0} (b : Bool) (x y z : A) → (if b then x else y) ≡ z → ((b ≡ true) × (x ≡ z)) ⊎ ((b ≡ false) × (y ≡ z))
cases_if true x y z e = inl (refl, e)
cases_if false x y z e = inr (refl, e)

-- all facts of the one are the first of the other
abbrev Grows : Reached → Reached → Type 0
Grows old new = (more : List Fact) × (new.facts ≡ old.facts ++ more)

same_facts : (old new : Reached) → old.facts ≡ new.facts → Grows old new
same_facts old new e = ([], sym e ∙ sym (append-nil old.facts))

kept_facts : (reached : Reached) → reached.facts ≡ (settled reached).facts
kept_facts reached = by (is_some (first_forking reached.processes))
  where
    by : (starting : Bool) → reached.facts ≡ (if starting then reached else record reached { ended = [] }).facts
    by true = refl
    by false = refl

grows_by_call : (old new : Reached) (known : Known) (text : List ℕ) → after_call old known text ≡ Some new → Grows old new
grows_by_call old new known text e =
    let found = mapped_some (after_step old known.number) (option_and_then (step_of known) (call_of text)) new e in
    (found.0.facts, ap (λ (r : Reached). r.facts) (sym found.2) ∙ sym (kept_facts (stepped old known.number found.0)))

grows_by_end : (old new : Reached) (number : List ℕ) → after_end old number ≡ Some new → Grows old new
grows_by_end old new number e = elim (cases_if (is_calling number old.processes) None (Some (settled (without_ended old number))) (Some new) e) [
  | inl calling ↦ none_some new calling.1
  | inr ended ↦ same_facts old new (kept_facts (without_ended old number) ∙ ap (λ (r : Reached). r.facts) (some_same (settled (without_ended old number)) new ended.1))
]

grows_by_whole : (old new : Reached) (known : Known) (body : List ℕ) (parts : Option (List ℕ × List ℕ)) → after_whole old known body parts ≡ Some new → Grows old new
grows_by_whole old new known body None e = grows_by_call old new known body e
grows_by_whole old new known body (Some parts) e = elim (cases_if (is_nothing parts.1) (Some (begins_call old known parts.0)) None (Some new) e) [
  | inl begun ↦ same_facts old new (ap (λ (r : Reached). r.facts) (some_same (begins_call old known parts.0) new begun.1))
  | inr other ↦ none_some new other.1
]

grows_by_text : (old new : Reached) (known : Known) (body : List ℕ) → after_text old known body ≡ Some new → Grows old new
grows_by_text old new known body e =
    elim (cases_if (begins (codes "<... ") body) (option_and_then (after_call old known) (whole known.begun body)) (after_whole old known body (cut (codes " <unfinished ...>") body)) (Some new) e) [
      | inl ends ↦ let found = then_some (after_call old known) (whole known.begun body) new ends.1 in grows_by_call old new known found.0 found.2
      | inr one ↦ grows_by_whole old new known body (cut (codes " <unfinished ...>") body) one.1
    ]

grows_by_body : (start : List ℕ) (old new : Reached) (parts : List ℕ × List ℕ) → after_body start old parts ≡ Some new → Grows old new
grows_by_body start old new parts e =
    let text = after_text old (known_or_new start parts.0 old.processes) parts.1 in
    elim (cases_if (is_end parts.1) (after_end old parts.0) (if begins (codes "--- ") parts.1 then Some old else text) (Some new) e) [
      | inl ended ↦ grows_by_end old new parts.0 ended.1
      | inr rest ↦ elim (cases_if (begins (codes "--- ") parts.1) (Some old) text (Some new) rest.1) [
        | inl signal ↦ same_facts old new (ap (λ (r : Reached). r.facts) (some_same old new signal.1))
        | inr made ↦ grows_by_text old new (known_or_new start parts.0 old.processes) parts.1 made.1
      ]
    ]

grows : (start : List ℕ) (old new : Reached) (line : List ℕ) → after start old line ≡ Some new → Grows old new
grows start old new line e = let found = then_some (after_body start old) (numbered line) new e in grows_by_body start old new found.0 found.2

grows_by_all : (start : List ℕ) (old : Reached) (lines : List (List ℕ)) (new : Reached) → after_all start old lines ≡ Some new → Grows old new
grows_by_all start old [] new e = same_facts old new (ap (λ (r : Reached). r.facts) (some_same old new e))
grows_by_all start old (line ∷ lines) new e =
    let found = then_some (λ (next : Reached). after_all start next lines) (after start old line) new e in
    let first = grows start old found.0 line found.1 in
    let rest = grows_by_all start found.0 lines new found.2 in
    (first.0 ++ rest.0, rest.1 ∙ (ap (λ (fs : List Fact). fs ++ rest.0) first.1 ∙ append_assoc old.facts first.0 rest.0))

line_told : (start : List ℕ) (front : List (List ℕ)) (old : Reached) (line : List ℕ) (back : List (List ℕ)) (last : Reached) → after_all start old (front ++ line ∷ back) ≡ Some last → TellsLine start line last.facts
line_told start [] old line back last e =
    let found = then_some (λ (next : Reached). after_all start next back) (after start old line) last e in
    let first = grows start old found.0 line found.1 in
    let rest = grows_by_all start found.0 back last found.2 in
    record { before = old; next = found.0; is = found.1; new = first.0; adds = first.1; later = rest.0; kept = rest.1 }
line_told start (other ∷ front) old line back last e =
    let found = then_some (λ (next : Reached). after_all start next (front ++ line ∷ back)) (after start old other) last e in
    line_told start front found.0 line back last found.2

pub each_line : EachLineIsTold
each_line start trace facts e =
    let read = then_some all_done (after_text_of start nothing_yet trace) facts e in
    let last = read.0 in
    let rows = then_some (after_all start nothing_yet) (lines_of trace) last read.1 in
    let lines = rows.0 in
    elim (cases_if (is_none last.processes && not (is_undone last.facts)) (Some last.facts) None (Some facts) read.2) [
      | inl done ↦ record {
        lines = lines;
        are = rows.1;
        each = λ front line back is. subst (TellsLine start line) (some_same last.facts facts done.1)
            (line_told start front nothing_yet line back last (subst (λ (ls : List (List ℕ)). after_all start nothing_yet ls ≡ Some last) is rows.2));
      }
      | inr other ↦ none_some facts other.1
    ]
