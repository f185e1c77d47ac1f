-- What is told of edges beside the manifest: names of rules, and marks of generators.
use Rattle.std.proofs.Common.{◌≡◌, ℕ, zero, suc, ◌<◌, ◌+◌, inl, inr, Bool, true, false, List, [], ◌∷◌, ◌++◌, length, take, get_or, map, not, Option, Some, None, Result, Ok, Err, IsErrAnd, refl, sym, ap, ◌∙◌, subst, arith}
use Rattle.std.specs.Prelude.{◌⊎◌, ◌≤◌, ◌↔◌, IfOk, IsTrue, slice_get}
use Rattle.std.proofs.lemmas.Bool.{false≢true}
use Rattle.std.specs.List.{AllByRecursion}
use Rattle.std.specs.Map.Iter.{deref}
use Rattle.std.specs.Option.{option_map}
use Rattle.std.specs.declared.alloc.Global.{Global}
use Rattle.std.specs.declared.rc.Rc.{Rc}
use Rattle.std.proofs.lemmas.List.{length-map, map-append, take_more}
use Rattle.paths.specs.declared.line.Line.{Line}
use Rattle.paths.specs.declared.manifest.Manifest.{Manifest}
use Rattle.paths.specs.Lists.{line_at}
use Rattle.paths.specs.Numbers.{IsAdded}
use Rattle.paths.specs.Told.{text_at, texts_at}
use Rattle.scopes.specs.declared.all_scopes.Scopes.{Scopes}
use Rattle.scopes.specs.declared.template.Rule.{Rule}
use Rattle.scopes.specs.declared.fault.UseFault.{UseFault}
use Rattle.scopes.specs.declared.fault.UseFault.TheVariants.{Memory as UseMemory, Circle as UseCircle, TooLarge as UseTooLarge}
use Rattle.scopes.specs.declared.usage.Use.{Use}
use Rattle.scopes.specs.Large.{IsTooLargeIn, IsValueIn}
use Rattle.scopes.specs.Use.{opened, HasCircle}
use Rattle.scopes.specs.Texts.{largest_value}
use Rattle.manifest.specs.declared.described.Described.{Described}
use Rattle.manifest.specs.declared.fault.ReadError.{ReadError}
use Rattle.manifest.specs.declared.kept.Declared.{Declared}
use Rattle.manifest.specs.declared.kept.ReadEdge.{ReadEdge}
use Rattle.manifest.specs.Described.{generator, manifest_in, AreNamesOf, DescribesLines, IsPlainUse, LeavesNoMark, Marks, MarksEdge, MarksIfRule, MarksRule}
use Rattle.manifest.specs.InNumbers.{AreBelow}
use Rattle.manifest.proofs.Added.{added_one, at_is, texts_grow, below_both, below_more, longer_length}

abbrev pub name_of : ReadEdge → List ℕ
name_of edge = edge.rule_name

-- ---- names

-- one name more has its number
pub names_next : (edges : List ReadEdge) (i : ℕ) (edge : ReadEdge) (old new : List (List ℕ)) (before after : List ℕ) (number : ℕ) (name : List ℕ) → i < length edges → edge ≡ get_or edges i edge
    → IsAdded old new name number → name ≡ edge.rule_name → AreBelow (length old) before → texts_at old before ≡ map name_of (take i edges) → after ≡ before ++ number ∷ []
    → texts_at new after ≡ map name_of (take (i + 1) edges)
names_next edges i edge old new before after number name low is added named below was pushed =
    let one = added_one old new name number added in
    let here : text_at new number ≡ edge.rule_name = (at_is new number name added.at).1 ∙ named in
    let more : take (i + 1) edges ≡ take i edges ++ edge ∷ [] = take_more edges i edge low ∙ ap (λ (e : ReadEdge). take i edges ++ e ∷ []) (sym is) in
    ap (texts_at new) pushed ∙ (texts_grow old new before number one.grows below ∙ (ap (λ (l : List (List ℕ)). l ++ text_at new number ∷ []) was
    ∙ (ap (λ (t : List ℕ). map name_of (take i edges) ++ t ∷ []) here ∙ (sym (map-append name_of (take i edges) (edge ∷ [])) ∙ ap (map name_of) (sym more)))))

-- and all numbers are those of names
pub below_next : (old new : List (List ℕ)) (before after : List ℕ) (number : ℕ) (name : List ℕ) → IsAdded old new name number → AreBelow (length old) before → after ≡ before ++ number ∷ [] → AreBelow (length new) after
below_next old new before after number name added below pushed =
    let one = added_one old new name number added in
    subst (AreBelow (length new)) (sym pushed) (below_both (length new) before (number ∷ []) (below_more (length old) (length new) before (longer_length old new one.grows) below) one.within)

pub named_count : (edges : List ReadEdge) (names : List (List ℕ)) (numbers : List ℕ) → AreNamesOf edges names numbers → length numbers ≡ length edges
named_count edges names numbers are = sym (length-map numbers (text_at names)) ∙ (ap length are ∙ length-map edges name_of)

-- ---- marks

pub at_each : (P : ReadEdge → Type 0) (edges : List ReadEdge) (i : ℕ) (edge : ReadEdge) → i < length edges → edge ≡ get_or edges i edge → AllByRecursion P edges → P edge
at_each P edges i edge low is all = subst P (sym is) (by edges i low all)
  where
    by : (es : List ReadEdge) (k : ℕ) → k < length es → AllByRecursion P es → P (get_or es k edge)
    by [] k h all = absurd (omega arith)
    by (e ∷ es) zero h all = all.0
    by (e ∷ es) (suc k) h all = by es k (omega arith) all.1

-- the place of a list and one behind it
got_pushed : (xs : List Bool) (x : Bool) (e : ℕ) (y : Bool) → slice_get (xs ++ x ∷ []) e ≡ Some y → (slice_get xs e ≡ Some y) ⊎ ((e ≡ length xs) × (x ≡ y))
got_pushed [] x zero y is = inr (refl, cc)
got_pushed [] x (suc e) y is = absurd (cc)
got_pushed (a ∷ xs) x zero y is = inl is
got_pushed (a ∷ xs) x (suc e) y is = further (got_pushed xs x e y is)
  where
    further : (slice_get xs e ≡ Some y) ⊎ ((e ≡ length xs) × (x ≡ y)) → (slice_get (a ∷ xs) (suc e) ≡ Some y) ⊎ ((suc e ≡ length (a ∷ xs)) × (x ≡ y))
    further (inl at) = inl at
    further (inr at) = inr (ap suc at.0, at.1)

got_edge : (edges : List ReadEdge) (i : ℕ) (edge other : ReadEdge) → i < length edges → edge ≡ get_or edges i edge → slice_get edges i ≡ Some other → edge ≡ other
got_edge [] i edge other low is at = absurd (omega arith)
got_edge (e ∷ edges) zero edge other low is at = let same : Some e ≡ Some other = at in is ∙ cc
got_edge (e ∷ edges) (suc i) edge other low is at = got_edge edges i edge other (omega arith) is at

-- each edge up to here has its mark
abbrev pub AreMarked : Declared → List Bool → Type 0
AreMarked declared marks = (e : ℕ) (edge : ReadEdge) (mark : Bool) → slice_get declared.edges.items e ≡ Some edge → slice_get marks e ≡ Some mark → MarksEdge declared e edge mark

pub marked_none : (declared : Declared) (marks : List Bool) → marks ≡ [] → AreMarked declared marks
marked_none declared marks none = subst (AreMarked declared) (sym none) (λ e edge mark at is. let clash : None ≡ Some mark = is in absurd (cc))

pub marked_next : (declared : Declared) (before after : List Bool) (mark : Bool) (i : ℕ) (edge : ReadEdge) → i < length declared.edges.items → edge ≡ get_or declared.edges.items i edge → length before ≡ i
    → MarksEdge declared i edge mark → after ≡ before ++ mark ∷ [] → AreMarked declared before → AreMarked declared after
marked_next declared before after mark i edge low is count marks pushed so_far =
    subst (AreMarked declared) (sym pushed) (λ e other told at got. by e other told at (got_pushed before mark e told got))
  where
    by : (e : ℕ) (other : ReadEdge) (told : Bool) → slice_get declared.edges.items e ≡ Some other → (slice_get before e ≡ Some told) ⊎ ((e ≡ length before) × (mark ≡ told)) → MarksEdge declared e other told
    by e other told at (inl got) = so_far e other told at got
    by e other told at (inr got) =
        let here : e ≡ i = got.0 ∙ count in
        let same : edge ≡ other = got_edge declared.edges.items i edge other low is (subst (λ (k : ℕ). slice_get declared.edges.items k ≡ Some other) here at) in
        subst (λ (k : ℕ). MarksEdge declared k other told) (sym here) (subst (λ (o : ReadEdge). MarksEdge declared i o told) same (subst (MarksEdge declared i edge) got.1 marks))

-- an alias has none
pub alias_marked : (declared : Declared) (line : Line) (edge : ReadEdge) (kept : Option (Rc Rule Global)) → kept ≡ None → MarksIfRule declared line edge (option_map (λ (k : Rc Rule Global). k.value) kept) false
alias_marked declared line edge kept none = subst (λ (o : Option (Rc Rule Global)). MarksIfRule declared line edge (option_map (λ (k : Rc Rule Global). k.value) o) false) (sym none) refl

rule_marked_so : (declared : Declared) (line : Line) (edge : ReadEdge) (kept : Option (Rc Rule Global)) (rule : Rc Rule Global) (shown : Rule) (inputs outputs : List (List ℕ)) (mark : Bool)
    → kept ≡ Some rule → shown ≡ rule.value → inputs ≡ texts_at declared.paths.table line.explicit_inputs → outputs ≡ texts_at declared.paths.table line.explicit_outputs
    → MarksRule declared.scopes inputs outputs edge shown mark → MarksIfRule declared line edge (option_map (λ (k : Rc Rule Global). k.value) kept) mark
rule_marked_so declared line edge kept rule shown inputs outputs mark is of_rule ins outs marks =
    subst (λ (o : Option (Rc Rule Global)). MarksIfRule declared line edge (option_map (λ (k : Rc Rule Global). k.value) o) mark) (sym is)
    (subst (λ (r : Rule). MarksRule declared.scopes (texts_at declared.paths.table line.explicit_inputs) (texts_at declared.paths.table line.explicit_outputs) edge r mark) of_rule
    (subst (λ (l : List (List ℕ)). MarksRule declared.scopes (texts_at declared.paths.table line.explicit_inputs) l edge shown mark) outs
    (subst (λ (l : List (List ℕ)). MarksRule declared.scopes l outputs edge shown mark) ins marks)))

pub rule_marked : {E : Type 0} (declared : Declared) (line : Line) (edge : ReadEdge) (kept : Option (Rc Rule Global)) (rule : Rc Rule Global) (shown : Rule) (inputs outputs : List (List ℕ)) (r : Result Bool E)
    → kept ≡ Some rule → shown ≡ rule.value → inputs ≡ texts_at declared.paths.table line.explicit_inputs → outputs ≡ texts_at declared.paths.table line.explicit_outputs
    → IfOk r (MarksRule declared.scopes inputs outputs edge shown) → IfOk r (MarksIfRule declared line edge (option_map (λ (k : Rc Rule Global). k.value) kept))
rule_marked declared line edge kept rule shown inputs outputs (Ok mark) is of_rule ins outs marks = rule_marked_so declared line edge kept rule shown inputs outputs mark is of_rule ins outs marks
rule_marked declared line edge kept rule shown inputs outputs (Err error) is of_rule ins outs marks = tt

-- the paths that are passed on are those of the line
pub used_so : (inputs outputs ins outs : List (List ℕ)) (edge : ReadEdge) (rule : Rule) (at : Use) → IsPlainUse inputs outputs edge rule at → inputs ≡ ins → outputs ≡ outs → IsPlainUse ins outs edge rule at
used_so inputs outputs ins outs edge rule at uses same_in same_out = record {
  scope = uses.scope;
  block = uses.block;
  rule_is = uses.rule_is;
  inputs_are = uses.inputs_are ∙ same_in;
  outputs_are = uses.outputs_are ∙ same_out;
  unquoted = uses.unquoted;
}

-- the mark of a value
pub marks_value : (scopes : Scopes) (at : Use) (text : List ℕ) (empty : Bool) → IsValueIn scopes at generator text → length text ≤ largest_value → (IsTrue empty ↔ (text ≡ [])) → Marks scopes at (not empty)
marks_value scopes at text true is size none = inl (subst (λ (l : List ℕ). IsValueIn scopes at generator l) (none.0 refl) is)
marks_value scopes at text false is size none = (text, is, size, λ empty. false≢true (none.1 empty))

-- and that of a fault
fault_marks : (scopes : Scopes) (at : Use) (fault : UseFault) (mark : Bool) → LeavesNoMark fault mark → (fault ≡ UseCircle → HasCircle (opened at) generator)
    → (fault ≡ UseTooLarge → IsTooLargeIn scopes at generator) → Marks scopes at mark
fault_marks scopes at UseMemory mark none circle large = absurd none
fault_marks scopes at UseCircle mark none circle large = subst (λ (m : Bool). Marks scopes at m) (sym none) (inr (inl (circle refl)))
fault_marks scopes at UseTooLarge mark none circle large = subst (λ (m : Bool). Marks scopes at m) (sym none) (inr (inr (large refl)))

pub marks_fault : {E : Type 0} (scopes : Scopes) (at : Use) (inputs outputs : List (List ℕ)) (edge : ReadEdge) (rule : Rule) (fault : UseFault) (r : Result Bool E) → IsPlainUse inputs outputs edge rule at
    → (fault ≡ UseCircle → HasCircle (opened at) generator) → (fault ≡ UseTooLarge → IsTooLargeIn scopes at generator) → IfOk r (LeavesNoMark fault) → IfOk r (MarksRule scopes inputs outputs edge rule)
marks_fault scopes at inputs outputs edge rule fault (Ok mark) uses circle large none = record { at = at; uses = uses; marks = fault_marks scopes at fault mark none circle large }
marks_fault scopes at inputs outputs edge rule fault (Err error) uses circle large none = tt

-- ---- beside what was read

pub err_in : (r : Result (Manifest × Described) ReadError) (error : ReadError) → IsErrAnd r (λ (e : ReadError). e ≡ error) → IsErrAnd (manifest_in r) (λ (e : ReadError). e ≡ error)
err_in (Ok both) error is = is
err_in (Err other) error is = is

pub describes_both : (result : Result (Manifest × Described) ReadError) (read : Result Manifest ReadError) (lines : List Line) (described : Described) → manifest_in result ≡ read
    → IfOk result (λ both. both.1 ≡ described) → IfOk read (λ manifest. manifest.lines ≡ lines) → DescribesLines lines described → IfOk result (λ both. DescribesLines both.0.lines both.1)
describes_both (Ok both) read lines described is beside lines_are describes =
    let same : both.0.lines ≡ lines = subst (λ (r : Result Manifest ReadError). IfOk r (λ manifest. manifest.lines ≡ lines)) (sym is) lines_are in
    subst (λ (l : List Line). DescribesLines l both.1) (sym same) (subst (DescribesLines lines) (sym beside) describes)
describes_both (Err error) read lines described is beside lines_are describes = tt
