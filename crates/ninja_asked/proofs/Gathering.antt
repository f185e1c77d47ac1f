-- What the edges above the file give, one after another.
use Rattle.std.proofs.Common.{◌≡◌, ℕ, zero, suc, ◌+◌, ◌-◌, ◌<◌, ◌==◌, Bool, true, false, if◌then◌else◌, List, [], ◌∷◌, ◌++◌, All, get_or, slice_get, filter, flat_map, length, take, Option, None, Some, MatchOption, option_copied, Result, Err, refl, sym, ap, ◌∙◌, subst, arith, append_assoc, append-nil}
use denote.Ref.{Bor}
use Rattle.std.proofs.lemmas.Bool.{eq-eqb, false≢true, or_left, or_right}
use Rattle.std.proofs.lemmas.Grind.{flat_map-append}
use Rattle.std.proofs.lemmas.List.{take_more}
use Rattle.std.proofs.lemmas.List.Elements.{All-cons, All-filter, All-nil, filter-append}
use Rattle.model.specs.Graph.{has_number}
use Rattle.lexer.specs.Path.{IsCanonical}
use Rattle.paths.specs.Lists.{line_at, line_outputs}
use Rattle.paths.specs.Told.{IsNamedNumber, IsUnnamed, text_at}
use Rattle.paths.specs.declared.line.Line.{Line}
use Rattle.graph.specs.Links.{links_of}
use Rattle.graph.specs.declared.graph.Graph.{Graph}
use Rattle.tools.specs.Above.{AreAbove, Further, IsNeededFor, Makes}
use Rattle.tools.specs.Files.{runs_generator}
use Rattle.tools.specs.declared.declared.Declared.{Declared}
use Rattle.ninja_asked.specs.Above.{AddsEdge, AreAboveFile, AreEdges, IsAllAbove, IsFileOf, IsOfEdges, first_of, made_first}
use Rattle.ninja_asked.specs.declared.above.Above.{Above}

-- of so many edges
pub record HasEdges (declared : Declared) (file : Option ℕ) (edges : List ℕ) (above : Above) : Type 0 where
  pub file_is : above.file ≡ file
  pub generators : above.generators.items ≡ filter (runs_generator declared) edges
  pub first : above.first.items ≡ flat_map (made_first declared) edges

take_at : (xs : List ℕ) (i x : ℕ) → i < length xs → x ≡ get_or xs i x → take (i + 1) xs ≡ take i xs ++ x ∷ []
take_at xs i x low is = take_more xs i x low ∙ ap (λ y. take i xs ++ y ∷ []) (sym is)

pub edges_none : (declared : Declared) (file : Option ℕ) (above : Above) → above.file ≡ file → above.generators.items ≡ [] → above.first.items ≡ [] → HasEdges declared file [] above
edges_none declared file above is generators first = record { file_is = is; generators = generators; first = first }

pub edges_more : (declared : Declared) (file : Option ℕ) (edges : List ℕ) (i e : ℕ) (old new : Above) → i < length edges → e ≡ get_or edges i e → HasEdges declared file (take i edges) old → AddsEdge declared e old new → HasEdges declared file (take (i + 1) edges) new
edges_more declared file edges i e old new low is has adds = record {
  file_is = adds.file ∙ has.file_is;
  generators =
      adds.generators
      ∙ (ap (λ (l : List ℕ). l ++ filter (runs_generator declared) (e ∷ [])) has.generators
      ∙ sym (ap (filter (runs_generator declared)) (take_at edges i e low is) ∙ filter-append (runs_generator declared) (take i edges) (e ∷ [])));
  first =
      adds.first
      ∙ (ap (λ (l : List (List ℕ)). l ++ made_first declared e) has.first
      ∙ sym (ap (flat_map (made_first declared)) (take_at edges i e low is)
      ∙ (flat_map-append (made_first declared) (take i edges) (e ∷ []) ∙ ap (λ (l : List (List ℕ)). flat_map (made_first declared) (take i edges) ++ l) (append-nil (made_first declared e)))));
}

pub edges_all : (declared : Declared) (file : Option ℕ) (edges : List ℕ) (i : ℕ) (above : Above) → take i edges ≡ edges → HasEdges declared file (take i edges) above → HasEdges declared file edges above
edges_all declared file edges i above all has = subst (λ (l : List ℕ). HasEdges declared file l above) all has

-- there is a generator
pub of_some : (declared : Declared) (file : Option ℕ) (edges : List ℕ) (above : Above) → HasEdges declared file edges above → (length above.generators.items == 0) ≡ false → IsOfEdges declared file edges above
of_some declared file edges above has some = record {
  file_is = has.file_is;
  generators = has.generators;
  first = has.first ∙ sym (ap (λ (b : Bool). if b then [] else flat_map (made_first declared) edges) some);
}

-- there is none, so that nothing is built first
pub of_none : (declared : Declared) (file : Option ℕ) (edges : List ℕ) (old new : Above) → HasEdges declared file edges old → new.file ≡ old.file → new.generators ≡ old.generators → (length old.generators.items == 0) ≡ true → new.first.items ≡ [] → IsOfEdges declared file edges new
of_none declared file edges old new has file_same generators none first = record {
  file_is = file_same ∙ has.file_is;
  generators = ap (λ v. v.items) generators ∙ has.generators;
  first = first ∙ sym (ap (λ (b : Bool). if b then [] else flat_map (made_first declared) edges) (ap (λ v. length v.items == 0) generators ∙ none));
}

-- ---- they are edges

below : (lines : List Line) (p e : ℕ) → has_number (line_outputs (line_at lines e)) p ≡ true → e < length lines
below [] p e made = absurd (false≢true made)
below (line ∷ lines) p zero made = omega arith
below (line ∷ lines) p (suc e) made = let lt = below lines p e made in omega (arith, lt)

maker_below : (graph : Graph) (p e : ℕ) → (links_of graph).maker p ≡ Some e → e < length graph.manifest.lines
maker_below graph p e is = below graph.manifest.lines p e (graph.making.made p e is)

needed_below : (graph : Graph) (paths : List ℕ) (e : ℕ) → IsNeededFor (links_of graph) paths e → e < length graph.manifest.lines
needed_below graph paths e (Makes f p named made) = maker_below graph p e made
needed_below graph paths e (Further f d p needed input made) = maker_below graph p e made

all_of : (P : ℕ → Type 0) (xs : List ℕ) → ((x : ℕ) → has_number xs x ≡ true → P x) → All P xs
all_of P [] each = All-nil P
all_of P (x ∷ xs) each = All-cons P x xs (each x (has_head x xs)) (all_of P xs (λ y listed. each y (has_tail x y xs listed)))
  where
    has_head : (x : ℕ) (xs : List ℕ) → has_number (x ∷ xs) x ≡ true
    has_head x xs = or_left (x == x) (has_number xs x) (eq-eqb x x refl)

    has_tail : (x y : ℕ) (xs : List ℕ) → has_number xs y ≡ true → has_number (x ∷ xs) y ≡ true
    has_tail x y xs listed = or_right (x == y) (has_number xs y) listed

pub are_edges : (declared : Declared) (file : Option ℕ) (edges : List ℕ) → AreAboveFile declared.graph file edges → AreEdges declared edges
are_edges declared None edges none = subst (λ (l : List ℕ). AreEdges declared l) (sym none) (All-nil _)
are_edges declared (Some p) edges above = all_of _ edges (λ e listed. needed_below declared.graph (p ∷ []) e ((above.just e).0 listed))

pub generators_are_edges : (declared : Declared) (file : Option ℕ) (edges : List ℕ) (above : Above) → AreAboveFile declared.graph file edges → IsOfEdges declared file edges above → AreEdges declared above.generators.items
generators_are_edges declared file edges above are of = subst (λ (l : List ℕ). AreEdges declared l) (sym of.generators) (All-filter (runs_generator declared) (λ (e : ℕ). e < length declared.graph.manifest.lines) edges (are_edges declared file edges are))

-- ---- one edge

abbrev made_of : Declared → ℕ → List (List ℕ)
made_of declared edge = flat_map (λ p. text_at declared.graph.manifest.paths p ∷ []) (first_of ((links_of declared.graph).outputs edge))

module _ (declared : Declared) (edge : ℕ) (old new : Above) (file : new.file ≡ old.file) where
  pub adds_generator : runs_generator declared edge ≡ true → new.generators.items ≡ old.generators.items ++ edge ∷ [] → new.first ≡ old.first → AddsEdge declared edge old new
  adds_generator runs pushed same = record {
    file = file;
    generators = pushed ∙ ap (λ (b : Bool). old.generators.items ++ (if b then edge ∷ [] else [])) (sym runs);
    first = ap (λ v. v.items) same ∙ (sym (append-nil old.first.items) ∙ ap (λ (b : Bool). old.first.items ++ (if b then [] else if (links_of declared.graph).phony edge then [] else (made_of declared edge))) (sym runs));
  }

  module _ (none : runs_generator declared edge ≡ false) (same : new.generators ≡ old.generators) where
    kept : new.generators.items ≡ old.generators.items ++ filter (runs_generator declared) (edge ∷ [])
    kept = ap (λ v. v.items) same ∙ (sym (append-nil old.generators.items) ∙ ap (λ (b : Bool). old.generators.items ++ (if b then edge ∷ [] else [])) (sym none))

    without : (first : List (List ℕ)) → (if (links_of declared.graph).phony edge then [] else (made_of declared edge)) ≡ first → made_first declared edge ≡ first
    without first is = ap (λ (b : Bool). if b then [] else if (links_of declared.graph).phony edge then [] else (made_of declared edge)) none ∙ is

    pub adds_alias : (links_of declared.graph).phony edge ≡ true → new.first ≡ old.first → AddsEdge declared edge old new
    adds_alias alias first = record {
      file = file;
      generators = kept;
      first = ap (λ v. v.items) first ∙ (sym (append-nil old.first.items) ∙ ap (λ l. old.first.items ++ l) (sym (without [] (ap (λ (b : Bool). if b then [] else (made_of declared edge)) alias))));
    }

    module _ (command : (links_of declared.graph).phony edge ≡ false) where
      made_is : (outputs : List ℕ) → outputs ≡ first_of ((links_of declared.graph).outputs edge) → made_first declared edge ≡ flat_map (λ p. text_at declared.graph.manifest.paths p ∷ []) outputs
      made_is outputs are = without _ (ap (λ (b : Bool). if b then [] else (made_of declared edge)) command ∙ ap (λ (l : List ℕ). flat_map (λ p. text_at declared.graph.manifest.paths p ∷ []) l) (sym are))

      first_none : (outputs : List ℕ) → slice_get outputs 0 ≡ None → [] ≡ first_of outputs
      first_none [] is = refl
      first_none (p ∷ outputs) is = cc

      first_some : (outputs : List ℕ) (p : ℕ) → slice_get outputs 0 ≡ Some p → p ∷ [] ≡ first_of outputs
      first_some [] p is = cc
      first_some (o ∷ outputs) p is = ap (λ (x : Option ℕ). x_of x) (sym is)
        where
          x_of : Option ℕ → List ℕ
          x_of None = []
          x_of (Some x) = x ∷ []

      pub adds_nothing : slice_get ((links_of declared.graph).outputs edge) 0 ≡ None → new.first ≡ old.first → AddsEdge declared edge old new
      adds_nothing is first = record {
        file = file;
        generators = kept;
        first = ap (λ v. v.items) first ∙ (sym (append-nil old.first.items) ∙ ap (λ l. old.first.items ++ l) (sym (made_is [] (first_none ((links_of declared.graph).outputs edge) is))));
      }

      pub adds_output : (p : ℕ) → slice_get ((links_of declared.graph).outputs edge) 0 ≡ Some p → new.first.items ≡ old.first.items ++ text_at declared.graph.manifest.paths p ∷ [] → AddsEdge declared edge old new
      adds_output p is pushed = record {
        file = file;
        generators = kept;
        first = pushed ∙ ap (λ l. old.first.items ++ l) (sym (made_is (p ∷ []) (first_some ((links_of declared.graph).outputs edge) p is)));
      }

-- ---- the file

pub all_of_file : (declared : Declared) (name : List ℕ) (file : Option ℕ) (edges : List ℕ) (above : Above) → IsFileOf declared name file → AreAboveFile declared.graph file edges → IsOfEdges declared file edges above → IsAllAbove declared name above
all_of_file declared name file edges above file_of are of = record {
  edges = edges;
  file = subst (λ (f : Option ℕ). IsFileOf declared name f) (sym of.file_is) file_of;
  are = subst (λ (f : Option ℕ). AreAboveFile declared.graph f edges) (sym of.file_is) are;
  of = record { file_is = refl; generators = of.generators; first = of.first };
}

-- a name with this canonical path is that of no file where no edge names that
pub no_file : (declared : Declared) (name path : List ℕ) → ((text a b : List ℕ) → IsCanonical text a → IsCanonical text b → a ≡ b) → IsCanonical name path → IsUnnamed declared.graph.manifest path → IsFileOf declared name None
no_file declared name path one is unnamed = λ other some canonical. subst (λ (p : List ℕ). IsUnnamed declared.graph.manifest p) (one name path other is canonical) unnamed

pub file_by : (declared : Declared) (name path text : List ℕ) → ((text a b : List ℕ) → IsCanonical text a → IsCanonical text b → a ≡ b) → IsCanonical name path → text ≡ path → (file : Option ℕ)
    → MatchOption file (IsUnnamed declared.graph.manifest text) (IsNamedNumber declared.graph.manifest text) → IsFileOf declared name file
file_by declared name path text one is same None unnamed = no_file declared name path one is (subst (λ (p : List ℕ). IsUnnamed declared.graph.manifest p) same unnamed)
file_by declared name path text one is same (Some p) named = (path, is, named.0 ∙ ap (λ (t : List ℕ). Some t) same)

pub err_is : {T E : Type 0} (r : Result T E) (error other : E) → r ≡ Err error → error ≡ other → r ≡ Err other
err_is r error other is same = is ∙ ap (λ e. Err e) same

pub empty_file : (declared : Declared) (name : List ℕ) → name ≡ [] → IsFileOf declared name None
empty_file declared name empty = λ other some canonical. absurd (some empty)
