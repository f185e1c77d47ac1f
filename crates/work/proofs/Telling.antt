-- How a manifest in numbers is told in texts.
use Rattle.std.proofs.Common.{◌≡◌, ℕ, zero, suc, ◌<◌, ◌+◌, cond, bytes_eq, Bool, true, false, is_some, List, [], ◌∷◌, ◌++◌, map, length, take, get_or, slice_get, Option, Some, None, refl, sym, ◌∙◌, ap, subst, arith}
use Rattle.std.specs.Option.{option_map}
use Rattle.std.proofs.lemmas.List.{map-append, take_more}
use Rattle.model.specs.declared.event.Moment.{Moment}
use Rattle.model.specs.declared.graph.Edge.{Edge}
use Rattle.model.specs.Graph.{edge_at, first_output, maker, no_edge, inputs, outputs, has}
use Rattle.theory.proofs.Lists.{bytes_same}
use Rattle.std.proofs.lemmas.Bool.{false≢true, or_left}
use Rattle.graph.specs.declared.cone.Cone.{Cone}
use Rattle.graph.specs.declared.graph.Graph.{Graph}
use Rattle.graph.specs.Linked.{IsConeOf}
use Rattle.graph.specs.Told.{declared_by, recorded_by}
use Rattle.theory.proofs.Mapped.{has_mapped}
use Rattle.model.specs.Records.{Store, recorded_of, recorded_inputs}
use Rattle.model.specs.Schedule.{Step}
use Rattle.model.specs.SingleBuild.{IsNamedMissing}
use Rattle.paths.specs.declared.line.Line.{Line}
use Rattle.paths.specs.declared.manifest.Action.{Action}
use Rattle.paths.specs.declared.manifest.Action.TheVariants.{Alias, Command}
use Rattle.paths.specs.declared.manifest.Manifest.{Manifest}
use Rattle.paths.specs.Commands.{no_action}
use Rattle.paths.specs.Lists.{line_at, line_outputs}
use Rattle.paths.specs.Told.{text_at, texts_at, edge_of, edges_of, graph_of}
use Rattle.judge.specs.Lacks.{IsLackedBy, IsAskedFor}
use Rattle.work.specs.Loads.{NamesSource}
use Rattle.work.specs.Ends.{IsMissingFor, first_output_of}
use Rattle.work.specs.Recorded.{IsRecordedBy}

-- ---- texts of numbers

pub none_text : (paths : List (List ℕ)) (number : ℕ) → slice_get paths number ≡ None → [] ≡ text_at paths number
none_text [] number none = refl
none_text (path ∷ paths) zero none = absurd (cc)
none_text (path ∷ paths) (suc number) none = none_text paths number none

-- one more of what numbers stand for
pub map_next : {B : Type 0} (f : ℕ → B) (numbers : List ℕ) (i number : ℕ) (before after : List B) (one : B) → i < length numbers → number ≡ get_or numbers i number
    → before ≡ map f (take i numbers) → after ≡ before ++ one ∷ [] → one ≡ f number → after ≡ map f (take (i + 1) numbers)
map_next f numbers i number before after one low is was pushed same =
    pushed ∙ (ap (λ (l : List _). l ++ one ∷ []) was ∙ (ap (λ t. map f (take i numbers) ++ t ∷ []) same
    ∙ (sym (map-append f (take i numbers) (number ∷ [])) ∙ ap (map f) (sym (take_more numbers i number low ∙ ap (λ (n : ℕ). take i numbers ++ n ∷ []) (sym is))))))

-- ---- the edges

pub length_edges : (paths : List (List ℕ)) (lines : List Line) (actions : List Action) → length actions ≡ length lines → length (edges_of paths lines actions) ≡ length lines
length_edges paths [] actions fits = refl
length_edges paths (line ∷ lines) [] fits = absurd (omega (arith, fits))
length_edges paths (line ∷ lines) (action ∷ actions) fits = ap suc (length_edges paths lines actions (omega (arith, fits)))

edge_get : (paths : List (List ℕ)) (lines : List Line) (actions : List Action) (e : ℕ) → length actions ≡ length lines → get_or (edges_of paths lines actions) e no_edge ≡ edge_of paths (line_at lines e) (get_or actions e no_action)
edge_get paths [] [] e fits = refl
edge_get paths [] (action ∷ actions) e fits = absurd (omega (arith, fits))
edge_get paths (line ∷ lines) [] e fits = absurd (omega (arith, fits))
edge_get paths (line ∷ lines) (action ∷ actions) zero fits = refl
edge_get paths (line ∷ lines) (action ∷ actions) (suc e) fits = edge_get paths lines actions e (omega (arith, fits))

outputs_of : (paths : List (List ℕ)) (line : Line) (action : Action) → outputs (edge_of paths line action) ≡ texts_at paths (line_outputs line)
outputs_of paths line Alias = sym (map-append (text_at paths) line.explicit_outputs line.implicit_outputs)
outputs_of paths line (Command command) = sym (map-append (text_at paths) line.explicit_outputs line.implicit_outputs)

first_of : (paths : List (List ℕ)) (numbers : List ℕ) (p : ℕ) → Some p ≡ slice_get numbers 0 → text_at paths p ≡ get_or (texts_at paths numbers) 0 []
first_of paths [] p is = absurd (cc)
first_of paths (n ∷ numbers) p is = let same : Some p ≡ Some n = is in ap (text_at paths) (cc)

none_of : (paths : List (List ℕ)) (numbers : List ℕ) → None ≡ slice_get numbers 0 → [] ≡ get_or (texts_at paths numbers) 0 []
none_of paths [] is = refl
none_of paths (n ∷ numbers) is = absurd (cc)

module _ (manifest : Manifest) where
  abbrev told : List Edge
  told = (graph_of manifest).edges

  pub edge_is : (e : ℕ) → edge_at told (suc e) ≡ edge_of manifest.paths (line_at manifest.lines e) (get_or manifest.actions e no_action)
  edge_is e = edge_get manifest.paths manifest.lines manifest.actions e manifest.fits

  pub outputs_are : (e : ℕ) → outputs (edge_at told (suc e)) ≡ texts_at manifest.paths (line_outputs (line_at manifest.lines e))
  outputs_are e = ap outputs (edge_is e) ∙ outputs_of manifest.paths (line_at manifest.lines e) (get_or manifest.actions e no_action)

  pub first_some : (e p : ℕ) (numbers : List ℕ) → numbers ≡ line_outputs (line_at manifest.lines e) → Some p ≡ slice_get numbers 0 → text_at manifest.paths p ≡ first_output_of manifest e
  first_some e p numbers are is =
      first_of manifest.paths numbers p is ∙ ap (λ (l : List (List ℕ)). get_or l 0 []) (ap (texts_at manifest.paths) are ∙ sym (outputs_are e))

  pub first_none : (e : ℕ) (numbers : List ℕ) → numbers ≡ line_outputs (line_at manifest.lines e) → None ≡ slice_get numbers 0 → [] ≡ first_output_of manifest e
  first_none e numbers are is =
      none_of manifest.paths numbers is ∙ ap (λ (l : List (List ℕ)). get_or l 0 []) (ap (texts_at manifest.paths) are ∙ sym (outputs_are e))

-- ---- what is recorded

-- a list that has no path is empty
none_of_list : (paths : List (List ℕ)) → ((p : List ℕ) → has paths p ≡ false) → paths ≡ []
none_of_list [] none = refl
none_of_list (q ∷ paths) none = absurd (false≢true (sym (none q) ∙ or_left (bytes_eq q q) (has paths q) (bytes_same q)))

-- a phony edge has no recorded inputs
pub none_of_phony : (graph : Graph) (store : Store) → IsRecordedBy graph store → (i : ℕ) → (edge_at (declared_by graph).edges i).phony ≡ true → recorded_by graph i ≡ []
none_of_phony graph store in_use i phony =
    none_of_list (recorded_by graph i)
    (λ p. sym (in_use i p) ∙ ap (λ (b : Bool). has (cond b [] (cond (is_some (edge_at (declared_by graph).edges i).dyndep) [] (recorded_of store (edge_at (declared_by graph).edges i)))) p) phony)

-- ---- what is missing

-- an edge, if one is named, has the path as an input
abbrev pub HasInput : List Edge → List ℕ → Option ℕ → Type 0
HasInput edges text None = Unit {0}
HasInput edges text (Some e) = has (inputs (edge_at edges (suc e))) text ≡ true

pub source_told : (edges : List Edge) (text path : List ℕ) (needed : Option ℕ) (needed_by : Option (List ℕ)) → path ≡ text
    → needed_by ≡ option_map (λ e. first_output (edge_at edges (suc e))) needed → maker edges text ≡ None → HasInput edges text needed → NamesSource edges path needed_by
source_told edges text path needed needed_by same by source input = subst (λ (p : List ℕ). NamesSource edges p needed_by) (sym same) (by_needed needed by input)
  where
    by_needed : (needed : Option ℕ) → needed_by ≡ option_map (λ e. first_output (edge_at edges (suc e))) needed → HasInput edges text needed → NamesSource edges text needed_by
    by_needed None is input = subst (λ (n : Option (List ℕ)). NamesSource edges text n) (sym is) source
    by_needed (Some e) is input = subst (λ (n : Option (List ℕ)). NamesSource edges text n) (sym is) (suc e, refl, input, source)

-- it is a target, or the edge is in the cone
pub needed_told : (graph : Graph) (cone : Cone) (store : Store) (targets : List (List ℕ)) (number : ℕ) (path : List ℕ) (needed : Option ℕ) (needed_by : Option (List ℕ)) → path ≡ text_at graph.manifest.paths number
    → needed_by ≡ option_map (λ e. first_output (edge_at (declared_by graph).edges (suc e))) needed → maker (declared_by graph).edges (text_at graph.manifest.paths number) ≡ None
    → HasInput (declared_by graph).edges (text_at graph.manifest.paths number) needed → IsAskedFor cone number needed
    → IsConeOf (declared_by graph).edges (recorded_inputs store (declared_by graph).edges) targets cone.order.items cone.marks.items → texts_at graph.manifest.paths cone.targets.items ≡ targets
    → IsNamedMissing (declared_by graph).edges store targets path needed_by
needed_told graph cone store targets number path needed needed_by same by source input asked listed numbers =
    subst (λ (p : List ℕ). IsNamedMissing (declared_by graph).edges store targets p needed_by) (sym same) (by_needed needed by input asked)
  where
    by_needed : (needed : Option ℕ) → needed_by ≡ option_map (λ e. first_output (edge_at (declared_by graph).edges (suc e))) needed → HasInput (declared_by graph).edges (text_at graph.manifest.paths number) needed → IsAskedFor cone number needed
        → IsNamedMissing (declared_by graph).edges store targets (text_at graph.manifest.paths number) needed_by
    by_needed None is input asked = subst (λ (n : Option (List ℕ)). IsNamedMissing (declared_by graph).edges store targets (text_at graph.manifest.paths number) n) (sym is)
        (subst (λ (l : List (List ℕ)). has l (text_at graph.manifest.paths number) ≡ true) numbers (has_mapped (text_at graph.manifest.paths) cone.targets.items number asked), source)
    by_needed (Some e) is input asked = subst (λ (n : Option (List ℕ)). IsNamedMissing (declared_by graph).edges store targets (text_at graph.manifest.paths number) n) (sym is) (suc e, listed.within e asked, refl, input, source)

pub missing_told : (edges : List Edge) (store : Store) (before : List Step) (requested : List (List ℕ)) (files : List Moment) (text path : List ℕ) (needed : Option ℕ) (needed_by : Option (List ℕ)) → path ≡ text
    → needed_by ≡ option_map (λ e. first_output (edge_at edges (suc e))) needed → IsLackedBy edges store before requested files text needed → IsMissingFor edges store before requested files path needed_by
missing_told edges store before requested files text path needed needed_by same by lacked = subst (λ (p : List ℕ). IsMissingFor edges store before requested files p needed_by) (sym same) (by_needed needed by lacked)
  where
    by_needed : (needed : Option ℕ) → needed_by ≡ option_map (λ e. first_output (edge_at edges (suc e))) needed → IsLackedBy edges store before requested files text needed → IsMissingFor edges store before requested files text needed_by
    by_needed None is lacked = subst (λ (n : Option (List ℕ)). IsMissingFor edges store before requested files text n) (sym is) lacked
    by_needed (Some e) is lacked = subst (λ (n : Option (List ℕ)). IsMissingFor edges store before requested files text n) (sym is) (suc e, refl, lacked)
