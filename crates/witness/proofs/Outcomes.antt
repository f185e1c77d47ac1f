-- That the commands are functions of what they declare and tell, where depfiles are read by their grammar.
use Rattle.std.proofs.Common.{◌≡◌, inl, ℕ, ◌&&◌, if◌then◌else◌, Bool, true, List, [], ◌∷◌, ◌++◌, Option, Some, None, refl, sym, ◌∙◌, ap, subst}
use Rattle.std.proofs.lemmas.Bool.{false≢true}
use Rattle.std.specs.Prelude.{codes}
use Rattle.model.specs.declared.act.Act.{Act}
use Rattle.model.specs.declared.outcome.Outcome.{Outcome}
use Rattle.model.specs.declared.event.Moment.{Moment}
use Rattle.model.specs.World.{View, view_of}
use Rattle.model.specs.Calls.{AgreeOn}
use Rattle.model.specs.Graph.{Addition}
use Rattle.model.specs.Outcome.{Behaviour, left, depfile_in, is_accepted, listed, ends_well, reports_of, given, GivesTheSame}
use Rattle.model.specs.Reading.{Itself}
use Rattle.model.specs.Premises.{HasOneOutcome, LeftOutcome}
use Rattle.sim.specs.Toy.{toy_outcome, depfile}
use Rattle.witness.specs.Scanning.{cat, scan, edges, naming, toys}
use Rattle.witness.proofs.Given.{IsName, copying_of, giving, outcome_is}
use Rattle.witness.proofs.TwoEdges.{no_alias}

agree_self : (paths : List (List ℕ)) (view : View) → AgreeOn paths view view
agree_self [] view = tt
agree_self (p ∷ paths) view = (refl, agree_self paths view)

module _ (reading : List ℕ → Option (List (List ℕ))) (dyndep : List ℕ → Option (List Addition)) where
  abbrev B : Behaviour
  B = toys reading dyndep

  abbrev always : Outcome → Behaviour
  always o = record { outcome = λ act view. o; depfile = reading; dyndep = dyndep }

  abbrev ends : Act → Outcome → Bool
  ends act o = o.ok && is_accepted (depfile_in B act (left o))

  abbrev gives : Act → Outcome → List ℕ → Option (List ℕ)
  gives act o p = if ends act o then left o p else None

  same_if : (act : Act) (output : List ℕ) (u v : View) → toy_outcome act u ≡ toy_outcome act v → GivesTheSame B act (output ∷ []) u v
  same_if act output u v same = record {
    ends = ap (λ (o : Outcome). ends_well (always o) act v) (sym same);
    reports = ap (λ (o : Outcome). reports_of (always o) act v) (sym same);
    contents = (ap (λ (o : Outcome). given (always o) act v output) (sym same), tt);
  }

  -- ---- the first command

  pub one_copied : (files : View) → HasOneOutcome B edges files 1
  one_copied files u v at_u at_v well reports =
      same_if cat (codes "h") u v (ap copying_of (at_u (codes "g") (Itself 1 (codes "g") refl (inl (λ j alias. no_alias (codes "g") j alias)))
      ∙ sym (at_v (codes "g") (Itself 1 (codes "g") refl (inl (λ j alias. no_alias (codes "g") j alias))))))

  pub left_copy : (since new at : List Moment) (content : List ℕ) → view_of new (codes "g") ≡ Some content → view_of at (codes "h") ≡ Some (content ++ []) → LeftOutcome B edges since new at 1
  left_copy since new at content g_is h_is = record {
    seen = view_of new;
    well = ap (λ (held : Option (List ℕ)). ends cat (copying_of held)) g_is;
    unwritten = λ p none. refl;
    contents = (h_is ∙ sym (ap (λ (held : Option (List ℕ)). gives cat (copying_of held) (codes "h")) g_is), tt);
    depfile = refl;
  }

  -- ---- the second command, where its input names this file

  module _ (name : List ℕ) (is_name : IsName name) (reads : reading (depfile (codes "b") (name ∷ [])) ≡ Some (name ∷ [])) where
    tells : (content : List ℕ) → depfile_in B scan (left (giving name (Some content))) ≡ Some (name ∷ [])
    tells content = reads

    ends_giving : (content : List ℕ) → ends scan (giving name (Some content)) ≡ true
    ends_giving content = ap is_accepted (tells content)

    gives_content : (content : List ℕ) → gives scan (giving name (Some content)) (codes "b") ≡ Some (content ++ [])
    gives_content content = rw (ends_giving content) refl

    module _ (view : View) (content : List ℕ) (a_is : view (codes "a") ≡ Some (naming name)) (held_is : view name ≡ Some content) where
      gives_so : toy_outcome scan view ≡ giving name (Some content)
      gives_so = outcome_is name is_name view a_is ∙ ap (giving name) held_is

      pub well_view : ends_well B scan view ≡ true
      well_view = ap (ends scan) gives_so ∙ ends_giving content

      pub reports_view : reports_of B scan view ≡ name ∷ []
      reports_view = ap (λ (o : Outcome). listed (depfile_in B scan (left o))) gives_so ∙ ap listed (tells content)

      pub given_view : given B scan view (codes "b") ≡ Some (content ++ [])
      given_view = ap (λ (o : Outcome). gives scan o (codes "b")) gives_so ∙ gives_content content

    pub one_scanned : (files : View) → files (codes "a") ≡ Some (naming name) → HasOneOutcome B edges files 2
    one_scanned files is u v at_u at_v well reports =
        let a_of_u = at_u (codes "a") (Itself 2 (codes "a") refl (inl (λ j alias. no_alias (codes "a") j alias))) ∙ is in
        let a_of_v = at_v (codes "a") (Itself 2 (codes "a") refl (inl (λ j alias. no_alias (codes "a") j alias))) ∙ is in
        same_if scan (codes "b") u v (outcome_is name is_name u a_of_u ∙ ap (giving name) (held_same a_of_u (u name) refl) ∙ sym (outcome_is name is_name v a_of_v))
      where
        held_same : u (codes "a") ≡ Some (naming name) → (held : Option (List ℕ)) → u name ≡ held → u name ≡ v name
        held_same a_is None none = absurd (false≢true (sym (ap (ends scan) (outcome_is name is_name u a_is ∙ ap (giving name) none)) ∙ well))
        held_same a_is (Some content) some = (subst (λ (told : List (List ℕ)). AgreeOn told u v) (reports_view u content a_is some) reports).0

    pub left_scan : (since new at : List Moment) (content : List ℕ) → view_of new (codes "a") ≡ Some (naming name) → view_of new name ≡ Some content
        → view_of at (codes "b") ≡ Some (content ++ []) → view_of at (codes "b.d") ≡ Some (depfile (codes "b") (name ∷ [])) → LeftOutcome B edges since new at 2
    left_scan since new at content a_is held_is b_is told_is = record {
      seen = view_of new;
      well = well_view (view_of new) content a_is held_is;
      unwritten = λ p none. refl;
      contents = (b_is ∙ sym (given_view (view_of new) content a_is held_is), tt);
      depfile = told_after (view_of at) told_is ∙ sym (ap Some (reports_view (view_of new) content a_is held_is));
    }
      where
        told_after : (after : View) → after (codes "b.d") ≡ Some (depfile (codes "b") (name ∷ [])) → depfile_in B scan after ≡ Some (name ∷ [])
        told_after after told_is = rw told_is reads
