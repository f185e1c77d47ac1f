use Rattle.std.proofs.Common.{◌≡◌, ◌∙◌, ◌++◌, ℕ, List, Some, map, length, take, drop, slice_get, sym, ap, subst, arith}
use Rattle.std.specs.Prelude.{All}
use Rattle.std.proofs.Math.Seq.{take-append_seam}
use Rattle.std.proofs.lemmas.List.{length-map}
use Rattle.dyndep.specs.declared.addition.Addition.{Addition as Statement}
use Rattle.paths.specs.Told.{text_at}
use Rattle.graph.specs.declared.choice.Choice.{Choice}
use Rattle.graph.specs.Chosen.{chosen_edges, choice_in, AreRising, AreNamers, IsWithin}
use Rattle.graph.specs.Told.{declared_by}
use Rattle.graph.specs.Extended.{addition_of}
use Rattle.graph.specs.Statements.{owners_of, AreChoices, AreChosen, IsLowestLacking, LacksChoice}
use Rattle.graph.proofs.Chosen.{edges_length}
use Rattle.graph.proofs.Choosing.{choices_low}
use Rattle.graph.proofs.Ends.{none_twice}
use Rattle.graph.proofs.Naming.{each_within}
use Rattle.graph.proofs.Places.{get_there, get_map}
use Rattle.graph.proofs.Unfitting.{first_lacking, first_bad}
use Rattle.graph.proofs.graph.Graph.statements.Goals as goal

-- a list that was written over one of its length stands whole
whole_list : (len : ℕ) (old new : List Choice) → len ≡ length old → chosen_edges new ≡ chosen_edges old → take len (new ++ drop (length new) old) ≡ new
whole_list len old new full edges =
    let a = edges_length old in
    let b = edges_length new in
    let size = ap (λ (l : List ℕ). length l) edges in
    ap (λ (n : ℕ). take n (new ++ drop (length new) old)) (omega (arith, full, a, b, size)) ∙ take-append_seam new (drop (length new) old)

pub choose_all-unfit-requires-clause-namers : goal.choose_all-unfit-requires-clause-namers
choose_all-unfit-requires-clause-namers c = subst (λ (l : List Choice). AreNamers c.args.self.now c.args.file (chosen_edges l)) (sym {A = List Choice} c.deref_mut.ensures.value) c.in_ok-chosen.ensures.namers

pub choose_all-unfit-requires-clause-none : goal.choose_all-unfit-requires-clause-none
choose_all-unfit-requires-clause-none c = λ e. ap (λ (l : List Choice). choice_in l e) c.deref_mut.ensures.value ∙ c.in_ok-chosen.ensures.none e

pub first_lacking-requires : goal.first_lacking-requires
first_lacking-requires c =
    let graph = c.args.self.now in
    let old = c.in_ok-chosen.chosen in
    let chosen = c.choose_all-unfit.new.chosen in
    let edges : chosen_edges chosen ≡ chosen_edges old.items = c.choose_all-unfit.ensures.edges ∙ ap chosen_edges c.deref_mut.ensures.value in
    let whole = whole_list old.len old.items chosen old.ok.0 edges in
    subst (λ (l : List Choice). AreNamers graph c.args.file (chosen_edges l)) (sym {A = List Choice} (c.deref.ensures.value ∙ whole)) (subst (AreNamers graph c.args.file) (sym {A = List ℕ} edges) c.in_ok-chosen.ensures.namers)

pub returns-in-Some-clause-fault : goal.returns-in-Some-clause-fault
returns-in-Some-clause-fault c =
    let graph = c.args.self.now in
    let old = c.in_ok-chosen.chosen in
    let chosen = c.choose_all-unfit.new.chosen in
    let edges : chosen_edges chosen ≡ chosen_edges old.items = c.choose_all-unfit.ensures.edges ∙ ap chosen_edges c.deref_mut.ensures.value in
    let whole = whole_list old.len old.items chosen old.ok.0 edges in
    let count = length-map c.args.additions.now addition_of in
    first_lacking graph (none_twice graph.manifest graph.makers graph.making graph.apart) c.args.file c.requires (map addition_of c.args.additions.now) (choice_in chosen)
    (subst (λ (n : ℕ). AreChoices (owners_of (declared_by graph).edges (text_at graph.manifest.paths c.args.file) (map addition_of c.args.additions.now)) n (choice_in chosen)) (sym count) c.choose_all-unfit.ensures.choices)
    c.in-Some.edge (subst (λ (l : List Choice). IsLowestLacking graph c.args.file (choice_in l) c.in-Some.edge) (c.deref.ensures.value ∙ whole) c.in-Some.ensures) c.in_ok-first_output.field-0 c.in_ok-first_output.ensures

pub returns-in_ok-clone-in-Some-unfit-clause-fault : goal.returns-in_ok-clone-in-Some-unfit-clause-fault
returns-in_ok-clone-in-Some-unfit-clause-fault c =
    let graph = c.args.self.now in
    let old = c.in_ok-chosen.chosen in
    let chosen = c.choose_all-unfit.new.chosen in
    let edges : chosen_edges chosen ≡ chosen_edges old.items = c.choose_all-unfit.ensures.edges ∙ ap chosen_edges c.deref_mut.ensures.value in
    let whole = whole_list old.len old.items chosen old.ok.0 edges in
    let count = length-map c.args.additions.now addition_of in
    let place = c.in-Some-unfit.place in
    let one = c.index-additions-place.result in
    let there : slice_get c.args.additions.now place ≡ Some one = get_there c.args.additions.now place one c.in-Some-unfit.ensures.bad.0 ∙ ap (λ s. Some s) (sym c.index-additions-place.is) in
    first_bad graph (none_twice graph.manifest graph.makers graph.making graph.apart) c.args.file c.requires (map addition_of c.args.additions.now) (choice_in chosen)
    (subst (λ (n : ℕ). AreChoices (owners_of (declared_by graph).edges (text_at graph.manifest.paths c.args.file) (map addition_of c.args.additions.now)) n (choice_in chosen)) (sym count) c.choose_all-unfit.ensures.choices)
    (subst (λ (l : List Choice). (e : ℕ) → LacksChoice graph c.args.file (choice_in l) e → ⊥) (c.deref.ensures.value ∙ whole) c.in_default.ensures)
    place (addition_of one) (get_map addition_of c.args.additions.now place one there) c.in-Some-unfit.ensures.bad.1 c.in-Some-unfit.ensures.bad.2
    c.in_ok-clone-in-Some-unfit.field-0 (c.in_ok-clone-in-Some-unfit.ensures.cases ∙ ap (λ (s : Statement). s.output) (sym c.index-additions-place.is))

pub returns-in-None-clause-chosen : goal.returns-in-None-clause-chosen
returns-in-None-clause-chosen c =
    let graph = c.args.self.now in
    let old = c.in_ok-chosen.chosen in
    let chosen = c.choose_all-unfit.new.chosen in
    let edges : chosen_edges chosen ≡ chosen_edges old.items = c.choose_all-unfit.ensures.edges ∙ ap chosen_edges c.deref_mut.ensures.value in
    let whole = whole_list old.len old.items chosen old.ok.0 edges in
    let additions = map addition_of c.args.additions.now in
    let none = subst (λ (l : List Choice). (e : ℕ) → LacksChoice graph c.args.file (choice_in l) e → ⊥) (c.deref.ensures.value ∙ whole) c.in_default.ensures in
    subst (λ (l : List Choice). AreChosen graph c.args.file additions (choice_in l)) (sym {A = List Choice} whole) record {
      choices = subst (λ (n : ℕ). AreChoices (owners_of (declared_by graph).edges (text_at graph.manifest.paths c.args.file) additions) n (choice_in chosen)) (sym (length-map c.args.additions.now addition_of)) c.choose_all-unfit.ensures.choices;
      all = λ k lt. c.in-None.ensures.bad k (let count = length-map c.args.additions.now addition_of in omega (arith, lt, count));
      each = λ e lt names empty. none e record { within = lt; names = names; none = empty };
    }

pub returns-in-None-clause-rising : goal.returns-in-None-clause-rising
returns-in-None-clause-rising c =
    let old = c.in_ok-chosen.chosen in
    let chosen = c.choose_all-unfit.new.chosen in
    let edges : chosen_edges chosen ≡ chosen_edges old.items = c.choose_all-unfit.ensures.edges ∙ ap chosen_edges c.deref_mut.ensures.value in
    let whole = whole_list old.len old.items chosen old.ok.0 edges in
    subst (λ (l : List Choice). AreRising (chosen_edges l)) (sym {A = List Choice} whole) (subst AreRising (sym {A = List ℕ} edges) c.in_ok-chosen.ensures.namers.rising)

pub returns-in-None-clause-within : goal.returns-in-None-clause-within
returns-in-None-clause-within c =
    let graph = c.args.self.now in
    let old = c.in_ok-chosen.chosen in
    let chosen = c.choose_all-unfit.new.chosen in
    let edges : chosen_edges chosen ≡ chosen_edges old.items = c.choose_all-unfit.ensures.edges ∙ ap chosen_edges c.deref_mut.ensures.value in
    let whole = whole_list old.len old.items chosen old.ok.0 edges in
    let named = subst (AreNamers graph c.args.file) (sym {A = List ℕ} edges) c.in_ok-chosen.ensures.namers in
    subst (All (IsWithin (length graph.manifest.lines) (length c.args.additions.now))) (sym {A = List Choice} whole)
    (each_within graph c.args.file chosen named (length c.args.additions.now)
    (choices_low (owners_of (declared_by graph).edges (text_at graph.manifest.paths c.args.file) (map addition_of c.args.additions.now)) (length c.args.additions.now) (choice_in chosen) c.choose_all-unfit.ensures.choices))
