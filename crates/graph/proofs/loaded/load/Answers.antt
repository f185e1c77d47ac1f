use Rattle.std.proofs.Common.{◌≡◌, ◌⊎◌, inl, inr, ◌∙◌, ◌<◌, ◌≤◌, ◌^◌, ◌++◌, ℕ, true, List, Result, Ok, Err, take, drop, map, refl, sym, ap, subst, length, get_or, arith}
use Rattle.std.specs.Prelude.{All, OnOk, OnErr}
use Rattle.std.proofs.Math.Seq.{take-append_seam}
use Rattle.std.proofs.lemmas.List.{length-map}
use Rattle.model.specs.Graph.{has_number, Addition}
use Rattle.paths.specs.declared.line.Line.{Line}
use Rattle.paths.specs.declared.manifest.Action.{Action}
use Rattle.paths.specs.Lists.{all_paths}
use Rattle.graph.specs.declared.choice.Choice.{Choice}
use Rattle.graph.specs.declared.loaded.Gain.{Gain}
use Rattle.graph.specs.Chosen.{chosen_edges, choice_in, AreRising, IsWithin}
use Rattle.graph.specs.Extended.{addition_of}
use Rattle.graph.specs.Gains.{HaveGainedBy, HaveGrown}
use Rattle.graph.specs.Held.{list_at, more_lists, times}
use Rattle.graph.specs.InTurn.{lines_given, users_given, AreInputsBelow, AreOutputsBelow, AreGivenTo}
use Rattle.graph.specs.Statements.{AreGainsIn, AreGrownLines, AreChoicesBelow, AreLoadedActions}
use Rattle.graph.proofs.Chosen.{choices_below}
use Rattle.graph.proofs.Gaining.{more_length}
use Rattle.graph.proofs.InTurn.{lines_are, actions_are}
use Rattle.graph.proofs.Claiming.{are_makers, outputs_below}
use Rattle.graph.proofs.Using.{inputs_below, users_fit, users_counted}
use Rattle.graph.proofs.Loading.{lines_numbered, lines_within, stops_more, stops_loaded, load_fault}
use Rattle.graph.proofs.loaded.load.Goals as goal

on_err : {T E : Type 0} {P : Type 0} (r : Result T E) → P → OnErr r P
on_err (Ok x) p = tt
on_err (Err e) p = p

either : {T E : Type 0} {A B : Type 0} (r : Result T E) → OnOk r A → OnErr r B → A ⊎ B
either (Ok x) ok err = inl ok
either (Err e) ok err = inr err

-- what lines were given is taken back
given_lines : (before : List Line) (gains : List Gain) (chosen : List Choice) (count : ℕ) (now : List Line) → AreRising (chosen_edges chosen) → All (IsWithin (length before) count) chosen → length gains ≡ count → now ≡ lines_given gains before chosen → AreGivenTo gains chosen before now
given_lines before gains chosen count now rising within fits are = record { rising = rising; within = subst (λ (n : ℕ). All (IsWithin (length before) n) chosen) (sym fits) within; are = are }

pub grow_lines-requires-clause-within : goal.grow_lines-requires-clause-within
grow_lines-requires-clause-within c =
    let manifest = c.args.manifest.now in
    let gained : AreGainsIn c.gains_of.new.paths (map addition_of c.args.additions.now) c.deref.result.now =
    subst (AreGainsIn c.gains_of.new.paths (map addition_of c.args.additions.now)) (sym {A = List Gain} c.deref.ensures.value) c.in_ok-gains.ensures.gains in
    subst (λ (n : ℕ). All (IsWithin (length manifest.lines) n) c.args.chosen.now) (sym (gained.fits ∙ length-map c.args.additions.now addition_of)) c.requires.within

-- lines grew or stayed
pub invariant_of-manifest-2 : goal.invariant_of-manifest-2
invariant_of-manifest-2 c =
    let manifest = c.args.manifest.now in
    let paths = c.gains_of.new.paths in
    let more = c.gains_of.ensures.more in
    let chosen = c.args.chosen.now in
    let choice = choice_in chosen in
    let lines = c.grow_lines.new.lines in
    let additions = map addition_of c.args.additions.now in
    let gained : AreGainsIn paths additions c.deref.result.now = subst (AreGainsIn paths additions) (sym {A = List Gain} c.deref.ensures.value) c.in_ok-gains.ensures.gains in
    let below : AreChoicesBelow (length additions) choice = subst (λ (n : ℕ). AreChoicesBelow n choice) (sym (length-map c.args.additions.now addition_of)) (choices_below (length manifest.lines) (length c.args.additions.now) chosen c.requires.within) in
    let long = more_length manifest.paths paths more in
    elim (either c.grow_lines.result c.grow_lines.ensures.ok c.grow_lines.ensures.err) [
      | inl given ↦
          let grown : AreGrownLines manifest.lines choice c.deref.result.now lines = lines_are c.deref.result.now manifest.lines lines chosen c.requires.rising given in
          record {
            few = subst (λ (n : ℕ). n ≤ 2 ^ 32) (sym grown.fits) manifest.few;
            fits = manifest.fits ∙ sym grown.fits;
            names = omega (arith, long, manifest.names);
            numbered = lines_numbered manifest paths more additions c.deref.result.now gained choice below lines grown;
            within = lines_within manifest paths more additions c.deref.result.now gained choice below lines grown;
            known = manifest.known;
            dyndeps = stops_more manifest paths more additions c.deref.result.now gained choice below lines grown;
          }
      | inr same ↦ record {
        few = subst (λ (l : List Line). length l ≤ 2 ^ 32) (sym same) manifest.few;
        fits = manifest.fits ∙ ap (λ (l : List Line). length l) (sym same);
        names = omega (arith, long, manifest.names);
        numbered = subst (λ (l : List Line). (p : ℕ) → p < manifest.named → has_number (all_paths l) p ≡ true) (sym same) manifest.numbered;
        within = subst (λ (l : List Line). (p : ℕ) → has_number (all_paths l) p ≡ true → p < length paths) (sym same) (λ p h. let low = manifest.within p h in omega (arith, low, long));
        known = manifest.known;
        dyndeps = λ k. let low = manifest.dyndeps k in omega (arith, low, long);
      }
    ]

pub returns-in_err-grow_lines-clause-err : goal.returns-in_err-grow_lines-clause-err
returns-in_err-grow_lines-clause-err c =
    on_err c.from_residual-in_err-grow_lines.result record { paths = c.gains_of.ensures.more; named = refl; lines = c.in_err-grow_lines.ensures.err; actions = refl; pools = refl; defaults = refl; builddir = refl }

pub load_actions-requires : goal.load_actions-requires
load_actions-requires c =
    let manifest = c.args.manifest.now in
    subst (λ (n : ℕ). All (IsWithin n (length c.args.additions.now)) c.args.chosen.now) (sym manifest.fits ∙ ap (λ (l : List Action). length l) (sym {A = List Action} (c.deref_mut.ensures.value ∙ (c.into_vec-actions.ensures ∙ c.replace.ensures.value)))) c.requires.within

pub invariant_of-manifest-in-Ok : goal.invariant_of-manifest-in-Ok
invariant_of-manifest-in-Ok c =
    let manifest = c.args.manifest.now in
    let paths = c.gains_of.new.paths in
    let more = c.gains_of.ensures.more in
    let chosen = c.args.chosen.now in
    let choice = choice_in chosen in
    let lines = c.grow_lines.new.lines in
    let additions = map addition_of c.args.additions.now in
    let gained : AreGainsIn paths additions c.deref.result.now = subst (AreGainsIn paths additions) (sym {A = List Gain} c.deref.ensures.value) c.in_ok-gains.ensures.gains in
    let grown : AreGrownLines manifest.lines choice c.deref.result.now lines = lines_are c.deref.result.now manifest.lines lines chosen c.requires.rising c.in_ok-grow_lines.ensures.ok in
    let below : AreChoicesBelow (length additions) choice = subst (λ (n : ℕ). AreChoicesBelow n choice) (sym (length-map c.args.additions.now addition_of)) (choices_below (length manifest.lines) (length c.args.additions.now) chosen c.requires.within) in
    let long = more_length manifest.paths paths more in
    let loaded : AreLoadedActions manifest.actions choice additions c.from_vec.result =
    let now = c.load_actions.new.actions in
    let vec = c.into_vec-actions.result in
    let first : c.deref_mut.result.now ≡ manifest.actions = c.deref_mut.ensures.value ∙ (c.into_vec-actions.ensures ∙ c.replace.ensures.value) in
    let are : AreLoadedActions manifest.actions choice additions now =
    subst (λ (l : List Action). AreLoadedActions l choice additions now) first
    (actions_are additions (length manifest.lines) (length c.args.additions.now) c.deref_mut.result.now now chosen (ap (λ (l : List Action). length l) first ∙ manifest.fits) c.requires.within c.requires.rising c.load_actions.ensures) in
    let size : length now ≡ length vec.items = are.fits ∙ ap (λ (l : List Action). length l) (sym {A = List Action} (c.into_vec-actions.ensures ∙ c.replace.ensures.value)) in
    let full : vec.len ≡ length now = omega (arith, vec.ok.0, size) in
    let whole : take vec.len (now ++ drop (length now) vec.items) ≡ now = ap (λ (n : ℕ). take n (now ++ drop (length now) vec.items)) full ∙ take-append_seam now (drop (length now) vec.items) in
    subst (AreLoadedActions manifest.actions choice additions) (sym {A = List Action} (c.from_vec.ensures ∙ whole)) are in
    record {
      few = subst (λ (n : ℕ). n ≤ 2 ^ 32) (sym grown.fits) manifest.few;
      fits = loaded.fits ∙ (manifest.fits ∙ sym grown.fits);
      names = omega (arith, long, manifest.names);
      numbered = lines_numbered manifest paths more additions c.deref.result.now gained choice below lines grown;
      within = lines_within manifest paths more additions c.deref.result.now gained choice below lines grown;
      known = manifest.known;
      dyndeps = stops_loaded manifest paths more additions c.deref.result.now gained choice below lines grown c.from_vec.result loaded;
    }

pub returns-in-Ok-clause-loaded : goal.returns-in-Ok-clause-loaded
returns-in-Ok-clause-loaded c =
    let manifest = c.args.manifest.now in
    let paths = c.gains_of.new.paths in
    let chosen = c.args.chosen.now in
    let choice = choice_in chosen in
    let lines = c.grow_lines.new.lines in
    let additions = map addition_of c.args.additions.now in
    let gained : AreGainsIn paths additions c.deref.result.now = subst (AreGainsIn paths additions) (sym {A = List Gain} c.deref.ensures.value) c.in_ok-gains.ensures.gains in
    let grown : AreGrownLines manifest.lines choice c.deref.result.now lines = lines_are c.deref.result.now manifest.lines lines chosen c.requires.rising c.in_ok-grow_lines.ensures.ok in
    let now = c.load_actions.new.actions in
    let vec = c.into_vec-actions.result in
    let first : c.deref_mut.result.now ≡ manifest.actions = c.deref_mut.ensures.value ∙ (c.into_vec-actions.ensures ∙ c.replace.ensures.value) in
    let are : AreLoadedActions manifest.actions choice additions now =
    subst (λ (l : List Action). AreLoadedActions l choice additions now) first
    (actions_are additions (length manifest.lines) (length c.args.additions.now) c.deref_mut.result.now now chosen (ap (λ (l : List Action). length l) first ∙ manifest.fits) c.requires.within c.requires.rising c.load_actions.ensures) in
    let size : length now ≡ length vec.items = are.fits ∙ ap (λ (l : List Action). length l) (sym {A = List Action} (c.into_vec-actions.ensures ∙ c.replace.ensures.value)) in
    let full : vec.len ≡ length now = omega (arith, vec.ok.0, size) in
    let whole : take vec.len (now ++ drop (length now) vec.items) ≡ now = ap (λ (n : ℕ). take n (now ++ drop (length now) vec.items)) full ∙ take-append_seam now (drop (length now) vec.items) in
    let loaded : AreLoadedActions manifest.actions choice additions c.from_vec.result = subst (AreLoadedActions manifest.actions choice additions) (sym {A = List Action} (c.from_vec.ensures ∙ whole)) are in
    record { paths = c.gains_of.ensures.more; gains = c.deref.result.now; gained = gained; lines = grown; actions = loaded; named = refl; pools = refl; defaults = refl; builddir = refl }

pub returns-in-Err-clause-fault : goal.returns-in-Err-clause-fault
returns-in-Err-clause-fault c =
    let manifest = c.args.manifest.now in
    let paths = c.gains_of.new.paths in
    let chosen = c.args.chosen.now in
    let additions = map addition_of c.args.additions.now in
    let gained : AreGainsIn paths additions c.deref.result.now = subst (AreGainsIn paths additions) (sym {A = List Gain} c.deref.ensures.value) c.in_ok-gains.ensures.gains in
    let grown : AreGrownLines manifest.lines (choice_in chosen) c.deref.result.now c.grow_lines.new.lines = lines_are c.deref.result.now manifest.lines c.grow_lines.new.lines chosen c.requires.rising c.in_ok-grow_lines.ensures.ok in
    load_fault manifest additions (choice_in chosen) c.deref.result.now paths c.grow_lines.new.lines c.in-Err.fault c.in-Err.ensures.fault c.gains_of.ensures.more gained grown

pub grow_parts-requires-clause-users : goal.grow_parts-requires-clause-users
grow_parts-requires-clause-users c =
    let long = more_length c.args.manifest.now.paths c.gains_of.new.paths c.gains_of.ensures.more in
    let fits = c.requires.users.2.fits in
    omega (arith, long, fits)

pub grow_parts-requires-clause-inputs : goal.grow_parts-requires-clause-inputs
grow_parts-requires-clause-inputs c =
    subst (λ (l : List Gain). AreInputsBelow (length c.gains_of.new.paths) l) (sym {A = List Gain} c.deref-2.ensures.value) (inputs_below c.gains_of.new.paths (map addition_of c.args.additions.now) c.in_ok-gains.gains.items c.in_ok-gains.ensures.gains)

pub grow_parts-requires-clause-makers : goal.grow_parts-requires-clause-makers
grow_parts-requires-clause-makers c =
    let long = more_length c.args.manifest.now.paths c.gains_of.new.paths c.gains_of.ensures.more in
    let fits = c.requires.makers.fits in
    omega (arith, long, fits)

pub grow_parts-requires-clause-outputs : goal.grow_parts-requires-clause-outputs
grow_parts-requires-clause-outputs c =
    subst (λ (l : List Gain). AreOutputsBelow (length c.gains_of.new.paths) l) (sym {A = List Gain} c.deref-2.ensures.value) (outputs_below c.gains_of.new.paths (map addition_of c.args.additions.now) c.in_ok-gains.gains.items c.in_ok-gains.ensures.gains)

pub grow_parts-requires-clause-grown : goal.grow_parts-requires-clause-grown
grow_parts-requires-clause-grown c =
    let manifest = c.args.manifest.now in
    let additions = map addition_of c.args.additions.now in
    let gained : AreGainsIn c.gains_of.new.paths additions c.deref-2.result.now = subst (AreGainsIn c.gains_of.new.paths additions) (sym {A = List Gain} c.deref-2.ensures.value) c.in_ok-gains.ensures.gains in
    record {
      before = manifest.lines;
      makers_are = are_makers manifest c.args.parts.now.makers c.requires.makers;
      within = subst (λ (n : ℕ). All (IsWithin (length manifest.lines) n) c.args.chosen.now) (sym (gained.fits ∙ length-map c.args.additions.now addition_of)) c.requires.within;
      are = c.in_ok-grow_lines.ensures.ok ∙ ap (λ (l : List Gain). lines_given l manifest.lines c.args.chosen.now) (c.deref.ensures.value ∙ sym c.deref-2.ensures.value);
    }

pub returns-in-Ok-clause-users : goal.returns-in-Ok-clause-users
returns-in-Ok-clause-users c recorded noted using =
    let manifest = c.args.manifest.now in
    let paths = c.gains_of.new.paths in
    let chosen = c.args.chosen.now in
    let lines = c.grow_lines.new.lines in
    let additions = map addition_of c.args.additions.now in
    let gains = c.in_ok-gains.gains.items in
    let grown : AreGrownLines manifest.lines (choice_in chosen) gains lines =
    lines_are gains manifest.lines lines chosen c.requires.rising (c.in_ok-grow_lines.ensures.ok ∙ ap (λ (l : List Gain). lines_given l manifest.lines chosen) c.deref.ensures.value) in
    let users = c.args.parts.now.users in
    let below = inputs_below paths additions gains c.in_ok-gains.ensures.gains in
    let are : c.grow_parts.new.parts.users ≡ users_given gains (more_lists users (length paths)) chosen = c.in-Ok.ensures.users ∙ ap (λ (l : List Gain). users_given l (more_lists users (length paths)) chosen) c.deref-2.ensures.value in
    record {
      fits = ap (λ (l : List (List ℕ)). length l) are
          ∙ users_fit manifest paths lines recorded users noted using c.gains_of.ensures.more gains below chosen c.requires.rising (length c.args.additions.now) c.requires.within grown;
      counted = λ p e low.
          ap (λ (l : List (List ℕ)). times (list_at l p) e) are
          ∙ users_counted manifest paths lines recorded users noted using c.gains_of.ensures.more gains below chosen c.requires.rising (length c.args.additions.now) c.requires.within grown p e low;
    }

pub returns-in-Ok-clause-gained : goal.returns-in-Ok-clause-gained
returns-in-Ok-clause-gained c = subst (λ (l : List Gain). HaveGainedBy l c.args.chosen.now c.args.parts.now.makers c.grow_parts.new.parts.makers) c.deref-2.ensures.value c.in-Ok.ensures.gained

pub returns-in-Ok-clause-grown : goal.returns-in-Ok-clause-grown
returns-in-Ok-clause-grown c = subst (λ (l : List Gain). HaveGrown l c.args.chosen.now c.args.parts.now.users c.grow_parts.new.parts.users) c.deref-2.ensures.value c.in-Ok.ensures.grown

pub returns-in-Ok-clause-inputs : goal.returns-in-Ok-clause-inputs
returns-in-Ok-clause-inputs c = inputs_below c.gains_of.new.paths (map addition_of c.args.additions.now) c.in_ok-gains.gains.items c.in_ok-gains.ensures.gains

pub returns-in-Ok-clause-outputs : goal.returns-in-Ok-clause-outputs
returns-in-Ok-clause-outputs c =
    subst (λ (n : ℕ). AreOutputsBelow n c.in_ok-gains.gains.items) (sym {A = ℕ} c.in-Ok.ensures.fits) (outputs_below c.gains_of.new.paths (map addition_of c.args.additions.now) c.in_ok-gains.gains.items c.in_ok-gains.ensures.gains)

pub shrink_lines-requires : goal.shrink_lines-requires
shrink_lines-requires c =
    let gained = c.in_ok-gains.ensures.gains.fits ∙ length-map c.args.additions.now addition_of in
    let given = given_lines c.args.manifest.now.lines c.in_ok-gains.gains.items c.args.chosen.now (length c.args.additions.now) c.grow_lines.new.lines c.requires.rising c.requires.within gained
    (c.in_ok-grow_lines.ensures.ok ∙ ap (λ (l : List Gain). lines_given l c.args.manifest.now.lines c.args.chosen.now) c.deref.ensures.value) in
    (c.args.manifest.now.lines, subst (λ (l : List Gain). AreGivenTo l c.args.chosen.now c.args.manifest.now.lines c.grow_lines.new.lines) (sym {A = List Gain} c.deref-in-Err.ensures.value) given)

pub returns-in-Ok-clause-given : goal.returns-in-Ok-clause-given
returns-in-Ok-clause-given c =
    given_lines c.args.manifest.now.lines c.in_ok-gains.gains.items c.args.chosen.now (length c.args.additions.now) c.grow_lines.new.lines c.requires.rising c.requires.within
    (c.in_ok-gains.ensures.gains.fits ∙ length-map c.args.additions.now addition_of)
    (c.in_ok-grow_lines.ensures.ok ∙ ap (λ (l : List Gain). lines_given l c.args.manifest.now.lines c.args.chosen.now) c.deref.ensures.value)

pub invariant_of-manifest-in-Err : goal.invariant_of-manifest-in-Err
invariant_of-manifest-in-Err c =
    let manifest = c.args.manifest.now in
    let gained = c.in_ok-gains.ensures.gains.fits ∙ length-map c.args.additions.now addition_of in
    let given = given_lines manifest.lines c.in_ok-gains.gains.items c.args.chosen.now (length c.args.additions.now) c.grow_lines.new.lines c.requires.rising c.requires.within gained
    (c.in_ok-grow_lines.ensures.ok ∙ ap (λ (l : List Gain). lines_given l manifest.lines c.args.chosen.now) c.deref.ensures.value) in
    let same = c.shrink_lines.ensures manifest.lines (subst (λ (l : List Gain). AreGivenTo l c.args.chosen.now manifest.lines c.grow_lines.new.lines) (sym {A = List Gain} c.deref-in-Err.ensures.value) given) in
    let long = more_length manifest.paths c.gains_of.new.paths c.gains_of.ensures.more in
    record {
      few = subst (λ (l : List Line). length l ≤ 2 ^ 32) (sym same) manifest.few;
      fits = manifest.fits ∙ ap (λ (l : List Line). length l) (sym same);
      names = omega (arith, long, manifest.names);
      numbered = subst (λ (l : List Line). (p : ℕ) → p < manifest.named → has_number (all_paths l) p ≡ true) (sym same) manifest.numbered;
      within = subst (λ (l : List Line). (p : ℕ) → has_number (all_paths l) p ≡ true → p < length c.gains_of.new.paths) (sym same) (λ p h. let low = manifest.within p h in omega (arith, low, long));
      known = manifest.known;
      dyndeps = λ k. let low = manifest.dyndeps k in omega (arith, low, long);
    }

pub returns-in-Err-clause-err : goal.returns-in-Err-clause-err
returns-in-Err-clause-err c =
    let manifest = c.args.manifest.now in
    let gained = c.in_ok-gains.ensures.gains.fits ∙ length-map c.args.additions.now addition_of in
    let given = given_lines manifest.lines c.in_ok-gains.gains.items c.args.chosen.now (length c.args.additions.now) c.grow_lines.new.lines c.requires.rising c.requires.within gained
    (c.in_ok-grow_lines.ensures.ok ∙ ap (λ (l : List Gain). lines_given l manifest.lines c.args.chosen.now) c.deref.ensures.value) in
    record {
      paths = c.gains_of.ensures.more;
      named = refl;
      lines = c.shrink_lines.ensures manifest.lines (subst (λ (l : List Gain). AreGivenTo l c.args.chosen.now manifest.lines c.grow_lines.new.lines) (sym {A = List Gain} c.deref-in-Err.ensures.value) given);
      actions = refl;
      pools = refl;
      defaults = refl;
      builddir = refl;
    }
