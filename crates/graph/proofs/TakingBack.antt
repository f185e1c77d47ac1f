-- How the load of a dyndep file is taken back.
use Rattle.std.proofs.Common.{◌≡◌, ◌⊎◌, inl, inr, ℕ, zero, suc, ◌+◌, ◌-◌, ◌<◌, ◌≤◌, ◌^◌, ◌||◌, Bool, true, false, List, [], ◌∷◌, ◌++◌, Option, Some, None, map, length, get_or, slice_get, take, drop, refl, sym, ◌∙◌, ap, subst, arith, append_assoc, length-append}
use Rattle.std.specs.Option.{is_some}
use Rattle.std.proofs.Math.Seq.{take-append_seam}
use Rattle.std.proofs.lemmas.Bool.{cases_Bool, cases_lt, false≢true, false_from_ne_true}
use Rattle.std.proofs.lemmas.List.{ext_get_or, get_or_past, get_or-take}
use Rattle.model.specs.Graph.{has_number, edge_at, Addition}
use Rattle.paths.specs.declared.line.Line.{Line}
use Rattle.paths.specs.declared.manifest.Action.{Action}
use Rattle.paths.specs.declared.manifest.Action.TheVariants.{Alias, Command}
use Rattle.paths.specs.declared.manifest.Command.{Command as Does}
use Rattle.paths.specs.declared.manifest.Manifest.{Manifest}
use Rattle.paths.specs.Commands.{no_action}
use Rattle.paths.specs.Lists.{line_at, line_inputs, Extends}
use Rattle.paths.specs.Told.{text_at}
use Rattle.graph.specs.declared.back.Before.{Before}
use Rattle.graph.specs.declared.back.LoadedEdge.{LoadedEdge}
use Rattle.graph.specs.declared.choice.Choice.{Choice}
use Rattle.graph.specs.declared.graph.Graph.{Graph}
use Rattle.graph.specs.declared.loaded.Gain.{Gain}
use Rattle.graph.specs.Fronts.{AreCut, recorded_times}
use Rattle.graph.specs.Gains.{gained_times, gained_outputs, AreFreed}
use Rattle.graph.specs.Held.{list_at, times, dyndep_of}
use Rattle.graph.specs.Extended.{dyndep_at}
use Rattle.graph.specs.InTurn.{AreGivenTo, AreInputsBelow, AreOutputsBelow}
use Rattle.graph.specs.LoadedEdges.{numbers_in}
use Rattle.graph.specs.Statements.{is_place, action_at, action_with, loaded_action, addition_at, owner_in, owners_of, IsChoice, IsFirstOf, AreChosen, AreLoadedActions, HasMore}
use Rattle.graph.specs.Told.{declared_by}
use Rattle.graph.specs.Back.{has_restat, undone, IsLoadedEdge, AreLoadedEdges, AreUndoneBy, IsManifestBefore, Undoes, HasGainedAt, MayBeTakenBack}
use Rattle.graph.proofs.Choosing.{owner_some, is_at, place_is, names_number, named_within}
use Rattle.graph.proofs.Fronts.{GrewBy, grew_then, grew_back, cut_then, length_cut, recorded_counted}
use Rattle.graph.proofs.Gaining.{more_length}
use Rattle.graph.proofs.Lists.{times-append, times_of_has}
use Rattle.graph.proofs.Losing.{freed_front}
use Rattle.graph.proofs.Naming.{namer_within}
use Rattle.graph.proofs.Places.{map_get}
use Rattle.graph.proofs.Undoing.{number_there, number_at, forgotten_is}

none_some : {X : Type 0} (x : X) → None ≡ Some x → ⊥
none_some x is = cc

some_same : {X : Type 0} (a b : X) → Some a ≡ Some b → a ≡ b
some_same a b is = cc

-- a command whose file is loaded does what it did, once it names the file again
back_to : (file : ℕ) (restat given : Bool) (a : Action) → dyndep_of a ≡ Some file → restat ≡ has_restat a → undone file restat (loaded_action given a) ≡ a
back_to file restat given Alias names same = absurd (none_some file names)
back_to file restat given (Command command) names same = ap (λ (r : Bool). Command (record command { restat = r; dyndep = Some file })) same ∙ ap (λ (o : Option ℕ). Command (record command { dyndep = o })) (sym names)

module _ (graph : Graph) (file : ℕ) (low : file < length graph.manifest.paths) (additions : List Addition) (choice : ℕ → Option ℕ) (are : AreChosen graph file additions choice)
    (edges : List LoadedEdge) (loaded : AreLoadedEdges graph.manifest.actions choice edges) where
  -- an edge for which a statement was chosen names the file
  chosen_names : (e k : ℕ) → choice e ≡ Some k → dyndep_at graph e ≡ Some file
  chosen_names e k is =
      let at = (subst (IsChoice (owners_of (declared_by graph).edges name additions) (length additions) e) is (are.choices e)).1 in
      let one = map_get owner additions k (Some (suc e)) at.at in
      names_number graph e file low (owner_some (declared_by graph).edges name one.0.output (suc e) one.2).0
    where
      name : List ℕ
      name = text_at graph.manifest.paths file

      owner : Addition → Option ℕ
      owner a = owner_in (declared_by graph).edges name a.output

  some_chosen : (o : Option ℕ) → is_some o ≡ true → (k : ℕ) × (o ≡ Some k)
  some_chosen None is = absurd (false≢true is)
  some_chosen (Some k) is = (k, refl)

  pub undone_by : (actions : List Action) → AreLoadedActions graph.manifest.actions choice additions actions → AreUndoneBy file edges actions graph.manifest.actions
  undone_by actions grown = record {
    fits = sym grown.fits;
    within = λ k l at.
        let one = some_chosen (choice l.edge) (loaded.each k l at).some in
        let place = namer_within graph l.edge file (chosen_names l.edge one.0 one.1) in
        let b = graph.manifest.fits in
        let c = grown.fits in
        omega (arith, place, b, c);
    each = λ k l at.
        let is = loaded.each k l at in
        let one = some_chosen (choice l.edge) is.some in
        let was = action_at graph.manifest.actions l.edge in
        let now : action_at actions l.edge ≡ loaded_action (addition_at additions one.0).restat was = grown.each l.edge ∙ ap (action_with additions was) one.1 in
        ap (undone file l.restat) now ∙ back_to file l.restat (addition_at additions one.0).restat was (chosen_names l.edge one.0 one.1) is.restat;
    others = λ e absent. grown.each e ∙ unchosen e absent;
  }
    where
      unchosen : (e : ℕ) → has_number (numbers_in edges) e ≡ false → action_with additions (action_at graph.manifest.actions e) (choice e) ≡ action_at graph.manifest.actions e
      unchosen e absent = by (choice e) refl
        where
          by : (o : Option ℕ) → choice e ≡ o → action_with additions (action_at graph.manifest.actions e) o ≡ action_at graph.manifest.actions e
          by None is = refl
          by (Some k) is = absurd (false≢true (sym absent ∙ loaded.all e (ap is_some is)))

  -- the edges are just those that named the file
  pub loaded_are : (e : ℕ) → has_number (numbers_in edges) e ≡ is_place (dyndep_at graph e) file
  loaded_are e = elim (cases_Bool (has_number (numbers_in edges) e)) [
    | inl has ↦
        let at = number_at edges e has in
        let is = loaded.each at.0 at.1.0 at.1.1 in
        let one = some_chosen (choice at.1.0.edge) is.some in
        has ∙ sym (is_at (dyndep_at graph e) file (subst (λ (n : ℕ). dyndep_at graph n ≡ Some file) at.1.2 (chosen_names at.1.0.edge one.0 one.1)))
    | inr absent ↦ absent ∙ sym (false_from_ne_true (is_place (dyndep_at graph e) file) (λ is.
        let names = place_is (dyndep_at graph e) file is in
        by e absent names (namer_within graph e file names) (choice e) refl))
  ]
    where
      by : (e : ℕ) → has_number (numbers_in edges) e ≡ false → dyndep_at graph e ≡ Some file → e < length graph.manifest.lines → (o : Option ℕ) → choice e ≡ o → ⊥
      by e absent names within None is = are.each e within names is
      by e absent names within (Some k) is = false≢true (sym absent ∙ loaded.all e (ap is_some is))

-- ---- the graph that was

module _ (old loaded now : Graph) (gains : List Gain) (chosen : List Choice) (edges : List LoadedEdge) (name paths : ℕ) where
  -- what joined since then is taken back too
  pub still_before : IsManifestBefore old.manifest loaded.manifest gains chosen edges name paths → HasGainedAt (numbers_in edges) loaded now → IsManifestBefore old.manifest now.manifest gains chosen edges name paths
  still_before is gained = record {
    lines = subst (AreGivenTo gains chosen old.manifest.lines) (sym gained.lines) is.lines;
    paths = is.paths;
    more = record { added = is.more.added ++ gained.paths.added; grows = gained.paths.grows ∙ (ap (λ (l : List (List ℕ)). l ++ gained.paths.added) is.more.grows ∙ append_assoc old.manifest.paths is.more.added gained.paths.added) };
    actions = subst (λ (l : List Action). AreUndoneBy name edges l old.manifest.actions) (sym gained.actions) is.actions;
    named = gained.named ∙ is.named;
    pools = gained.pools ∙ is.pools;
    defaults = gained.defaults ∙ is.defaults;
    builddir = gained.builddir ∙ is.builddir;
  }

-- the first paths are those that the manifest had
pub paths_back : (before now : List (List ℕ)) (count : ℕ) → HasMore before now → count ≡ length before → take count now ≡ before
paths_back before now count more is = ap (λ (n : ℕ). take n now) is ∙ (ap (take (length before)) more.grows ∙ take-append_seam before more.added)

-- a list that was written over one of its length stands whole
pub actions_back : (len : ℕ) (old new : List Action) → len ≡ length old → length new ≡ length old → take len (new ++ drop (length new) old) ≡ new
actions_back len old new full size = ap (λ (n : ℕ). take n (new ++ drop (length new) old)) (full ∙ sym size) ∙ take-append_seam new (drop (length new) old)

module _ (old loaded now : Graph) (before : Before) (may : MayBeTakenBack old loaded now before) where
  as_many : length now.recorded ≡ length old.recorded
  as_many =
      let a = now.recording.fits in
      let b = ap (λ (l : List Line). length l) may.gained.lines in
      let c = loaded.recording.fits in
      let d = ap (λ (l : List (List ℕ)). length l) may.undoes.recorded in
      omega (arith, a, b, c, d)

  -- the edges that were loaded are edges of the graph
  pub edge_within : (k : ℕ) (l : LoadedEdge) → slice_get before.edges.items k ≡ Some l → l.edge < length now.recorded
  edge_within k l at =
      let low = may.undoes.manifest.actions.within k l at in
      let a = ap (λ (x : List Action). length x) may.gained.actions in
      let b = now.manifest.fits in
      let c = now.recording.fits in
      omega (arith, low, a, b, c)

  pub recorded_back : (edges : List LoadedEdge) → edges ≡ before.edges.items → (recorded : List (List ℕ)) → length recorded ≡ length now.recorded
      → ((k : ℕ) (l : LoadedEdge) → slice_get edges k ≡ Some l → list_at recorded l.edge ≡ []) → ((e : ℕ) → has_number (numbers_in edges) e ≡ false → list_at recorded e ≡ list_at now.recorded e) → recorded ≡ old.recorded
  recorded_back edges is recorded size gone kept = forgotten_is edges now.recorded recorded old.recorded size gone kept (sym as_many)
      (λ e absent. may.gained.others e (sym (ap (λ (l : List LoadedEdge). has_number (numbers_in l) e) is) ∙ absent) ∙ ap (λ (l : List (List ℕ)). list_at l e) may.undoes.recorded)
      (λ e has. may.none e (sym (ap (λ (l : List LoadedEdge). has_number (numbers_in l) e) is) ∙ has))

  -- ---- users

  -- what joined a list since the load are the edges that recorded the path since then
  since_then : (p : ℕ) → p < length old.manifest.paths → GrewBy (recorded_times now.recorded (numbers_in before.edges.items) p) (list_at loaded.users p) (list_at now.users p)
  since_then p low = record { more = more; grows = grows; long = recorded_counted now.recorded more edges p may.undoes.once each same }
    where
      edges : List ℕ
      edges = numbers_in before.edges.items

      front : Extends (list_at loaded.users p) (list_at now.users p)
      front = may.gained.users p

      more : List ℕ
      more = front.more

      grows : list_at now.users p ≡ list_at loaded.users p ++ more
      grows = front.grows

      in_loaded : p < length loaded.manifest.paths
      in_loaded = let long = more_length old.manifest.paths loaded.manifest.paths may.undoes.manifest.more in omega (arith, low, long)

      in_now : p < length now.manifest.paths
      in_now = let long = more_length loaded.manifest.paths now.manifest.paths may.gained.paths in let first = in_loaded in omega (arith, first, long)

      -- an edge stands there as often as it recorded the path since then
      counted : (e : ℕ) → times more e + times (list_at loaded.recorded e) p ≡ times (list_at now.recorded e) p
      counted e =
          let before_then = loaded.using.counted p e in_loaded in
          let at_last = now.using.counted p e in_now in
          let one = times-append (line_inputs (line_at loaded.manifest.lines e)) (list_at loaded.recorded e) p in
          let two = times-append (line_inputs (line_at now.manifest.lines e)) (list_at now.recorded e) p in
          let lines = ap (λ (l : List Line). times (line_inputs (line_at l e)) p) may.gained.lines in
          let list = ap (λ (l : List ℕ). times l e) grows in
          let sum = times-append (list_at loaded.users p) more e in
          omega (arith, before_then, at_last, one, two, lines, list, sum)

      each : (e : ℕ) → has_number more e ≡ true → has_number edges e ≡ true
      each e there = elim (cases_Bool (has_number edges e)) [
        | inl has ↦ has
        | inr absent ↦
            let some = times_of_has more e there in
            let kept = ap (λ (l : List ℕ). times l p) (may.gained.others e absent) in
            let all = counted e in
            absurd (omega (arith, some, kept, all))
      ]

      same : (e : ℕ) → has_number edges e ≡ true → times more e ≡ times (list_at now.recorded e) p
      same e has =
          let none = ap (λ (l : List ℕ). times l p) (ap (λ (l : List (List ℕ)). list_at l e) may.undoes.recorded ∙ may.none e has) in
          let all = counted e in
          let nothing : times [] p ≡ 0 = refl in
          omega (arith, none, all, nothing)

  -- and by the load those that gained it
  by_load : (p : ℕ) → GrewBy (gained_times before.gains.items before.chosen.items p) (list_at old.users p) (list_at loaded.users p)
  by_load p =
      let front = may.undoes.users.fronts p in
      let long = may.undoes.users.long p in
      let size = ap length front.grows in
      let sum = length-append (list_at old.users p) front.more in
      record { more = front.more; grows = front.grows; long = omega (arith, long, size, sum) }

  pub inputs_within : (users : List (List ℕ)) → length users ≡ length now.users → AreInputsBelow (length users) before.gains.items
  inputs_within users fits k p h =
      let low = may.undoes.inputs k p h in
      let long = more_length loaded.manifest.paths now.manifest.paths may.gained.paths in
      let all = now.using.fits in
      omega (arith, low, long, all, fits)

  pub outputs_within : (makers : List (Option ℕ)) → makers ≡ now.makers → AreOutputsBelow (length makers) before.gains.items
  outputs_within makers is = subst (λ (l : List (Option ℕ)). AreOutputsBelow (length l) before.gains.items) (sym (is ∙ may.gained.makers)) may.undoes.outputs

  pub users_back : (one two last : List (List ℕ)) → AreCut (recorded_times now.recorded (numbers_in before.edges.items)) now.users one → AreCut (gained_times before.gains.items before.chosen.items) one two → last ≡ take before.paths two → last ≡ old.users
  users_back one two last first second is = is ∙ ext_get_or [] (take before.paths two) old.users sizes (λ p low. get_or-take before.paths two p [] (inside p low) ∙ (cut.each p ∙ back p (within p low)))
    where
      r : ℕ → ℕ
      r = recorded_times now.recorded (numbers_in before.edges.items)

      g : ℕ → ℕ
      g = gained_times before.gains.items before.chosen.items

      cut : AreCut (λ p. g p + r p) now.users two
      cut = cut_then r g (λ p. g p + r p) now.users one two (λ p. omega arith) first second

      sizes : length (take before.paths two) ≡ length old.users
      sizes =
          let count = may.undoes.manifest.paths in
          let a = more_length old.manifest.paths loaded.manifest.paths may.undoes.manifest.more in
          let b = more_length loaded.manifest.paths now.manifest.paths may.gained.paths in
          let fits = cut.fits in
          let all = now.using.fits in
          let whole = old.using.fits in
          length_cut before.paths two (omega (arith, count, a, b, fits, all)) ∙ omega (arith, count, whole)

      within : (p : ℕ) → p < length (take before.paths two) → p < length old.manifest.paths
      within p low = let size = sizes in let whole = old.using.fits in omega (arith, low, size, whole)

      inside : (p : ℕ) → p < length (take before.paths two) → p < before.paths
      inside p low = let below = within p low in let count = may.undoes.manifest.paths in omega (arith, below, count)

      back : (p : ℕ) → p < length old.manifest.paths → take (length (list_at now.users p) - (g p + r p)) (list_at now.users p) ≡ list_at old.users p
      back p low = grew_back (g p + r p) (list_at old.users p) (list_at now.users p) (grew_then (list_at old.users p) (list_at loaded.users p) (list_at now.users p) (g p) (r p) (by_load p) (since_then p low))

  -- ---- makers

  pub makers_back : (freed last : List (Option ℕ)) → AreFreed (gained_outputs before.gains.items before.chosen.items) now.makers freed → last ≡ take before.makers freed → last ≡ old.makers
  makers_back freed last are is =
      let outs = gained_outputs before.gains.items before.chosen.items in
      let still : AreFreed outs loaded.makers freed = subst (λ (l : List (Option ℕ)). AreFreed outs l freed) may.gained.makers are in
      let count = may.undoes.makers in
      let longer = may.undoes.gained.longer in
      let fits = still.fits in
      is ∙ freed_front outs old.makers loaded.makers freed before.makers count may.undoes.gained still (length_cut before.makers freed (omega (arith, count, longer, fits)) ∙ count)
