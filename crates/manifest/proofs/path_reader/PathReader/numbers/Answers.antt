use Rattle.std.proofs.Common.{arith, ◌≡◌, ◌+◌, ◌++◌, ℕ, List, [], ◌∷◌, take, Option, Some, None, sym, subst, ◌∙◌, ap, refl, append-nil}
use Rattle.std.proofs.lemmas.List.{map-append}
use Rattle.std.specs.Option.{option_map, option_to_list}
use Rattle.lexer.specs.Said.{Fragments, fragments_of, paths_of}
use Rattle.paths.specs.Told.{text_at, texts_at}
use Rattle.scopes.specs.Moves.{Move}
use Rattle.scopes.specs.Scopes.{IsScopesOf}
use Rattle.scopes.specs.Place.{value_of_name}
use Rattle.manifest.specs.Expansion.{text_of, ArePaths}
use Rattle.manifest.specs.Flags.{FlagsAfter, IsPathFound}
use Rattle.manifest.specs.InNumbers.{AreAdded}
use Rattle.manifest.proofs.Added.{added_on, added_none, texts_grow}
use Rattle.manifest.proofs.FlagLemmas.{flags_none, flags_append, flags_before}
use Rattle.manifest.proofs.ReaderLemmas.{paths_of_more, flags_kept, found_kept, paths_found}
use Rattle.manifest.proofs.path_reader.PathReader.numbers.Goals as goal
use Rattle.manifest.proofs.path_reader.PathReader.numbers.Goals.{in-Some+in_ok-push, in_default}

pub loop-value-init : goal.loop-value-init
loop-value-init c =
    let none : c.in_ok-numbers.numbers ≡ [] = c.in_ok-numbers.ensures in
    record {
      scopes = refl;
      block = refl;
      flags = λ past at. flags_none c.args.self.now (value_of_name c.args.self.now.block.now past);
      added = subst (AreAdded c.args.table.now c.args.table.now) (sym none) (added_none c.args.table.now);
      paths = λ past at empty large. subst (λ (n : List ℕ). ArePaths (value_of_name c.args.self.now.block.now past) [] (texts_at c.args.table.now n)) (sym none) tt;
    }

pub loop-value-preserved : goal.loop-value-preserved
loop-value-preserved c =
    let more : paths_of (take (c.loop-value.value-index + 1) c.args.values.now) ≡ paths_of (take c.loop-value.value-index c.args.values.now) ++ fragments_of c.value-item.result ∷ [] =
    paths_of_more c.args.values.now c.loop-value.value-index c.value-item.result c.value-item.is (omega arith) in
    let here : (past : List Move) → IsScopesOf c.args.self.now.scopes.now past → FlagsAfter c.loop-value.self c.number.new.self (value_of_name c.args.self.now.block.now past) (fragments_of c.value-item.result ∷ []) =
    λ past. flags_kept c.loop-value.self c.number.new.self c.args.self.now.scopes.now c.args.self.now.block.now (fragments_of c.value-item.result ∷ []) past c.loop-value.invariant.scopes c.loop-value.invariant.block
    (c.in_ok-number.ensures.flags past) in
    let was = c.loop-value.invariant.added in
    let one = c.in_ok-number.ensures.added in
    record {
      scopes = c.number.ensures.scopes ∙ c.loop-value.invariant.scopes;
      block = c.number.ensures.block ∙ c.loop-value.invariant.block;
      flags = λ past at. subst (λ (texts : List Fragments). FlagsAfter c.args.self.now c.number.new.self (value_of_name c.args.self.now.block.now past) texts) (sym more)
          (flags_append c.args.self.now c.loop-value.self c.number.new.self _ _ _ (c.loop-value.invariant.flags past at) (here past at));
      added = elim c.match-branch-3.branch [
        | in-Some+in_ok-push w ↦
            let is : c.in_ok-number.field-0 ≡ Some w.in-Some.number = w.in-Some.is in
            let grown : c.match-branch-3.numbers ≡ c.loop-value.numbers ++ w.in-Some.number ∷ [] = w.numbers-is ∙ w.in_ok-push.ensures.ok in
            subst (AreAdded c.args.table.now c.number.new.table) (sym grown)
            (added_on c.args.table.now c.loop-value.table c.number.new.table c.loop-value.numbers (w.in-Some.number ∷ []) was
            (subst (λ (n : Option ℕ). AreAdded c.loop-value.table c.number.new.table (option_to_list n)) is one))
        | in_default w ↦
            let is : c.in_ok-number.field-0 ≡ None = w.in_default.is in
            subst (AreAdded c.args.table.now c.number.new.table) (append-nil c.loop-value.numbers ∙ sym w.numbers-is)
            (added_on c.args.table.now c.loop-value.table c.number.new.table c.loop-value.numbers [] was
            (subst (λ (n : Option ℕ). AreAdded c.loop-value.table c.number.new.table (option_to_list n)) is one))
      ];
      paths = λ past at empty large.
          let before = flags_before c.loop-value.self c.number.new.self _ _ (here past at) empty large in
          let found : IsPathFound (text_of (value_of_name c.args.self.now.block.now past) (fragments_of c.value-item.result)) (option_map (text_at c.number.new.table) c.in_ok-number.field-0) =
          found_kept c.loop-value.self c.args.self.now.scopes.now c.args.self.now.block.now (fragments_of c.value-item.result) _ past c.loop-value.invariant.scopes c.loop-value.invariant.block
          (λ now. c.in_ok-number.ensures.found past now empty large) at in
          elim c.match-branch-3.branch [
            | in-Some+in_ok-push w ↦
                let is : c.in_ok-number.field-0 ≡ Some w.in-Some.number = w.in-Some.is in
                let grown : c.match-branch-3.numbers ≡ c.loop-value.numbers ++ w.in-Some.number ∷ [] = w.numbers-is ∙ w.in_ok-push.ensures.ok in
                let texts : texts_at c.number.new.table (c.loop-value.numbers ++ w.in-Some.number ∷ []) ≡ texts_at c.loop-value.table c.loop-value.numbers ++ text_at c.number.new.table w.in-Some.number ∷ [] =
                texts_grow c.loop-value.table c.number.new.table c.loop-value.numbers w.in-Some.number one.grows was.within in
                rw (more, grown, texts) (paths_found _ _ _ _ (option_map (text_at c.number.new.table) c.in_ok-number.field-0) (text_at c.number.new.table w.in-Some.number) (ap (option_map (text_at c.number.new.table)) is)
                (c.loop-value.invariant.paths past at before.0 before.1) found)
            | in_default w ↦ absurd (subst (λ (option : Option ℕ). IsPathFound (text_of (value_of_name c.args.self.now.block.now past) (fragments_of c.value-item.result)) (option_map (text_at c.number.new.table) option)) w.in_default.is found)
          ];
    }
