use Rattle.std.proofs.Common.{arith, ◌≡◌, ◌+◌, ◌++◌, ℕ, List, [], ◌∷◌, take, Option, Some, sym, subst, ◌∙◌}
use Rattle.lexer.specs.Said.{Fragments, fragments_of, paths_of}
use Rattle.scopes.specs.Moves.{Move}
use Rattle.scopes.specs.Scopes.{IsScopesOf}
use Rattle.scopes.specs.Place.{value_of_name}
use Rattle.manifest.specs.Expansion.{text_of}
use Rattle.manifest.specs.Flags.{FlagsAfter, IsPathFound}
use Rattle.manifest.proofs.FlagLemmas.{flags_append, flags_before}
use Rattle.manifest.proofs.ReaderLemmas.{paths_of_more, flags_kept, found_kept, paths_found}
use Rattle.manifest.proofs.path_reader.PathReader.paths.Goals as goal
use Rattle.manifest.proofs.path_reader.PathReader.paths.Goals.{in-Some+in_ok-push, in_default}

pub loop-value-preserved : goal.loop-value-preserved
loop-value-preserved c =
    let more : paths_of (take (c.loop-value.value-index + 1) c.args.values.now) ≡ paths_of (take c.loop-value.value-index c.args.values.now) ++ fragments_of c.value-item.result ∷ [] =
    paths_of_more c.args.values.now c.loop-value.value-index c.value-item.result c.value-item.is (omega arith) in
    let here : (past : List Move) → IsScopesOf c.args.self.now.scopes.now past → FlagsAfter c.loop-value.self c.path.new.self (value_of_name c.args.self.now.block.now past) (fragments_of c.value-item.result ∷ []) =
    λ past. flags_kept c.loop-value.self c.path.new.self c.args.self.now.scopes.now c.args.self.now.block.now (fragments_of c.value-item.result ∷ []) past c.loop-value.invariant.scopes c.loop-value.invariant.block
    (c.in_ok-path.ensures.flags past) in
    record {
      scopes = c.path.ensures.scopes ∙ c.loop-value.invariant.scopes;
      block = c.path.ensures.block ∙ c.loop-value.invariant.block;
      flags = λ past at. subst (λ (texts : List Fragments). FlagsAfter c.args.self.now c.path.new.self (value_of_name c.args.self.now.block.now past) texts) (sym more)
          (flags_append c.args.self.now c.loop-value.self c.path.new.self _ _ _ (c.loop-value.invariant.flags past at) (here past at));
      paths = λ past at empty large.
          let before = flags_before c.loop-value.self c.path.new.self _ _ (here past at) empty large in
          let found : IsPathFound (text_of (value_of_name c.args.self.now.block.now past) (fragments_of c.value-item.result)) c.in_ok-path.field-0 =
          found_kept c.loop-value.self c.args.self.now.scopes.now c.args.self.now.block.now (fragments_of c.value-item.result) _ past c.loop-value.invariant.scopes c.loop-value.invariant.block
          (λ now. c.in_ok-path.ensures.found past now empty large) at in
          elim c.match-branch-3.branch [
            | in-Some+in_ok-push w ↦
                let is : c.in_ok-path.field-0 ≡ Some w.in-Some.path = w.in-Some.is in
                let grown : c.match-branch-3.paths ≡ c.loop-value.paths ++ w.in-Some.path ∷ [] = w.paths-is ∙ w.in_ok-push.ensures.ok in
                rw (more, grown) (paths_found _ _ _ _ c.in_ok-path.field-0 w.in-Some.path is (c.loop-value.invariant.paths past at before.0 before.1) found)
            | in_default w ↦ absurd (subst (λ (option : Option (List ℕ)). IsPathFound (text_of (value_of_name c.args.self.now.block.now past) (fragments_of c.value-item.result)) option) w.in_default.is found)
          ];
    }
