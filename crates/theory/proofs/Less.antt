-- A faithful store stays faithful where records only go out of force, and recorded outputs are as they were or deleted.
use Rattle.std.proofs.Common.{◌≡◌, ◌⊎◌, inl, inr, ℕ, true, false, List, ◌++◌, Option, Some, None, refl, sym, ◌∙◌, subst, arith}
use Rattle.model.specs.declared.event.Moment.{Moment}
use Rattle.model.specs.declared.graph.Edge.{Edge}
use Rattle.model.specs.World.{World, view_of, runs}
use Rattle.model.specs.Graph.{has, edge_at, outputs}
use Rattle.model.specs.Outcome.{Behaviour}
use Rattle.model.specs.Records.{Told, OwnFiles, LogFormat, Store, Made, store_in, in_force, deps_in_force}
use Rattle.model.specs.Premises.{StampsGrow}
use Rattle.model.specs.Faithful.{IsFaithfulRecord, IsFaithfulStore}
use Rattle.theory.proofs.Lists.{some_none}
use Rattle.theory.specs.Logged.{AreReadable}
use Rattle.theory.proofs.Stamps.{file_was, next_later}

-- what is in force in the one store is so in the other
pub record IsLess (few many : Store) : Type 0 where
  pub records : (o : List ℕ) (made : Made) → in_force few.records o ≡ Some made → in_force many.records o ≡ Some made
  pub deps : (o : List ℕ) (deps : Told) → deps_in_force few.deps o ≡ Some deps → deps_in_force many.deps o ≡ Some deps

pub nothing_from : (held : Option Made) → ((made : Made) → held ≡ Some made → ⊥) → held ≡ None
nothing_from None none = refl
nothing_from (Some made) none = absurd (none made refl)

-- a running command has none of its outputs recorded
abbrev pub NoneRunning : LogFormat → OwnFiles → List Edge → World → Type 0
NoneRunning format own edges world =
    (job : ℕ) (o : List ℕ) → runs job world.events ≡ true → has (outputs (edge_at edges job)) o ≡ true → in_force (store_in format own (view_of world.history)).records o ≡ None

pub believed_less : (B : Behaviour) (format : LogFormat) (own : OwnFiles) (edges others : List Edge) (old new : World) (more : List Moment) → new.history ≡ old.history ++ more → StampsGrow old.history new.history
    → AreReadable format own new.history → IsLess (store_in format own (view_of new.history)) (store_in format own (view_of old.history))
    → ((o : List ℕ) (made : Made) → own.set o ≡ false → in_force (store_in format own (view_of old.history)).records o ≡ Some made → (view_of new.history o ≡ view_of old.history o) ⊎ (view_of new.history o ≡ None))
    → NoneRunning format own others new
    → IsFaithfulStore B format own edges old → IsFaithfulStore B format own others new
believed_less B format own edges others old new more grows stamps readable less stays running believed = record {
  build_log = readable.build_log;
  deps_log = readable.deps_log;
  records = λ o made force. by_faith o made (less.records o made force) (believed.records o made (less.records o made force));
  deps = λ o deps is.
      let early = believed.deps o deps (less.deps o deps is) in
      omega (arith, early, next_later old.history new.history more grows);
  running = running;
}
  where
    by_faith : (o : List ℕ) (made : Made) → in_force (store_in format own (view_of old.history)).records o ≡ Some made → IsFaithfulRecord B (store_in format own (view_of old.history)) old.history o made × (own.set o ≡ false)
        → IsFaithfulRecord B (store_in format own (view_of new.history)) new.history o made × (own.set o ≡ false)
    by_faith o made force (faith, outside) = (
      record {
        seen = faith.seen;
        well = faith.well;
        holds = λ content is. elim (stays o made outside force) [
          | inl same ↦ faith.holds content (sym same ∙ is)
          | inr gone ↦ absurd (some_none content (sym is ∙ gone))
        ];
        reports = λ deps is same. faith.reports deps (less.deps o deps is) same;
        older = λ p file is early. faith.older p file (file_was old.history new.history more grows stamps p file is (omega (arith, early, faith.clock))) early;
        clock = omega (arith, faith.clock, next_later old.history new.history more grows);
      },
      outside,
    )

-- ---- where both logs are as they were

pub store_same : (format : LogFormat) (own : OwnFiles) (old new : List Moment) → view_of new own.build_log ≡ view_of old own.build_log → view_of new own.deps_log ≡ view_of old own.deps_log
    → store_in format own (view_of new) ≡ store_in format own (view_of old)
store_same format own old new a b = rw (a, b) refl

pub readable_same : (format : LogFormat) (own : OwnFiles) (old new : List Moment) → view_of new own.build_log ≡ view_of old own.build_log → view_of new own.deps_log ≡ view_of old own.deps_log
    → AreReadable format own old → AreReadable format own new
readable_same format own old new a b readable = record {
  build_log = λ content is. readable.build_log content (sym a ∙ is);
  deps_log = λ content is. readable.deps_log content (sym b ∙ is);
}

pub less_same : (few many : Store) → few ≡ many → IsLess few many
less_same few many same = subst (λ (s : Store). IsLess s many) (sym same) (record { records = λ o made is. is; deps = λ o deps is. is })
