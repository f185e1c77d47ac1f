use Rattle.std.proofs.Common.{◌≡◌, ◌∙◌, ℕ, [], ◌∷◌, ◌++◌, ap, refl, arith, length, take}
use Rattle.graph.proofs.Longer.{IsLonger, added_longer, longer_length, told_longer, users_fit, users_same, users_counted}
use Rattle.graph.proofs.Parts.{if_ok_then}
use Rattle.graph.proofs.graph.Graph.add_path.Goals as goal

pub invariant_of-self-4 : goal.invariant_of-self-4
invariant_of-self-4 c =
    let graph = c.args.self.now in
    let paths = c.add-added.new.self in
    let longer : IsLonger graph.manifest.paths paths c.args.path.now = added_longer c.add-added.result graph.manifest.paths paths c.args.path.now c.add-added.ensures.added c.add-added.ensures.err in
    let more = longer_length graph.manifest.paths paths c.args.path.now longer in
    let is : c.truncate.new.self ≡ take (length paths) (graph.users ++ [] ∷ []) = c.truncate.ensures ∙ (ap (λ (n : ℕ). take n c.add_path.new.self) c.len.ensures.count ∙ ap (take (length paths)) c.in_ok-add_path.ensures.ok) in
    record {
      apart = c.len.ensures.once;
      making = record { fits = omega (arith, graph.making.fits, more); made = graph.making.made; all = graph.making.all; once = graph.making.once };
      dyndeps = graph.dyndeps;
      recording = record { fits = graph.recording.fits; within = λ e p h. let low = graph.recording.within e p h in omega (arith, low, more); once = graph.recording.once };
      using = record { fits = users_fit graph paths c.args.path.now longer c.truncate.new.self is; counted = λ p e lt. users_counted graph paths c.args.path.now longer c.truncate.new.self is p e };
    }

pub returns-clause-added : goal.returns-clause-added
returns-clause-added c =
    let graph = c.args.self.now in
    let paths = c.add-added.new.self in
    let longer : IsLonger graph.manifest.paths paths c.args.path.now = added_longer c.add-added.result graph.manifest.paths paths c.args.path.now c.add-added.ensures.added c.add-added.ensures.err in
    let is : c.truncate.new.self ≡ take (length paths) (graph.users ++ [] ∷ []) = c.truncate.ensures ∙ (ap (λ (n : ℕ). take n c.add_path.new.self) c.len.ensures.count ∙ ap (take (length paths)) c.in_ok-add_path.ensures.ok) in
    if_ok_then c.add-added.result c.add-added.ensures.added (λ number added. record {
      added = added;
      named = refl;
      lines = refl;
      actions = refl;
      defaults = refl;
      declared = told_longer graph.manifest paths c.args.path.now longer;
      makers = refl;
      recorded = refl;
      users = users_same graph paths c.args.path.now longer c.truncate.new.self is;
    })
