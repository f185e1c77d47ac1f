-- What is found of all sources, by one look after another.
use Rattle.std.proofs.Common.{ℕ, ◌<◌, Bool, List, Option, Some, None, All, length, subst}
use Rattle.model.specs.declared.event.Moment.{Moment}
use Rattle.model.specs.declared.graph.Edge.{Edge}
use Rattle.model.specs.World.{World}
use Rattle.model.specs.OutOfDate.{NoneIsMissing, IsFirstMissing}
use Rattle.model.specs.Records.{Store}
use Rattle.model.specs.Schedule.{Step}
use Rattle.paths.specs.Told.{text_at}
use Rattle.graph.specs.declared.cone.Cone.{Cone}
use Rattle.graph.specs.declared.graph.Graph.{Graph}
use Rattle.graph.specs.Linked.{StandFor}
use Rattle.graph.specs.Links.{links_of}
use Rattle.graph.specs.Told.{declared_by}
use Rattle.judge.specs.declared.looks.Looks.{Looks}
use Rattle.judge.specs.Looking.{HasLooked}
use Rattle.plan.specs.declared.plan.Plan.{Plan}
use Rattle.records.specs.declared.records.Records.{Records}
use Rattle.judge.specs.declared.lack.Lack.{Lack}
use Rattle.judge.specs.Quiet.{IfStill, IfQuiet}
use Rattle.judge.specs.UnderWay.{IsUnderWay}
use Rattle.judge.specs.Dues.{AreDue, AreListed, AreSourcesIn, HasAllSources}
use Rattle.judge.specs.Lacks.{IsFound, IsFirstIn, IsFoundOfDue, IsAskedFor, NamesDue}
use Rattle.judge.proofs.Lacking.{inputs_known, requested_known, found_of}
use Rattle.judge.proofs.NumbersAsTexts.{all_of}
use Rattle.judge.proofs.FilesStay.{Follow, Stay, looked_then, quiet_of, quiet_both, quiet_first, quiet_second}

-- an edge that is due is in the cone
pub asked_by : (cone : Cone) (due : List Bool) → AreListed cone.order.items due → (lack : Lack) → NamesDue due lack.needed_by → IsAskedFor cone lack.path lack.needed_by
asked_by cone due listed lack named = by_needed lack.needed_by named
  where
    by_needed : (needed : Option ℕ) → NamesDue due needed → IsAskedFor cone lack.path needed
    by_needed None named = absurd named
    by_needed (Some e) named = listed e named

module _ (follow : Follow) (stay : Stay) (tells : Bool) (graph : Graph) (stands : StandFor (declared_by graph).edges graph.manifest.paths (links_of graph)) (records : Records) (cone : Cone) (plan : Plan)
    (store : Store) (targets : List (List ℕ)) (before : List Step) (way : IsUnderWay graph records cone plan store targets before) (within : All (λ p. p < length graph.manifest.paths) cone.targets.items) (a b : World) (looks : Looks)
  where
    abbrev edges : List Edge
    edges = (declared_by graph).edges

    abbrev numbers : List ℕ
    numbers = cone.targets.items

    -- what is told of the targets
    abbrev Told : Option ℕ → List Moment → Type 0
    Told found files = IsFirstIn graph numbers files found

    targets_told : (found : Option ℕ) → IfStill tells graph a b looks (λ set files. AreSourcesIn set graph numbers → Told found files) → IfQuiet tells graph store targets before a b looks (Told found)
    targets_told found =
        quiet_of tells graph a b looks store targets before (λ set files. AreSourcesIn set graph numbers → Told found files) (Told found)
        (λ set files has said. said (requested_known graph stands store targets before set has numbers way.numbers (all_of (λ p. p < length graph.manifest.paths) numbers within)))

    -- a target is missing
    pub target_found : (p : ℕ) → IfStill tells graph a b looks (λ set files. AreSourcesIn set graph numbers → Told (Some p) files)
        → IfQuiet tells graph store targets before a b looks (λ files. IsFound graph store before targets files (Some (record { path = p; needed_by = None })))
    target_found p said keeps told set kept seen has files alike =
        subst (λ (l : List (List ℕ)). IsFirstMissing edges files l (text_at graph.manifest.paths p)) way.numbers (targets_told (Some p) said keeps told set kept seen has files alike)

    module _ (c d : World) (second_looks third_looks fourth_looks : Looks) (first : HasLooked tells graph a b looks second_looks) (second : HasLooked tells graph b c second_looks third_looks) (third : HasLooked tells graph c d third_looks fourth_looks)
        (due : List Bool) (dues : IfQuiet tells graph store targets before b c second_looks (λ files. AreDue edges store before files cone.order.items due))
      where
        two : HasLooked tells graph a c looks third_looks
        two = looked_then follow tells graph a b c looks second_looks third_looks first second

        last_two : HasLooked tells graph b d second_looks fourth_looks
        last_two = looked_then follow tells graph b c d second_looks third_looks fourth_looks second third

        -- which edges are due is so behind the last call
        pub due_told : IfQuiet tells graph store targets before a d looks (λ files. AreDue edges store before files cone.order.items due)
        due_told =
            quiet_first follow stay tells graph a c d looks third_looks two third.looks store targets before (λ files. AreDue edges store before files cone.order.items due)
            (quiet_second follow stay tells graph a b c looks second_looks first second.looks store targets before (λ files. AreDue edges store before files cone.order.items due) dues)

        -- no target is missing; what is found of the due edges
        pub all_found : IfStill tells graph a b looks (λ set files. AreSourcesIn set graph numbers → Told None files) → (found : Option Lack) → IfStill tells graph c d third_looks (λ set files. HasAllSources set graph → IsFoundOfDue graph due files found)
            → IfQuiet tells graph store targets before a d looks (λ files. IsFound graph store before targets files found)
        all_found none found said =
            quiet_both tells graph a d looks store targets before (λ files. AreDue edges store before files cone.order.items due) (λ files. NoneIsMissing edges files targets × IsFoundOfDue graph due files found) (λ files. IsFound graph store before targets files found)
            (λ files are both. found_of graph stands targets cone.order.items cone.marks.items store before files way.listed both.0 due are found both.1) due_told
            (quiet_both tells graph a d looks store targets before (Told None) (λ files. IsFoundOfDue graph due files found) (λ files. NoneIsMissing edges files targets × IsFoundOfDue graph due files found)
            (λ files of_targets of_due. (subst (NoneIsMissing edges files) way.numbers of_targets, of_due))
            (quiet_first follow stay tells graph a b d looks second_looks first last_two.looks store targets before (Told None) (targets_told None none))
            (quiet_second follow stay tells graph a c d looks third_looks two third.looks store targets before (λ files. IsFoundOfDue graph due files found)
            (quiet_of tells graph c d third_looks store targets before (λ set files. HasAllSources set graph → IsFoundOfDue graph due files found) (λ files. IsFoundOfDue graph due files found)
            (λ set files has of_due. of_due (inputs_known graph stands store targets before set has)) said)))
