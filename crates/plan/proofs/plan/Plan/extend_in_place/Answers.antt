use Rattle.std.proofs.Common.{◌≡◌, ◌∙◌, List, Bool, true, length, vec_capacity, ap, subst, sym, arith}
use Rattle.graph.specs.declared.back.LoadedEdge.{LoadedEdge}
use Rattle.graph.specs.Links.{links_of}
use Rattle.graph.specs.LoadedEdges.{numbers_in}
use Rattle.plan.specs.Coming.{AreAway}
use Rattle.model.specs.Graph.{has_number}
use Rattle.plan.specs.Flags.{has, AreNone}
use Rattle.plan.specs.Staying.{AreLongerThere, AreRecounted, IsCopyWithRoom}
use Rattle.plan.proofs.Staying.{once_ordered, coming_still, edges_below, over_by, goes_on_by}
use Rattle.plan.proofs.plan.Plan.extend_in_place.Goals as goal

pub take_room-requires : goal.take_room-requires
take_room-requires c = λ few.
    let copy = c.in_ok-there.there in
    subst (λ (l : List Bool). IsCopyWithRoom l c.paths-count.result copy.items (vec_capacity copy)) c.deref.ensures.value (c.in_ok-there.ensures (omega (arith, few, c.capacity.ensures)))

pub take_room-requires-2 : goal.take_room-requires-2
take_room-requires-2 c = λ few.
    let copy = c.in_ok-changed.changed in
    subst (λ (l : List Bool). IsCopyWithRoom l c.paths-count.result copy.items (vec_capacity copy)) c.deref-2.ensures.value (c.in_ok-changed.ensures (omega (arith, few, c.capacity-2.ensures)))

pub lengthen_there-requires-clause-longer : goal.lengthen_there-requires-clause-longer
lengthen_there-requires-clause-longer c =
    let may = c.requires.may.1 in
    let held = ap (λ (l : List Bool). length l) c.take_room.ensures.items in
    let known = may.over.over.known in
    let more = may.paths in
    omega (arith, held, known, more)

pub lengthen_there-requires-clause-room : goal.lengthen_there-requires-clause-room
lengthen_there-requires-clause-room c = omega (arith, c.take_room.ensures.room, c.paths-count.ensures)

pub lengthen_flags-requires-clause-longer : goal.lengthen_flags-requires-clause-longer
lengthen_flags-requires-clause-longer c =
    let may = c.requires.may.1 in
    let held = ap (λ (l : List Bool). length l) c.take_room-2.ensures.items in
    let flags = may.over.flags in
    let more = may.paths in
    omega (arith, held, flags, more, c.paths-count.ensures)

pub lengthen_flags-requires-clause-room : goal.lengthen_flags-requires-clause-room
lengthen_flags-requires-clause-room c = c.take_room-2.ensures.room

pub drop_file-requires : goal.drop_file-requires
drop_file-requires c =
    let may = c.requires.may.1 in
    once_ordered c.requires.may.0 c.args.self.now.loads.items may.over.loading.loads_are.ordered

pub invariant_of-self-2 : goal.invariant_of-self-2
invariant_of-self-2 c =
    let plan = c.args.self.now in
    record {
      fits = plan.fits;
      few = plan.few;
      room = plan.room;
      rest = plan.rest;
      sets = plan.sets;
      waits = plan.waits;
      tallied = plan.tallied;
      come = coming_still c.files_stand.ensures c.requires.may.0 c.args.graph.now plan c.args.before.now c.requires.may.1 c.drop_file.new.files.items c.lengthen_there.new.there.items c.set_any.new.self.files.items c.set_any.new.self.any
          c.drop_file.ensures (ap (λ v. v.items) c.set_any.ensures.files)
          (λ none. subst (AreAway c.lengthen_there.new.there.items) c.deref-3.ensures.value
          (subst (λ (l : List Bool). AreAway l c.deref-3.result.now) c.deref-4.ensures.value (c.is_any_there-any.ensures (sym c.set_any.ensures.any ∙ none))));
    }

pub recount-requires-clause-lines : goal.recount-requires-clause-lines
recount-requires-clause-lines c =
    let may = c.requires.may.1 in
    let plan = c.args.self.now in
    omega (arith, may.over.over.edges, may.edges, plan.standings.ok.0)

pub recount-requires-clause-within : goal.recount-requires-clause-within
recount-requires-clause-within c = λ e there.
    edges_below c.files_stand.ensures c.requires.may.0 c.args.graph.now c.args.self.now c.args.before.now c.requires.may.1 e
    (subst (λ (l : List LoadedEdge). has_number (numbers_in l) e ≡ true) c.deref-5.ensures.value there)

pub returns-clause-over : goal.returns-clause-over
returns-clause-over c =
    let graph = c.args.graph.now in
    let plan = c.args.self.now in
    let load = c.args.before.now in
    let may = c.requires.may.1 in
    let new = c.recount.new.self in
    let rest = c.recount.ensures.rest in
    let there = ap (λ v. v.items) rest.there in
    let more : AreLongerThere (links_of graph) (length graph.manifest.paths) plan.there.items c.lengthen_there.new.there.items =
    subst (λ (l : List Bool). AreLongerThere (links_of graph) (length graph.manifest.paths) l c.lengthen_there.new.there.items) c.take_room.ensures.items c.lengthen_there.ensures in
    let again : AreRecounted graph plan.standings.items c.lengthen_there.new.there.items (numbers_in load.edges.items) plan.left.items new.left.items =
    subst (λ (l : List LoadedEdge). AreRecounted graph plan.standings.items c.lengthen_there.new.there.items (numbers_in l) plan.left.items new.left.items) c.deref-5.ensures.value c.recount.ensures.left in
    let flags : length c.lengthen_flags.new.flags.items ≡ length graph.manifest.paths = omega (arith, c.lengthen_flags.ensures.fits, c.paths-count.ensures, c.lengthen_flags.new.flags.ok.0) in
    over_by c.files_stand.ensures c.requires.may.0 graph plan load may c.requires.counted new rest.still.standings rest.still.queue
    (subst (λ (f : List Bool). AreNone f) (sym {A = List Bool} rest.pending) may.over.settled)
    (ap (λ v. length v.items) rest.still.changed ∙ flags)
    (ap (λ v. v.items) rest.still.loads ∙ c.drop_file.ensures)
    (subst (AreLongerThere (links_of graph) (length graph.manifest.paths) plan.there.items) (sym there) more)
    (subst (λ (t : List Bool). AreRecounted graph plan.standings.items t (numbers_in load.edges.items) plan.left.items new.left.items) (sym there) again)

pub returns-clause-flags : goal.returns-clause-flags
returns-clause-flags c = λ p. ap (λ v. has v.items p) c.recount.ensures.rest.still.changed ∙ (c.lengthen_flags.ensures.same p ∙ ap (λ (l : List Bool). has l p) c.take_room-2.ensures.items)

pub returns-clause-planned : goal.returns-clause-planned
returns-clause-planned c = λ cone inside before may.
    let graph = c.args.graph.now in
    let plan = c.args.self.now in
    let new = c.recount.new.self in
    let rest = c.recount.ensures.rest in
    goes_on_by c.files_stand.ensures before graph plan c.args.before.now may c.requires.counted new rest.still.standings rest.still.queue rest.still.jobs rest.still.keep (returns-clause-over c) cone inside
