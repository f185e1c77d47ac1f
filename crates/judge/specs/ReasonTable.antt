-- The reason of the facts that summaries are of.
use Rattle.std.specs.Prelude.{◌≡◌, ◌&&◌, ◌||◌, not, Bool, true, List, [], Option, is_some}
use Rattle.model.specs.declared.reason.Reason.{Reason}
use Rattle.model.specs.declared.reason.Reason.TheVariants.{OutputAbsent, NoRecord, OtherAct, InputAbsent, InputChanged, InputLater, OutputOlder, DepsUnknown}
use Rattle.model.specs.Judgement.{OutputFacts, InputFacts, Facts as AllFacts, is_later, is_empty_text, is_unset, reason_of}
use Rattle.judge.specs.declared.reason_table.Facts.{Facts}
use Rattle.judge.specs.Summaries.{AreOutputs, AreInputs}

-- the facts of the definition, with these outputs and inputs
abbrev pub facts_with : Facts → List OutputFacts → List InputFacts → AllFacts
facts_with facts outputs inputs =
    record { act = facts.act.now; restat = facts.restat; deps = facts.deps; depfile = facts.depfile; outputs = outputs; inputs = inputs }

-- the reason of the definition, whatever outputs and inputs the summaries are of
abbrev pub IsReasonOf : Facts → Option Reason → Type 0
IsReasonOf facts reason =
    (outputs : List OutputFacts) (inputs : List InputFacts) → AreOutputs facts.act.now outputs facts.outputs → AreInputs inputs facts.inputs
    → reason ≡ reason_of (facts_with facts outputs inputs)

-- there is a reason where one holds by the outputs that the summary is of, and by the depfile, whatever the inputs are
abbrev pub IsStaleOf : Facts → Option Reason → Type 0
IsStaleOf facts reason =
    (outputs : List OutputFacts) → AreOutputs facts.act.now outputs facts.outputs → is_some (reason_of (facts_with facts outputs [])) ≡ true → is_some reason ≡ true

-- when each reason holds, by the summaries
abbrev pub holds_by : Facts → Reason → Bool
holds_by facts OutputAbsent = facts.outputs.has_absent
holds_by facts NoRecord = facts.outputs.has_unknown
holds_by facts OtherAct = facts.outputs.has_other_act
holds_by facts InputAbsent = facts.inputs.has_absent
holds_by facts InputChanged = facts.inputs.has_changed
holds_by facts InputLater = is_later facts.inputs.latest_stamp facts.outputs.earliest_start
holds_by facts OutputOlder = not facts.restat && is_later facts.inputs.latest_stamp facts.outputs.earliest_stamp
holds_by facts DepsUnknown = not (is_empty_text facts.act.now.depfile) && (facts.outputs.has_other_deps || (is_unset facts.deps && not facts.depfile))
