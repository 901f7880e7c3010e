-- How a run of the program may end, by what it was asked to do.
use Rattle.std.specs.Prelude.{◌≡◌, ◌⊎◌, ℕ, List, Option, None, Some, IfSome, Result, Ok, Err, slice_get, take}
use Rattle.std.specs.Io.KnownBytes.{Appends, Keeps}
use Rattle.bx_core.specs.declared.entry.Entry.{Entry}
use Rattle.bx_core.specs.Lists.{Each}
use Rattle.gw_fields.specs.Faults.{Fault, UnlessMemory}
use Rattle.gw_script.specs.EventLists.{EventListValue, event_list_of}
use Rattle.gw_config.specs.Scripts.{ScriptValue, script_of}
use Rattle.gw_fields.specs.Documents.{IsTextOf, FirstFault}
use Rattle.gw_script.specs.ReportTexts.{report_text}
use Rattle.gw_script.specs.declared.report.Report.{Report}
use Rattle.gw_script.specs.declared.route_report.RouteReport.{RouteReport}
use Rattle.gw_fields.specs.declared.script_fault.ScriptFault.TheVariants as fault
use Rattle.gw_script.specs.NamedPlaces.{Names}
use Rattle.gw_run.specs.declared.run_fault.RunFault.{RunFault}
use Rattle.gw_run.specs.declared.run_fault.RunFault.TheVariants as run_fault
use Rattle.gw_ending.specs.Headline.{NotRefilled, Balances}
use Rattle.gw_ending.specs.Reports.{AreOrdered, RunsSegments, RunsRoutes, AreStartsOf, lines_of}
use Rattle.gw_print.specs.CoreReports.{IsReport}
use Rattle.gw_run.specs.Schedules.{EachTurned}
use Rattle.gw_tool.specs.declared.failure.Failure.{Failure}
use Rattle.gw_tool.specs.declared.failure.Failure.TheVariants as failure
use Rattle.gw_command.specs.declared.task.Task.{Task}
use Rattle.gw_command.specs.declared.task.Task.TheVariants as task

-- the status that the program ends with after this failure: 2 where the input is refused, 3 where memory ran out or a
-- thread could not be started, 74 after a read or a write fault
abbrev pub status_of : Failure → ℕ
status_of (failure.Script fault.Memory) = 3
status_of (failure.Script e) = 2
status_of (failure.Run e) = 3
status_of failure.Read = 74
status_of failure.Write = 74

-- the bytes are an event list, and the text is the report on it
pub record IsListAnswer (bytes text : List ℕ) : Type 0 where
  pub events : EventListValue
  pub reads : IsTextOf event_list_of bytes events
  pub report : IsReport events text

-- all that is claimed of a report on a run of this script, in one thread or in many: each controller has room for three
-- requests
pub record IsRunOf (s : ScriptValue) (report : Report) : Type 0 where
  -- of each segment it has the record of a run over all the script's bits
  pub segments : RunsSegments s report
  -- of each route it has what these records tell of its two controllers
  pub routes : RunsRoutes 3 s report
  -- of each route into a controller that sends by order of requests, the completed frames are, in order and each once,
  -- a prefix of the released ones, the aborted ones left out; into one that sends by identifier, they are each once
  -- among these
  pub order : AreOrdered s report
  -- no mailbox was refilled while its bus held it
  pub no_refill : (place : ℕ) (r : RouteReport) (started : List Entry) → slice_get report.routes.items place ≡ Some r
      → (is : AreStartsOf s (lines_of report) place started) → NotRefilled is.route.rewrites r started
  -- accepted equals completed, aborted, overrun and held
  pub sum : Each Balances report.routes.items
  -- each segment, node and route that it names is one of the script
  pub names : Names s report

-- what the task says of the turns in a report: in one thread each route makes them by its pace, or after every `turn`
-- bits; in threads their number is not determined
abbrev pub IsTurned : Task → ScriptValue → Report → Type 0
IsTurned task.Core s report = ⊥
IsTurned (task.Run turn) s report = EachTurned turn s report
IsTurned (task.RunThreads threads slack) s report = Unit {0}

-- the bytes are a script, and the text is that of a report on a run of it, as the task asks for
pub record IsRunAnswer (t : Task) (bytes text : List ℕ) : Type 0 where
  pub script : ScriptValue
  pub reads : IsTextOf script_of bytes script
  pub report : Report
  pub run : IsRunOf script report
  pub turns : IsTurned t script report
  pub text_is : text ≡ report_text script report

-- the text is an answer to these bytes
abbrev pub IsAnswer : Task → List ℕ → List ℕ → Type 0
IsAnswer task.Core bytes text = IsListAnswer bytes text
IsAnswer (task.Run turn) bytes text = IsRunAnswer (task.Run turn) bytes text
IsAnswer (task.RunThreads threads slack) bytes text = IsRunAnswer (task.RunThreads threads slack) bytes text

-- the first fault of these bytes
abbrev pub IsRefusal : Task → List ℕ → Fault → Type 0
IsRefusal task.Core bytes f = FirstFault event_list_of bytes f
IsRefusal (task.Run turn) bytes f = FirstFault script_of bytes f
IsRefusal (task.RunThreads threads slack) bytes f = FirstFault script_of bytes f

-- why a run may be without its report: for want of memory, and where threads are started, of a thread
abbrev pub IsWant : Task → RunFault → Type 0
IsWant task.Core e = e ≡ run_fault.Memory
IsWant (task.Run turn) e = e ≡ run_fault.Memory
IsWant (task.RunThreads threads slack) e = (e ≡ run_fault.Memory) ⊎ (e ≡ run_fault.Spawn)

-- the failure that comes of these bytes alone
abbrev pub IsFailureOn : Task → List ℕ → Failure → Type 0
IsFailureOn t bytes (failure.Script e) = UnlessMemory e (IsRefusal t bytes)
IsFailureOn t bytes (failure.Run e) = IsWant t e
IsFailureOn t bytes failure.Read = ⊥
IsFailureOn t bytes failure.Write = ⊥

-- the bytes of the input: those of the file that is named, or what standard input gives
abbrev pub input_of : (List ℕ → Option (List ℕ)) → Option (List ℕ) → Option (List ℕ) → Option (List ℕ)
input_of contents standard None = standard
input_of contents standard (Some name) = contents name

-- The output grows by an answer to the input and by nothing else, where the reader and the writer tell their bytes.
abbrev pub Answers : Task → Option (List ℕ) → Option (List ℕ) → Option (List ℕ) → Type 0
Answers t input old new = IfSome input (λ bytes. (text : List ℕ) × IsAnswer t bytes text × Appends old new text)

-- the output grows by a front of an answer to the input
abbrev pub Begins : Task → Option (List ℕ) → Option (List ℕ) → Option (List ℕ) → Type 0
Begins t input old new = IfSome input (λ bytes. (text : List ℕ) × IsAnswer t bytes text
    × ((n : ℕ) × Appends old new (take n text)))

-- By what the code answers: a refused input is refused for its first fault, and nothing is written; memory or a thread
-- was wanted, and nothing is written; a read failed, and nothing is written; or a write failed, and a front of the
-- answer is written.
abbrev pub Ends : Task → Option (List ℕ) → Option (List ℕ) → Option (List ℕ) → Result (Unit {0}) Failure → Type 0
Ends t input old new (Ok done) = Answers t input old new
Ends t input old new (Err (failure.Script e)) = IfSome input (λ bytes. UnlessMemory e (IsRefusal t bytes))
    × Keeps old new
Ends t input old new (Err (failure.Run e)) = IsWant t e × Keeps old new
Ends t input old new (Err failure.Read) = Keeps old new
Ends t input old new (Err failure.Write) = Begins t input old new

-- By the status: 0 after an answer, else that of the failure by which the program ended.
abbrev pub EndsWith : Task → Option (List ℕ) → Option (List ℕ) → Option (List ℕ) → ℕ → Type 0
EndsWith t input old new status =
    ((status ≡ 0) × Answers t input old new)
    ⊎ ((failure : Failure) × (status ≡ status_of failure) × Ends t input old new (Err failure))
