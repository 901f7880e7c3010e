-- What the words of the command line ask for.
use Rattle.std.specs.Prelude.{◌≡◌, ◌≢◌, ℕ, ◌<◌, ◌≤◌, List, [], ◌∷◌, codes, Option, None}
use Rattle.std.specs.Prelude.{Some, Result, Ok, Err, pos, true, option_map, if◌then◌else◌}
use Rattle.std.specs.Str.{bytes_eq}
use Rattle.clap.specs.Words.{App, Rule, kind_of, new_app, new_rule, with_rule, with_subcommand}
use Rattle.clap.specs.Simple.{on_top}
use Rattle.clap.specs.declared.error.Error.{Error}
use Rattle.clap.specs.declared.error.kind.ErrorKind.TheVariants.{OutOfMemory}
use Rattle.clap.specs.declared.builder.value_parser.ValueParser.TheVariants.{Signed}
use Rattle.gw_command.specs.declared.order.Order.{Order}
use Rattle.gw_command.specs.declared.task.Task.{Task}
use Rattle.gw_command.specs.declared.task.Task.TheVariants.{Core, Run, RunThreads}

-- so many bits may lie between two turns of a route
abbrev pub IsTurn : ℕ → Type 0
IsTurn n = (0 < n) × (n ≤ 1000000)

-- so many threads may be asked for
abbrev pub IsThreads : ℕ → Type 0
IsThreads n = (0 < n) × (n ≤ 16)

-- so many bits may a segment be ahead of another
abbrev pub IsSlack : ℕ → Type 0
IsSlack n = (0 < n) × (n ≤ 1000000)

-- its numbers are in their ranges
abbrev pub HasRanges : Task → Type 0
HasRanges Core = Unit {0}
HasRanges (Run turn) = IsTurn turn
HasRanges (RunThreads threads slack) = IsThreads threads × IsSlack slack

abbrev pub IsRunTask : Task → Type 0
IsRunTask Core = ⊥
IsRunTask (Run turn) = IsTurn turn
IsRunTask (RunThreads threads slack) = IsThreads threads × IsSlack slack

-- the word for what is asked
abbrev pub name_of : Task → List ℕ
name_of Core = codes "core"
name_of (Run turn) = codes "run"
name_of (RunThreads threads slack) = codes "run"

-- a word that is taken as the name of a file: it doesn't begin with a hyphen (45), as options do
abbrev pub IsFileName : List ℕ → Type 0
IsFileName [] = Unit {0}
IsFileName (c ∷ cs) = c ≢ 45

-- the file that a word names: none for `-`, which stands for standard input
abbrev pub file_named : Option (List ℕ) → Option (List ℕ)
file_named None = None
file_named (Some word) = if bytes_eq word (codes "-") then None else Some word

-- The commands: `core`, and `run` with the options `--turn`, whose number is 1 where it isn't given, `--threads`, and
-- `--slack`, whose number is 64 where it isn't given. Both take a file.
abbrev pub file_rule : Rule
file_rule = record (new_rule (codes "file")) { value_names = 1 }

-- an option of this name that takes a number from 1 to the most
abbrev pub number_rule : List ℕ → ℕ → Rule
number_rule name most = record (new_rule name) {
  long = Some name;
  value_names = 1;
  parser = Some (Signed (pos 1) (pos most));
}

abbrev pub turn_rule : Rule
turn_rule = record (number_rule (codes "turn") 1000000) { defaults = codes "1" ∷ [] }

-- `--threads`, which need not be given
abbrev pub threads_rule : Rule
threads_rule = number_rule (codes "threads") 16

abbrev pub slack_rule : Rule
slack_rule = record (number_rule (codes "slack") 1000000) { defaults = codes "64" ∷ [] }

abbrev pub core_app : App
core_app = with_rule (new_app (codes "core")) file_rule

abbrev pub turns_app : App
turns_app = with_rule (new_app (codes "run")) turn_rule

abbrev pub threads_app : App
threads_app = with_rule turns_app threads_rule

abbrev pub slack_app : App
slack_app = with_rule threads_app slack_rule

abbrev pub run_app : App
run_app = with_rule slack_app file_rule

-- the program, which tells its version
abbrev pub versioned_app : App
versioned_app = on_top (λ top. record top { has_version = true }) (new_app (codes "bxgate"))

abbrev pub bxgate_app : App
bxgate_app = with_subcommand (with_subcommand versioned_app core_app.top) run_app.top

-- a task, and the name of the file that it reads, if it isn't standard input
abbrev pub Asked : Type 0
Asked = Task × Option (List ℕ)

abbrev pub asked_of : Order → Asked
asked_of order = (order.task, option_map (λ name. name.now) order.file)

-- the words are taken as asking for this, or for nothing, unless memory runs out
abbrev pub IsTakenAs : Option Asked → Result (Option Order) Error → Type 0
IsTakenAs asked (Ok order) = option_map asked_of order ≡ asked
IsTakenAs asked (Err e) = kind_of e ≡ OutOfMemory
