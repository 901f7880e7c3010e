-- Why an input is refused.
use Rattle.std.specs.Prelude.{◌≡◌, ℕ, List, Option, Some, None, IfSome, IsSomeAnd, Result, Ok, Err}
use Rattle.gw_fields.specs.declared.script_fault.ScriptFault.{ScriptFault}
use Rattle.gw_fields.specs.declared.script_fault.ScriptFault.TheVariants as fault

-- what is wrong with an input, with the name of the field where it is
pub data Fault : Type 0 where
  not_json : Fault
  missing : List ℕ → Fault
  wrong_kind : List ℕ → Fault
  out_of_range : List ℕ → Fault
  unknown_name : List ℕ → Fault
  double_name : List ℕ → Fault
  fifo_twice : ℕ → Fault
  too_many : List ℕ → Fault
  wrong_version : Fault
  unknown_field : List ℕ → Fault

-- the fault of the input that the code answers; want of memory is none
abbrev pub fault_of : ScriptFault → Option Fault
fault_of fault.NotJson = Some not_json
fault_of (fault.Missing name) = Some (missing name.now)
fault_of (fault.Kind name) = Some (wrong_kind name.now)
fault_of (fault.Range name) = Some (out_of_range name.now)
fault_of (fault.UnknownName name) = Some (unknown_name name.now)
fault_of (fault.DoubleName name) = Some (double_name name.now)
fault_of (fault.FifoTwice place) = Some (fifo_twice place)
fault_of (fault.TooMany name) = Some (too_many name.now)
fault_of fault.Version = Some wrong_version
fault_of (fault.Unknown object) = Some (unknown_field object.now)
fault_of fault.Memory = None

-- P holds of the fault, unless memory was wanting
abbrev pub UnlessMemory : ScriptFault → (Fault → Type 0) → Type 0
UnlessMemory e P = IfSome (fault_of e) P

-- P holds of the fault, and memory was not wanting
abbrev pub IsOfInput : ScriptFault → (Fault → Type 0) → Type 0
IsOfInput e P = IsSomeAnd (fault_of e) P

-- the code's answer is what the reading gives
abbrev pub Reads : {X Y : Type 0} → (X → Y) → Result X ScriptFault → Result Y Fault → Type 0
Reads view (Ok x) reading = reading ≡ Ok (view x)
Reads view (Err e) reading = IsOfInput e (λ f. reading ≡ Err f)

-- the same, where memory may run out
abbrev pub ReadsUnlessMemory : {X Y : Type 0} → (X → Y) → Result X ScriptFault → Result Y Fault → Type 0
ReadsUnlessMemory view (Ok x) reading = reading ≡ Ok (view x)
ReadsUnlessMemory view (Err e) reading = UnlessMemory e (λ f. reading ≡ Err f)
