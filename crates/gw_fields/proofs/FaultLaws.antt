-- From the fault that the code answers to the first fault of the input.
use Rattle.std.proofs.Common.{◌≡◌, ◌<◌, ◌≤◌, ℕ, List, length, drop, get_or, Result, Ok, Err, IfErr, Option, Some, None}
use Rattle.std.proofs.Common.{IfSome, sym, ap, subst, ◌∙◌}
use Rattle.std.specs.Result.{IsErrAnd}
use Rattle.serde_json.specs.Data.{Data}
use Rattle.serde_json.specs.View.{view, items_view}
use Rattle.serde_json.specs.declared.value.Value.{Value}
use Rattle.gw_fields.specs.declared.script_fault.ScriptFault.{ScriptFault}
use Rattle.gw_fields.specs.Faults.{Fault, fault_of, UnlessMemory, ReadsUnlessMemory}
use Rattle.gw_fields.specs.Fields.{each_after}
use Rattle.gw_fields.specs.Documents.{IsDocument, IsNoDocument, FirstFault}
use Rattle.gw_fields.specs.Documents.{in_text, in_fields}
use Rattle.gw_fields.proofs.Lists.{each-stops}

if_some-weaker : (o : Option Fault) (P Q : Fault → Type 0) → ((f : Fault) → P f → Q f) → IfSome o P → IfSome o Q
if_some-weaker None P Q goes h = tt
if_some-weaker (Some f) P Q goes h = goes f h

fault-weaker : (e : ScriptFault) (P Q : Fault → Type 0) → ((f : Fault) → P f → Q f) → UnlessMemory e P →
    UnlessMemory e Q
fault-weaker e = if_some-weaker (fault_of e)

-- the fault of a part, handed on as one of the whole
handed_on : {X : Type 0} (r : Result X ScriptFault) (e : ScriptFault) (P Q : Fault → Type 0) → IsErrAnd r (λ f. f ≡ e) →
    ((f : Fault) → P f → Q f) →
    UnlessMemory e P → IfErr r (λ f. UnlessMemory f Q)
handed_on (Ok x) e P Q is goes h = tt
handed_on (Err f) e P Q is goes h = subst (λ (g : ScriptFault). UnlessMemory g Q) (sym is) (fault-weaker e P Q goes h)

-- a fault before the fields is the first one
pub text_fault_is_first : {X A : Type 0} (reading : Data → Result A Fault) (bytes : List ℕ) (r : Result X ScriptFault)
    (e : ScriptFault) → IsErrAnd r (λ f. f ≡ e) →
    UnlessMemory e (IsNoDocument bytes) → IfErr r (λ f. UnlessMemory f (FirstFault reading bytes))
text_fault_is_first reading bytes r e is =
    handed_on r e (IsNoDocument bytes) (FirstFault reading bytes) is (λ f none. in_text none)

-- a fault of the fields is the first one of a document
pub field_fault_is_first : {X A : Type 0} (view : X → A) (reading : Data → Result A Fault) (bytes : List ℕ) (d : Data) →
    IsDocument bytes d →
    (r : Result X ScriptFault) → ReadsUnlessMemory view r (reading d) →
    IfErr r (λ e. UnlessMemory e (FirstFault reading bytes))
field_fault_is_first view reading bytes d document (Ok x) reads = tt
field_fault_is_first view reading bytes d document (Err e) reads =
    fault-weaker e (λ f. reading d ≡ Err f) (FirstFault reading bytes) (λ f is. in_fields d document is) reads

-- the first element that is refused is the list's fault
pub each_refused : {A : Type 0} (read : List A → Data → Result A Fault) (old front : List A)
    (all : Result (List A) Fault) (vs : List Value) (i : ℕ) (v : Value) (e : ScriptFault) →
    i < length vs → v ≡ get_or vs i v → front ≡ old → each_after read old (items_view (drop i vs)) ≡ all →
    UnlessMemory e (λ f. read front (view v) ≡ Err f) → UnlessMemory e (λ f. all ≡ Err f)
each_refused read old front all vs i v e lt is front_is so_far =
    fault-weaker e (λ f. read front (view v) ≡ Err f) (λ f. all ≡ Err f)
    (λ f refused. sym so_far ∙ each-stops read old f vs i v lt is (ap (λ xs. read xs (view v)) (sym front_is)
    ∙ refused))
