-- From what a run read, answered and wrote to how it ends, and from the failure that it ends with to its status.
use Rattle.std.proofs.Common.{◌≡◌, ◌∙◌, inl, inr, ℕ, List, Option, None, Some, Ok, Err, IfSome, Result, ap}
use Rattle.std.proofs.Common.{option_map, refl, subst}
use Rattle.std.proofs.Common.{sym, take}
use Rattle.std.specs.Prelude.{unwrap_or}
use Rattle.std.proofs.lemmas.Option.{IfSome_then}
use Rattle.std.specs.Io.KnownBytes.{Appends, Keeps}
use Rattle.gw_fields.specs.Faults.{Fault, UnlessMemory}
use Rattle.gw_fields.specs.Documents.{IsNoDocument, IsTextOf, in_text}
use Rattle.gw_tool.specs.Outcomes.{Answers, Begins, Ends, EndsWith, IsAnswer, IsFailureOn, IsRefusal, IsWant, input_of}
use Rattle.gw_tool.specs.Outcomes.{IsRunAnswer, IsRunOf, IsTurned}
use Rattle.gw_config.specs.Scripts.{ScriptValue, script_of}
use Rattle.gw_script.specs.ReportTexts.{report_text}
use Rattle.gw_script.specs.declared.report.Report.{Report}
use Rattle.gw_command.specs.Words.{Asked, asked_of}
use Rattle.gw_command.specs.declared.order.Order.{Order}
use Rattle.gw_run.specs.declared.run_fault.RunFault.{RunFault}
use Rattle.gw_run.specs.declared.run_fault.RunFault.TheVariants as run_fault
use Rattle.gw_tool.specs.declared.failure.Failure.{Failure}
use Rattle.gw_tool.specs.declared.failure.Failure.TheVariants as failure
use Rattle.gw_command.specs.declared.task.Task.{Task}
use Rattle.gw_command.specs.declared.task.Task.TheVariants as task

-- what is no document at all is refused, whatever was asked for
pub no_document : (t : Task) (bytes : List ℕ) (f : Fault) → IsNoDocument bytes f → IsRefusal t bytes f
no_document task.Core bytes f is = in_text is
no_document (task.Run turn) bytes f is = in_text is
no_document (task.RunThreads threads slack) bytes f is = in_text is

-- memory may be wanted, whatever was asked for
pub wants_memory : (t : Task) → IsWant t run_fault.Memory
wants_memory task.Core = refl
wants_memory (task.Run turn) = refl
wants_memory (task.RunThreads threads slack) = inl refl

-- a run in threads may want either
pub wants_either : (threads slack : ℕ) (e : RunFault) → IsWant (task.RunThreads threads slack) e
wants_either threads slack run_fault.Memory = inl refl
wants_either threads slack run_fault.Spawn = inr refl

-- what nobody wrote to is as it was
pub keeps_all : (known : Option (List ℕ)) → Keeps known known
keeps_all None = tt
keeps_all (Some xs) = refl

-- the bytes that were read are the whole input
abbrev pub IsWhole : Option (List ℕ) → List ℕ → Type 0
IsWhole input bytes = IfSome input (λ xs. bytes ≡ xs)

-- and so is what a slice shows of them
pub shown_whole : (input : Option (List ℕ)) (bytes shown : List ℕ) → IsWhole input bytes → shown ≡ bytes →
    IsWhole input shown
shown_whole input bytes shown whole is = IfSome_then input whole (λ xs read. is ∙ read)

-- the text is written whole
pub answered : (t : Task) (bytes text : List ℕ) (input old new : Option (List ℕ)) → IsWhole input bytes →
    IsAnswer t bytes text →
    Appends old new text → Answers t input old new
answered t bytes text input old new whole answer grows =
    IfSome_then input whole (λ xs is. (text, subst (λ b. IsAnswer t b text) is answer, grows))

-- or a front of it
pub begun : (t : Task) (bytes text : List ℕ) (input old new : Option (List ℕ)) → IsWhole input bytes →
    IsAnswer t bytes text →
    ((n : ℕ) × Appends old new (take n text)) → Begins t input old new
begun t bytes text input old new whole answer grows =
    IfSome_then input whole (λ xs is. (text, subst (λ b. IsAnswer t b text) is answer, grows))

-- or there is none, and nothing is written
pub fails_on : (t : Task) (bytes : List ℕ) (input known : Option (List ℕ)) (e : Failure) → IsWhole input bytes →
    IsFailureOn t bytes e → Ends t input known known (Err e)
fails_on t bytes input known (failure.Script e) whole h =
    (IfSome_then input whole (λ xs is. subst (λ b. UnlessMemory e (IsRefusal t b)) is h), keeps_all known)
fails_on t bytes input known (failure.Run e) whole h = (h, keeps_all known)
fails_on t bytes input known failure.Read whole h = absurd h
fails_on t bytes input known failure.Write whole h = absurd h

-- what is so of the bytes that were read is so of the whole input
pub ends_whole : (t : Task) (bytes : List ℕ) (input old new : Option (List ℕ)) (r : Result (Unit {0}) Failure) →
    IsWhole input bytes → Ends t (Some bytes) old new r → Ends t input old new r
ends_whole t bytes input old new (Ok done) whole h =
    IfSome_then input whole (λ xs is. subst (λ b. (text : List ℕ) × IsAnswer t b text × Appends old new text) is h)
ends_whole t bytes input old new (Err (failure.Script e)) whole h =
    (IfSome_then input whole (λ xs is. subst (λ b. UnlessMemory e (IsRefusal t b)) is h.0), h.1)
ends_whole t bytes input old new (Err (failure.Run e)) whole h = h
ends_whole t bytes input old new (Err failure.Read) whole h = h
ends_whole t bytes input old new (Err failure.Write) whole h =
    IfSome_then input whole (λ xs is. subst (λ b. (text : List ℕ) × IsAnswer t b text
    × ((n : ℕ) × Appends old new (take n text))) is h)

-- the text of a report on a run is an answer to the script that the run is of
pub run_answer : (t : Task) (bytes : List ℕ) (s : ScriptValue) (report : Report) → IsTextOf script_of bytes s →
    IsRunOf s report → IsTurned t s report → IsRunAnswer t bytes (report_text s report)
run_answer t bytes s report reads run turns =
    record { script = s; reads = reads; report = report; run = run; turns = turns; text_is = refl }

-- memory ran out before the words were read
pub ends_without_memory : (t : Task) (input old new : Option (List ℕ)) (status : ℕ) → status ≡ 3 → Keeps old new →
    EndsWith t input old new status
ends_without_memory t input old new status is keeps =
    inr (failure.Run run_fault.Memory, is, (wants_memory t, keeps))

-- and it does what was asked for with the input that was
pub as_asked : (contents : List ℕ → Option (List ℕ)) (standard old new : Option (List ℕ)) (taken : Option Order)
    (order : Order) (asked : Asked) (status : ℕ) → taken ≡ Some order →
    option_map asked_of taken ≡ Some asked →
    EndsWith order.task (input_of contents standard (asked_of order).1) old new status →
    EndsWith asked.0 (input_of contents standard asked.1) old new status
as_asked contents standard old new taken order asked status is taken_as ends =
    let same : asked_of order ≡ asked = ap (λ o. unwrap_or o asked) (ap (option_map asked_of) (sym is) ∙ taken_as) in
    subst (λ (a : Asked). EndsWith a.0 (input_of contents standard a.1) old new status) same ends

-- what was asked for is taken
pub not_taken : (taken : Option Order) (asked : Asked) → taken ≡ None → option_map asked_of taken ≡ Some asked → ⊥
not_taken taken asked is taken_as = let differs : None ≡ Some asked = sym (ap (option_map asked_of) is) ∙ taken_as in cc
