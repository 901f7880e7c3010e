-- Which nodes are resumed, and which stay deferred.
use Rattle.std.proofs.Common.{◌≡◌, ℕ, ◌+◌, ◌≤◌, arith, Bool, true, false, not, Some, List, slice_get, refl}
use Rattle.std.proofs.Common.{sym, ap, subst, ◌∙◌}
use Rattle.std.proofs.lemmas.Option.{slice_get_within}
use Rattle.can_node.specs.declared.shared_receiver.SharedReceiver.{SharedReceiver}
use Rattle.can_station.specs.declared.member.Member.{Member}
use Rattle.can_station.specs.declared.plan.NodeFault.{NodeFault}
use Rattle.can_station.specs.declared.plan.Talker.{Talker}
use Rattle.can_station.specs.Faults.{is_inverted}
use Rattle.can_station.specs.DeferredNodes.{MayResume, Unfaulted, ResumesFaulted, ResumesDue}
use Rattle.can_station.specs.Places.{AtPlaces}
use Rattle.can_station.specs.Queues.{IsNotDueBefore}
use Rattle.can_station.proofs.Places.{some_there, same_some}

-- a talker that may have been resumed
pub resumes_due : (shared_receiver : SharedReceiver) (bit limit : ℕ) (plan : List Talker) (k : ℕ) (old new : Member)
    (talker : Talker) → slice_get plan k ≡ Some talker → MayResume shared_receiver bit old new →
    (new.is_deferred ≡ true → IsNotDueBefore talker.queue.items new.station.completed limit) →
    ResumesDue shared_receiver bit limit plan k old new
resumes_due shared_receiver bit limit plan k old new talker there resumes none = record {
  resumes = resumes;
  not_due = λ is_deferred t e. subst (λ x. IsNotDueBefore x.queue.items new.station.completed limit)
      (same_some talker t (sym there ∙ e)) (none is_deferred);
}

-- with an earlier limit
pub resumes_sooner : (shared_receiver : SharedReceiver) (bit limit sooner : ℕ) (plan : List Talker) → sooner ≤ limit →
    (k : ℕ) (old new : Member) → ResumesDue shared_receiver bit limit plan k old new →
    ResumesDue shared_receiver bit sooner plan k old new
resumes_sooner shared_receiver bit limit sooner plan less k old new h = record {
  resumes = h.resumes;
  not_due = λ is_deferred talker e b before. h.not_due is_deferred talker e b (omega (arith, before, less));
}

-- a talker that stays deferred has no frame due before the limit
pub not_due_at : (shared_receiver : SharedReceiver) (bit limit : ℕ) (plan : List Talker) (old new : List Member) →
    AtPlaces (ResumesDue shared_receiver bit limit plan) old new → (k : ℕ) (m : Member) (talker : Talker) →
    slice_get new k ≡ Some m → slice_get plan k ≡ Some talker → m.is_deferred ≡ true →
    IsNotDueBefore talker.queue.items m.station.completed limit
not_due_at shared_receiver bit limit plan old new h k m talker e f is =
    let x = some_there old k (let within = slice_get_within new k m e in omega (arith, within, h.size)) in
    (h.at k x.0 m x.1 e).not_due is talker f

-- nor a fault of their own
pub unfaulted_at : (shared_receiver : SharedReceiver) (bit : ℕ) (faults : List NodeFault) (first : ℕ) (old new : List
    Member) →
    AtPlaces (ResumesFaulted shared_receiver bit faults first) old new → Unfaulted faults first bit new
unfaulted_at shared_receiver bit faults first old new h k m e is =
    let x = some_there old k (let within = slice_get_within new k m e in omega (arith, within, h.size)) in
    (h.at k x.0 m x.1 e).unfaulted is

-- a node that is resumed if it has a fault of its own
pub resumes_faulted : (shared_receiver : SharedReceiver) (bit : ℕ) (faults : List NodeFault) (first k : ℕ) (old new :
    Member)
    (inverted : Bool) → MayResume shared_receiver bit old new → (not inverted ≡ false → new.is_deferred ≡ false) →
    inverted ≡ is_inverted faults (first + k) bit → ResumesFaulted shared_receiver bit faults first k old new
resumes_faulted shared_receiver bit faults first k old new inverted resumes active is =
    record { resumes = resumes; unfaulted = λ is_deferred. sym is ∙ by inverted refl is_deferred }
  where
    by : (b : Bool) → inverted ≡ b → new.is_deferred ≡ true → inverted ≡ false
    by true e is_deferred = let not_deferred = active (ap not e) in absurd (cc (is_deferred, not_deferred))
    by false e is_deferred = e
