-- What the events of a record say of the queues of talkers.
use Rattle.std.specs.Prelude.{◌≡◌, ℕ, ◌+◌, ◌==◌, Some, List, [], ◌∷◌, filter, slice_get}
use Rattle.can_station.specs.declared.due_frame.DueFrame.{DueFrame}
use Rattle.can_station.specs.declared.event.Event.{Event}
use Rattle.can_station.specs.declared.event.EventKind.{EventKind}
use Rattle.can_station.specs.declared.event.EventKind.TheVariants as kinds
use Rattle.can_station.specs.declared.plan.SegmentPlan.{SegmentPlan}
use Rattle.can_station.specs.declared.plan.Talker.{Talker}
use Rattle.can_station.specs.Queues.{due_at}

-- the events of this node
abbrev pub events_of : ℕ → List Event → List Event
events_of node events = filter (λ (event : Event). event.node == node) events

-- how many frames of its own it completes
abbrev pub completes : EventKind → ℕ
completes (kinds.Started frame label) = 0
completes (kinds.Took start frame) = 0
completes (kinds.Completed start frame label) = 1
completes (kinds.Lost start) = 0
completes (kinds.Error kind) = 0
completes kinds.Off = 0
completes kinds.Back = 0
completes (kinds.Reaped label) = 0

-- A frame that a talker starts at this bit is the next one of its queue, and due. So is a frame that it completes.
abbrev pub IsOfQueue : List DueFrame → ℕ → ℕ → EventKind → Type 0
IsOfQueue queue completed bit (kinds.Started frame label) = due_at queue completed bit ≡ Some frame
IsOfQueue queue completed bit (kinds.Took start frame) = Unit {0}
IsOfQueue queue completed bit (kinds.Completed start frame label) = due_at queue completed bit ≡ Some frame
IsOfQueue queue completed bit (kinds.Lost start) = Unit {0}
IsOfQueue queue completed bit (kinds.Error kind) = Unit {0}
IsOfQueue queue completed bit kinds.Off = Unit {0}
IsOfQueue queue completed bit kinds.Back = Unit {0}
IsOfQueue queue completed bit (kinds.Reaped label) = Unit {0}

-- each of these events of a talker, in their order, where it completed this many frames before them
abbrev pub FollowsQueue : List DueFrame → ℕ → List Event → Type 0
FollowsQueue queue completed [] = Unit {0}
FollowsQueue queue completed (event ∷ more) = IsOfQueue queue completed event.bit event.kind
    × FollowsQueue queue (completed + completes event.kind) more

-- No talker starts a frame before it is due, and the frames that a talker completes are the first ones of its queue, in
-- order and each once.
abbrev pub KeepsQueues : SegmentPlan → List Event → Type 0
KeepsQueues plan events = (k : ℕ) (talker : Talker) → slice_get plan.talkers.items k ≡ Some talker →
    FollowsQueue talker.queue.items 0 (events_of k events)
