-- The seats as the sides of mailboxes that segments and routes drive.
use Rattle.std.specs.Prelude.{◌≡◌, ◌⊎◌, ℕ, List, [], ◌∷◌, ◌++◌}
use Rattle.std.proofs.Common.{refl, sym, ap, ◌∙◌}
use Rattle.can_frame.specs.Frames.{FrameValue}
use Rattle.bx_core.specs.declared.answer.AbortAnswer.{AbortAnswer}
use Rattle.bx_core.specs.declared.answer.AbortAnswer.TheVariants.{Ended, Asked, Gone, NotNow}
use Rattle.bx_core.specs.declared.answer.Sent.{Sent}
use Rattle.bx_core.specs.declared.answer.Sent.TheVariants.{Yes, NotNow as SentNotNow}
use Rattle.bx_core.specs.declared.point.Heard.TheVariants.{In}
use Rattle.bx_core.specs.declared.point.Point.{Point}
use Rattle.bx_core.specs.declared.point.Point.TheVariants.{Answered as WasAnswered}
use Rattle.bx_core.specs.Gate.{Passes}
use Rattle.bx_core.specs.Steps.{last_number}
use Rattle.bx_core.specs.TxBus.{BusPast}
use Rattle.bx_core.specs.RouteTx.{RoutePast}
use Rattle.bx_shared.specs.Shown.{past_of}
use Rattle.bx_shared.specs.declared.abort_outcome.AbortOutcome.TheVariants.{Aborted, Asked as WasAsked, Gone as WasGone}
use Rattle.bx_shared.specs.declared.route_view.RouteView.{RouteView}
use Rattle.bx_shared.specs.Seats.{BusPlace, RoutePlace, IsLowest, IsTaken, IsNoRoom, IsContended, to_request}
use Rattle.bx_shared.specs.Calls.{Answered, IsMissed, SameMailboxes}

-- the bus's seat did this
abbrev pub BusAfter : BusPlace → BusPast → Type 0
BusAfter b past = past ≡ past_of b.bus

-- the seat of a route did this; of the calls nothing is kept
pub record RouteAfter (s : RoutePlace) (past : RoutePast) : Type 0 where
  pub requested : past.requested ≡ s.part.requested
  pub aborted : past.aborted ≡ s.part.aborted
  pub asked : past.asked ≡ s.part.asked

-- the seat is at the same mailboxes, for the same route
pub record SameRoute (a b : RoutePlace) : Type 0 where
  pub table : b.table ≡ a.table
  pub route : b.part.route ≡ a.part.route

-- what a route's answers say, by the outcomes of its seat
abbrev pub AbortsAs : RouteView → RouteView → ℕ → AbortAnswer → Type 0
AbortsAs p q number Ended = Answered p q number Aborted
AbortsAs p q number Asked = Answered p q number WasAsked
AbortsAs p q number Gone = Answered p q number WasGone
AbortsAs p q number NotNow = IsMissed p q q.found

abbrev pub RequestsAs : RouteView → RouteView → ℕ → FrameValue → Sent → Type 0
RequestsAs p q number frame Yes = (mailbox : ℕ) × IsTaken p q number frame mailbox
RequestsAs p q number frame SentNotNow = IsNoRoom p q ⊎ IsContended p q q.found

-- the gate of a request that was taken hears of its mailbox, which is the lowest empty one of the first of the two
-- words looked at
abbrev pub HearsWhere : {G : Type 0} → (G → List Point → Type 0) → RouteView → Sent → G → G → Type 0
HearsWhere may_have_heard q Yes old new = (mailbox : ℕ) → IsLowest q.before mailbox →
    Passes may_have_heard (to_request ++ WasAnswered (In mailbox) ∷ []) old new
HearsWhere may_have_heard q SentNotNow old new = Unit {0}

pub same_mailboxes-self : (a : BusPlace) → SameMailboxes a a
same_mailboxes-self a = record { table = refl; priority = refl; routes = refl }

pub same_mailboxes-on : (a b c : BusPlace) → SameMailboxes a b → SameMailboxes b c → SameMailboxes a c
same_mailboxes-on a b c f g = record {
  table = g.table ∙ f.table;
  priority = g.priority ∙ f.priority;
  routes = g.routes ∙ f.routes;
}

pub same_route-self : (a : RoutePlace) → SameRoute a a
same_route-self a = record { table = refl; route = refl }

pub same_route-on : (a b c : RoutePlace) → SameRoute a b → SameRoute b c → SameRoute a c
same_route-on a b c f g = record { table = g.table ∙ f.table; route = g.route ∙ f.route }

pub last-is : (s : RoutePlace) (past : RoutePast) → RouteAfter s past →
    last_number s.part.requested ≡ last_number past.requested
last-is s past h = ap last_number (sym h.requested)
