-- What a gate may have heard of a route's call.
use Rattle.std.specs.Prelude.{◌<◌, List, [], ◌∷◌, ◌++◌}
use Rattle.bx_core.specs.declared.answer.Sent.{Sent}
use Rattle.bx_core.specs.declared.answer.Sent.TheVariants.{Yes, NotNow}
use Rattle.bx_core.specs.declared.point.Heard.{Heard}
use Rattle.bx_core.specs.declared.point.Heard.TheVariants.{In, Posted, Not}
use Rattle.bx_core.specs.declared.point.Point.{Point}
use Rattle.bx_core.specs.declared.point.Point.TheVariants.{Look, Claim, Fill, Request, Withdraw, Abort, Post, Answered}
use Rattle.bx_core.specs.Lists.{Each}

-- the gate passed just these points more, in this order
abbrev pub Passes : {G : Type 0} → (G → List Point → Type 0) → List Point → G → G → Type 0
Passes may_have_heard points old new = (told : List Point) → may_have_heard old told →
    may_have_heard new (told ++ points)

-- a point before a step, and not the end of a request
abbrev pub IsStep : Point → Type 0
IsStep Look = Unit {0}
IsStep Claim = Unit {0}
IsStep Fill = Unit {0}
IsStep Request = Unit {0}
IsStep Withdraw = Unit {0}
IsStep Abort = Unit {0}
IsStep Post = Unit {0}
IsStep (Answered heard) = ⊥

-- this is how a gate is told of an answer: Yes is in one of the three mailboxes, or posted
abbrev pub IsHeard : Sent → Heard → Type 0
IsHeard Yes (In mailbox) = mailbox < 3
IsHeard Yes Posted = Unit {0}
IsHeard Yes Not = ⊥
IsHeard NotNow (In mailbox) = ⊥
IsHeard NotNow Posted = ⊥
IsHeard NotNow Not = Unit {0}

-- a call that answers no request: it passes steps
pub record HearsSteps {G : Type 0} (may_have_heard : G → List Point → Type 0) (old new : G) : Type 0 where
  pub steps : List Point
  pub are_steps : Each IsStep steps
  pub passes : Passes may_have_heard steps old new

-- a request that was answered so: it passes steps, and then its answer
pub record HearsAnswer {G : Type 0} (may_have_heard : G → List Point → Type 0) (sent : Sent)
    (old new : G) : Type 0 where
  pub steps : List Point
  pub are_steps : Each IsStep steps
  pub heard : Heard
  pub is_heard : IsHeard sent heard
  pub passes : Passes may_have_heard (steps ++ Answered heard ∷ []) old new
