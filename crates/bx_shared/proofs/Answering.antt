-- What a gate heard of a call, as a route's side tells it.
use Rattle.std.proofs.Common.{◌≡◌, ℕ, ◌+◌, ◌<◌, ⊎_elim, List, [], ◌∷◌, ◌++◌}
use Rattle.bx_core.specs.declared.answer.Sent.TheVariants.{Yes, NotNow}
use Rattle.bx_core.specs.declared.point.Heard.TheVariants.{In, Not}
use Rattle.bx_core.specs.declared.point.Point.{Point}
use Rattle.bx_core.specs.declared.point.Point.TheVariants.{Look, Withdraw, Abort, Answered}
use Rattle.bx_core.specs.Gate.{Passes, HearsSteps, HearsAnswer}
use Rattle.bx_shared.specs.declared.route_view.RouteView.{RouteView}
use Rattle.bx_shared.specs.declared.request_answer.RequestAnswer.TheVariants.{Taken, NoRoom, Contended}
use Rattle.bx_shared.specs.declared.abort_outcome.AbortOutcome.TheVariants.{Asked}
use Rattle.bx_shared.specs.Seats.{Hears, to_claim, to_request}
use Rattle.bx_shared.specs.Calls.{HearsAbort}
use Rattle.bx_shared.proofs.Losing.{passes_on}

module _ {G : Type 0} (may : G → List Point → Type 0) (p q : RouteView) (a b c : G) where
  pub heard_taken : (mailbox : ℕ) → mailbox < 3 → Hears may p q (Taken mailbox) a b →
      Passes may (Answered (In mailbox) ∷ []) b c → HearsAnswer may Yes a c
  heard_taken mailbox small f g = record {
    steps = to_request;
    are_steps = (tt, (tt, (tt, (tt, (tt, (tt, tt))))));
    heard = In mailbox;
    is_heard = small;
    passes = passes_on may to_request (Answered (In mailbox) ∷ []) a b c f g;
  }

  pub heard_no_room : Hears may p q NoRoom a b → Passes may (Answered Not ∷ []) b c → HearsAnswer may NotNow a c
  heard_no_room f g = record {
    steps = Look ∷ [];
    are_steps = (tt, tt);
    heard = Not;
    is_heard = tt;
    passes = passes_on may (Look ∷ []) (Answered Not ∷ []) a b c f g;
  }

  pub heard_contended : (word : ℕ) → Hears may p q (Contended word) a b → Passes may (Answered Not ∷ []) b c →
      HearsAnswer may NotNow a c
  heard_contended word f g = ⊎_elim
      (λ (l : (q.looks ≡ p.looks + 1) × Passes may to_claim a b). record {
        steps = to_claim;
        are_steps = (tt, (tt, tt));
        heard = Not;
        is_heard = tt;
        passes = passes_on may to_claim (Answered Not ∷ []) a b c l.1 g;
      })
      (λ (l : (q.looks ≡ p.looks + 2) × Passes may (to_request ++ Withdraw ∷ []) a b).
      record {
        steps = to_request ++ Withdraw ∷ [];
        are_steps = (tt, (tt, (tt, (tt, (tt, (tt, (tt, tt)))))));
        heard =
            Not;
        is_heard = tt;
        passes = passes_on may (to_request ++ Withdraw ∷ []) (Answered Not ∷ []) a b c l.1 g;
      }) f

pub heard_asked : {G : Type 0} (may : G → List Point → Type 0) (p q : RouteView) (a b : G) →
    HearsAbort may p q Asked a b → HearsSteps may a b
heard_asked may p q a b f = ⊎_elim
    (λ (l : (q.asked ≡ p.asked) × Passes may (Look ∷ []) a b). record {
      steps = Look ∷ [];
      are_steps = (tt, tt);
      passes = l.1;
    })
    (λ (l : Passes may (Look ∷ Abort ∷ []) a b). record {
      steps = Look ∷ Abort ∷ [];
      are_steps = (tt, (tt, tt));
      passes = l;
    }) f
