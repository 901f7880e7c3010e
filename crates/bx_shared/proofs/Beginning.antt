-- What the bus's seat starts was in turn.
use Rattle.std.proofs.Common.{◌≡◌, ◌∙◌, ℕ, List, [], ◌∷◌, get_or, refl, ap, inl, inr, Some, Bool, true, false}
use Rattle.bx_core.specs.declared.status.Status.{Status}
use Rattle.bx_core.specs.declared.status.Status.TheVariants.{Pending, Scheduled}
use Rattle.bx_core.specs.declared.waiting.Waiting.{Waiting}
use Rattle.bx_core.specs.Lists.{Each, Has}
use Rattle.bx_core.specs.States.{State, in_turn}
use Rattle.bx_core.specs.Law.{Reached, IsUntouched, RestUntouched}
use Rattle.bx_core.specs.PlainMail.{item_of}
use Rattle.bx_core.proofs.Words.{each_of}
use Rattle.bx_core.proofs.Reaches.{law_of}
use Rattle.bx_shared.specs.declared.bus_view.BusView.{BusView}
use Rattle.bx_shared.specs.Shown.{Shows, FitsBus, past_of}
use Rattle.bx_shared.specs.BusSteps.{WasInTurn}

not_both : (st : Status) → st ≡ Pending → st ≡ Scheduled → ⊥
not_both st a b = cc

-- of requests of which all but the first are pending, the one that is scheduled is the first
first_scheduled : (q : List Waiting) (w : Waiting) → RestUntouched q → Has q w → w.status ≡ Scheduled →
    (behind : List Waiting) × (q ≡ w ∷ behind)
first_scheduled [] w rest has st = absurd has
first_scheduled (x ∷ xs) w rest (inl e) st = (xs, ap (λ (y : Waiting). y ∷ xs) e)
first_scheduled (x ∷ xs) w rest (inr has) st =
    absurd (not_both w.status (each_of IsUntouched xs w rest has).pending st)

pub was_in_turn : (words : List ℕ) (s : State) (b : BusView) (w : Waiting) (m : ℕ) → Reached s → Shows words s →
    FitsBus s b → Has s.queue w → in_turn s ≡ Some w → w.status ≡ Scheduled → w.mailbox ≡ m →
    w.abort_asked ≡ false → WasInTurn b.txfp (past_of b) (get_or words 0 0) m (item_of w)
was_in_turn words s b w m reached shows fit has turn st at asked = record {
  core = s;
  reached = reached;
  priority = fit.priority;
  words = words;
  shows = shows;
  word_is = refl;
  did = fit.stands;
  request = w;
  turn = turn;
  mailbox_is = at;
  not_asked = asked;
  item_is = refl;
  oldest = λ e. first_scheduled s.queue w ((law_of s reached).first (fit.priority ∙ e)) has st;
}
