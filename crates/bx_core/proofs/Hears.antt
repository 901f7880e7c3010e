-- What the gate of a mail for one thread hears.
use Rattle.std.proofs.Common.{◌≡◌, List, [], ℕ, refl, sym, subst}
use Rattle.std.proofs.lemmas.List.{append-nil}
use Rattle.bx_core.specs.declared.answer.Sent.{Sent}
use Rattle.bx_core.specs.declared.answer.Sent.TheVariants.{Yes, NotNow}
use Rattle.bx_core.specs.declared.point.Point.{Point}
use Rattle.bx_core.specs.Gate.{HearsSteps, HearsAnswer, IsHeard}
use Rattle.bx_core.specs.PlainMail.{HearsOnly, heard_of}
use Rattle.bx_core.specs.States.{State, IsLowestEmpty}

is_heard : (s : State) (sent : Sent) (mailbox : ℕ) → (sent ≡ Yes → IsLowestEmpty s mailbox) →
    IsHeard sent (heard_of sent mailbox)
is_heard s Yes mailbox lowest = (lowest refl).within
is_heard s NotNow mailbox lowest = tt

-- the answer alone is an answer behind no steps
pub hears_answer : {G : Type 0} (may_have_heard : G → List Point → Type 0) (s : State) (sent : Sent) (old new : G) →
    HearsOnly may_have_heard s sent old new →
    HearsAnswer may_have_heard sent old new
hears_answer may_have_heard s sent old new h = record {
  steps = [];
  are_steps = tt;
  heard = heard_of sent h.mailbox;
  is_heard = is_heard s sent h.mailbox h.lowest;
  passes = h.passes;
}

-- a gate that is as before passed no steps
pub hears_nothing : {G : Type 0} (may_have_heard : G → List Point → Type 0) (old new : G) → new ≡ old →
    HearsSteps may_have_heard old new
hears_nothing may_have_heard old new same = record {
  steps = [];
  are_steps = tt;
  passes =
      λ told h. subst (may_have_heard new) (sym (append-nil told)) (subst (λ g. may_have_heard g told) (sym same) h);
}
