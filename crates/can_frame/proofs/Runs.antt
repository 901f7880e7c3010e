-- What a reader answers along a front.
use Rattle.std.proofs.Common.{◌≡◌, All, Bool, true, false, List, [], ◌∷◌, ◌++◌, refl, sym, ap, subst, ◌∙◌, append_assoc}
use Rattle.std.proofs.lemmas.List.Elements.{All-nil, All-cons}
use Rattle.can_frame.specs.Frames.{FrameValue}
use Rattle.can_frame.specs.Fronts.{front_tail, IsFront}
use Rattle.can_frame.specs.Answers.{Answers, IsBody}
use Rattle.can_frame.specs.Reading.{StandsAfter, IsReading, HasTaken, Leaves}
use Rattle.can_frame.specs.Runs.{IsRun, LeadsTo, SpellingsAreTaken}
use Rattle.can_frame.specs.declared.step.Step.{Step}
use Rattle.can_frame.specs.declared.step.Step.TheVariants.{More, StuffBit, Body, Tail, Taken, Fault}
use Rattle.can_frame.specs.declared.reader.Reader.{Reader}
use Rattle.can_frame.proofs.Regions.{same_region}
use Rattle.can_frame.proofs.FrontLaws.{parts, is-front, no_front_begins}
use Rattle.can_frame.proofs.Spellings.{spelled_region}
use Rattle.can_frame.proofs.ReaderLaws.{fault_ends}
use Rattle.can_frame.proofs.OneAnswer.{one_answer, two_bodies}

-- the body of a front
front_body : (f g : FrameValue) (right : Bool) (w more : List Bool) → IsFront f (w ++ more) → IsBody g right w → (g ≡ f)
    × (right ≡ true)
front_body f g right w more h b =
    let p = parts f (w ++ more) h in
    let same = same_region f g p.x b.x p.check b.check p.region w (front_tail false) more p.is_region b.is_region
    (sym p.whole) in
    let good : IsBody f true p.region = record {
      x = p.x;
      check = p.check;
      is_region = p.is_region;
      is_right = λ r. p.is_crc;
      is_wrong = λ r. absurd (cc r);
    } in
    two_bodies g f right true w b (subst (IsBody f true) same good)

-- an answer before the end of a front
pub record GoesOn (f : FrameValue) (step : Step) (new : Reader) : Type 0 where
  pub leads : LeadsTo f step
  pub reading : IsReading new

goes_on_by : (step : Step) (f : FrameValue) (new : Reader) (text : List Bool) (level : Bool) (more : List Bool) →
    Answers step text level → Leaves step new →
    IsFront f ((text ++ level ∷ []) ++ more) → (more ≡ [] → ⊥) → GoesOn f step new
goes_on_by More f new text level more a l h m = record { leads = tt; reading = l }
goes_on_by StuffBit f new text level more a l h m = record { leads = tt; reading = l }
goes_on_by (Body g right) f new text level more a l h m =
    record { leads = front_body f g right (text ++ level ∷ []) more h a; reading = l }
goes_on_by Tail f new text level more a l h m = record { leads = tt; reading = l }
goes_on_by (Taken g) f new text level more a l h m = absurd (m (no_front_begins g f (text ++ level ∷ []) more a h).0)
goes_on_by (Fault kind) f new text level more a l h m = absurd (fault_ends kind f text level more a h)

-- the answers to the rest of a front, and to one level more
pub record Takes (f : FrameValue) (steps : List Step) (new : Reader) : Type 0 where
  pub before : List Step
  pub leads : All (LeadsTo f) before
  pub whole : steps ≡ before ++ Taken f ∷ Taken f ∷ []
  pub taken : HasTaken new f

last_two : (f : FrameValue) (old new : Reader) (level : Bool) (steps : List Step) → HasTaken old f →
    IsRun old (level ∷ []) steps new → (steps ≡ Taken f ∷ []) × HasTaken new f
last_two f old new level [] h run = absurd run
last_two f old new level (step ∷ []) h run =
    let both = run.1.again (Taken f) h in
    (ap (λ s. s ∷ []) both.0, subst (λ r. HasTaken r f) run.2 both.1)
last_two f old new level (step ∷ other ∷ steps) h run = absurd run.2

along : (m : List Bool) (old new : Reader) (f : FrameValue) (text : List Bool) (level after : Bool)
    (steps : List Step) → StandsAfter old text → IsReading old →
    IsFront f (text ++ level ∷ m) → IsRun old (level ∷ m ++ after ∷ []) steps new → Takes f steps new
along m old new f text level after [] s r h run = absurd run
along [] old new f text level after (step ∷ steps) s r h run =
    let next = run.1.next text r s in
    let is : step ≡ Taken f = one_answer step (Taken f) text level next.answer h in
    let rest = last_two f run.0 new after steps (subst (λ k. Leaves k run.0) is next.leaves) run.2 in
    record {
      before = [];
      leads = All-nil (LeadsTo f);
      whole = ap (λ k. k ∷ steps) is ∙ ap (λ k. Taken f ∷ k) rest.0;
      taken = rest.1;
    }
along (next_level ∷ m) old new f text level after (step ∷ steps) s r h run =
    let next = run.1.next text r s in
    let long : IsFront f ((text ++ level ∷ []) ++ next_level ∷ m) =
    subst (IsFront f) (sym (append_assoc text (level ∷ []) (next_level ∷ m))) h in
    let on =
    goes_on_by step f run.0 text level (next_level ∷ m) next.answer next.leaves long (λ none. absurd (cc none)) in
    let rest = along m run.0 new f (text ++ level ∷ []) next_level after steps next.stands on.reading long run.2 in
    record {
      before = step ∷ rest.before;
      leads = All-cons (LeadsTo f) step rest.before on.leads rest.leads;
      whole =
          ap (λ k. step ∷ k) rest.whole;
      taken = rest.taken;
    }

from_start : (t : List Bool) (old new : Reader) (f : FrameValue) (after : Bool) (steps : List Step) →
    StandsAfter old [] → IsReading old →
    IsFront f t → (t ≡ [] → ⊥) → IsRun old (t ++ after ∷ []) steps new → Takes f steps new
from_start [] old new f after steps s r h some run = absurd (some refl)
from_start (level ∷ m) old new f after steps s r h some run = along m old new f [] level after steps s r h run

not_empty : (s t : List Bool) (b : Bool) → s ++ b ∷ t ≡ [] → ⊥
not_empty [] t b e = cc
not_empty (x ∷ s) t b e = cc

pub spellings_are_taken : SpellingsAreTaken
spellings_are_taken old new f x w steps s r hf hx h run =
    let front = h.stuffed ++ front_tail false in
    let is : IsFront f front =
    is-front f x h.check h.stuffed front (spelled_region f x false w hf hx h) h.is_crc refl in
    let whole : w ≡ front ++ true ∷ [] = h.whole ∙ sym (append_assoc h.stuffed (front_tail false) (true ∷ [])) in
    let t = from_start front old new f true steps s r is (not_empty h.stuffed _ true)
    (subst (λ v. IsRun old v steps new) whole run) in
    (t.before, t.leads, t.whole, t.taken)
