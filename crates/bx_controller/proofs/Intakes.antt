-- Laws of what comes to a receive FIFO.
use Rattle.std.proofs.Common.{◌≡◌, ℕ, suc, ◌+◌, ◌≤◌, Option, Some, None, List, [], ◌∷◌, ◌++◌, length, refl, sym, ap}
use Rattle.std.proofs.Common.{subst, arith, ◌∙◌, length-append}
use Rattle.std.proofs.lemmas.List.{map-append}
use Rattle.bx_rx.specs.declared.rx_frame.RxFrame.{RxFrame}
use Rattle.bx_rx.specs.RxIn.{Inlet, AreLastOf, put_in, none_put}
use Rattle.can_frame.specs.Frames.{FrameValue}
use Rattle.bx_controller.specs.Intakes.{LeavesOut, frames_of, discards_in, IntakeStands}
use Rattle.bx_controller.specs.Intakes.LeavesOut.{nothing, keeps, drops}
use Rattle.bx_controller.specs.declared.intake.Intake.{Intake}

pub left-length : {X : Type 0} {xs ys : List X} {n : ℕ} → LeavesOut xs ys n → length xs ≡ length ys + n
left-length nothing = refl
left-length (keeps {xs = xs} {ys = ys} x h) =
    omega (arith, length-append xs (x ∷ []), length-append ys (x ∷ []), left-length h)
left-length (drops {xs = xs} x h) = omega (arith, length-append xs (x ∷ []), left-length h)

-- one call more, at the back
stored_once : (calls : List (Option RxFrame)) (x : RxFrame) → discards_in (calls ++ Some x ∷ []) ≡ discards_in calls
stored_once [] x = refl
stored_once (None ∷ calls) x = ap suc (stored_once calls x)
stored_once (Some y ∷ calls) x = stored_once calls x

discarded_once : (calls : List (Option RxFrame)) → discards_in (calls ++ None ∷ []) ≡ discards_in calls + 1
discarded_once [] = refl
discarded_once (None ∷ calls) = omega (arith, discarded_once calls)
discarded_once (Some y ∷ calls) = discarded_once calls

pub opens : (intake : Intake) → intake.accepted ≡ 0 → intake.overrun ≡ 0 → intake.rxin.stored ≡ [] →
    intake.rxin.calls ≡ [] → IntakeStands intake []
opens intake a o s none = record {
  accepted_is = a;
  asked = ap length none;
  overrun_is = o ∙ sym (ap discards_in none);
  stored_is = subst (λ n. LeavesOut [] (frames_of intake.rxin.stored) n) (sym o)
      (subst (λ xs. LeavesOut [] (frames_of xs) 0) (sym s) nothing);
  full = λ ne. absurd (ne o);
}

pub stores : (old new : Intake) (x : RxFrame) (offered : List FrameValue) → new.accepted ≡ old.accepted + 1 →
    new.overrun ≡ old.overrun → new.rxin ≡ put_in old.rxin x →
    IntakeStands old offered → IntakeStands new (offered ++ x.frame ∷ [])
stores old new x offered a o is h = let s : new.rxin.stored ≡ old.rxin.stored ++ x ∷ [] =
    ap (λ (r : Inlet). r.stored) is in record {
      asked = ap (λ (r : Inlet). length r.calls) is
          ∙ omega (arith, h.asked, length-append old.rxin.calls (Some x ∷ []), length-append offered (x.frame ∷ []));
      overrun_is = o ∙ h.overrun_is ∙ sym (ap (λ (r : Inlet). discards_in r.calls) is ∙ stored_once old.rxin.calls x);
      accepted_is = omega (arith, a, h.accepted_is, length-append offered (x.frame ∷ []));
      stored_is = subst (λ n. LeavesOut (offered ++ x.frame ∷ []) (frames_of new.rxin.stored) n) (sym o)
          (subst (λ ys. LeavesOut (offered ++ x.frame ∷ []) ys old.overrun)
          (sym (ap frames_of s ∙ map-append (λ (y : RxFrame). y.frame) old.rxin.stored (x ∷ [])))
          (keeps x.frame h.stored_is));
      full = λ ne. (let before = h.full (λ e. ne (o ∙ e)) in
          omega (arith, before, ap length s, length-append old.rxin.stored (x ∷ [])));
    }

three_of : (stored : List RxFrame) → ((items : List RxFrame) × (length items ≡ 3) × AreLastOf stored items) →
    3 ≤ length stored
three_of stored h = omega (arith, h.1, ap length h.2.1, length-append h.2.0 h.0)

pub discards : (old new : Intake) (x : FrameValue) (offered : List FrameValue) → new.accepted ≡ old.accepted + 1 →
    new.overrun ≡ old.overrun + 1 → new.rxin ≡ none_put old.rxin →
    ((items : List RxFrame) × (length items ≡ 3) × AreLastOf old.rxin.stored items) → IntakeStands old offered →
    IntakeStands new (offered ++ x ∷ [])
discards old new x offered a o is held h = let s : new.rxin.stored ≡ old.rxin.stored =
    ap (λ (r : Inlet). r.stored) is in record {
      asked = ap (λ (r : Inlet). length r.calls) is
          ∙ omega (arith, h.asked, length-append old.rxin.calls (None ∷ []), length-append offered (x ∷ []));
      overrun_is =
          omega (arith, o, h.overrun_is, ap (λ (r : Inlet). discards_in r.calls) is, discarded_once old.rxin.calls);
      accepted_is = omega (arith, a, h.accepted_is, length-append offered (x ∷ []));
      stored_is = subst (λ n. LeavesOut (offered ++ x ∷ []) (frames_of new.rxin.stored) n) (sym o)
          (subst (λ ys. LeavesOut (offered ++ x ∷ []) ys (old.overrun + 1)) (sym (ap frames_of s))
          (drops x h.stored_is));
      full = λ ne. omega (arith, three_of old.rxin.stored held, ap length s);
    }

pub few_discarded : (intake : Intake) (offered : List FrameValue) → IntakeStands intake offered →
    intake.overrun ≤ length offered
few_discarded intake offered h = omega (arith, left-length h.stored_is)
