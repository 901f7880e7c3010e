-- A node that has sampled a bit, and then its port that learns what became of it, put together.
use Rattle.std.proofs.Common.{◌≡◌, inl, inr, ℕ, ◌+◌, ◌≤◌, nat_le, Bool, true, false, refl, Option, List, ◌++◌, sym, ap}
use Rattle.std.proofs.Common.{subst, arith, ◌∙◌}
use Rattle.can_frame.specs.Frames.{FrameValue}
use Rattle.can_node.specs.Histories.{Past, IsHistory}
use Rattle.can_node.specs.Node.{StandsAfter, IsSample, bit_of}
use Rattle.bx_core.specs.TxBus.{Item, BusPast, BusCall}
use Rattle.can_station.specs.declared.member.Member.{Member}
use Rattle.can_station.specs.Ports.{item_of}
use Rattle.can_station.specs.Outcomes.{sending_after, completed_by}
use Rattle.can_station.specs.Actions.{IsUneventful, Names}
use Rattle.can_station.specs.DeferredNodes.{IfActive, IfActiveBoth}
use Rattle.can_station.specs.Members.{is_on, settled_at, taken_at, SamplesOn, Samples, IsUnsettled, Settles}
use Rattle.can_station.specs.Members.{SamplesAndSettles, PortSettled, PortSettles}

pub unsettled : (transmits : Option Item) (bit : ℕ) (level : Bool) (old mid : Member) →
    transmits ≡ item_of old.station.sending → Samples bit level old mid → IsUnsettled transmits bit mid
unsettled transmits bit level old mid is s = record {
  sent = old.station.sending;
  transmits_is = is;
  off = λ early. ap (λ m. m.station.sending) (s.off (omega (arith, early, s.on_is)));
  names = λ late. (s.samples (omega (arith, late, s.on_is))).names;
  sending_is = λ late. (s.samples (omega (arith, late, s.on_is))).sending_is;
  none_yet = λ late. s.reaps_none (omega (arith, late, s.on_is));
}

settled_on : (bit : ℕ) (level : Bool) (old mid new : Member) → SamplesOn level old mid → Settles bit mid new →
    SamplesOn level old new
settled_on bit level old mid new s t =
    let names : Names new.action old.station.sending = elim s.names [
      | inl uneventful ↦ inl (subst (λ m. IsUneventful m.action) (sym (t.uneventful uneventful.no_end)) uneventful)
      | inr named ↦ inr (t.sent_is ∙ named)
    ] in
    record {
      began_is = t.began_is ∙ s.began_is;
      names = names;
      stands = subst (λ x. IsSample old.station.node level new.action.outcome x.node) (sym t.station_is)
          (subst (λ o. IsSample old.station.node level o mid.station.node) (sym t.outcome_is) s.stands);
      history = subst (λ x. (past : Past) → StandsAfter x.node past → IsHistory past) (sym t.station_is) s.history;
      sending_is =
          ap (λ x. x.sending) t.station_is ∙ s.sending_is ∙ ap (sending_after old.station.sending) (sym t.outcome_is);
      completed_is = ap (λ x. x.completed) t.station_is ∙ s.completed_is
          ∙ ap (λ o. old.station.completed + completed_by o) (sym t.outcome_is);
      bit_is = ap (λ x. bit_of x.node) t.station_is ∙ s.bit_is;
    }

pub settled_too : (bit : ℕ) (level : Bool) (old mid new : Member) → Samples bit level old mid → Settles bit mid new →
    SamplesAndSettles bit level old new
settled_too bit level old mid new s t = record {
  off = λ early. t.off (omega (arith, early, s.on_is)) ∙ s.off early;
  on_is = t.on_is ∙ s.on_is;
  samples = λ late. settled_on bit level old mid new (s.samples late) t;
  reaps = λ late. t.reaps (omega (arith, late, s.on_is));
}

-- and so it is with the port
pub port_settles : {P : Type 0} (after : P → BusPast → Type 0) (asked : P → List BusCall → Type 0)
    (transmitting : P → Option Item) (sink : P → List FrameValue → Type 0) (stays : P → P → Type 0) (bit : ℕ)
    (level : Bool) (old mid new : Member) (from to : P) →
    Samples bit level old mid → PortSettled after asked transmitting sink stays bit mid new from to →
    PortSettles after asked transmitting sink stays bit level old new from to
port_settles after asked transmitting sink stays bit level old mid new from to s p =
    let same_on : is_on bit mid ≡ is_on bit old = ap (λ n. nat_le n bit) s.on_is in
    record {
      member = settled_too bit level old mid new s p.member;
      bus = λ past h. subst (λ on. after to (settled_at on past new.action)) same_on (p.bus past h);
      asks_none = p.asks_none;
      transmits = p.transmits;
      offers = λ past h. subst (λ on. sink to (past ++ taken_at on new.action)) same_on (p.offers past h);
      stays_on = p.stays_on;
    }

pub uneventful_settled : (bit : ℕ) (mid new : Member) → Settles bit mid new → (mid.on ≤ bit → IsUneventful mid.action) →
    new.on ≤ bit → IsUneventful new.action
uneventful_settled bit mid new t uneventful on =
    let calm = uneventful (omega (arith, on, t.on_is)) in
    subst (λ m. IsUneventful m.action) (sym (t.uneventful calm.no_end)) calm

-- the same of one that is active, and of a deferred node
was_active : (Step : Member → Member → Type 0) (old new : Member) → IfActive Step old new → new.is_deferred ≡ false →
    old.is_deferred ≡ false
was_active Step old new s active = by old.is_deferred refl
  where
    by : (b : Bool) → old.is_deferred ≡ b → old.is_deferred ≡ false
    by true e = let same = ap (λ m. m.is_deferred) (s.stays_deferred e) in absurd (cc (active, same, e))
    by false e = e

pub unsettled_active : (transmits : Option Item) (bit : ℕ) (level : Bool) (old mid : Member) →
    transmits ≡ item_of old.station.sending → IfActive (Samples bit level) old mid → mid.is_deferred ≡ false →
    IsUnsettled transmits bit mid
unsettled_active transmits bit level old mid is s active =
    unsettled transmits bit level old mid is (s.steps (was_active (Samples bit level) old mid s active))

pub settles_both : {P : Type 0} (after : P → BusPast → Type 0) (asked : P → List BusCall → Type 0)
    (transmitting : P → Option Item) (sink : P → List FrameValue → Type 0) (stays : P → P → Type 0) (bit : ℕ)
    (level : Bool) (old mid new : Member) (from to : P) →
    IfActive (Samples bit level) old mid → IfActiveBoth (PortSettled after asked transmitting sink stays bit) mid new
    from
    to → IfActiveBoth (PortSettles after asked transmitting sink stays bit level) old new from to
settles_both after asked transmitting sink stays bit level old mid new from to s p = record {
  stays_deferred = λ e. let same = s.stays_deferred e in let on = p.stays_deferred (ap (λ m. m.is_deferred) same ∙ e) in
      (on.0 ∙ same, on.1);
  stays_active = λ e. p.stays_active (s.stays_active e);
  steps = λ e. port_settles after asked transmitting sink stays bit level old mid new from to (s.steps e)
      (p.steps (s.stays_active e));
}

pub uneventful_both : {P : Type 0} (after : P → BusPast → Type 0) (asked : P → List BusCall → Type 0)
    (transmitting : P → Option Item) (sink : P → List FrameValue → Type 0) (stays : P → P → Type 0) (bit : ℕ)
    (mid new : Member) (from to : P) →
    IfActiveBoth (PortSettled after asked transmitting sink stays bit) mid new from to →
    (mid.is_deferred ≡ false → mid.on ≤ bit → IsUneventful mid.action) → new.is_deferred ≡ false → new.on ≤ bit →
    IsUneventful new.action
uneventful_both after asked transmitting sink stays bit mid new from to s uneventful active = by mid.is_deferred refl
  where
    by : (b : Bool) → mid.is_deferred ≡ b → new.on ≤ bit → IsUneventful new.action
    by true e = let same = ap (λ m. m.is_deferred) (s.stays_deferred e).0 in absurd (cc (active, same, e))
    by false e = uneventful_settled bit mid new (s.steps e).member (uneventful e)
