-- A node that doesn't want to start at a bit, and one of which nothing is reported behind it.
use Rattle.std.proofs.Common.{◌≡◌, ℕ, ◌≤◌, ◌++◌, ◌&&◌, Bool, true, false, Option, None, IfSome, List, refl, sym, ap}
use Rattle.std.proofs.Common.{subst, arith, ◌∙◌}
use Rattle.std.proofs.lemmas.List.{append-nil}
use Rattle.can_frame.specs.Frames.{FrameValue}
use Rattle.bx_core.specs.TxBus.{Item, BusPast, BusCall}
use Rattle.can_node.specs.Node.{may_begin}
use Rattle.can_node.proofs.Samples.{wanting}
use Rattle.can_station.specs.declared.action.Action.{Action}
use Rattle.can_station.specs.declared.member.Member.{Member}
use Rattle.can_station.specs.Queues.{due_at}
use Rattle.can_station.specs.declared.plan.Talker.{Talker}
use Rattle.can_station.specs.Actions.{IsUneventful}
use Rattle.can_station.specs.Members.{PortSettles, PortStarts, SamplesOn, TalkerStarts, is_on, settled_at, taken_at}
use Rattle.can_station.specs.Members.{wants_at}
use Rattle.can_station.specs.Ports.{Reaps, Undone, asked_at, begun_at, item_of, settled, started, started_item}
use Rattle.can_station.specs.Ports.{taken_by}
use Rattle.can_station.specs.Stations.{IsTalk}

none_began : (on : Bool) (action : Action) → IsUneventful action → (on && action.began) ≡ false
none_began true action uneventful = uneventful.no_start
none_began false action uneventful = refl

and_false : (b : Bool) → (b && false) ≡ false
and_false true = refl
and_false false = refl

-- it takes no message,
pub unmoved_talks : (bit : ℕ) (talkers : List Talker) (k : ℕ) (m : Member) → may_begin m.station.node ≡ false →
    IsUneventful m.action → TalkerStarts bit talkers k m m
unmoved_talks bit talkers k m wants uneventful talker e = record {
  off = λ early. refl;
  on_is = refl;
  talks = λ late. subst (IsTalk m.station m.station (due_at talker.queue.items m.station.completed bit)) (sym uneventful.no_start)
      (record {
        begins = λ e. absurd (cc e);
        stays = λ e. refl;
        wants = λ past stood. (false, wanting m.station.node false (sym wants) past stood, refl);
      });
}

-- its port is asked for none,
pub unmoved_requests : {P : Type 0} (after : P → BusPast → Type 0) (asked : P → List BusCall → Type 0)
    (transmitting : P → Option Item) (stays : P → P → Type 0) (bit : ℕ) (m : Member) (p : P) →
    may_begin m.station.node ≡ false → IsUneventful m.action → transmitting p ≡ item_of m.station.sending → stays p p →
    PortStarts after asked transmitting stays bit m m p p
unmoved_requests after asked transmitting stays bit m p wants uneventful sends same =
    let none : (is_on bit m && m.action.began) ≡ false = none_began (is_on bit m) m.action uneventful in
    let began : m.action.began ≡ true → ⊥ = λ e. cc (e, uneventful.no_start) in
    let no_wish : wants_at bit m ≡ false = ap (λ b. is_on bit m && b) wants ∙ and_false (is_on bit m) in
    record {
      member = record {
        off = λ early. refl;
        on_is = refl;
        requests =
            λ late. record { begins = λ e. absurd (began e); stays = λ e. refl; wants = λ e. absurd (began e) };
      };
      bus = λ past h. subst (λ b. after p (started past (started_item b m.station.sending))) (sym none) h;
      undone = λ past h. subst (λ b. Undone past (started_item b m.station.sending)) (sym none) tt;
      asks = record {
        ready = false;
        given = None;
        begins_is = ap (λ b. started_item b m.station.sending) none ∙ ap (λ b. begun_at b false None) (sym no_wish);
        calls = λ past h. subst (λ b. asked p (past ++ asked_at b false None)) (sym no_wish)
            (subst (asked p) (sym (append-nil past)) h);
      };
      transmits = sends;
      stays_on = same;
    }

-- and its port learns of nothing behind a bit at which it sampled this level
pub unmoved_settles : {P : Type 0} (after : P → BusPast → Type 0) (asked : P → List BusCall → Type 0)
    (transmitting : P → Option Item) (sink : P → List FrameValue → Type 0) (stays : P → P → Type 0) (bit : ℕ)
    (level : Bool) (old new : Member) (p : P) →
    old.on ≤ bit → new.on ≡ old.on → SamplesOn level old new → IsUneventful new.action →
    transmitting p ≡ item_of new.station.sending → stays p p →
    PortSettles after asked transmitting sink stays bit level old new p p
unmoved_settles after asked transmitting sink stays bit level old new p on on_is samples uneventful sends same =
    record {
      member = record {
        off = λ early. absurd (omega (arith, early, on));
        on_is = on_is;
        samples = λ late. samples;
        reaps = λ late. subst (λ r. IfSome r (λ label. Reaps new.action.sent new.action.outcome label))
            (sym uneventful.no_reaping) tt;
      };
      bus = λ past h. settles_none (is_on bit old) past h;
      asks_none = λ calls h. h;
      transmits = sends;
      offers = λ past h. offers_none (is_on bit old) past h;
      stays_on = same;
    }
  where
    settles_none : (on : Bool) (past : BusPast) → after p past → after p (settled_at on past new.action)
    settles_none true past h =
        subst (λ o. after p (settled past (item_of new.action.sent) o new.action.reaped)) (sym uneventful.no_end) h
    settles_none false past h = h

    offers_none : (on : Bool) (past : List FrameValue) → sink p past → sink p (past ++ taken_at on new.action)
    offers_none true past h =
        subst (λ o. sink p (past ++ taken_by o)) (sym uneventful.no_end) (subst (sink p) (sym (append-nil past)) h)
    offers_none false past h = subst (sink p) (sym (append-nil past)) h
