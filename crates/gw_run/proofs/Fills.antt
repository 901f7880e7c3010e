-- Filling the queues of routes keeps what joins segments and routes.
use Rattle.std.proofs.Common.{◌≡◌, ◌≢◌, ℕ, ◌<◌, Some, None, List, length, slice_get, refl, sym, ap, subst, arith}
use Rattle.std.proofs.Common.{◌∙◌, ◌++◌}
use Rattle.std.proofs.lemmas.Option.{slice_get_within}
use Rattle.bx_core.specs.PlainMail.{core_of}
use Rattle.bx_core.specs.Stands.{RouteStands, route_keeps-self}
use Rattle.can_station.specs.Places.{AtPlaces}
use Rattle.can_station.proofs.Places.{same_some, some_there}
use Rattle.gw_route.specs.Plans.{FromPlan, numbers_in}
use Rattle.gw_route.specs.RouteHand.{IsLinked, IsTied, hand_value}
use Rattle.gw_route.specs.Sublists.{IsSublist}
use Rattle.gw_route.specs.Turn.{FillKeeps}
use Rattle.gw_route.proofs.Idles.{full_if_filled}
use Rattle.gw_route.specs.declared.route_hand.RouteHand.{RouteHand}
use Rattle.gw_opening.specs.declared.lane.Lane.{Lane}
use Rattle.gw_opening.specs.Places.{IsAt, slot_of}
use Rattle.gw_run.specs.Ports.{Site}
use Rattle.gw_run.specs.Worlds.{AllFull, AllHavePast, LaneFills, LaneKeeps, LaneTurns, LanesKeep, Leads, NoneQueues}
use Rattle.gw_run.specs.Worlds.{NoneTurns, WorldHolds}

-- what filling its hand keeps of a route
hand_filled : (lane : Lane) (hand : RouteHand) → FillKeeps (hand_value lane.hand) (hand_value hand) →
    IsTied lane.hand hand → LaneKeeps lane (record lane { hand = hand })
hand_filled lane hand keeps tied = record {
  source_is = refl;
  fifo_is = refl;
  target_is = refl;
  number_is = refl;
  queue_is = tied.0;
  size_is = tied.1;
  rewrites_is = tied.2;
  plan = λ planned p. record {
    done = p.done;
    all = subst (λ aborts. planned ≡ p.done ++ aborts) (sym keeps.aborts_is) p.all;
    logged = subst (λ aborted. IsSublist aborted (numbers_in p.done)) (sym keeps.aborted_is) p.logged;
  };
}

fills_keeps : (old new : Lane) → LaneFills old new → LaneKeeps old new
fills_keeps old new h =
    let kept = hand_filled old new.hand h.keeps h.tied in
    record {
      source_is = h.source_is;
      fifo_is = h.fifo_is;
      target_is = h.target_is;
      number_is = h.number_is;
      queue_is = kept.queue_is;
      size_is = kept.size_is;
      rewrites_is = kept.rewrites_is;
      plan = kept.plan;
    }

-- a route that is filled and makes no turn leaves the port that it leads to as it is
pub fills_alone : (sites : List Site) (lane : Lane) (hand : RouteHand) →
    FillKeeps (hand_value lane.hand) (hand_value hand) → IsTied lane.hand hand → Leads sites lane →
    LaneTurns sites sites lane (record lane { hand = hand })
fills_alone sites lane hand keeps tied l =
    let linked = l.holds.linked in
    record {
      at = record {
        site = l.to_is.site;
        late_site = l.to_is.site;
        port = l.to;
        late = l.to;
        site_is = l.to_is.site_is;
        late_site_is = l.to_is.site_is;
        port_is = l.to_is.port_is;
        late_is = l.to_is.port_is;
        other_sites = λ i ne. refl;
        other_ports = λ j ne. refl;
        sites_size = refl;
        ports_size = refl;
        segment_is = refl;
        changes = record {
          banks = refl;
          first = refl;
          second = refl;
          mail = route_keeps-self lane.number l.to.mail;
        };
      };
      linked = (linked.0, linked.1, keeps.matches linked.0 linked.2);
      log = keeps.log;
      keeps = hand_filled lane hand keeps tied;
    }

pub lanes_filled : (old new : List Lane) → AtPlaces (λ k. LaneFills) old new → LanesKeep old new
lanes_filled old new h = record { at = λ k a b p q. fills_keeps a b (h.at k a b p q); size = h.size }

leads_filled : (sites : List Site) (old new : Lane) → LaneFills old new → Leads sites old → Leads sites new
leads_filled sites old new h l =
    let linked = l.holds.linked in
    record {
      to = l.to;
      to_is = subst (λ place. IsAt sites place l.to) (sym h.target_is) l.to_is;
      holds = record {
        in_range = subst (λ n. n < length (core_of l.to.mail).routes) (sym h.number_is) l.holds.in_range;
        linked = subst (λ n. IsLinked (RouteStands (core_of l.to.mail) n) (hand_value new.hand)) (sym h.number_is)
            (linked.0, linked.1, h.keeps.matches linked.0 linked.2);
      };
      from = l.from;
      from_is = subst (λ place. IsAt sites place l.from) (sym h.source_is) l.from_is;
      takes = record {
        intake = l.takes.intake;
        slot_is = ap (slot_of l.from) h.fifo_is ∙ l.takes.slot_is;
        queue_is = l.takes.queue_is ∙ sym h.tied.0;
      };
      log = h.keeps.log l.log;
    }

module _ (old new : List Lane) (h : AtPlaces (λ k. LaneFills) old new) where
  before_of : (k : ℕ) (lane : Lane) → slice_get new k ≡ Some lane → (b : Lane) × (slice_get old k ≡ Some b)
  before_of k lane e =
      some_there old k (let within = slice_get_within new k lane e in omega (arith, within, h.size))

  pub world_filled : (sites : List Site) → WorldHolds sites old → WorldHolds sites new
  world_filled sites w = record {
    each_site = w.each_site;
    each_lane = λ k lane e.
        let before = before_of k lane e in
        leads_filled sites before.0 lane (h.at k before.0 lane before.1 e) (w.each_lane k before.0 before.1);
    apart = λ i j a b ne ea eb targets numbers.
        let x = before_of i a ea in
        let y = before_of j b eb in
        let hx = h.at i x.0 a x.1 ea in
        let hy = h.at j y.0 b y.1 eb in
        w.apart i j x.0 y.0 ne x.1 y.1 (sym hx.target_is ∙ targets ∙ hy.target_is)
        (sym hx.number_is ∙ numbers ∙ hy.number_is);
  }

pub all_full : (old new : List Lane) → AtPlaces (λ k. LaneFills) old new → AllFull new
all_full old new h k lane e =
    let before = some_there old k (let within = slice_get_within new k lane e in omega (arith, within, h.size)) in
    full_if_filled (hand_value before.0.hand) (hand_value lane.hand) (h.at k before.0 lane before.1 e).filled

-- a route without a queue gets none
pub none_queues : (old new : List Lane) → LanesKeep old new → NoneQueues old → NoneQueues new
none_queues old new h none k lane e =
    let before = some_there old k (let within = slice_get_within new k lane e in omega (arith, within, h.size)) in
    (h.at k before.0 lane before.1 e).size_is ∙ none k before.0 before.1

-- without a queue there is nothing to fill
pub none_to_fill : (lanes : List Lane) → NoneQueues lanes → AllFull lanes
none_to_fill lanes none k lane e size is = absurd (not_some size (sym (none k lane e) ∙ is))
  where
    not_some : (size : ℕ) → None ≡ Some size → ⊥
    not_some size e = cc e

-- no turn is made
pub none_turns : (old new : List Lane) → AtPlaces (λ k. LaneFills) old new → NoneTurns old new
none_turns old new h = record { at = λ k a b p q. (h.at k a b p q).keeps.turns_is; size = h.size }

pub no_turns : (lanes : List Lane) → NoneTurns lanes lanes
no_turns lanes =
    record { at = λ k a b p q. ap (λ (l : Lane). l.hand.turns) (same_some b a (sym q ∙ p)); size = refl }

pub no_turns_on : (first old new : List Lane) → NoneTurns first old → NoneTurns old new → NoneTurns first new
no_turns_on first old new p q = record {
  at = λ k a c e f.
      let b = some_there old k (let within = slice_get_within first k a e in omega (arith, within, p.size)) in
      q.at k b.0 c b.1 f ∙ p.at k a b.0 e b.1;
  size = q.size ∙ p.size;
}

pub all_have_past : (sites : List Site) (lanes : List Lane) → WorldHolds sites lanes → AllHavePast lanes
all_have_past sites lanes w k lane e =
    let linked = (w.each_lane k lane e).holds.linked in
    (linked.0, linked.2)
