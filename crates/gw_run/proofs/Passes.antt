-- What the passes over segments and routes make of the bits made.
use Rattle.std.proofs.Common.{◌≡◌, ℕ, inl, inr, Some, List, length, set, slice_get, refl, sym, ap, subst, arith, ◌∙◌}
use Rattle.std.proofs.lemmas.List.{length-set}
use Rattle.std.proofs.lemmas.Option.{slice_get_within}
use Rattle.can_station.specs.Places.{AtPlaces}
use Rattle.can_station.proofs.Places.{same_some, some_there}
use Rattle.gw_opening.specs.declared.lane.Lane.{Lane}
use Rattle.gw_run.specs.Ports.{Site}
use Rattle.gw_run.specs.Sites.{IsAhead, SiteMakes, SiteMoves}
use Rattle.gw_run.specs.Worlds.{LaneKeeps, LanesKeep, LaneTurns, SameSegments, AreOfBits, HaveMade}
use Rattle.gw_run.proofs.WorldTurns.{lane_cases}
use Rattle.gw_opening.proofs.Changes.{place_cases}

pub segments_start : (sites : List Site) → SameSegments sites sites
segments_start sites =
    record { at = λ i a b p q. ap (λ (s : Site). s.segment) (same_some b a (sym q ∙ p)); size = refl }

-- one turn more
pub segments_turn : (first old new : List Site) (lane after : Lane) → LaneTurns old new lane after →
    SameSegments first old → SameSegments first new
segments_turn first old new lane after t s = record {
  at = λ i a b p q. (let middle = some_there old i (let within = slice_get_within first i a p in
      omega (arith, within, s.size)) in
      elim (place_cases old new lane.target.site t.at.site t.at.late_site t.at.site_is t.at.late_site_is
      t.at.other_sites i b q) [
        | inl here ↦ ap (λ (x : Site). x.segment) here.1 ∙ t.at.segment_is
            ∙ ap (λ (x : Site). x.segment) (same_some t.at.site middle.0
            (sym t.at.site_is ∙ ap (slice_get old) (sym here.0) ∙ middle.1)) ∙ s.at i a middle.0 p middle.1
        | inr there ↦ ap (λ (x : Site). x.segment) (same_some b middle.0 (sym there.1 ∙ middle.1))
            ∙ s.at i a middle.0 p middle.1
      ]);
  size = t.at.sites_size ∙ s.size;
}

of_bits_turns : (bits : ℕ) (old new : List Site) → SameSegments old new → AreOfBits bits old → AreOfBits bits new
of_bits_turns bits old new s h = record {
  plans = λ i site e. (let before = some_there old i (let within = slice_get_within new i site e in
      omega (arith, within, s.size)) in
      ap (λ v. v.plan.bits) (s.at i before.0 site before.1 e) ∙ h.plans i before.0 before.1);
  at_most = λ i site e. (let before = some_there old i (let within = slice_get_within new i site e in
      omega (arith, within, s.size)) in
      omega (arith, ap (λ v. length v.levels) (s.at i before.0 site before.1 e), h.at_most i before.0 before.1));
}

pub made_turns : (bits made : ℕ) (old new : List Site) → SameSegments old new → HaveMade bits made old →
    HaveMade bits made new
made_turns bits made old new s h = record {
  of_bits = of_bits_turns bits old new s h.of_bits;
  ahead = λ i site e. (let before = some_there old i (let within = slice_get_within new i site e in
      omega (arith, within, s.size)) in
      subst (IsAhead made) (sym (s.at i before.0 site before.1 e)) (h.ahead i before.0 before.1));
}

-- bits of all segments
pub moves_of : (made bits : ℕ) (old new : List Site) → AtPlaces (λ i. SiteMakes made bits) old new →
    AtPlaces (λ i. SiteMoves) old new
moves_of made bits old new m = record { at = λ i a b p q. (m.at i a b p q).moves; size = m.size }

pub made_bits : (bits next : ℕ) (old new : List Site) → AtPlaces (λ i. SiteMakes next bits) old new →
    AreOfBits bits old → HaveMade bits next new
made_bits bits next old new m h = record {
  of_bits = record {
    plans = λ i site e. (let before = some_there old i (let within = slice_get_within new i site e in
        omega (arith, within, m.size)) in
        ap (λ p. p.bits) (m.at i before.0 site before.1 e).moves.plan_is ∙ h.plans i before.0 before.1);
    at_most = λ i site e. (let before = some_there old i (let within = slice_get_within new i site e in
        omega (arith, within, m.size)) in (m.at i before.0 site before.1 e).at_most);
  };
  ahead = λ i site e. (let before = some_there old i (let within = slice_get_within new i site e in
      omega (arith, within, m.size)) in (m.at i before.0 site before.1 e).ahead);
}

keeps_self : (lane : Lane) → LaneKeeps lane lane
keeps_self lane = record {
  source_is = refl;
  fifo_is = refl;
  target_is = refl;
  number_is = refl;
  queue_is = refl;
  size_is = refl;
  rewrites_is = refl;
  plan = λ planned h. h;
}

keeps_on : (a b c : Lane) → LaneKeeps a b → LaneKeeps b c → LaneKeeps a c
keeps_on a b c p q = record {
  source_is = q.source_is ∙ p.source_is;
  fifo_is = q.fifo_is ∙ p.fifo_is;
  target_is = q.target_is ∙ p.target_is;
  number_is = q.number_is ∙ p.number_is;
  queue_is = q.queue_is ∙ p.queue_is;
  size_is = q.size_is ∙ p.size_is;
  rewrites_is = q.rewrites_is ∙ p.rewrites_is;
  plan = λ planned h. q.plan planned (p.plan planned h);
}

pub lanes_start : (lanes : List Lane) → LanesKeep lanes lanes
lanes_start lanes =
    record { at = λ k a b p q. subst (LaneKeeps a) (same_some a b (sym p ∙ q)) (keeps_self a); size = refl }

pub lanes_on : (first old new : List Lane) → LanesKeep first old → LanesKeep old new → LanesKeep first new
lanes_on first old new p q = record {
  at = λ k a c e f. (let b = some_there old k (let within = slice_get_within first k a e in
      omega (arith, within, p.size)) in
      keeps_on a b.0 c (p.at k a b.0 e b.1) (q.at k b.0 c b.1 f));
  size = q.size ∙ p.size;
}

pub lanes_turn : (first lanes : List Lane) (k : ℕ) (lane after : Lane) → slice_get lanes k ≡ Some lane →
    LaneKeeps lane after → LanesKeep first lanes → LanesKeep first (set lanes k after)
lanes_turn first lanes k lane after found keeps s = record {
  at = λ j a b p q. elim (lane_cases lanes k lane after found j b q) [
    | inl here ↦ subst (LaneKeeps a) (sym here.1)
        (keeps_on a lane after (s.at j a lane p (ap (slice_get lanes) here.0 ∙ found)) keeps)
    | inr there ↦ s.at j a b p there.1
  ];
  size = simp length-set s.size;
}
