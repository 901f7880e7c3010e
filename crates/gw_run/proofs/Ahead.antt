-- A segment that is ahead by bits at which no port is needed.
use Rattle.std.proofs.Common.{ℕ, ◌≤◌, inl, inr, ◌∷◌, [], length, refl, ap, arith, length-append, ◌∙◌}
use Rattle.std.proofs.lemmas.Bool.{cases_lt}
use Rattle.can_segment.specs.Segments.{SegmentValue}
use Rattle.can_segment.specs.UneventfulBits.{MakeUneventfulBits}
use Rattle.can_segment.specs.UneventfulBits.MakeUneventfulBits.{no_bit, one_more}
use Rattle.can_segment.proofs.UneventfulBits.{left_uneventfully}
use Rattle.bx_controller.specs.Ports.{bus_leaves-self, port_leaves-on, port_of_bus}
use Rattle.bx_core.specs.Stands.{BusKeeps, bus_keeps-on, bus_keeps-self}
use Rattle.gw_site.proofs.Sites.{leave-on, leave-self}
use Rattle.gw_run.specs.Ports.{PortLeaves, Site}
use Rattle.gw_run.specs.Sites.{IsAhead, IsAheadUpTo, SiteHolds, SiteIdles, SiteMoves}

pub ahead_least : (made : ℕ) (segment : SegmentValue) → IsAhead made segment → made ≤ length segment.levels
ahead_least made segment h = (let left = left_uneventfully h.quiet in omega (arith, h.made_is, left.longer))

-- of such bits the later ones alone
peeled : {old new : SegmentValue} (made : ℕ) → length old.levels ≤ made → made ≤ length new.levels →
    MakeUneventfulBits old new → IsAhead made new
peeled {new = new} made least most no_bit =
    record { before = new; made_is = omega (arith, least, most); quiet = no_bit }
peeled {new = new} made least most (one_more {mid = mid} bits bit) = elim (cases_lt made (length new.levels)) [
  | inl less ↦ (let inside : made ≤ length mid.levels = omega (
    arith,
    less,
    ap length bit.levels_is,
    length-append mid.levels (bit.level ∷ []),
  ) in
      let h = peeled made least inside bits in
      record { before = h.before; made_is = h.made_is; quiet = one_more h.quiet bit })
  | inr all ↦ record { before = new; made_is = omega (arith, all, most); quiet = no_bit }
]

pub ahead_on : (made next : ℕ) (segment : SegmentValue) → made ≤ next → next ≤ length segment.levels →
    IsAhead made segment → IsAhead next segment
ahead_on made next segment less most h = peeled next (omega (arith, h.made_is, less)) most h.quiet

-- a segment that makes no bit
pub idles_not : (until : ℕ) (site : Site) → SiteHolds site.segment site.ports.items → IsAheadUpTo until site.segment →
    SiteIdles until site site
idles_not until site holds ahead = record {
  moves = record {
    holds = holds;
    plan_is = refl;
    ports = leave-self PortLeaves site.ports.items
        (λ x. port_of_bus BusKeeps x x (bus_leaves-self BusKeeps bus_keeps-self x));
  };
  ports_are = refl;
  ahead = ahead;
  longer = omega arith;
  at_most = λ bits least before. before;
}

pub moves_on : (a b c : Site) → SiteMoves a b → SiteMoves b c → SiteMoves a c
moves_on a b c first next = record {
  holds = next.holds;
  plan_is = next.plan_is ∙ first.plan_is;
  ports = leave-on PortLeaves a.ports.items b.ports.items c.ports.items (port_leaves-on BusKeeps bus_keeps-on)
      first.ports next.ports;
}

-- idle bits behind others
pub idles_on : (until more : ℕ) (a b c : Site) → until ≤ more → SiteIdles until a b → SiteIdles more b c →
    SiteIdles more a c
idles_on until more a b c less first next = record {
  moves = moves_on a b c first.moves next.moves;
  ports_are = next.ports_are ∙ first.ports_are;
  ahead = next.ahead;
  longer = omega (arith, first.longer, next.longer);
  at_most = λ bits least before. next.at_most bits least (first.at_most bits (omega (arith, less, least)) before);
}

-- where a segment is ahead of so many bits at most, it is of more
pub ahead_up : (until more : ℕ) (segment : SegmentValue) → until ≤ more → IsAheadUpTo until segment →
    IsAheadUpTo more segment
ahead_up until more segment less h = (h.0, omega (arith, h.1, less), h.2)
