-- Bits of an idle bus on which all nodes are deferred, one after another.
use Rattle.std.proofs.Common.{◌≡◌, ℕ, zero, suc, ◌<◌, ◌≤◌, ◌-◌, length, arith, ◌+◌, ◌&&◌, cond, Bool, true, List}
use Rattle.std.proofs.Common.{[], ◌∷◌, refl, sym, ap, subst, inl}
use Rattle.std.proofs.Common.{◌∙◌}
use Rattle.can_node.specs.SharedReceiver.{Idles}
use Rattle.can_station.specs.declared.member.Member.{Member}
use Rattle.can_station.specs.Members.{drives_at}
use Rattle.can_station.specs.declared.place_set.PlaceSet.{PlaceSet}
use Rattle.can_station.specs.PlaceSets.{IsEmpty}
use Rattle.can_station.proofs.PlaceSets.{deferred_outside}
use Rattle.can_station.specs.DeferredNodes.{AllGo, ActiveWithin}
use Rattle.can_station.proofs.Places.{same_some}
use Rattle.can_station.proofs.PlaceSets.{all_pass}
use Rattle.can_segment.specs.declared.deferred.Deferred.{Deferred}
use Rattle.can_segment.specs.DeferredState.{AllDeferred, AreRecessive, AreUneventfulBits, IsUneventfulBit}
use Rattle.can_segment.specs.DeferredState.{driven_beside}
use Rattle.can_segment.specs.Levels.{recessive_levels}
use Rattle.can_segment.proofs.SingleBit.{follows_through}

pub stay_deferred : (bit : ℕ) (members : List Member) → AllDeferred members → AllGo bit true members members
stay_deferred bit members each_deferred = record {
  at = λ k a b p q. record {
    stays_deferred = λ e. same_some b a (sym q ∙ p);
    stays_active = λ active. absurd (let is_deferred = each_deferred k a p in cc (is_deferred, active));
    steps = λ active. absurd (let is_deferred = each_deferred k a p in cc (is_deferred, active));
  };
  size = refl;
}

pub deferred_drive : (bit : ℕ) (members : List Member) → AllDeferred members → driven_beside bit true members ≡ true
deferred_drive bit members each_deferred = all_pass (λ x. cond x.is_deferred true (drives_at bit x)) members
    (λ k m e. ap (λ b. cond b true (drives_at bit m)) (each_deferred k m e))

-- one bit of an idle bus at which all nodes are deferred that have nothing to send
idle_bit : (bit : ℕ) (deferred : Deferred) (t c : List Member) → bit < deferred.next_start → Idles
    deferred.shared_receiver → AllDeferred t →
    AllDeferred c → IsUneventfulBit bit true deferred deferred t t c c
idle_bit bit deferred t c before idles each_deferred each_deferred_too = record {
  starts_none = inl before;
  through = follows_through deferred bit deferred.shared_receiver true (idles.follows deferred.known bit) idles.listens;
  deferred_level = true;
  drives = λ listening node at. sym (idles.drives node at);
  talkers = stay_deferred bit t each_deferred;
  controllers = stay_deferred bit c each_deferred_too;
  level_is = sym (ap (λ b. b && driven_beside bit true c) (deferred_drive bit t each_deferred)
      ∙ deferred_drive bit c each_deferred_too);
}

pub idle_bits : (bit : ℕ) (sent : List Bool) (deferred : Deferred) (t c : List Member) →
    length sent ≤ deferred.next_start - bit → Idles deferred.shared_receiver → AllDeferred t → AllDeferred c → AreRecessive sent → AreUneventfulBits bit sent
    deferred deferred t t c c
idle_bits bit [] deferred t c before idles each_deferred each_deferred_too recessive = (refl, refl, refl)
idle_bits bit (level ∷ sent) deferred t c before idles each_deferred each_deferred_too recessive =
    let is = recessive.0 in (
      deferred,
      t,
      c,
      subst (λ l. IsUneventfulBit bit l deferred deferred t t c c) (sym is) (idle_bit bit deferred t c (omega (arith, before)) idles
          each_deferred each_deferred_too),
      idle_bits (bit + 1) sent deferred t c (omega (arith, before)) idles each_deferred each_deferred_too recessive.1,
    )

pub all_are_deferred : (set : PlaceSet) (members : List Member) → ActiveWithin set members → IsEmpty set → AllDeferred
    members
all_are_deferred set members within none k m e = deferred_outside set members k m within e (none k)

-- the levels of this many recessive bits
pub are_recessive : (n : ℕ) → AreRecessive (recessive_levels n)
are_recessive zero = tt
are_recessive (suc n) = (refl, are_recessive n)
