use Rattle.std.proofs.Common.{rules, arith, inr, refl, subst, sym}
use Rattle.can_node.specs.Node.{IsSample}
use Rattle.can_node.proofs.Samples.{stands_history}
use Rattle.can_station.specs.DeferredNodes.{materialized_member}
use Rattle.can_station.proofs.member.Member.share.Goals as goal

pub returns-in-Takes-clause-shares : goal.returns-in-Takes-clause-shares
returns-in-Takes-clause-shares c = record {
  was_active = search rules;
  resumes = refl;
  samples = λ is_deferred is_on uneventful shared_receiver all.
      let old = materialized_member shared_receiver c.args.bit c.args.self.now in
      let take = rw c.in-Takes.is at all in
      record {
        off = λ early. absurd (omega (arith, early, is_on));
        on_is = refl;
        samples = λ late. record {
          began_is = sym uneventful.no_start;
          names = inr refl;
          stands = subst (IsSample old.station.node c.args.level _) (sym c.take_up.ensures)
              (take c.args.self.now.station.node c.args.bit);
          history = stands_history c.take_up.new.self;
          sending_is = refl;
          completed_is = omega arith;
          bit_is = rw c.take_up.ensures refl;
        };
        reaps_none = λ late. refl;
      };
}
