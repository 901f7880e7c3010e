use Rattle.std.proofs.Common.{arith, sym, ◌∙◌}
use Rattle.std.proofs.lemmas.Option.{slice_get-get_or}
use Rattle.can_station.proofs.Places.{places_step, places_end}
use Rattle.gw_run.specs.Sites.{SiteMakes}
use Rattle.gw_run.proofs.Passes.{made_bits, moves_of}
use Rattle.gw_run.proofs.Worlds.{world_bits}
use Rattle.gw_run.proofs.Keeps.{sites_bit}
use Rattle.gw_run.proofs.world.make_bits.Goals as goal

pub loop-place-preserved : goal.loop-place-preserved
loop-place-preserved g c =
    places_step (λ i. SiteMakes c.args.until c.args.bits) c.args.sites.now c.loop-place.sites c.loop-place.place _
    c.bits_of.new.site
    (omega (arith, c.loop-place-test.true, c.loop-place.invariant.size))
    (slice_get-get_or c.loop-place.sites c.loop-place.place c.index-sites-place.result
    (omega (arith, c.loop-place-test.true)))
    c.in_ok-bits_of.ensures c.loop-place.invariant

pub returns-clause-moves : goal.returns-clause-moves
returns-clause-moves g c = moves_of c.args.until c.args.bits c.args.sites.now c.loop-place.sites
    (places_end (λ i. SiteMakes c.args.until c.args.bits) c.args.sites.now c.loop-place.sites c.loop-place.place
    (omega (arith, c.loop-place-test.false, c.loop-place.invariant.size)) c.loop-place.invariant)

pub returns-clause-world : goal.returns-clause-world
returns-clause-world g c lanes w =
    world_bits c.args.sites.now c.loop-place.sites lanes
    (moves_of c.args.until c.args.bits c.args.sites.now c.loop-place.sites
    (places_end (λ i. SiteMakes c.args.until c.args.bits) c.args.sites.now c.loop-place.sites c.loop-place.place
    (omega (arith, c.loop-place-test.false, c.loop-place.invariant.size)) c.loop-place.invariant)) w

pub returns-clause-keeps : goal.returns-clause-keeps
returns-clause-keeps g c lanes =
    sites_bit lanes c.args.sites.now c.loop-place.sites
    (moves_of c.args.until c.args.bits c.args.sites.now c.loop-place.sites
    (places_end (λ i. SiteMakes c.args.until c.args.bits) c.args.sites.now c.loop-place.sites c.loop-place.place
    (omega (arith, c.loop-place-test.false, c.loop-place.invariant.size)) c.loop-place.invariant))

pub returns-clause-made : goal.returns-clause-made
returns-clause-made g c =
    made_bits c.args.bits c.args.until c.args.sites.now c.loop-place.sites
    (places_end (λ i. SiteMakes c.args.until c.args.bits) c.args.sites.now c.loop-place.sites c.loop-place.place
    (omega (arith, c.loop-place-test.false, c.loop-place.invariant.size)) c.loop-place.invariant)
    c.requires.before.of_bits

pub bits_of-requires-clause-ahead : goal.bits_of-requires-clause-ahead
bits_of-requires-clause-ahead g c =
    let place = c.loop-place.place in
    let found =
    slice_get-get_or c.loop-place.sites place c.index-sites-place.result (omega (arith, c.loop-place-test.true)) in
    c.requires.before.ahead place _ (sym (c.loop-place.invariant.above place (omega arith)) ∙ found)
