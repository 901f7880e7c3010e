use Rattle.std.proofs.Common.{sym, subst, ◌∙◌}
use Rattle.gw_run.specs.Worlds.{HaveMade, HaveTurned}
use Rattle.gw_run.proofs.Counted.{none_turned, none_short}
use Rattle.gw_run.proofs.Starts.{world_starts, none_made}
use Rattle.gw_run.proofs.Finals.{has_run}
use Rattle.gw_run.proofs.inline.make_bits_and_turns.Goals as goal

pub make_all-requires-clause-world : goal.make_all-requires-clause-world
make_all-requires-clause-world g c =
    world_starts c.args.script.now c.args.sites.now c.args.lanes.now c.requires.sound c.requires.opens

pub make_all-requires-clause-made : goal.make_all-requires-clause-made
make_all-requires-clause-made g c =
    subst (λ bits. HaveMade bits 0 c.args.sites.now) (sym (c.from.ensures ∙ c.bits.ensures))
    (none_made c.args.script.now c.args.sites.now c.args.lanes.now c.requires.opens)

pub returns-clause-run : goal.returns-clause-run
returns-clause-run g c =
    let ends = c.in_ok-make_all.ensures in
    let made = subst (λ bits. HaveMade bits bits c.make_all.new.sites) (c.from.ensures ∙ c.bits.ensures) ends.made in
    has_run c.args.script.now c.args.sites.now c.make_all.new.sites c.args.lanes.now c.make_all.new.lanes
    c.requires.opens ends.keeps ends.lanes ends.world made

pub make_all-requires-clause-turned : goal.make_all-requires-clause-turned
make_all-requires-clause-turned g c = none_turned c.args.script.now c.args.sites.now c.args.lanes.now _ c.requires.opens

pub returns-clause-turned : goal.returns-clause-turned
returns-clause-turned g c = subst (λ bits. HaveTurned c.args.schedules.now bits c.make_all.new.lanes)
    (c.from.ensures ∙ c.bits.ensures) c.in_ok-make_all.ensures.turned

pub returns-clause-short : goal.returns-clause-short
returns-clause-short g c =
    c.in_ok-make_all.ensures.short (none_short c.args.script.now c.args.sites.now c.args.lanes.now c.requires.opens)
