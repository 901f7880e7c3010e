use Rattle.std.proofs.Common.{rules, ◌≡◌, true, length, arith}
use Rattle.std.proofs.lemmas.List.{length-replicate}
use Rattle.can_segment.specs.Levels.{recessive_levels}
use Rattle.can_segment.proofs.IdleBursts.{all_are_deferred, are_recessive, idle_bits}
use Rattle.can_segment.proofs.idle_burst.idle_burst.Goals as goal

pub returns : goal.returns
returns c =
    let deferred = c.args.deferred.now in
    let talkers = c.args.talkers.now in
    let controllers = c.args.controllers.now in
    let within = c.requires in
    let count = c.min.result in
    let here : c.len.result ≡ length c.args.levels.now.items = search rules in (
      recessive_levels count,
      omega (arith, length-replicate count true, c.min.ensures),
      c.extend_recessive.ensures.items,
      idle_bits (length c.args.levels.now.items) (recessive_levels count) deferred talkers controllers
          (omega (arith, length-replicate count true, c.min.ensures, c.saturating_sub-until_start.ensures, here))
          (c.is_idle.ensures c.if-not-is_idle.false)
          (all_are_deferred deferred.talkers talkers within.talkers_within (c.is_empty.ensures.none
          c.if-not-is_empty.false))
          (all_are_deferred deferred.controllers controllers within.controllers_within
          (c.is_empty-else-not-is_empty.ensures.none c.if-not-is_empty-2.false)) (are_recessive count),
    )
