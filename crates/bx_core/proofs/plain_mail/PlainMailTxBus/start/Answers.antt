use Rattle.bx_core.proofs.Readies.{starts_oldest}
use Rattle.bx_core.proofs.Undone.{starts_undone, starts_unaborted}
use Rattle.bx_core.proofs.BusSide.{starts-bus, starts-idle, starts-sends, starts-none, starts-keeps}
use Rattle.bx_core.proofs.plain_mail.PlainMailTxBus.start.Goals as goal

pub returns-clause-past : goal.returns-clause-past
returns-clause-past g c = λ past b. starts-bus _ _ _ past c.keep_law.ensures.law c.start_scheduled.ensures.core b

pub returns-clause-undone : goal.returns-clause-undone
returns-clause-undone g c = λ past b. starts_undone _ _ _ past c.keep_law.ensures.law c.start_scheduled.ensures.core b

pub returns-clause-unaborted : goal.returns-clause-unaborted
returns-clause-unaborted g c = λ past. starts_unaborted _ _ _ past c.keep_law.ensures.law c.start_scheduled.ensures.core

pub returns-clause-idle : goal.returns-clause-idle
returns-clause-idle g c = starts-idle _ _ _ c.keep_law.ensures.law c.start_scheduled.ensures.core

pub returns-clause-transmits : goal.returns-clause-transmits
returns-clause-transmits g c = starts-sends _ _ _ c.keep_law.ensures.law c.start_scheduled.ensures.core

pub returns-clause-none : goal.returns-clause-none
returns-clause-none g c =
    starts-none c.args.self.now.core c.start_scheduled.new.self.core _ c.start_scheduled.ensures.core

pub returns-clause-stays : goal.returns-clause-stays
returns-clause-stays g c =
    starts-keeps _ _ _ c.keep_law.ensures.law c.start_scheduled.ensures.core c.start_scheduled.ensures.short

pub returns-clause-oldest : goal.returns-clause-oldest
returns-clause-oldest g c = starts_oldest _ _ _ c.keep_law.ensures.law c.start_scheduled.ensures.core
