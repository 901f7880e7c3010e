-- What was scheduled stands first.
use Rattle.std.proofs.Common.{sym, ap, ◌∙◌}
use Rattle.std.specs.Prelude.{slice_get}
use Rattle.bx_core.specs.declared.status.Status.TheVariants.{Scheduled}
use Rattle.bx_mail.proofs.Begins.{starts_set}
use Rattle.bx_mail.proofs.boxes.schedule.Goals as goal

pub returns-then-is_pending-clause-ready : goal.returns-then-is_pending-clause-ready
returns-then-is_pending-clause-ready c = starts_set c.args.boxes.now.items c.set_at.new.boxes.items c.in-Some.waiting
    (record c.in-Some.waiting { status = Scheduled }) c.may_start.result
    (sym (c.first.ensures ∙ ap (λ q. slice_get q 0) c.as_slice.ensures.value) ∙ c.in-Some.is) c.set_at.ensures
    c.may_start.ensures
