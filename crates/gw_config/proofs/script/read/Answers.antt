-- A fault of the text comes before those of the fields.
use Rattle.gw_config.specs.Scripts.{script_of}
use Rattle.gw_fields.proofs.FaultLaws.{text_fault_is_first, field_fault_is_first}
use Rattle.gw_config.proofs.script.read.Goals as goal

pub returns-in_err-value-clause-err : goal.returns-in_err-value-clause-err
returns-in_err-value-clause-err c = text_fault_is_first script_of c.args.bytes.now c.from_residual.result
    c.in_err-value.field-0.0 c.from_residual.ensures.1 c.in_err-value.ensures.err

pub returns-clause-err : goal.returns-clause-err
returns-clause-err c = field_fault_is_first (λ s. s) script_of _ _ c.in_ok-value.ensures.ok _ c.script_of.ensures.value
