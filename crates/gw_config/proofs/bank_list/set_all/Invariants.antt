use Rattle.std.proofs.Common.{◌≡◌, drop}
use Rattle.gw_config.specs.BankLists.{set_all}
use Rattle.gw_config.proofs.bank_list.set_all.Given as goal

abbrev pub invariant-loop-bank : goal.invariant-loop-bank
invariant-loop-bank l = set_all l.banks (drop l.bank-index l.listed) ≡ set_all l.fn.banks l.listed
