-- What the field of a `Banks` stands for.
use Rattle.std.specs.Prelude.{◌≡◌, List, length}
use Rattle.bx_rx.specs.Bank.{BankValue}
use Rattle.bx_rx.specs.Banks.{bank_count}
use Rattle.bx_rx.specs.declared.banks.Banks.TheInside.{Inside}

abbrev pub banks_view : Inside → List BankValue
banks_view a = a.banks

abbrev pub banks_parts : List BankValue → Inside
banks_parts bs = record { banks = bs }

abbrev pub IsBanks : Inside → Type 0
IsBanks a = length a.banks ≡ bank_count
