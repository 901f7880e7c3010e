-- What the fields of a `Bank` stand for.
use Rattle.std.specs.Prelude.{◌≤◌}
use Rattle.bx_rx.specs.Bank.{BankValue}
use Rattle.bx_rx.specs.declared.bank.Bank.TheInside.{Inside}

abbrev pub bank_view : Inside → BankValue
bank_view a = record { scale = a.scale; mode = a.mode; fifo = a.fifo; active = a.active; r1 = a.r1; r2 = a.r2 }

abbrev pub bank_parts : BankValue → Inside
bank_parts b = record { scale = b.scale; mode = b.mode; fifo = b.fifo; active = b.active; r1 = b.r1; r2 = b.r2 }

-- there are two FIFOs
abbrev pub IsBank : Inside → Type 0
IsBank a = a.fifo ≤ 1
