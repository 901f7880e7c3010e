use Rattle.can_frame.proofs.OneCheck.{one_crc}
use Rattle.can_frame.proofs.OneStuffing.{one_stuffed, one_unstuffed}
use Rattle.can_frame.proofs.Spellings.{one_spelling, one_frame}
use Rattle.can_frame.proofs.laws.spellings_are_unique.Goals as goal

pub returns : goal.returns
returns c =
    record { check = one_crc; stuffed = one_stuffed; text = one_unstuffed; spelling = one_spelling; frame = one_frame }
