use Rattle.can_frame.proofs.Runs.{spellings_are_taken}
use Rattle.can_frame.proofs.Spellings.{slot_stands_alone}
use Rattle.can_frame.proofs.laws.spellings_are_taken.Goals as goal

pub returns : goal.returns
returns c = record { taken = spellings_are_taken; slot = slot_stands_alone }
