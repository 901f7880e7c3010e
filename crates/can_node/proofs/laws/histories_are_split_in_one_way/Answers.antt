use Rattle.can_node.proofs.OneSplit.{one_split, one_wanting, one_sending}
use Rattle.can_node.proofs.OneSplitPlaces.{one_episode}
use Rattle.can_node.proofs.laws.histories_are_split_in_one_way.Goals as goal

pub returns : goal.returns
returns c =
    record { split = one_split; episode = one_episode; wanting = one_wanting; sending = one_sending }
