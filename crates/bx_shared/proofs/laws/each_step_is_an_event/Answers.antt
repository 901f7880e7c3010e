-- Each kind of step, by its own lemma.
use Rattle.std.proofs.Common.{refl}
use Rattle.bx_shared.proofs.Moves.{misses}
use Rattle.bx_shared.proofs.Looking.{looks}
use Rattle.bx_shared.proofs.Claiming.{claims, stores_head, stores_bytes, withdraws}
use Rattle.bx_shared.proofs.Requesting.{requests}
use Rattle.bx_shared.proofs.Aborting.{aborts, asks}
use Rattle.bx_shared.proofs.Scheduling.{bus_looks, bus_misses, reads_head, reads_bytes, schedules}
use Rattle.bx_shared.proofs.Transmitting.{starts, completes, fails, reaps}
use Rattle.bx_shared.proofs.Places.{splits, joins}
use Rattle.bx_shared.proofs.laws.each_step_is_an_event.Goals as goal

pub returns : goal.returns
returns c = record {
  route = λ txfp t k seat p me. record {
    look = looks txfp t k seat p me;
    miss = misses txfp t k seat p me;
    claim = λ m new small there idle empty ls. claims txfp t k seat m new p me small there idle empty ls;
    fill_head = λ word fills head. stores_head txfp t k seat _ word p me refl fills head;
    fill_bytes = λ word fills one. stores_bytes txfp t k seat _ word p me refl fills one;
    request = λ new e fills both packed above ls. requests txfp t k seat new p e me fills both packed above ls;
    withdraw = λ new fills ls. withdraws txfp t k seat new p me fills ls;
    abort = λ m new small few idle mark owner ls. aborts txfp t k seat m new p me small few idle mark owner ls;
    ask = λ m new small few idle mark owner ls. asks txfp t k seat m new p me small few idle mark owner ls;
  };
  bus = λ txfp t k seat b rs me. record {
    look = bus_looks txfp t k seat b rs me;
    miss = λ new. bus_misses txfp t k seat new b rs me;
    read_head = λ m small. (reads_head txfp t k seat m b rs me small).0;
    read_bytes = λ m. (reads_bytes txfp t k seat m b rs me).0;
    schedule = λ m new small due goes ls. schedules txfp t k seat m new b rs me small due goes ls;
    start = λ m new small due mark ls. starts txfp t k seat m new b rs me small mark due ls;
    complete = λ new item sends due ls. completes txfp t k seat new b rs item me sends due ls;
    fail = λ new item sends ls. fails txfp t k seat new b rs item me sends ls;
    reap = λ new item due ls. reaps txfp t k seat new b rs item me due ls;
  };
  split = λ txfp t k seat buses p ps me. splits txfp t k seat buses p ps me;
  join = λ txfp t k seat other v w me apart it. joins txfp t k seat other v w me apart it;
}
