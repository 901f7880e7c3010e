-- Bits of a frame that a listener reads along, one after another.
use Rattle.std.proofs.Common.{◌≡◌, Bool, true, List, [], ◌∷◌, ◌++◌, ap, refl, subst}
use Rattle.can_frame.specs.declared.reader.Reader.{Reader}
use Rattle.can_frame.specs.Reading.{ReadsOnBy}
use Rattle.can_node.specs.declared.shared_receiver.SharedReceiver.{SharedReceiver}
use Rattle.can_node.specs.SharedReceiver.{ReadsAlong, ReadsAlongBy}
use Rattle.can_node.specs.Machine.{is_in_region}
use Rattle.can_node.specs.PlainBits.{StaysOut, out_behind, out_behind_all, stays_out}
use Rattle.can_node.proofs.GoingBy.{is_out}
use Rattle.can_node.proofs.Listens.{along_region, plain_follows}

-- a reader that reads on with these levels reads them along
pub along_by : (shared_receiver : SharedReceiver) (levels : List Bool) (reader : Reader) → is_in_region
    shared_receiver.state ≡ true →
    ReadsOnBy shared_receiver.reader levels reader →
    ReadsAlongBy shared_receiver levels (record { state = shared_receiver.state; reader = reader })
along_by shared_receiver [] reader inside same = ap (λ r. record { state = shared_receiver.state; reader = r }) same
along_by shared_receiver (level ∷ levels) reader inside on =
    let between : SharedReceiver = record { state = shared_receiver.state; reader = on.0 } in
    (between, along_region shared_receiver on.0 level inside on.1, along_by between levels reader inside on.2)

-- one that waits on with these levels reads them along
along_out : (shared_receiver : SharedReceiver) (level : Bool) → stays_out level shared_receiver.state ≡ true →
    ReadsAlong shared_receiver level (record {
      state = out_behind shared_receiver.state level;
      reader =
          shared_receiver.reader;
    })
along_out shared_receiver level stays =
    let is = is_out shared_receiver.state level stays in
    record {
      drives = λ node bit. is.drives node.spelling;
      begins = λ node bit. is.begins;
      follows = λ known bit. plain_follows known shared_receiver (out_behind shared_receiver.state level) bit level
          is.sends
          (λ counters. is.leaves counters bit);
      listens = is.sends_then;
    }

pub along_waiting : (shared_receiver : SharedReceiver) (levels : List Bool) → StaysOut shared_receiver.state levels →
    ReadsAlongBy shared_receiver levels (record {
      state = out_behind_all shared_receiver.state levels;
      reader = shared_receiver.reader;
    })
along_waiting shared_receiver [] out = refl
along_waiting shared_receiver (level ∷ levels) out =
    let between : SharedReceiver = record {
      state = out_behind shared_receiver.state level;
      reader =
          shared_receiver.reader;
    } in
    (between, along_out shared_receiver level out.0, along_waiting between levels out.1)

-- one that has read along with some levels reads along with one more
pub along_more : (old mid new : SharedReceiver) (levels : List Bool) (level : Bool) → ReadsAlongBy old levels mid →
    ReadsAlong mid level new → ReadsAlongBy old (levels ++ level ∷ []) new
along_more old mid new [] level is h = (new, subst (λ l. ReadsAlong l level new) is h, refl)
along_more old mid new (first ∷ levels) level is h =
    (is.0, is.1, along_more is.0 mid new levels level is.2 h)
