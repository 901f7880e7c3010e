use Rattle.std.proofs.Common.{◌≡◌, ◌<◌, ◌∷◌, [], ◌++◌, Option, Some, None, ℕ, List, length, arith, subst, length-append}
use Rattle.can_frame.specs.Frames.{FrameValue}
use Rattle.bx_rx.specs.Bank.{BankValue}
use Rattle.bx_rx.specs.Banks.{IsFound}
use Rattle.bx_rx.specs.declared.rx_frame.RxFrame.{RxFrame}
use Rattle.bx_controller.specs.Slots.{IsNumbered}
use Rattle.bx_controller.proofs.Ports.{passes_by, comes_in}
use Rattle.bx_controller.proofs.port.PortRxSink.offer.Goals as goal

-- the number of frames before this one fits too
fits : (past : List FrameValue) (frame : FrameValue) → length (past ++ frame ∷ []) < 18446744073709551616 →
    length past < 18446744073709551616
fits past frame few = omega (arith, few, length-append past (frame ∷ []))

abbrev received : FrameValue → ℕ → RxFrame
received frame number = record { frame = frame; filter_number = number }

-- the frame has the number that was found, and the FIFO is this one
numbered : (banks : List BankValue) (frame : FrameValue) (fifo found number : ℕ) → found ≡ fifo →
    IsFound banks frame (Some (found, number)) → IsNumbered banks fifo (received frame number)
numbered banks frame fifo found number same is = subst (λ n. IsFound banks frame (Some (n, number))) same is

pub returns-in-None-clause-past : goal.returns-in-None-clause-past
returns-in-None-clause-past g c past h few =
    let both = h (fits past c.args.frame few) in
    let banks = c.args.self.now.banks in
    record {
      first = passes_by banks 0 c.args.self.now.first past c.args.frame None c.in-None.ensures (λ e. cc e) both.first;
      second =
          passes_by banks 1 c.args.self.now.second past c.args.frame None c.in-None.ensures (λ e. cc e) both.second;
    }

pub returns-then-fifo-eq0-clause-past : goal.returns-then-fifo-eq0-clause-past
returns-then-fifo-eq0-clause-past g c past h few =
    let both = h (fits past c.args.frame few) in
    let banks = c.args.self.now.banks in
    let found : Option (ℕ × ℕ) = Some (c.in-Some.fifo, c.in-Some.filter_number) in
    let zeroth : c.in-Some.fifo ≡ 0 = c.if-fifo-eq0.true in
    record {
      first = comes_in banks 0 c.args.self.now.first c.offer_to.new.slot past
          (received c.args.frame c.in-Some.filter_number) (numbered banks c.args.frame 0 _ _ zeroth c.in-Some.ensures)
          few c.offer_to.ensures.stands both.first;
      second = passes_by banks 1 c.args.self.now.second past c.args.frame found c.in-Some.ensures
          (λ e. cc (e, zeroth)) both.second;
    }

pub returns-then-fifo-eq1-clause-past : goal.returns-then-fifo-eq1-clause-past
returns-then-fifo-eq1-clause-past g c past h few =
    let both = h (fits past c.args.frame few) in
    let banks = c.args.self.now.banks in
    let found : Option (ℕ × ℕ) = Some (c.in-Some.fifo, c.in-Some.filter_number) in
    let one : c.in-Some.fifo ≡ 1 = c.if-fifo-eq1.true in
    record {
      first = passes_by banks 0 c.args.self.now.first past c.args.frame found c.in-Some.ensures
          (λ e. cc (e, one)) both.first;
      second = comes_in banks 1 c.args.self.now.second c.offer_to-then-fifo-eq1.new.slot past
          (received c.args.frame c.in-Some.filter_number) (numbered banks c.args.frame 1 _ _ one c.in-Some.ensures) few
          c.offer_to-then-fifo-eq1.ensures.stands both.second;
    }

pub returns-else-fifo-eq1-clause-past : goal.returns-else-fifo-eq1-clause-past
returns-else-fifo-eq1-clause-past g c past h few =
    let both = h (fits past c.args.frame few) in
    let banks = c.args.self.now.banks in
    let found : Option (ℕ × ℕ) = Some (c.in-Some.fifo, c.in-Some.filter_number) in
    let not_zero = c.if-fifo-eq0.false in
    let not_one = c.if-fifo-eq1.false in
    record {
      first = passes_by banks 0 c.args.self.now.first past c.args.frame found c.in-Some.ensures
          (λ e. not_zero (cc e)) both.first;
      second = passes_by banks 1 c.args.self.now.second past c.args.frame found c.in-Some.ensures
          (λ e. not_one (cc e)) both.second;
    }
