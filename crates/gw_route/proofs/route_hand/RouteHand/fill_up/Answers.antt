use Rattle.std.proofs.Common.{rules, arith, ◌≡◌, ◌<◌, true, false, length, sym, subst, ◌∙◌}
use Rattle.gw_route.specs.RouteHand.{hand_value, room_in}
use Rattle.gw_route.specs.Turn.{FillKeeps, Filled, TakesOne}
use Rattle.gw_route.specs.Turn.Filled.{emptied, full, one}
use Rattle.gw_route.proofs.Fills.{keeps-taken, keeps-then, past-kept}
use Rattle.gw_route.proofs.Matches.{tickets-requested}
use Rattle.gw_route.proofs.route_hand.RouteHand.fill_up.Goals as goal

pub take_one-requires : goal.take_one-requires
take_one-requires g c =
    let past = c.loop-self.invariant.past in
    record {
      tickets = omega (
        arith,
        tickets-requested (hand_value c.loop-self.self) past.0 past.1,
        past.1.limit,
        past.1.few_held,
        past.1.room.1,
      );
    }

pub returns-then-not-branch-clause-filled : goal.returns-then-not-branch-clause-filled
returns-then-not-branch-clause-filled g c =
    let i = c.loop-self.invariant in
    let h = hand_value c.loop-self.self in
    let is : c.in_ok-take_one.field-0 ≡ false = search rules in
    let none : TakesOne false h (hand_value c.take_one.new.self) =
    subst (λ taken. TakesOne taken h (hand_value c.take_one.new.self)) is c.in_ok-take_one.ensures.taken in
    i.on (hand_value c.take_one.new.self)
    (subst (Filled h) (sym none.0) (emptied c.args.size i.size (omega (arith, c.loop-self-test.true, c.held.ensures)) none.1))

pub loop-self-preserved : goal.loop-self-preserved
loop-self-preserved g c =
    let i = c.loop-self.invariant in
    let h = hand_value c.loop-self.self in
    let new = hand_value c.take_one.new.self in
    let size = c.args.size in
    let is : c.in_ok-take_one.field-0 ≡ true = search rules in
    let some : TakesOne true h new = subst (λ taken. TakesOne taken h new) is c.in_ok-take_one.ensures.taken in
    let less : length h.in_hand < size = omega (arith, c.loop-self-test.true, c.held.ensures) in
    let room : length h.in_hand < room_in h.queue = rw i.size less in
    let keeps : FillKeeps h new = subst (FillKeeps h) (sym some.1) (keeps-taken h some.0 room) in
    let tied = c.take_one.ensures.tied in
    record {
      past = past-kept h new keeps i.past;
      keeps = keeps-then (hand_value c.args.self.now) h new i.keeps keeps;
      on = λ filled then. i.on filled (one size some.0 i.size less (subst (λ v. Filled v filled) some.1 then));
      tied = (tied.0 ∙ i.tied.0, tied.1 ∙ i.tied.1, tied.2 ∙ i.tied.2);
      size = tied.1 ∙ i.size;
    }

pub returns-clause-filled : goal.returns-clause-filled
returns-clause-filled g c =
    let i = c.loop-self.invariant in
    let h = hand_value c.loop-self.self in
    i.on h (full c.args.size i.size (omega (arith, c.loop-self-test.false, c.held.ensures)))
