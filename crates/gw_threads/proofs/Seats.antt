-- A seat that ticks a clock as far as it may go.
use Rattle.std.proofs.Common.{◌≡◌, ℕ, ◌+◌, ◌-◌, ◌<◌, ◌≤◌, refl, sym, ap, subst, ◌∙◌, arith, slice_index}
use Rattle.gw_threads.specs.declared.views.Pace.{Pace}
use Rattle.gw_threads.specs.declared.views.Pacer.{Pacer}
use Rattle.gw_threads.specs.Clocks.{ClockPlace, one_of, rest_of, lender_of, ticked, MayTick, IsCalm, TicksAt, Deals, MayGo}
use Rattle.gw_threads.specs.Clocks.{HasLent, HasPaced, SameClocks}

-- it may tick up to where it may go
pub may_tick : (p : Pace) (made now limit : ℕ) (c : ClockPlace) → TicksAt p made c → MayGo limit c → made ≤ now →
    now ≤ limit → MayTick c.pace (now - made) c.view
may_tick p made now limit c t may on within = record {
  one = t.one;
  short = omega (arith, t.made_is, may.most, on, within);
  near = λ j l n. let near = may.near j l n in omega (arith, t.made_is, near, on, within);
}

-- no clock may go nowhere
pub may_stay : (c : ClockPlace) → MayGo 0 c
may_stay c = record { near = λ j l n. omega arith; most = omega arith }

-- then it has come so far
pub ticked_on : (p : Pace) (made now : ℕ) (c d : ClockPlace) → d.pace ≡ c.pace → d.view ≡ ticked (now - made) c.view →
    made ≤ now → TicksAt p made c → TicksAt p now d
ticked_on p made now c d same e on t = record {
  one = ap (λ (v : Pacer). v.end) e ∙ t.one ∙ sym (ap (λ (v : Pacer). v.first + 1) e);
  made_is = (let is = ap (λ (v : Pacer). v.made) e in omega (arith, is, t.made_is, on));
  pace_is = same ∙ t.pace_is;
  calm = record {
    stopped_not = ap (λ (v : Pacer). v.stopped) e ∙ t.calm.stopped_not;
    warned_not = ap (λ (v : Pacer). v.warned) e ∙ t.calm.warned_not;
  };
}

-- it may still go as far
pub may_go_on : (limit bits : ℕ) (c d : ClockPlace) → d.pace ≡ c.pace → d.view ≡ ticked bits c.view → MayGo limit c →
    MayGo limit d
may_go_on limit bits c d same e may = record {
  near = λ j l n. (
      let first = ap (λ (v : Pacer). v.first) e in
      let seen = ap (λ (v : Pacer). slice_index v.seen j) e in
      let slack = ap (λ (p : Pace). p.slack) same in
      let near = may.near j (subst (λ (p : Pace). j < p.segments) same l) (λ is. n (is ∙ sym first)) in
      omega (arith, near, seen, slack));
  most = omega (arith, may.most, ap (λ (p : Pace). p.bits) same);
}

-- a seat stays calm
pub calm_on : (c d : ClockPlace) → SameClocks c d → IsCalm c.view → IsCalm d.view
calm_on c d same calm = record {
  stopped_not = same.stopped_is ∙ calm.stopped_not;
  warned_not = same.warned_is ∙ calm.warned_not;
}

-- a look changes nothing of this
pub looked_on : (p : Pace) (made : ℕ) (c d : ClockPlace) → SameClocks c d → TicksAt p made c → TicksAt p made d
looked_on p made c d same t = record {
  one = same.end_is ∙ t.one ∙ sym (ap (λ n. n + 1) same.first_is);
  made_is = same.made_is ∙ t.made_is;
  pace_is = same.pace_is ∙ t.pace_is;
  calm = calm_on c d same t.calm;
}

pub same-on : (a b c : ClockPlace) → SameClocks a b → SameClocks b c → SameClocks a c
same-on a b c p q = record {
  pace_is = q.pace_is ∙ p.pace_is;
  first_is = q.first_is ∙ p.first_is;
  end_is = q.end_is ∙ p.end_is;
  made_is = q.made_is ∙ p.made_is;
  lent_is = q.lent_is ∙ p.lent_is;
  stopped_is = q.stopped_is ∙ p.stopped_is;
  warned_is = q.warned_is ∙ p.warned_is;
}

pub same-self : (a b : ClockPlace) → b ≡ a → SameClocks a b
same-self a b e = subst (SameClocks a) (sym e) (record {
  pace_is = refl;
  first_is = refl;
  end_is = refl;
  made_is = refl;
  lent_is = refl;
  stopped_is = refl;
  warned_is = refl;
})

-- the seat that is dealt ticks one clock, at 0
pub dealt_one : (p : Pace) (dealt : ℕ) (c d : ClockPlace) → d.pace ≡ c.pace → d.view ≡ one_of c.view →
    Deals p dealt c → TicksAt p 0 d
dealt_one p dealt c d same e t = record {
  one = ap (λ (v : Pacer). v.end) e ∙ sym (ap (λ (v : Pacer). v.first + 1) e);
  made_is = ap (λ (v : Pacer). v.made) e ∙ t.made_is;
  pace_is = same ∙ t.pace_is;
  calm = record { stopped_not = ap (λ (v : Pacer). v.stopped) e; warned_not = ap (λ (v : Pacer). v.warned) e };
}

-- and the other one has the rest
pub dealt_rest : (p : Pace) (dealt : ℕ) (c d : ClockPlace) → d.pace ≡ c.pace → d.view ≡ rest_of c.view →
    Deals p dealt c → Deals p (dealt + 1) d
dealt_rest p dealt c d same e t = record {
  first_is = ap (λ (v : Pacer). v.first) e ∙ ap (λ n. n + 1) t.first_is;
  end_is = ap (λ (v : Pacer). v.end) e ∙ t.end_is;
  made_is = ap (λ (v : Pacer). v.made) e ∙ t.made_is;
  pace_is = same ∙ t.pace_is;
  lent_is = ap (λ (v : Pacer). v.lent) e ∙ t.lent_is;
  calm = record {
    stopped_not = ap (λ (v : Pacer). v.stopped) e ∙ t.calm.stopped_not;
    warned_not = ap (λ (v : Pacer). v.warned) e ∙ t.calm.warned_not;
  };
}

pub none_lent : (c : ClockPlace) → HasLent 0 c c
none_lent c = record { pace_is = refl; first_is = refl; lent_is = omega arith; stopped_is = refl; warned_is = refl }

-- one seat more was lent
pub one_lent : (count : ℕ) (a b c : ClockPlace) → c.pace ≡ b.pace → c.view ≡ lender_of b.view → HasLent count a b →
    HasLent (count + 1) a c
one_lent count a b c same e h = record {
  pace_is = same ∙ h.pace_is;
  first_is = ap (λ (v : Pacer). v.first) e ∙ h.first_is;
  lent_is = (let is = ap (λ (v : Pacer). v.lent) e in omega (arith, is, h.lent_is));
  stopped_is = ap (λ (v : Pacer). v.stopped) e ∙ h.stopped_is;
  warned_is = ap (λ (v : Pacer). v.warned) e ∙ h.warned_is;
}

-- all clocks were dealt, and a seat was lent to each worker
pub has_paced : (p : Pace) (workers : ℕ) (c d : ClockPlace) → Deals p p.segments c → HasLent workers c d →
    HasPaced p workers d
has_paced p workers c d t h = record {
  pace_is = h.pace_is ∙ t.pace_is;
  dealt = h.first_is ∙ t.first_is;
  lent_is = omega (arith, h.lent_is, t.lent_is);
  calm = record {
    stopped_not = h.stopped_is ∙ t.calm.stopped_not;
    warned_not = h.warned_is ∙ t.calm.warned_not;
  };
}
