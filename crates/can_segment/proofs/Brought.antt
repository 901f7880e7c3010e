-- What a port is brought at a bit is what the lines of that bit tell of its node.
use Rattle.std.proofs.Common.{◌≡◌, ℕ, ◌<◌, ◌≤◌, Bool, true, false, cond, Option, Some, None, IfSome, List, [], ◌∷◌}
use Rattle.std.proofs.Common.{◌++◌, length, nat_le, inl, inr, refl, sym, ap, subst, arith, ◌∙◌, append_assoc}
use Rattle.std.proofs.lemmas.List.{append-nil}
use Rattle.std.specs.Prelude.{option_to_list}
use Rattle.can_frame.specs.Frames.{FrameValue}
use Rattle.can_node.specs.declared.outcome.Outcome.{Outcome}
use Rattle.can_node.specs.declared.outcome.Outcome.TheVariants.{Nothing, Took, Completed, Lost, Errored, WentOff}
use Rattle.can_node.specs.declared.outcome.Outcome.TheVariants.{CameBack}
use Rattle.bx_core.specs.Lists.{Each}
use Rattle.bx_core.specs.TxBus.{Item, BusPast, BusCall, IsUndone}
use Rattle.can_station.specs.declared.event.Label.{Label}
use Rattle.can_station.specs.declared.event.EventKind.{EventKind}
use Rattle.can_station.specs.declared.event.EventKind.TheVariants as kinds
use Rattle.can_station.specs.declared.action.Action.{Action}
use Rattle.can_station.specs.declared.member.Member.{Member}
use Rattle.can_station.specs.declared.transmission.Transmission.{Transmission}
use Rattle.can_station.specs.Lines.{start_kinds, outcome_kinds, reaped_kinds}
use Rattle.can_station.specs.Tellings.{start_of, rest_by}
use Rattle.can_station.specs.Outcomes.{is_failure}
use Rattle.can_station.specs.Ports.{item_of, item_with, Undone, started, completed, failed, settled, taken_by, Reaps}
use Rattle.can_segment.specs.Brought.{StartsUndone, start_in, sent_in, reaped_in, taken_in, all_in, grown, IsBrought}
use Rattle.can_station.specs.Actions.{no_action, begun_by}
use Rattle.can_station.specs.Members.{is_on, settled_at, taken_at}
use Rattle.can_segment.specs.Moves.{PortMoves}
use Rattle.std.proofs.lemmas.Bool.Decides.{leb_tells}

pub all-append : {X : Type 0} (names : EventKind → List X) (xs ys : List EventKind) → all_in names (xs ++ ys) ≡ all_in names xs
    ++ all_in names ys
all-append names [] ys = refl
all-append names (x ∷ xs) ys =
    ap (λ ts. names x ++ ts) (all-append names xs ys) ∙ sym (append_assoc (names x) (all_in names xs) (all_in names ys))

same_past : (a b : BusPast) → a.started ≡ b.started → a.done ≡ b.done → a.reaped ≡ b.reaped → a ≡ b
same_past a b s d r =
    ap (λ xs. record { started = xs; done = a.done; reaped = a.reaped }) s
    ∙ ap (λ xs. record { started = b.started; done = xs; reaped = a.reaped }) d
    ∙ ap (λ xs. record { started = b.started; done = b.done; reaped = xs }) r

-- a past with these lists behind its own
abbrev with_lists : BusPast → List Item → List Item → List (ℕ × ℕ) → BusPast
with_lists past started_too sent_too reaped_too =
    record { started = past.started ++ started_too; done = past.done ++ sent_too; reaped = past.reaped ++ reaped_too }

same_lists : (past : BusPast) (s t : List Item) (d e : List Item) (q r : List (ℕ × ℕ)) → s ≡ t → d ≡ e → q ≡ r →
    with_lists past s d q ≡ with_lists past t e r
same_lists past s t d e q r es ed er =
    ap (λ xs. with_lists past xs d q) es ∙ ap (λ xs. with_lists past t xs q) ed ∙ ap (λ xs. with_lists past t e xs) er

plain_lists : (past : BusPast) → with_lists past [] [] [] ≡ past
plain_lists past =
    same_past (with_lists past [] [] []) past (append-nil past.started) (append-nil past.done) (append-nil past.reaped)

pub grown-nil : (past : BusPast) → grown past [] ≡ past
grown-nil past = plain_lists past

pub grown-append : (past : BusPast) (xs ys : List EventKind) → grown past (xs ++ ys) ≡ grown (grown past xs) ys
grown-append past xs ys = same_past (grown past (xs ++ ys)) (grown (grown past xs) ys) (more start_in past.started)
    (more sent_in past.done) (more reaped_in past.reaped)
  where
    more : {X : Type 0} (names : EventKind → List X) (before : List X) → before
        ++ all_in names (xs ++ ys) ≡ (before ++ all_in names xs) ++ all_in names ys
    more names before =
        ap (λ zs. before ++ zs) (all-append names xs ys) ∙ sym (append_assoc before (all_in names xs) (all_in names ys))

-- one line
grown-one : (past : BusPast) (one : EventKind) → grown past (one ∷ []) ≡ with_lists past (start_in one) (sent_in one)
    (reaped_in one)
grown-one past one = same_lists past (all_in start_in (one ∷ [])) (start_in one) (all_in sent_in (one ∷ []))
    (sent_in one) (all_in reaped_in (one ∷ [])) (reaped_in one) (append-nil (start_in one)) (append-nil (sent_in one))
    (append-nil (reaped_in one))

-- lines that name nothing
grown-idle : (past : BusPast) (one : EventKind) → start_in one ≡ [] → sent_in one ≡ [] → reaped_in one ≡ [] →
    grown past (one ∷ []) ≡ past
grown-idle past one s d r =
    grown-one past one ∙ same_lists past (start_in one) [] (sent_in one) [] (reaped_in one) [] s d r ∙ plain_lists past

start_label : (past : BusPast) (frame : FrameValue) (label : Option Label) →
    with_lists past (option_to_list (item_with frame label)) [] [] ≡ started past (item_with frame label)
start_label past frame None = plain_lists past
start_label past frame (Some label) = same_past (with_lists past ((label.route, label.number, frame) ∷ []) [] [])
    (started past (Some (label.route, label.number, frame))) refl (append-nil past.done) (append-nil past.reaped)

grown_start : (past : BusPast) (begun : Option Transmission) →
    grown past (start_kinds begun) ≡ started past (item_of begun)
grown_start past None = grown-nil past
grown_start past (Some sent) =
    grown-one past (kinds.Started sent.frame sent.label) ∙ start_label past sent.frame sent.label

sent_label : (past : BusPast) (frame : FrameValue) (label : Option Label) →
    with_lists past [] (option_to_list (item_with frame label)) [] ≡ completed past (item_with frame label)
sent_label past frame None = plain_lists past
sent_label past frame (Some label) = same_past (with_lists past [] ((label.route, label.number, frame) ∷ []) [])
    (completed past (Some (label.route, label.number, frame))) (append-nil past.started) refl (append-nil past.reaped)

grown_sent : (past : BusPast) (sending : Option Transmission) →
    grown past (outcome_kinds sending Completed) ≡ completed past (item_of sending)
grown_sent past None = grown-nil past
grown_sent past (Some sent) =
    grown-one past (kinds.Completed sent.start sent.frame sent.label) ∙ sent_label past sent.frame sent.label

-- a failure without a reaped request brings nothing new
idle_failure : (past : BusPast) (item : Option Item) → failed past item None ≡ past
idle_failure past None = refl
idle_failure past (Some item) = same_past (failed past (Some item) None) past refl refl (append-nil past.reaped)

lost_idle : (past : BusPast) (sending : Option Transmission) → grown past (outcome_kinds sending Lost) ≡ past
lost_idle past None = grown-nil past
lost_idle past (Some sent) = grown-idle past (kinds.Lost sent.start) refl refl refl

-- without a reaped request
settles_plain : (past : BusPast) (sending : Option Transmission) (outcome : Outcome) →
    grown past (outcome_kinds sending outcome) ≡ settled past (item_of sending) outcome None
settles_plain past sending Nothing = grown-nil past
settles_plain past sending (Took start frame) = grown-idle past (kinds.Took start frame) refl refl refl
settles_plain past sending Completed = grown_sent past sending
settles_plain past sending Lost = lost_idle past sending ∙ sym (idle_failure past (item_of sending))
settles_plain past sending (Errored kind) =
    grown-idle past (kinds.Error kind) refl refl refl ∙ sym (idle_failure past (item_of sending))
settles_plain past sending WentOff = grown-idle past kinds.Off refl refl refl ∙ sym (idle_failure past (item_of sending))
settles_plain past sending CameBack = grown-idle past kinds.Back refl refl refl

-- a failed request was reaped
reaps_one : (past : BusPast) (item : Item) (label : Label) → grown past (reaped_kinds (Some label))
    ≡ failed past (Some item) (Some label)
reaps_one past item label =
    grown-one past (kinds.Reaped label) ∙ same_past (with_lists past [] [] ((label.route, label.number) ∷ []))
    (failed past (Some item) (Some label)) (append-nil past.started) (append-nil past.done) refl

failure_alike : (outcome : Outcome) → is_failure outcome ≡ true →
    (past : BusPast) (item : Option Item) (reaped : Option Label) →
    settled past item outcome reaped ≡ failed past item reaped
failure_alike Nothing f past item reaped = absurd (cc f)
failure_alike (Took start frame) f past item reaped = absurd (cc f)
failure_alike Completed f past item reaped = absurd (cc f)
failure_alike Lost f past item reaped = refl
failure_alike (Errored kind) f past item reaped = refl
failure_alike WentOff f past item reaped = refl
failure_alike CameBack f past item reaped = absurd (cc f)

settles_reaped : (past : BusPast) (sending : Option Transmission) (outcome : Outcome) (label : Label) →
    Reaps sending outcome label →
    grown past (outcome_kinds sending outcome ++ reaped_kinds (Some label))
    ≡ settled past (item_of sending) outcome (Some label)
settles_reaped past sending outcome label r =
    let item : item_of sending ≡ Some (label.route, label.number, r.sent.frame) =
    ap item_of r.sends ∙ ap (item_with r.sent.frame) r.label_is in
    grown-append past (outcome_kinds sending outcome) (reaped_kinds (Some label))
    ∙ ap (λ p. grown p (reaped_kinds (Some label))) (settles_plain past sending outcome
    ∙ failure_alike outcome r.fails past (item_of sending) None ∙ idle_failure past (item_of sending))
    ∙ reaps_one past (label.route, label.number, r.sent.frame) label ∙ ap (λ i. failed past i (Some label)) (sym item)
    ∙ sym (failure_alike outcome r.fails past (item_of sending) (Some label))

grown_settled : (past : BusPast) (sending : Option Transmission) (outcome : Outcome) (reaped : Option Label) →
    IfSome reaped (λ label. Reaps sending outcome label) →
    grown past (outcome_kinds sending outcome ++ reaped_kinds reaped) ≡ settled past (item_of sending) outcome reaped
grown_settled past sending outcome None h =
    ap (grown past) (append-nil (outcome_kinds sending outcome)) ∙ settles_plain past sending outcome
grown_settled past sending outcome (Some label) h = settles_reaped past sending outcome label h

-- what a action brings to the bus side is what is reported of it
pub brings : (past : BusPast) (begun : Option Transmission) (action : Action) →
    IfSome action.reaped (λ label. Reaps action.sent action.outcome label) →
    grown past (start_kinds begun ++ rest_by action) ≡ settled (started past (item_of begun))
    (item_of action.sent) action.outcome action.reaped
brings past begun action h =
    grown-append past (start_kinds begun) (rest_by action) ∙ ap (λ p. grown p (rest_by action)) (grown_start past begun)
    ∙ grown_settled (started past (item_of begun)) action.sent action.outcome action.reaped h

taken_start : (begun : Option Transmission) → all_in taken_in (start_kinds begun) ≡ []
taken_start None = refl
taken_start (Some sent) = refl

taken_reaped : (reaped : Option Label) → all_in taken_in (reaped_kinds reaped) ≡ []
taken_reaped None = refl
taken_reaped (Some label) = refl

taken_outcome : (sending : Option Transmission) (outcome : Outcome) →
    all_in taken_in (outcome_kinds sending outcome) ≡ taken_by outcome
taken_outcome sending Nothing = refl
taken_outcome sending (Took start frame) = refl
taken_outcome None Completed = refl
taken_outcome (Some sent) Completed = refl
taken_outcome None Lost = refl
taken_outcome (Some sent) Lost = refl
taken_outcome sending (Errored kind) = refl
taken_outcome sending WentOff = refl
taken_outcome sending CameBack = refl

-- and so it is with the sink
pub takes : (begun : Option Transmission) (action : Action) → all_in taken_in (start_kinds begun ++ rest_by action)
    ≡ taken_by action.outcome
takes begun action =
    all-append taken_in (start_kinds begun) (rest_by action)
    ∙ ap (λ xs. xs ++ all_in taken_in (rest_by action)) (taken_start begun)
    ∙ all-append taken_in (outcome_kinds action.sent action.outcome) (reaped_kinds action.reaped)
    ∙ ap (λ xs. all_in taken_in (outcome_kinds action.sent action.outcome) ++ xs) (taken_reaped action.reaped) ∙
    append-nil _
    ∙ taken_outcome action.sent action.outcome

one_taken : (outcome : Outcome) → length (taken_by outcome) ≤ 1
one_taken Nothing = omega arith
one_taken (Took start frame) = omega arith
one_taken Completed = omega arith
one_taken Lost = omega arith
one_taken (Errored kind) = omega arith
one_taken WentOff = omega arith
one_taken CameBack = omega arith

start_started : (begun : Option Transmission) → all_in start_in (start_kinds begun) ≡ option_to_list (item_of begun)
start_started None = refl
start_started (Some sent) = append-nil (option_to_list (item_with sent.frame sent.label))

start_outcome : (sending : Option Transmission) (outcome : Outcome) →
    all_in start_in (outcome_kinds sending outcome) ≡ []
start_outcome sending Nothing = refl
start_outcome sending (Took start frame) = refl
start_outcome None Completed = refl
start_outcome (Some sent) Completed = refl
start_outcome None Lost = refl
start_outcome (Some sent) Lost = refl
start_outcome sending (Errored kind) = refl
start_outcome sending WentOff = refl
start_outcome sending CameBack = refl

start_reaped : (reaped : Option Label) → all_in start_in (reaped_kinds reaped) ≡ []
start_reaped None = refl
start_reaped (Some label) = refl

-- the line of a start names what began
starts_reported : (begun : Option Transmission) (action : Action) → all_in start_in (start_kinds begun ++ rest_by action)
    ≡ option_to_list (item_of begun)
starts_reported begun action =
    all-append start_in (start_kinds begun) (rest_by action)
    ∙ ap (λ xs. all_in start_in (start_kinds begun) ++ xs)
    (all-append start_in (outcome_kinds action.sent action.outcome) (reaped_kinds action.reaped)
    ∙ ap (λ xs. xs ++ all_in start_in (reaped_kinds action.reaped)) (start_outcome action.sent action.outcome)
    ∙ start_reaped action.reaped)
    ∙ append-nil _ ∙ start_started begun

-- the only lines that name a start are those of what begins
pub starts_undone-append : (past : BusPast) (xs ys : List EventKind) → StartsUndone past xs →
    StartsUndone (grown past xs) ys → StartsUndone past (xs ++ ys)
starts_undone-append past [] ys h k = subst (λ p. StartsUndone p ys) (grown-nil past) k
starts_undone-append past (x ∷ xs) ys h k = (
  h.0,
  starts_undone-append (grown past (x ∷ [])) xs ys h.1
      (subst (λ p. StartsUndone p ys) (grown-append past (x ∷ []) xs) k),
)

none_started : (past : BusPast) (sending : Option Transmission) (outcome : Outcome) →
    StartsUndone past (outcome_kinds sending outcome)
none_started past sending Nothing = tt
none_started past sending (Took start frame) = (tt, tt)
none_started past None Completed = tt
none_started past (Some sent) Completed = (tt, tt)
none_started past None Lost = tt
none_started past (Some sent) Lost = (tt, tt)
none_started past sending (Errored kind) = (tt, tt)
none_started past sending WentOff = (tt, tt)
none_started past sending CameBack = (tt, tt)

none_reaped : (past : BusPast) (reaped : Option Label) → StartsUndone past (reaped_kinds reaped)
none_reaped past None = tt
none_reaped past (Some label) = (tt, tt)

each_undone : (past : BusPast) (item : Option Item) → Undone past item → Each (IsUndone past) (option_to_list item)
each_undone past None h = tt
each_undone past (Some x) h = (h, tt)

one_started : (past : BusPast) (begun : Option Transmission) → Undone past (item_of begun) →
    StartsUndone past (start_kinds begun)
one_started past None h = tt
one_started past (Some sent) h = (each_undone past (item_with sent.frame sent.label) h, tt)

undone_reported : (past : BusPast) (begun : Option Transmission) (action : Action) → Undone past (item_of begun) →
    StartsUndone past (start_kinds begun ++ rest_by action)
undone_reported past begun action h =
    starts_undone-append past (start_kinds begun) (rest_by action) (one_started past begun h)
    (starts_undone-append (grown past (start_kinds begun)) (outcome_kinds action.sent action.outcome)
    (reaped_kinds action.reaped) (none_started (grown past (start_kinds begun)) action.sent action.outcome)
    (none_reaped (grown (grown past (start_kinds begun)) (outcome_kinds action.sent action.outcome)) action.reaped))

-- a node that is not on yet
early : (on bit : ℕ) → nat_le on bit ≡ false → bit < on
early on bit e = elim (leb_tells on bit) [ inl is ↦ absurd (cc (e, is.0)) | inr isnt ↦ isnt.1 ]

pub port_brought : {P : Type 0} (after : P → BusPast → Type 0) (asked : P → List BusCall → Type 0)
    (transmitting : P → Option Item) (sink : P → List FrameValue → Type 0) (stays : P → P → Type 0)
    (bit : ℕ) (wants : Bool) (tells : List EventKind) (m : Member) (p q : P) → tells ≡ start_of m.action ++ rest_by m.action
    →
    (bit < m.on → m.action ≡ no_action) →
    PortMoves after asked transmitting sink stays bit wants m p q →
    IsBrought after asked transmitting sink stays tells wants (item_of m.station.sending) p q
port_brought after asked transmitting sink stays bit wants tells m p q reported uneventful moves = record {
  bus = λ past h. subst (λ ts. after q (grown past ts)) (sym reported) (bus_by past (is_on bit m) refl (moves.bus past h));
  undone = λ past h. subst (StartsUndone past) (sym reported) (undone_by past (is_on bit m) refl (moves.undone past h));
  begins = item_of (cond (is_on bit m) (begun_by m.action) None);
  begins_is = ap (all_in start_in) reported ∙ begins_by (is_on bit m) refl;
  asks = moves.asks;
  transmits = moves.transmits;
  offers = λ past h. subst (λ ts. sink q (past ++ all_in taken_in ts)) (sym reported)
      (sink_by past (is_on bit m) refl (moves.offers past h));
  one_at_most = subst (λ ts. length (all_in taken_in ts) ≤ 1) (sym reported)
      (subst (λ fs. length fs ≤ 1) (sym (takes (begun_by m.action) m.action)) (one_taken m.action.outcome));
  stays_on = moves.stays_on;
}
  where
    begins_by : (on : Bool) → is_on bit m ≡ on → all_in start_in (start_of m.action ++ rest_by m.action)
        ≡ option_to_list (item_of (cond on (begun_by m.action) None))
    begins_by true e = starts_reported (begun_by m.action) m.action
    begins_by false e = ap (λ d. all_in start_in (start_of d ++ rest_by d)) (uneventful (early m.on bit e))

    bus_by : (past : BusPast) (on : Bool) → is_on bit m ≡ on →
        after q (settled_at on (started past (item_of (cond on (begun_by m.action) None))) m.action) →
        after q (grown past (start_of m.action ++ rest_by m.action))
    bus_by past true e h = subst (after q) (sym (brings past (begun_by m.action) m.action (moves.reaps e))) h
    bus_by past false e h =
        let idle : m.action ≡ no_action = uneventful (early m.on bit e) in
        subst (λ d. after q (grown past (start_of d ++ rest_by d))) (sym idle)
        (subst (after q) (sym (grown-nil past)) h)

    sink_by : (past : List FrameValue) (on : Bool) → is_on bit m ≡ on → sink q (past ++ taken_at on m.action) →
        sink q (past ++ all_in taken_in (start_of m.action ++ rest_by m.action))
    sink_by past true e h = subst (λ fs. sink q (past ++ fs)) (sym (takes (begun_by m.action) m.action)) h
    sink_by past false e h =
        let idle : m.action ≡ no_action = uneventful (early m.on bit e) in
        subst (λ d. sink q (past ++ all_in taken_in (start_of d ++ rest_by d))) (sym idle) h

    undone_by : (past : BusPast) (on : Bool) → is_on bit m ≡ on →
        Undone past (item_of (cond on (begun_by m.action) None)) → StartsUndone past (start_of m.action ++ rest_by
        m.action)
    undone_by past true e h = undone_reported past (begun_by m.action) m.action h
    undone_by past false e h =
        let idle : m.action ≡ no_action = uneventful (early m.on bit e) in
        subst (λ d. StartsUndone past (start_of d ++ rest_by d)) (sym idle) tt
