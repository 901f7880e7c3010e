-- The report's text, piece by piece.
use Rattle.std.proofs.Common.{Bool, ◌≡◌, ◌<◌, ◌≤◌, ℕ, suc, ◌+◌, length, List, [], ◌∷◌, ◌++◌, map, drop, get_or, codes}
use Rattle.std.proofs.Common.{Result, refl, sym, ap, subst, ◌∙◌, OnOk, append_assoc, drop-cons, add-one}
use Rattle.std.proofs.lemmas.List.{append-nil, drop_all, length-replicate}
use Rattle.std.proofs.lemmas.Result.{on_ok_weaker}
use Rattle.std.specs.Fmt.{decimal}
use Rattle.bx_core.specs.declared.entry.Entry.{Entry}
use Rattle.bx_core.specs.declared.event.Event.{Event}
use Rattle.bx_core.specs.States.{State, RouteLists, opening_by, no_lists}
use Rattle.bx_core.specs.Steps.{after}
use Rattle.bx_core.specs.Law.{left_by, run}
use Rattle.gw_script.specs.FrameTexts.{frame_text}
use Rattle.gw_script.specs.Lines.{line}
use Rattle.gw_print.specs.CoreReports.{AppendsWire, AppendsDone, AppendsDones, AppendsRoutes, IsReport, count_line}
use Rattle.gw_print.specs.CoreReports.{digit, refused_line, refused_lines}

-- the pieces of the line of a frame that was sent
pub done_pieces : {T E : Type 0} (r : Result T E) (route : ℕ) (e : Entry) (old a b c d new : List ℕ) →
    a ≡ old ++ (codes "done " ++ (decimal route ++ (codes " " ++ (decimal e.number ++ codes " ")))) →
    b ≡ a ++ frame_text e.frame → c ≡ b ++ codes " " → AppendsWire c d e.frame → OnOk r (new ≡ d ++ (10 ∷ [])) →
    OnOk r (AppendsDone route old new e)
done_pieces r route e old a b c d new first second third (w, spells, fourth) = on_ok_weaker r (λ last. (
  w,
  spells,
  last ∙ ap (λ t. t ++ (10 ∷ [])) (fourth ∙ ap (λ t. t ++ map digit w)
      (third ∙ ap (λ t. t ++ codes " ") (second ∙ ap (λ t. t ++ frame_text e.frame) first)))
      ∙ simp append_assoc refl,
))

-- one line more
pub dones-snoc : (route : ℕ) (old mid new : List ℕ) (es : List Entry) (e : Entry) → AppendsDones route old mid es →
    AppendsDone route mid new e →
    AppendsDones route old new (es ++ e ∷ [])
dones-snoc route old mid new [] e is last = (new, rw (← is) last, refl)
dones-snoc route old mid new (f ∷ es) e (next, first, rest) last =
    (next, first, dones-snoc route next mid new es e rest last)

-- pieces as `writeln!` joins them, before its line feed
abbrev pub nested : List (List ℕ) → List ℕ
nested [] = []
nested (piece ∷ []) = piece
nested (piece ∷ second ∷ pieces) = piece ++ nested (second ∷ pieces)

nested-line : (pieces : List (List ℕ)) → nested pieces ++ (10 ∷ []) ≡ line pieces
nested-line [] = refl
nested-line (piece ∷ []) = refl
nested-line (piece ∷ second ∷ pieces) =
    append_assoc piece (nested (second ∷ pieces)) (10 ∷ []) ∙ ap (λ t. piece ++ t) (nested-line (second ∷ pieces))

-- the pieces of a line of counts
abbrev pub count_pieces : ℕ → ℕ → ℕ → ℕ → ℕ → ℕ → List (List ℕ)
count_pieces route requested done aborted reaped waiting = codes "route " ∷ decimal route
    ∷ codes " requested " ∷ decimal requested ∷ codes " done " ∷ decimal done
    ∷ codes " aborted " ∷ decimal aborted ∷ codes " reaped " ∷ decimal reaped ∷ codes " waiting " ∷ decimal waiting ∷ []

-- what is reported of a route: lines, and then the counts
pub counts_follow : {T E : Type 0} (r : Result T E) (route : ℕ) (l : RouteLists) (waits old next new : List ℕ)
    (a b c d e : ℕ) →
    a ≡ length l.requested → b ≡ length l.done → c ≡ length l.aborted → d ≡ length l.reaped → e ≡ length waits →
    AppendsDones route old next l.done → OnOk r (new ≡ next ++ (nested (count_pieces route a b c d e) ++ (10 ∷ []))) →
    OnOk r ((next : List ℕ) × AppendsDones route old next l.done × (new ≡ next ++ count_line route l waits))
counts_follow r route l waits old next new a b c d e a_is b_is c_is d_is e_is lines = on_ok_weaker r (λ last.
    let counts : line (count_pieces route a b c d e) ≡ count_line route l waits =
    rw (a_is, b_is, c_is, d_is, e_is) refl in
    (next, lines, last ∙ ap (λ t. next ++ t) (nested-line (count_pieces route a b c d e) ∙ counts)))

-- the first of the events that are left
pub events-left : (events : List Event) (i : ℕ) (event : Event) → event ≡ get_or events i event → i < length events →
    drop i events ≡ event ∷ drop (i + 1) events
events-left events i event is lt = drop-cons events i event lt ∙ ap (λ e. e ∷ drop (suc i) events) (sym is)
    ∙ ap (λ n. event ∷ drop n events) (sym (add-one i))

pub run-step : (s t : State) (event : Event) (rest events : List Event) → events ≡ event ∷ rest →
    t ≡ left_by s (after s event) → run t rest ≡ run s events
run-step s t event rest events events_are t_is = rw (events_are, t_is) refl

pub refused-step : (s t : State) (place : ℕ) (event : Event) (rest events : List Event) (old new : List ℕ) →
    events ≡ event ∷ rest → t ≡ left_by s (after s event) →
    new ≡ old ++ refused_line place (after s event) → new ++ refused_lines t (place + 1) rest ≡ old
    ++ refused_lines s place events
unfolding refused_lines
refused-step s t place event rest events old new events_are t_is new_is =
    rw (events_are, t_is, new_is) (append_assoc old (refused_line place (after s event)) _)

pub refused-end : (s : State) (place : ℕ) (events : List Event) (text all : List ℕ) → length events ≤ place → text
    ++ refused_lines s place (drop place events) ≡ all → text ≡ all
unfolding refused_lines
refused-end s place events text all beyond is =
    sym (append-nil text) ∙ ap (λ es. text ++ refused_lines s place es) (sym (drop_all place events beyond)) ∙ is

-- the lines of the refused events, and what is reported of the routes
pub whole_report : (txfp : Bool) (routes : ℕ) (events items : List Event) (first last : State)
    (start middle text : List ℕ) →
    items ≡ events → first ≡ opening_by txfp routes → start ≡ [] → last ≡ run first items → middle ≡ start
    ++ refused_lines first 0 items →
    length last.routes ≡ length first.routes → AppendsRoutes last (length last.routes) middle text →
    IsReport (record { routes = routes; txfp = txfp; events = events }) text
whole_report txfp routes events items first last start middle text items_are first_is start_is last_is middle_is count
    reported =
    let goes : last ≡ run (opening_by txfp routes) events =
    last_is ∙ ap (λ s. run s items) first_is ∙ ap (run (opening_by txfp routes)) items_are in
    let counts : length last.routes ≡ routes =
    count ∙ ap (λ (s : State). length s.routes) first_is ∙ length-replicate routes no_lists in
    let lines : middle ≡ refused_lines (opening_by txfp routes) 0 events =
    middle_is ∙ ap (λ t. t ++ refused_lines first 0 items) start_is ∙ ap (λ s. refused_lines s 0 items) first_is
    ∙ ap (refused_lines (opening_by txfp routes) 0) items_are in
    subst (λ t. AppendsRoutes (run (opening_by txfp routes) events) routes t text) lines
    (subst (λ n. AppendsRoutes (run (opening_by txfp routes) events) n middle text) counts
    (subst (λ s. AppendsRoutes s (length last.routes) middle text) goes reported))
