-- The report on an event list: a line for each refused event, then for each route what was done and a line of counts.
use Rattle.std.specs.Prelude.{◌≡◌, ℕ, zero, suc, ◌+◌, Bool, true, false, List}
use Rattle.std.specs.Prelude.{[], ◌∷◌, ◌++◌, map, length, codes, Result, Ok, Err}
use Rattle.std.specs.Fmt.{decimal}
use Rattle.can_frame.specs.Frames.{FrameValue}
use Rattle.can_frame.specs.Fields.{senders_choice}
use Rattle.can_frame.specs.Spelling.{Spells}
use Rattle.bx_core.specs.declared.entry.Entry.{Entry}
use Rattle.bx_core.specs.declared.event.Event.{Event}
use Rattle.bx_core.specs.declared.refused.Refused.{Refused}
use Rattle.bx_core.specs.declared.refused.Refused.TheVariants.{NotEmpty, NotOwner, NotOldest}
use Rattle.bx_core.specs.declared.refused.Refused.TheVariants.{WrongState, NumberOrder, Memory}
use Rattle.bx_core.specs.States.{State, RouteLists, opening_by, lists_of, waits_of}
use Rattle.bx_core.specs.Steps.{after}
use Rattle.bx_core.specs.Law.{left_by, run}
use Rattle.gw_script.specs.EventLists.{EventListValue}
use Rattle.gw_script.specs.FrameTexts.{frame_text}
use Rattle.gw_script.specs.Lines.{line}

abbrev pub code_of : Refused → List ℕ
code_of NotEmpty = codes "C1"
code_of NotOwner = codes "C2"
code_of NotOldest = codes "C3"
code_of WrongState = codes "C4"
code_of NumberOrder = codes "C5"
code_of Memory = codes "C6"

-- what an event at this place adds: nothing, or the line of its refusal
abbrev pub refused_line : ℕ → Result State Refused → List ℕ
refused_line place (Ok s) = []
refused_line place (Err why) = line (codes "event " ∷ decimal place ∷ codes " refused " ∷ code_of why ∷ [])

-- the lines of the refused events, the first event at this place
unfoldable pub refused_lines : State → ℕ → List Event → List ℕ
refused_lines s place [] = []
refused_lines s place (event ∷ events) = refused_line place (after s event)
    ++ refused_lines (left_by s (after s event)) (place + 1) events

abbrev pub digit : Bool → ℕ
digit false = 48
digit true = 49

-- the text grows by the digits of the levels that spell a frame on the wire
abbrev pub AppendsWire : List ℕ → List ℕ → FrameValue → Type 0
AppendsWire old new f = (w : List Bool) × Spells f senders_choice true w × (new ≡ old ++ map digit w)

-- by the line of a frame that was sent
abbrev pub AppendsDone : ℕ → List ℕ → List ℕ → Entry → Type 0
AppendsDone route old new e = (w : List Bool) × Spells e.frame senders_choice true w
    × (new ≡ old ++ line (codes "done " ∷ decimal route ∷ codes " " ∷ decimal e.number ∷ codes " "
    ∷ frame_text e.frame ∷ codes " " ∷ map digit w ∷ []))

-- by these lines, in order
abbrev pub AppendsDones : ℕ → List ℕ → List ℕ → List Entry → Type 0
AppendsDones route old new [] = new ≡ old
AppendsDones route old new (e ∷ es) = (next : List ℕ) × AppendsDone route old next e × AppendsDones route next new es

abbrev pub count_line : ℕ → RouteLists → List ℕ → List ℕ
count_line route l waits = line (codes "route " ∷ decimal route
    ∷ codes " requested " ∷ decimal (length l.requested) ∷ codes " done " ∷ decimal (length l.done)
    ∷ codes " aborted " ∷ decimal (length l.aborted) ∷ codes " reaped " ∷ decimal (length l.reaped)
    ∷ codes " waiting " ∷ decimal (length waits) ∷ [])

-- by what is reported of a route
abbrev pub AppendsRoute : State → ℕ → List ℕ → List ℕ → Type 0
AppendsRoute s route old new = (next : List ℕ) × AppendsDones route old next (lists_of s route).done
    × (new ≡ next ++ count_line route (lists_of s route) (waits_of route s.queue))

-- by what is reported of the first `count` routes, in order
abbrev pub AppendsRoutes : State → ℕ → List ℕ → List ℕ → Type 0
AppendsRoutes s zero old new = new ≡ old
AppendsRoutes s (suc count) old new = (next : List ℕ) × AppendsRoutes s count old next × AppendsRoute s count next new

-- the text is the whole report
abbrev pub IsReport : EventListValue → List ℕ → Type 0
IsReport l text =
    AppendsRoutes (run (opening_by l.txfp l.routes) l.events) l.routes
    (refused_lines (opening_by l.txfp l.routes) 0 l.events) text
