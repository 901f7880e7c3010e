-- An event list as a JSON object: a count of routes, the priority of the mailboxes, and mailbox events in order.
use Rattle.std.specs.Prelude.{ℕ, ◌-◌, Bool, true, List, codes, Result, Ok, Err, if◌then◌else◌}
use Rattle.std.specs.Str.{bytes_eq}
use Rattle.serde_json.specs.Data.{Data}
use Rattle.bx_core.specs.declared.event.Event.{Event}
use Rattle.bx_core.specs.declared.event.Event.TheVariants as event
use Rattle.gw_script.specs.declared.event_list.EventList.{EventList}
use Rattle.gw_script.specs.declared.event_list.EventName.{EventName}
use Rattle.gw_script.specs.declared.event_list.EventName.TheVariants as name
use Rattle.gw_fields.specs.Faults.{Fault, out_of_range}
use Rattle.gw_fields.specs.Fields.{◌>>=◌, object_of, field, whole, optional_truth, text, list, each}
use Rattle.gw_fields.specs.Frames.{frame_of}

pub record EventListValue : Type 0 where
  pub routes : ℕ
  pub txfp : Bool
  pub events : List Event

abbrev pub list_view : EventList → EventListValue
list_view l = record { routes = l.routes; txfp = l.txfp; events = l.events.items }

abbrev pub name_of : List ℕ → Result EventName Fault
name_of word =
    if bytes_eq word (codes "claim") then Ok name.Claim
    else (if bytes_eq word (codes "request") then Ok name.Request
    else (if bytes_eq word (codes "withdraw") then Ok name.Withdraw
    else (if bytes_eq word (codes "schedule") then Ok name.Schedule
    else (if bytes_eq word (codes "start") then Ok name.Start
    else (if bytes_eq word (codes "complete") then Ok name.Complete
    else (if bytes_eq word (codes "fail") then Ok name.Fail
    else (if bytes_eq word (codes "abort") then Ok name.Abort
    else (if bytes_eq word (codes "reap") then Ok name.Reap
    else Err (out_of_range (codes "event"))))))))))

unfoldable pub mailbox_of : Data → Result ℕ Fault
mailbox_of from = whole (codes "mailbox") 0 2 from

-- the route, below `routes`
unfoldable pub route_of : ℕ → Data → Result ℕ Fault
route_of routes from = whole (codes "route") 0 (routes - 1) from

unfoldable pub claim_in : ℕ → Data → Result Event Fault
claim_in routes from = do
  route ← route_of routes from
  mailbox ← mailbox_of from
  Ok (event.Claim route mailbox)

unfoldable pub request_in : ℕ → Data → Result Event Fault
request_in routes from = do
  route ← route_of routes from
  mailbox ← mailbox_of from
  number ← whole (codes "number") 1 4294967295 from
  value ← field (codes "frame") from
  object ← object_of (codes "frame") value
  frame ← frame_of object
  Ok (event.Request route mailbox number frame)

unfoldable pub withdraw_in : ℕ → Data → Result Event Fault
withdraw_in routes from = do
  route ← route_of routes from
  mailbox ← mailbox_of from
  Ok (event.Withdraw route mailbox)

unfoldable pub abort_in : ℕ → Data → Result Event Fault
abort_in routes from = do
  route ← route_of routes from
  mailbox ← mailbox_of from
  Ok (event.Abort route mailbox)

-- an event of the bus side, which names no route
unfoldable pub bus_event_in : (ℕ → Event) → Data → Result Event Fault
bus_event_in make from = do
  mailbox ← mailbox_of from
  Ok (make mailbox)

-- the fields that an event of this name has
abbrev pub named_event : ℕ → Data → EventName → Result Event Fault
named_event routes from name.Claim = claim_in routes from
named_event routes from name.Request = request_in routes from
named_event routes from name.Withdraw = withdraw_in routes from
named_event routes from name.Schedule = bus_event_in event.Schedule from
named_event routes from name.Start = bus_event_in event.Start from
named_event routes from name.Complete = bus_event_in event.Complete from
named_event routes from name.Fail = bus_event_in event.Fail from
named_event routes from name.Abort = abort_in routes from
named_event routes from name.Reap = bus_event_in event.Reap from

-- an element of the list
unfoldable pub event_of : ℕ → Data → Result Event Fault
event_of routes value = do
  from ← object_of (codes "events") value
  word ← text (codes "event") from
  name ← name_of word
  named_event routes from name

-- the whole list, up to its first fault
unfoldable pub event_list_of : Data → Result EventListValue Fault
event_list_of value = do
  from ← object_of (codes "script") value
  routes ← whole (codes "routes") 1 8 from
  txfp ← optional_truth (codes "txfp") true from
  items ← list (codes "events") 100000 from
  events ← each (event_of routes) items
  Ok (record { routes = routes; txfp = txfp; events = events })
