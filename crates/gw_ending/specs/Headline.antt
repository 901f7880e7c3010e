-- What is claimed of a route of a run, by what its report says.
use Rattle.std.specs.Prelude.{◌≡◌, ℕ, ◌+◌, ◌≤◌, ◌==◌, Bool, true, false, not, List, ◌++◌, length, filter, map}
use Rattle.std.specs.List.{list_any}
use Rattle.can_frame.specs.Rewrites.{rewritten}
use Rattle.can_frame.specs.declared.rewrite.Rewrite.{Rewrite}
use Rattle.bx_core.specs.declared.entry.Entry.{Entry}
use Rattle.bx_core.specs.Lists.{Each, Has, times}
use Rattle.bx_core.specs.States.{numbers}
use Rattle.gw_route.specs.RouteHand.{numbered}
use Rattle.gw_script.specs.declared.route_report.RouteReport.{RouteReport}

abbrev pub is_among : List ℕ → ℕ → Bool
is_among numbers n = list_any (λ x. x == n) numbers

-- the frames released from the source FIFO, with their numbers, and under the new identifiers that the route gives to
-- them
abbrev pub released : List Rewrite → RouteReport → List Entry
released rewrites r = numbered 1 (map (rewritten rewrites) r.released.items)

-- the same, the aborted ones left out
abbrev pub kept : List Rewrite → RouteReport → List Entry
kept rewrites r = filter (λ e. not (is_among r.aborted.items e.number)) (released rewrites r)

-- Order and once: the completed frames are, in order and each once, a prefix of the released ones with the aborted
-- ones left out.
pub record InOrder (rewrites : List Rewrite) (r : RouteReport) : Type 0 where
  pub rest : List Entry
  pub prefix : kept rewrites r ≡ r.completed.items ++ rest

-- Once: no completed frame stands twice, and each is among the released ones with the aborted ones left out.
pub record EachOnce (rewrites : List Rewrite) (r : RouteReport) : Type 0 where
  pub once : (n : ℕ) → times n (numbers r.completed.items) ≤ 1
  pub among : Each (Has (kept rewrites r)) r.completed.items

-- what is claimed of the order, by the priority of the controller that the route leads into
abbrev pub OrderBy : Bool → List Rewrite → RouteReport → Type 0
OrderBy true rewrites r = InOrder rewrites r
OrderBy false rewrites r = EachOnce rewrites r

-- No mailbox was refilled while its bus held it: each transmission that was started carries the frame released under
-- its number.
abbrev pub NotRefilled : List Rewrite → RouteReport → List Entry → Type 0
NotRefilled rewrites r started = Each (Has (released rewrites r)) started

-- Accepted equals completed, aborted, overrun and held.
abbrev pub Balances : RouteReport → Type 0
Balances r = r.accepted ≡ length r.completed.items + length r.aborted.items + r.overrun + r.held

-- all of it, for a route with these new identifiers into a controller of this priority; and no more is held than the
-- FIFO, which has room for three frames, the hand and the mailboxes can hold
pub record Headline (room hand : ℕ) (txfp : Bool) (rewrites : List Rewrite) (r : RouteReport)
    (started : List Entry) : Type 0 where
  pub order : OrderBy txfp rewrites r
  pub no_refill : NotRefilled rewrites r started
  pub sum : Balances r
  pub few_held : r.held ≤ 3 + hand + room
