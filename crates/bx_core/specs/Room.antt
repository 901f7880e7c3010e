-- A route's lists as contracts see them, and the room that they keep for what may still end.
use Rattle.std.specs.Prelude.{ℕ, ◌+◌, ◌≤◌, vec_len, vec_capacity}
use Rattle.bx_core.specs.declared.lists.Lists.{Lists}
use Rattle.bx_core.specs.States.{RouteLists}

-- the lists without their capacities
abbrev pub lists_view : Lists → RouteLists
lists_view l = record {
  requested = l.requested.items;
  done = l.done.items;
  aborted = l.aborted.items;
  reaped = l.reaped.items;
}

-- each list that a request can end in has room for this many more
pub record HasRoom (l : Lists) (more : ℕ) : Type 0 where
  pub done : vec_len l.done + more ≤ vec_capacity l.done
  pub aborted : vec_len l.aborted + more ≤ vec_capacity l.aborted
  pub reaped : vec_len l.reaped + more ≤ vec_capacity l.reaped
