-- Whose waker a registration leaves.
use Rattle.std.specs.Prelude.{◌≡◌, true, Option, Some, None, ◌⊎◌}
use Rattle.futures.specs.Task.{Wakes}
use Rattle.futures.specs.declared.task.context.Context.{Context}
use Rattle.futures.specs.declared.task.waker.Waker.{Waker}

-- no waker could be made for want of memory, and the task has asked for another poll
abbrev pub LacksWaker : Context → Type 0
LacksWaker cx = cx.lacks_waker ≡ true

-- the waker wakes the task that is polled from one context to the other
abbrev pub IsOwn : Waker → Context → Context → Type 0
IsOwn waker old new = LacksWaker new ⊎ Wakes waker old

-- what a registration leaves: a waker of the task that is polled, or none, where none can be made
abbrev pub LeavesWaker : Context → Context → Option Waker → Type 0
LeavesWaker old new (Some waker) = IsOwn waker old new
LeavesWaker old new None = LacksWaker new
