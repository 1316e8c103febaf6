-- What a thread's status lets it do, and what ticks, sleep, waiting and waking make of statuses. A list of
-- statuses has thread 0 first.
use Rattle.std.specs.Prelude.{ℕ, ◌-◌, ◌==◌, ◌&&◌, Bool, true, false, nat_lt, List, length, map, take, count_by, min, slice_index_or, if◌then◌else◌}
use Rattle.std.specs.List.{range_with_len}
use Rattle.def_sched.specs.declared.Status.{Status}
use Rattle.def_sched.specs.declared.Status.TheVariants.{Ready, Sleeping, Waiting, Ended}

abbrev pub is_ready : Status → Bool
is_ready Ready = true
is_ready (Sleeping ticks) = false
is_ready (Waiting address) = false
is_ready Ended = false

abbrev pub is_waiting : Status → Bool
is_waiting Ready = false
is_waiting (Sleeping ticks) = false
is_waiting (Waiting address) = true
is_waiting Ended = false

abbrev pub is_ended : Status → Bool
is_ended Ready = false
is_ended (Sleeping ticks) = false
is_ended (Waiting address) = false
is_ended Ended = true

-- ready or sleeping: the thread runs again though no other does anything
abbrev pub runs_again : Status → Bool
runs_again Ready = true
runs_again (Sleeping ticks) = true
runs_again (Waiting address) = false
runs_again Ended = false

-- past the last thread there is nobody
abbrev pub status_of : List Status → ℕ → Status
status_of statuses t = slice_index_or statuses t Ended

-- ---- sleep and ticks

-- asleep for so many ticks; for none, the thread stays ready
abbrev pub asleep : ℕ → Status
asleep ticks = if ticks == 0 then Ready else Sleeping ticks

-- what a tick leaves: a sleep is one tick shorter, and over after its last
abbrev pub after_tick : Status → Status
after_tick Ready = Ready
after_tick (Sleeping ticks) = asleep (ticks - 1)
after_tick (Waiting address) = Waiting address
after_tick Ended = Ended

-- ---- wait and wake

-- a thread waits where the word holds the value that it wants; else it stays ready
abbrev pub awaiting : ℕ → ℕ → ℕ → Status
awaiting address held wanted = if held == wanted then Waiting address else Ready

abbrev pub waits_for : ℕ → Status → Bool
waits_for address Ready = false
waits_for address (Sleeping ticks) = false
waits_for address (Waiting word) = word == address
waits_for address Ended = false

-- how many threads with a lower number wait for the word
abbrev pub waiting_below : ℕ → List Status → ℕ → ℕ
waiting_below address statuses t = count_by (waits_for address) (take t statuses)

-- of those that wait for the word, so many wake: the ones with the lowest numbers
abbrev pub wakes : ℕ → ℕ → List Status → ℕ → Bool
wakes address most statuses t =
    waits_for address (status_of statuses t) && nat_lt (waiting_below address statuses t) most

-- what a wake leaves of the status of thread t
abbrev pub after_wake : ℕ → ℕ → List Status → ℕ → Status
after_wake address most statuses t =
    if wakes address most statuses t then Ready else status_of statuses t

abbrev pub woken : ℕ → ℕ → List Status → List Status
woken address most statuses =
    map (after_wake address most statuses) (range_with_len 0 (length statuses))

-- how many wake
abbrev pub woken_count : ℕ → ℕ → List Status → ℕ
woken_count address most statuses = min most (count_by (waits_for address) statuses)
