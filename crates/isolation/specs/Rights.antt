-- Memory rights of a thread: what its memory check of one byte goes by (docs/SPEC.md, 8.22 to 8.24).
use Rattle.std.specs.Prelude.{ℕ, ◌≡◌, Bool, false, cond, ◌&&◌, ◌||◌, List, [], ◌∷◌}
use Rattle.tables.specs.State.{State, thread, domain}
use Rattle.mem_check.specs.Memory.{is_covered}
use Rattle.decoding.specs.declared.Call.{Call}
use Rattle.judging.specs.Judge.{live, supervisor}

-- thread t may read, or write, the byte at x: it lives, and is a supervisor or has the byte in its domain with that right
unfoldable pub may_touch : State → ℕ → Bool → ℕ → Bool
may_touch s t write x = live s t && (supervisor s t || is_covered (domain s (thread s t).domain) write x)

-- the memory check of one byte
abbrev pub asks_byte : ℕ → Bool → ℕ → Call
asks_byte t write x = record { op = 3; caller = t; a = 0; b = x; c = 1; d = cond write 1 0 }

-- no caller among these is a supervisor in state s
unfoldable pub NoSupervisor : State → List Call → Type 0
NoSupervisor s [] = Unit {0}
NoSupervisor s (c ∷ cs) = (supervisor s c.caller ≡ false) × NoSupervisor s cs
