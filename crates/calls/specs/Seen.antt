-- What the code that judges has at hand, as the state that it judges.
use Rattle.tables.specs.State.{State, state_of}
use Rattle.calls.specs.declared.deciding.Tables.{Tables}

-- the state of three lent tables
abbrev pub seen : Tables → State
seen t = state_of t.objects.now t.threads.now t.slots.now
