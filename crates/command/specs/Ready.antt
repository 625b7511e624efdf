-- What the loop over the input needs at each turn, and has again behind it: a state that keeps the rules, less than one call's bytes at the buffer's front,
-- and buffers in which the answers of a full log buffer and their longest lines have room.
use Rattle.std.specs.Prelude.{ℕ, ◌*◌, ◌≤◌, ◌<◌, ◌≡◌, List, length}
use Rattle.rules.specs.Rules.{Sound}
use Rattle.calls.specs.Calls.{parts_in}
use Rattle.replaying.specs.declared.Style.{Style}
use Rattle.replaying.specs.Printing.{longest}
use Rattle.command.specs.declared.Session.{Session}

-- buffers of so many bytes, numbers and bytes
pub record Roomy (style : Style) (log out text : ℕ) : Type 0 where
  pub call : 16 ≤ log
  pub answers : 2 * parts_in log ≤ out
  pub lines : longest style * parts_in log ≤ text

pub record Ready (style : Style) (os ts ss log out text : List ℕ) (have : ℕ) : Type 0 where
  pub sound : Sound os ts ss
  pub room : Roomy style (length log) (length out) (length text)
  pub less : have < 16

abbrev pub IsReady : Session → Type 0
IsReady s = Ready s.style s.objects.now s.threads.now s.slots.now s.log.now s.out.now s.text.now s.have

-- six lent slices keep their lengths
pub record Kept (os ts ss log out text os' ts' ss' log' out' text' : List ℕ) : Type 0 where
  pub objects : length os' ≡ length os
  pub threads : length ts' ≡ length ts
  pub slots : length ss' ≡ length ss
  pub bytes : length log' ≡ length log
  pub numbers : length out' ≡ length out
  pub lines : length text' ≡ length text
