-- A sink in memory, and what its puts answer.
use Rattle.std.specs.Prelude.{ℕ, ◌-◌, ◌==◌, ◌&&◌, ◌||◌, nat_lt, nat_le, Bool, List, length, take, ◌++◌, min, Result, Ok, Err}
use Rattle.std.specs.List.{list_any}
use Rattle.bfgp_outside.specs.Causes.{counted}

-- what was taken, how much may be taken in all and in one put, the numbers of the puts that fail, and how many puts and faults there were
pub record SinkState : Type 0 where
  pub taken : List ℕ
  pub room : ℕ
  pub most : ℕ
  pub failing : List ℕ
  pub puts : ℕ
  pub faults : ℕ

-- the next put fails where there is something to take, and its number is among the failing ones or no room is left
abbrev pub put_fails : SinkState → List ℕ → Bool
put_fails sink piece = nat_lt 0 (length piece) && (list_any (λ number. number == sink.puts) sink.failing || nat_le sink.room (length sink.taken))

-- how many bytes the next put takes that does not fail
abbrev pub put_count : SinkState → List ℕ → ℕ
put_count sink piece = min (length piece) (min sink.most (sink.room - length sink.taken))

-- the sink after a put: the put is counted, and its bytes are taken or its fault is counted
abbrev pub after_put : {E : Type 0} → SinkState → List ℕ → Result ℕ E → SinkState
after_put sink piece (Ok count) = record sink { taken = sink.taken ++ take count piece; puts = counted sink.puts }
after_put sink piece (Err failed) = record sink { puts = counted sink.puts; faults = counted sink.faults }
