-- A sink in memory: what it holds, its room, and the places at which a call has yet to fail.
use Rattle.std.specs.Prelude.{ℕ, List}
use Rattle.lr_io.specs.declared.sink.MemSink.{MemSink}

-- the bytes that it holds
abbrev pub held_by : MemSink → List ℕ
held_by s = s.bytes.items

-- how many bytes it can hold
abbrev pub room_of : MemSink → ℕ
room_of s = s.room

-- the places at which one call has yet to fail
abbrev pub failing_places : MemSink → List ℕ
failing_places s = s.failing.items

-- how often it has failed
abbrev pub faults_of : MemSink → ℕ
faults_of s = s.faults
