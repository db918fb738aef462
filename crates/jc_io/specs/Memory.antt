-- What a source and a sink in memory are to a caller.
use Rattle.std.specs.Prelude.{ℕ, ◌-◌, List, drop, length}
use Rattle.jc_io.specs.declared.memory.MemSink.{MemSink}
use Rattle.jc_io.specs.declared.memory.MemSource.{MemSource}
use Rattle.jc_io.specs.declared.plan.Plan.{Plan}

-- the bytes that the source has left
abbrev pub bytes_left : MemSource → List ℕ
bytes_left s = drop s.at s.bytes.items

-- which calls of the source fail, and how many there were
abbrev pub source_plan : MemSource → Plan
source_plan s = s.plan

-- how many bytes a call of the source gives at most
abbrev pub source_most : MemSource → ℕ
source_most s = s.most

-- the bytes that the sink holds
abbrev pub bytes_held : MemSink → List ℕ
bytes_held s = s.held.items

-- how many bytes the sink can hold in all
abbrev pub sink_room : MemSink → ℕ
sink_room s = s.room

-- how many bytes more the sink can hold
abbrev pub room_left : MemSink → ℕ
room_left s = sink_room s - length (bytes_held s)

-- how many bytes a call of the sink takes at most
abbrev pub sink_most : MemSink → ℕ
sink_most s = s.most

-- how many calls of the sink's `finish` were answered Ok
abbrev pub sink_finished : MemSink → ℕ
sink_finished s = s.finished

-- which calls of the sink fail, and how many there were
abbrev pub sink_plan : MemSink → Plan
sink_plan s = s.plan
