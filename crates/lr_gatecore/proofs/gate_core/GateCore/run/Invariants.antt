use Rattle.std.proofs.Common.{◌≡◌, ◌+◌, ◌≤◌, List, length, take}
use Rattle.lr_gatecore.specs.Machine.{Entry, put_count, EventsLead}
use Rattle.lr_gatecore.proofs.gate_core.GateCore.run.Given as goal

abbrev pub invariant-loop-event : goal.invariant-loop-event
invariant-loop-event l =
    (l.self.size ≡ l.fn.self.size)
    × (put_count l.self.machine ≤ put_count l.fn.self.machine + l.event-index) × (l.moved ≤ l.event-index)
    × ((log : List Entry) × EventsLead l.fn.self.size l.fn.self.machine
    (take l.event-index l.events) log l.self.machine × (l.moved ≡ length log))
