use Rattle.std.proofs.Common.{◌≡◌, ◌≤◌, ◌+◌, ◌*◌, List, length, take}
use Rattle.lr_bits.specs.declared.outcome.Outcome.{Outcome}
use Rattle.lr_packet.specs.Verdict.{good_packets}
use Rattle.lr_layers.specs.Origins.{PlacedPacket}
use Rattle.lr_layers.specs.Starts.{IsNow, JoinerStandsFor, Joins, found}
use Rattle.lr_layers.specs.Steps.{KeepsFilesBefore}
use Rattle.lr_layers.proofs.packets.push_packets.Given as goal

abbrev pub invariant-loop-raw : goal.invariant-loop-raw
invariant-loop-raw l = record {
  joins : (outcomes : List Outcome) (before : List PlacedPacket) → JoinerStandsFor l.fn.joiner outcomes before →
      IsNow outcomes l.now →
      Joins (record {
        mend = l.fn.joiner.files.images.most;
        counted = l.counted;
        outcomes = outcomes;
        place = l.now.start.place;
        before = before;
      }) (good_packets (take l.raw-index l.packets)) l.joiner (found l.fn.out.items l.fn.fillers.items)
      (found l.out.items l.fillers.items);
  mend : l.joiner.files.images.most ≡ l.fn.joiner.files.images.most;
  good : l.good ≡ length (good_packets (take l.raw-index l.packets));
  few : l.good ≤ l.raw-index;
  few_files : length l.out.items ≤ length l.fn.out.items + 2 * l.good;
  few_plain : l.fn.joiner.files.images.most ≡ 0 → length l.out.items ≤ length l.fn.out.items + l.good;
  kept : KeepsFilesBefore (found l.fn.out.items l.fn.fillers.items) (found l.out.items l.fillers.items);
}
