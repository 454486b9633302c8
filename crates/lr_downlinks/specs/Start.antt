-- What a run over a bundle begins with.
use Rattle.std.specs.Prelude.{ℕ, false, List, []}
use Rattle.std.specs.Borrow.{GName}
use Rattle.lr_bits.specs.declared.placed.Placed.{Placed}
use Rattle.lr_conv.specs.declared.line.LineCode.{LineCode}
use Rattle.lr_shelf_format.specs.Way.{Way}
use Rattle.lr_downlinks.specs.Streams.{files_of_downlink}
use Rattle.lr_downlinks.specs.Merge.{merge}

-- the streams and their line code, which disk was lent, and the way of the shelf
pub record Start : Type 0 where
  pub streams : List (List ℕ)
  pub line : LineCode
  pub disk : GName
  pub way : Way

-- the files of a downlink
abbrev pub files_in : Start → ℕ → List Placed
files_in start downlink = files_of_downlink start.line start.streams downlink

-- the files that were appended in this order
abbrev pub merged : Start → List ℕ → List Placed
merged start order = merge (files_in start) order

-- a start that no run has
abbrev pub no_start : Start
no_start = record {
  streams = [];
  line = record { marks = false; inverted = false };
  disk = 0;
  way = record { capacity = 0; entries = []; end = 0 };
}
