-- A source that never fails.
use Rattle.std.specs.Prelude.{ℕ, List, drop}
use Rattle.lr_io.specs.declared.source.SureSource.{SureSource}

-- the bytes that are left
abbrev pub left_of : SureSource → List ℕ
left_of s = drop s.at s.bytes.items
