-- Readers and writers of std as sources and sinks.
use Rattle.std.specs.Prelude.{ℕ, Option, List, [], IsSome, Result, unwrap_or}
use Rattle.lr_bits.specs.Faults.{FailsAtOnce, OneMore}
use Rattle.lr_io.specs.declared.readers.StdReader.{StdReader}
use Rattle.lr_io.specs.declared.sink.WriteSink.{WriteSink}
use Rattle.lr_io.specs.declared.source.ReadSource.{ReadSource}
use Rattle.lr_io.specs.declared.writers.StdWriter.{StdWriter}

-- the reader of std, how many reads it was asked for, and how many errors it gave
abbrev pub std_reader_in : {T : Type 0} → StdReader T → T
std_reader_in r = r.reader

abbrev pub calls_read : {T : Type 0} → StdReader T → ℕ
calls_read r = r.calls

abbrev pub errors_read : {T : Type 0} → StdReader T → ℕ
errors_read r = r.errors

-- the writer of std, and how many of its calls gave an error or wrote nothing
abbrev pub std_writer_in : {T : Type 0} → StdWriter T → T
std_writer_in w = w.writer

abbrev pub errors_written : {T : Type 0} → StdWriter T → ℕ
errors_written w = w.errors

-- the reader, and how often it has failed
abbrev pub reader_in : {T : Type 0} → ReadSource T → T
reader_in s = s.reader

abbrev pub read_faults : {T : Type 0} → ReadSource T → ℕ
read_faults s = s.faults

-- its reader was asked once, and gave an error where this is the answer
pub record ReadsOnce {T E : Type 0} (calls errors : T → ℕ) (before : ReadSource T) (answer : Result ℕ E)
    (now : ReadSource T) : Type 0 where
  pub once : OneMore (calls before.reader) (calls now.reader)
  pub failed : FailsAtOnce (errors before.reader) (errors now.reader) answer

-- each reader of a type tells the bytes that it has left
abbrev pub AllTell : {T : Type 0} → (T → Option (List ℕ)) → Type 0
AllTell {T} remaining = (reader : T) → IsSome (remaining reader)

-- the bytes that a reader has left, where it tells them
abbrev pub left_in : {T : Type 0} → (T → Option (List ℕ)) → ReadSource T → List ℕ
left_in remaining s = unwrap_or (remaining s.reader) []

-- the writer, and how often it has failed
abbrev pub writer_in : {T : Type 0} → WriteSink T → T
writer_in s = s.writer

abbrev pub write_faults : {T : Type 0} → WriteSink T → ℕ
write_faults s = s.faults
