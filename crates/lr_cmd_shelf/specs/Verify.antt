-- `verify`: a line for each entry. It goes on where a checksum is wrong, and is refused for it after the last line.
use Rattle.std.specs.Prelude.{ℕ, Bool, true, false, Result, Ok, Err, Some, None, List, [], ◌∷◌}
use Rattle.lr_catalog.specs.Discards.{gone_line}
use Rattle.lr_catalog.specs.Files.{check_line}
use Rattle.lr_causes.specs.declared.cause.Refusal.{Refusal}
use Rattle.lr_causes.specs.declared.cause.Refusal.TheVariants.{BadChecksum}
use Rattle.lr_cmd_shelf.specs.Queries.{Query, EntryView, Whole, Wrong, Absent, no_image}
use Rattle.lr_cmd_shelf.specs.Files.{all_entries}

abbrev pub verify_line : ℕ → EntryView → List ℕ
verify_line number (Whole opened) = check_line number None
verify_line number (Wrong stored computed) = check_line number (Some (stored, computed))
verify_line number Absent = gone_line number

-- whether no checksum is wrong
abbrev pub none_bad : List EntryView → Bool
none_bad [] = true
none_bad (Whole opened ∷ read) = none_bad read
none_bad (Wrong stored computed ∷ read) = false
none_bad (Absent ∷ read) = none_bad read

abbrev pub verdict : Bool → Result (List ℕ) Refusal
verdict true = Ok []
verdict false = Err BadChecksum

abbrev pub verify_query : Query
verify_query = record {
  range = all_entries;
  sees = no_image;
  fate = λ read number seen. Ok (verify_line number seen);
  last = λ way read. verdict (none_bad read);
  note = λ read. None;
}
