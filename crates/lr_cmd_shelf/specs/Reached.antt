-- How far a run over the entries of a shelf has come.
use Rattle.std.specs.Prelude.{◌≡◌, ◌≤◌, ◌-◌, ℕ, Result, Option, List, [], length}
use Rattle.std.specs.List.{concat}
use Rattle.lr_shelf_format.specs.Way.{Way}
use Rattle.lr_causes.specs.Outside.{Outlets, OutletsOf}
use Rattle.lr_causes.specs.Puts.{Puts}
use Rattle.lr_causes.specs.declared.cause.Refusal.{Refusal}
use Rattle.lr_causes.specs.declared.note.Note.{Note}
use Rattle.lr_cmd_shelf.specs.declared.range.Range.{Range}
use Rattle.lr_cmd_shelf.specs.Queries.{Query, QueryOver, Answer, AnswersFrom, EntryView, query_over, then_rest}
use Rattle.lr_cmd_shelf.specs.Read.{AreSeen, entries_seen}

-- The entries before this number were read, and their texts are this text: wherever the range ends after them, and
-- whatever comes last.
pub record ReachesEntry (over : QueryOver) (from number : ℕ) (read : List EntryView) (text : List ℕ) : Type 0 where
  pub on : (last : Way → List EntryView → Result (List ℕ) Refusal) (tells : List EntryView → Option Note) (to : ℕ)
      → number ≤ to → (rest : Answer)
      → AnswersFrom (record over { query = record (over.query) { last = last; note = tells } }) (to - number) number
      read
      rest
      → AnswersFrom (record over { query = record (over.query) { last = last; note = tells } }) (to - from) from []
      (then_rest text rest)

-- a run over the entries of this range, and what it gathers of those that it read
pub record EntriesRun : Type 1 where
  pub query : Query
  pub way : Way
  pub range : Range
  pub gathers : List EntryView → Type 0

abbrev pub entries_run : Query → Way → Range → (List EntryView → Type 0) → EntriesRun
entries_run query way range gathers = record { query = query; way = way; range = range; gathers = gathers }

-- From this disk and `out` on, the entries before this number were read, and their texts put.
pub record SoFar {D O : Type 0} (world : OutletsOf D O) (run : EntriesRun) (w : Outlets D O) (number : ℕ) (o' : O)
    : Type 0 where
  pub read : List EntryView
  pub text : List ℕ
  pub gathered : run.gathers read
  pub few : length read ≤ number
  pub after : run.range.from ≤ number
  pub puts : Puts world.out text w.out o'
  pub untouched : number ≡ run.range.from → o' ≡ w.out
  pub reaches : world.disk.tells w.disk
      → ReachesEntry (query_over run.query (world.disk.contents w.disk) run.way) run.range.from number read text
  pub texts : List (List ℕ)
  pub joined : text ≡ concat texts
  pub all : length read ≡ number - run.range.from
  pub seen : AreSeen world.disk w.disk (entries_seen run.query run.way run.range.from read) texts
