-- Which entries of a shelf a run has read, over every disk, and what comes after them.
use Rattle.std.specs.Prelude.{◌≡◌, ◌⊎◌, ◌≤◌, ◌<◌, ◌+◌, ◌-◌, ℕ, Option, Some, Result, Ok, List, [], length, take}
use Rattle.std.specs.Prelude.{slice_get, slice_index_or}
use Rattle.lr_disk.specs.declared.disk.Disk.{Ghosts as DiskOf}
use Rattle.lr_shelf_format.specs.Way.{Way, IsWay}
use Rattle.lr_shelf_format.specs.declared.entry.Entry.{Entry}
use Rattle.lr_causes.specs.declared.cause.Refusal.{Refusal}
use Rattle.lr_cmd_shelf.specs.declared.range.Range.{Range}
use Rattle.lr_cmd_shelf.specs.Queries.{Query, QueryOn, Answer, AnswersOn, BegunBy, IsAnswer, IsBegun, IsSeen, IsSight}
use Rattle.lr_cmd_shelf.specs.Queries.{EntryView, Sight, entry_at, fate_of, query_over}

-- ---- what is asked

-- what bytes allow: these ways, answers, and texts that are begun
pub record Allowed : Type 1 where
  pub way : Way → Type 0
  pub answer : Answer → Type 0
  pub begin : (passed left : ℕ) → List ℕ → Type 0

-- of these bytes, and of those of a shelf of this way
abbrev pub allowed_by : Query → List ℕ → Allowed
allowed_by query bytes = record { way = IsWay bytes; answer = IsAnswer query bytes; begin = IsBegun query bytes }

abbrev pub allowed_on : QueryOn → List ℕ → Allowed
allowed_on on bytes = record {
  way = λ way. way ≡ on.way;
  answer = AnswersOn (query_over on.query bytes on.way);
  begin = BegunBy (query_over on.query bytes on.way);
}

-- what is asked, and what each list of bytes allows
pub record Reading : Type 1 where
  pub query : Query
  pub allowed : List ℕ → Allowed

abbrev pub reading_by : Query → Reading
reading_by query = record { query = query; allowed = allowed_by query }

abbrev pub reading_on : QueryOn → Reading
reading_on on = record { query = on.query; allowed = allowed_on on }

-- ---- what was read

-- entries that a query saw, from a number on
pub record EntriesSeen : Type 1 where
  pub query : Query
  pub way : Way
  pub from : ℕ
  pub read : List EntryView

abbrev pub entries_seen : Query → Way → ℕ → List EntryView → EntriesSeen
entries_seen query way from read = record { query = query; way = way; from = from; read = read }

-- over every disk; what stands on it is said where it tells its contents
module _ {D : Type 0} (disk : DiskOf D) (d : D) where
  -- this was seen at the entry: of an image what the command sees, and where the disk tells its contents what stands
  -- there
  pub record WasSeen (sees : Sight) (entry : Entry) (seen : Option EntryView) : Type 0 where
    pub sight : IsSight sees seen
    pub stands : disk.tells d → IsSeen sees (disk.contents d) entry seen

  -- these were seen, in their order, and these are their texts
  pub record AreSeen (seen : EntriesSeen) (texts : List (List ℕ)) : Type 0 where
    pub stand : (i : ℕ) → i < length seen.read
        → WasSeen seen.query.sees (entry_at seen.way (seen.from + i)) (slice_get seen.read i)
    pub count : length texts ≡ length seen.read
    pub become : (i : ℕ) (one : EntryView) → slice_get seen.read i ≡ Some one
        → seen.query.fate (take i seen.read) (seen.from + i) one ≡ Ok (slice_index_or texts i [])

  module _ (asked : Reading) where
    -- the first entries of the range, as they were seen, and their texts
    pub record EntriesTaken : Type 0 where
      pub way : Way
      pub is_way : disk.tells d → (asked.allowed (disk.contents d)).way way
      pub range : Range
      pub allowed : asked.query.range (length way.entries) ≡ Some range
      pub read : List EntryView
      pub few : length read ≤ range.to - range.from
      pub texts : List (List ℕ)
      pub are : AreSeen (entries_seen asked.query way range.from read) texts

    module _ (taken : EntriesTaken) where
      -- further entries of the range are left
      abbrev pub HasMore : Type 0
      HasMore = length taken.read < taken.range.to - taken.range.from

      -- this becomes of the next entry, as it was seen
      pub record NextBecomes (fate : Result (List ℕ) Refusal) : Type 0 where
        pub more : HasMore
        pub seen : Option EntryView
        pub was : WasSeen asked.query.sees (entry_at taken.way (taken.range.from + length taken.read)) seen
        pub is : fate_of asked.query taken.way taken.read (taken.range.from + length taken.read) seen ≡ fate

      -- all entries of the range were read, and this is the last text, or what is refused after them
      pub record LastBecomes (fate : Result (List ℕ) Refusal) : Type 0 where
        pub all : length taken.read ≡ taken.range.to - taken.range.from
        pub is : asked.query.last taken.way taken.read ≡ fate

      -- this comes after the entries that were read
      abbrev pub ThenBecomes : Result (List ℕ) Refusal → Type 0
      ThenBecomes fate = NextBecomes fate ⊎ LastBecomes fate
