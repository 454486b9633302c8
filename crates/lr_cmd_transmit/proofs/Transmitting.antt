-- What becomes of one file, and what all files put.
use Rattle.std.proofs.Common.{◌≡◌, ℕ, zero, suc, ◌+◌, ◌-◌, ◌<◌, ◌≤◌, ◌&&◌, Bool, true, false, cond, nat_le}
use Rattle.std.proofs.Common.{Option, Some, None, Result, Ok, Err, IfErr, OnErr, List, [], ◌∷◌, ◌++◌, length}
use Rattle.std.proofs.Common.{take, drop, get_or, slice_get, refl, sym, ap, ◌∙◌, subst, arith, append-nil}
use Rattle.std.proofs.Common.{eq-eqb, ne_eqb, inl, inr, drop_at, add-one}
use Rattle.std.specs.List.{concat}
use Rattle.std.proofs.lemmas.Bool.{cases_eq}
use Rattle.std.proofs.lemmas.List.{length-map, length-take-le, map-append, take_all, take_more}
use Rattle.std.proofs.lemmas.Option.{slice_get-get_or}
use Rattle.lr_bits.specs.File.{File}
use Rattle.lr_bits.specs.declared.sizes.TheConstants.{FILL_CHANNEL}
use Rattle.lr_conv.specs.declared.line.LineCode.{LineCode}
use Rattle.lr_io.specs.declared.sink.Sink.{Ghosts as SinkOf}
use Rattle.lr_frame.specs.Outcomes.{outcomes_of_symbols}
use Rattle.lr_lock.specs.Symbols.{symbols_of}
use Rattle.lr_sent.specs.Sent.{AreSentFor, bits_of_blocks, symbols_of_blocks}
use Rattle.lr_sent.proofs.SymbolsBack.{symbols_back}
use Rattle.lr_shelf_format.specs.Way.{Way}
use Rattle.lr_causes.specs.declared.cause.Cause.{Cause}
use Rattle.lr_causes.specs.declared.cause.Cause.TheVariants.{Done, DoneWith, Failed}
use Rattle.lr_causes.specs.declared.cause.Party.TheVariants.{Output}
use Rattle.lr_causes.specs.declared.cause.Refusal.TheVariants.{CannotSend, BadChecksum}
use Rattle.lr_causes.specs.declared.note.Note.{Note}
use Rattle.lr_causes.specs.Outside.{Outlets, OutletsOf}
use Rattle.lr_causes.specs.Puts.{Puts, PutFails}
use Rattle.lr_disk.specs.declared.disk.Disk.{Ghosts as DiskOf}
use Rattle.lr_cmd_shelf.specs.declared.opened.Opened.{Opened}
use Rattle.lr_cmd_shelf.specs.declared.range.Range.{Range}
use Rattle.lr_cmd_shelf.specs.Queries.{Query, IsSeen, EntryView, Whole, Wrong, Absent, entry_at, no_image}
use Rattle.lr_cmd_shelf.specs.Files.{files_of}
use Rattle.lr_cmd_shelf.specs.Read.{AreSeen, entries_seen, reading_by}
use Rattle.lr_cmd_shelf.specs.Runs.{GathersOver, TakesAll}
use Rattle.lr_cmd_shelf.specs.Steps.{PutsText, TextStops}
use Rattle.lr_cmd_shelf.proofs.Filing.{files_of-absent, files_of-whole}
use Rattle.lr_cmd_shelf.proofs.Reading.{concat-push}
use Rattle.lr_uplink.specs.declared.uplink.Uplink.{Uplink}
use Rattle.lr_uplink.specs.Received.{AreFilesOf}
use Rattle.lr_uplink.specs.Sent.{file_frames, sent}
use Rattle.lr_uplink.specs.Standing.{UplinkStandsFor, with_file}
use Rattle.lr_uplink.proofs.Receiving.{sent_files_are_received}
use Rattle.lr_uplink.proofs.UnderWay.{frames_stay, sent-more}
use Rattle.lr_cmd_transmit.specs.Received.{AreFilesBetween, IsTransmitted, Transmits}
use Rattle.lr_cmd_transmit.specs.Standing.{HasSent, IsUplinkAt, history_at, rest_bytes}
use Rattle.lr_cmd_transmit.specs.Transmit.{added_bytes, sent_entry_text, block_for, blocks_for}
use Rattle.lr_cmd_transmit.specs.Transmit.{files_read, frame_bytes, sending}
use Rattle.lr_cmd_transmit.specs.Transmit.{sent_bytes, transmit_query}
use Rattle.lr_cmd_transmit.proofs.Sending.{frames-front}

ok_same : {A B : Type 0} (a b : A) → ◌≡◌ {A = Result A B} (Ok a) (Ok b) → a ≡ b
ok_same a b is = cc (is)

err_or_ok : {A B : Type 0} (e : B) (a : A) → ◌≡◌ {A = Result A B} (Err e) (Ok a) → ⊥
err_or_ok e a is = cc (is)

-- ---- one file

module _ (line : LineCode) (wrong : ℕ) (files : List File) (file : File) where
  pub fate_sent : (file.vc ≡ FILL_CHANNEL → ⊥)
      → sent_entry_text line wrong files file ≡ Ok (added_bytes line wrong files file)
  fate_sent other =
      ap (λ b. cond b (Err CannotSend) (Ok (added_bytes line wrong files file))) (ne_eqb file.vc FILL_CHANNEL other)

  pub fate_fill : file.vc ≡ FILL_CHANNEL → sent_entry_text line wrong files file ≡ Err CannotSend
  fate_fill fill =
      ap (λ b. cond b (Err CannotSend) (Ok (added_bytes line wrong files file))) (eq-eqb file.vc FILL_CHANNEL fill)

  -- where it became a text, that is what it adds
  pub added_is : (text : List ℕ) → sent_entry_text line wrong files file ≡ Ok text
      → text ≡ added_bytes line wrong files file
  added_is text is = elim (cases_eq file.vc FILL_CHANNEL) [
    | inl fill ↦ absurd (err_or_ok CannotSend text (sym (fate_fill fill) ∙ is))
    | inr other ↦ ok_same text (added_bytes line wrong files file) (sym is ∙ fate_sent other)
  ]

  abbrev all : ℕ
  all = length (sent files)

  front : take all (sent (files ++ file ∷ [])) ≡ sent files
  front = frames_stay files file all (omega arith) ∙ take_all all (sent files) (omega arith)

  -- a file that was loaded is the next to be sent
  pub loaded_at : (uplink : Uplink) → UplinkStandsFor uplink line (with_file (history_at wrong files all) file)
      → IsUplinkAt line wrong (files ++ file ∷ []) all uplink
  loaded_at uplink stands =
      let same : take all (sent files) ≡ take all (sent (files ++ file ∷ [])) =
      sym (frames_stay files file all (omega arith)) in
      subst (λ (fs : List (List ℕ)). UplinkStandsFor uplink line (record {
        files = files ++ file ∷ [];
        given = all;
        blocks = blocks_for wrong fs;
      })) same stands

  pub rest_is : rest_bytes line wrong (files ++ file ∷ []) all ≡ added_bytes line wrong files file
  rest_is =
      ap (λ fs. drop (length (frame_bytes line wrong fs)) (sent_bytes line wrong (files ++ file ∷ []))) front

  -- what it adds stands after what the files before it are sent as
  pub adds : sent_bytes line wrong (files ++ file ∷ [])
      ≡ sent_bytes line wrong files ++ added_bytes line wrong files file
  adds =
      let more = frames-front line wrong (sent files) (file_frames files file) in
      let whole : sent_bytes line wrong (files ++ file ∷ []) ≡ sent_bytes line wrong files ++ more.0 =
      ap (frame_bytes line wrong) (sent-more files file) ∙ more.1 in
      let rest : added_bytes line wrong files file ≡ more.0 =
      ap (drop (length (sent_bytes line wrong files))) whole
      ∙ drop_at (sent_bytes line wrong files) more.0 (length (sent_bytes line wrong files)) refl in
      whole ∙ ap (λ l. sent_bytes line wrong files ++ l) (sym rest)

  module _ {O : Type 0} (out : SinkOf O) (o o' : O) where
    pub puts_file : (file.vc ≡ FILL_CHANNEL → ⊥) → Puts out (rest_bytes line wrong (files ++ file ∷ []) all) o o'
        → PutsText out (sent_entry_text line wrong files file) o o'
    puts_file other puts = record {
      text = added_bytes line wrong files file;
      is = fate_sent other;
      puts = subst (λ l. Puts out l o o') rest_is puts;
    }

    pub stops_file : (file.vc ≡ FILL_CHANNEL → ⊥) → (cause : Cause) → cause ≡ Failed Output
        → PutFails out (rest_bytes line wrong (files ++ file ∷ []) all) o o'
        → 0 < length (rest_bytes line wrong (files ++ file ∷ []) all)
        → TextStops out (sent_entry_text line wrong files file) cause o o'
    stops_file other cause is fails some =
        subst (λ c. TextStops out (sent_entry_text line wrong files file) c o o') (sym is) (record {
          text = added_bytes line wrong files file;
          is = fate_sent other;
          some = subst (λ l. 0 < length l) rest_is some;
          fails = subst (λ l. PutFails out l o o') rest_is fails;
        })

-- both of a refusal
pub on_stop : {T : Type 0} {P Q : Cause → Type 0} {A B : Type 0} (r : Result T Cause)
    → ((c : Cause) → P c → A → B → Q c) → IfErr r P → OnErr r A → OnErr r B → IfErr r Q
on_stop (Ok v) f p a b = tt
on_stop (Err c) f p a b = f c p a b

-- ---- all files

nothing_coded : (marks inverted : Bool) (wrong : ℕ)
    → sent_bytes (record { marks = marks; inverted = inverted }) wrong [] ≡ []
unfolding frame_bytes sent symbols_of_blocks bits_of_blocks
nothing_coded true inverted wrong = refl
nothing_coded false inverted wrong = refl

nothing_sent : (line : LineCode) (wrong : ℕ) → sent_bytes line wrong [] ≡ []
nothing_sent line wrong = nothing_coded line.marks line.inverted wrong

module _ {D : Type 0} (disk : DiskOf D) (d : D) (line : LineCode) (wrong from : ℕ) (to : ℕ) (way : Way) (start : ℕ)
    (read : List EntryView) (texts : List (List ℕ))
    (are : AreSeen disk d (entries_seen (transmit_query (sending from to wrong line)) way start read) texts) where
  -- the files of the first entries
  abbrev first_files : ℕ → List File
  first_files n = files_read (files_of (take n read))

  abbrev first_texts : ℕ → List ℕ
  first_texts n = concat (take n texts)

  -- one entry more, by what was seen there
  one_more : (n : ℕ) (seen : EntryView) → slice_get read n ≡ Some seen
      → take (n + 1) read ≡ take n read ++ seen ∷ [] → first_texts n ≡ sent_bytes line wrong (first_files n)
      → first_texts n ++ get_or texts n [] ≡ sent_bytes line wrong (first_files (n + 1))
  one_more n (Whole opened) is more so =
      let before = first_files n in
      let file = opened.stored.file in
      let text : get_or texts n [] ≡ added_bytes line wrong before file =
      added_is line wrong before file (get_or texts n []) (are.become n (Whole opened) is) in
      let now : first_files (n + 1) ≡ before ++ file ∷ [] =
      ap (λ l. files_read (files_of l)) more ∙ ap files_read (files_of-whole (take n read) opened)
      ∙ map-append (λ (o : Opened). o.stored.file) (files_of (take n read)) (opened ∷ []) in
      ap (λ l. l ++ get_or texts n []) so ∙ ap (λ l. sent_bytes line wrong before ++ l) text
      ∙ sym (adds line wrong before file) ∙ ap (sent_bytes line wrong) (sym now)
  one_more n (Wrong stored computed) is more so =
      absurd (err_or_ok BadChecksum (get_or texts n []) (are.become n (Wrong stored computed) is))
  one_more n Absent is more so =
      let none : get_or texts n [] ≡ [] = sym (ok_same [] (get_or texts n []) (are.become n Absent is)) in
      let now : first_files (n + 1) ≡ first_files n =
      ap (λ l. files_read (files_of l)) more ∙ ap files_read (files_of-absent (take n read)) in
      ap (λ l. first_texts n ++ l) none ∙ append-nil (first_texts n) ∙ so ∙ ap (sent_bytes line wrong) (sym now)

  sums : (n : ℕ) → n ≤ length read → first_texts n ≡ sent_bytes line wrong (first_files n)
  sums zero inside = sym (nothing_sent line wrong)
  sums (suc n) inside =
      let seen : EntryView = get_or read n Absent in
      let is : slice_get read n ≡ Some seen = slice_get-get_or read n Absent (omega (arith, inside)) in
      let more : take (n + 1) read ≡ take n read ++ seen ∷ [] = take_more read n Absent (omega (arith, inside)) in
      let joined : first_texts (n + 1) ≡ first_texts n ++ get_or texts n [] =
      ap concat (take_more texts n [] (omega (arith, inside, are.count)))
      ∙ concat-push (take n texts) (get_or texts n []) in
      ap first_texts (sym (add-one n)) ∙ joined ∙ one_more n seen is more (sums n (omega (arith, inside)))
      ∙ ap (λ k. sent_bytes line wrong (first_files k)) (add-one n)

  pub all_texts : concat texts ≡ sent_bytes line wrong (files_read (files_of read))
  all_texts =
      let n = length read in
      ap concat (sym (take_all n texts (omega (arith, are.count)))) ∙ sums n (omega arith)
      ∙ ap (λ l. sent_bytes line wrong (files_read (files_of l))) (take_all n read (omega arith))

  pub none_wrong : (i stored computed : ℕ) → slice_get read i ≡ Some (Wrong stored computed) → ⊥
  none_wrong i stored computed is =
      err_or_ok BadChecksum (get_or texts i []) (are.become i (Wrong stored computed) is)

-- the range is the one that was asked for
some_range : (from to count : ℕ) (b : Bool) (range : Range)
    → cond b (Some (record { from = from; to = to })) None ≡ Some range
    → (range.from ≡ from) × (range.to ≡ to)
some_range from to count true range is =
    let same : ◌≡◌ {A = Range} (record { from = from; to = to }) range = cc (is) in
    (ap (λ (r : Range). r.from) (sym same), ap (λ (r : Range). r.to) (sym same))
some_range from to count false range is = absurd (no_range is) where
  no_range : ◌≡◌ {A = Option Range} None (Some range) → ⊥
  no_range same = cc (same)

-- a reader of what files are sent as finds the symbols of their blocks
symbols_read : (line : LineCode) (wrong : ℕ) (files : List File)
    → symbols_of (sent_bytes line wrong files) ≡ symbols_of_blocks line (blocks_for wrong (sent files))
unfolding frame_bytes
symbols_read line wrong files = symbols_back line (blocks_for wrong (sent files))

-- files by what was seen
file_first : (bytes : List ℕ) (way : Way) (left number : ℕ) (read : List EntryView) (seen : EntryView)
    → AreFilesBetween bytes way left (number + 1) (files_read (files_of read))
    → IsSeen no_image bytes (entry_at way number) (Some seen)
    → ((stored computed : ℕ) → seen ≡ Wrong stored computed → ⊥)
    → AreFilesBetween bytes way (suc left) number (files_read (files_of (seen ∷ read)))
file_first bytes way left number read (Whole opened) rest is right = inr (record {
  stored = opened.stored;
  found = is.0;
  others = files_read (files_of read);
  are_others = rest;
  joined = refl;
})
file_first bytes way left number read (Wrong stored computed) rest is right = absurd (right stored computed refl)
file_first bytes way left number read Absent rest is right = inl (is, rest)

files_between : (bytes : List ℕ) (way : Way) (left number : ℕ) (read : List EntryView) → length read ≡ left
    → ((i : ℕ) → i < length read → IsSeen no_image bytes (entry_at way (number + i)) (slice_get read i))
    → ((i stored computed : ℕ) → slice_get read i ≡ Some (Wrong stored computed) → ⊥)
    → AreFilesBetween bytes way left number (files_read (files_of read))
files_between bytes way zero number [] all stand sound = refl
files_between bytes way (suc left) number [] all stand sound = absurd (omega (arith, all))
files_between bytes way zero number (seen ∷ read) all stand sound = absurd (omega (arith, all))
files_between bytes way (suc left) number (seen ∷ read) all stand sound =
    file_first bytes way left number read seen
    (files_between bytes way left (number + 1) read (omega (arith, all))
    (λ i h. subst (λ n. IsSeen no_image bytes (entry_at way n) (slice_get read i)) (omega arith)
    (stand (suc i) (omega (arith, h))))
    (λ i stored computed is. sound (suc i) stored computed is))
    (subst (λ n. IsSeen no_image bytes (entry_at way n) (Some seen)) (omega arith) (stand 0 (omega arith)))
    (λ stored computed is. sound 0 stored computed (ap Some is))

module _ {D O : Type 0} (world : OutletsOf D O) (line : LineCode) (from to wrong : ℕ) (w w' : Outlets D O) where
  abbrev query : Query
  query = transmit_query (sending from to wrong line)

  abbrev gathers : Uplink → List EntryView → Type 0
  gathers uplink read = HasSent line wrong (files_read (files_of read)) uplink

  transmitted : (note : Option Note) (all : TakesAll world (reading_by query) w w' note) (uplink : Uplink)
      → gathers uplink all.taken.read → world.out.tells w.out → IsTransmitted world (sending from to wrong line) w w'
  transmitted note all uplink knows told =
      let taken = all.taken in
      let way = taken.way in
      let files : List File = files_read (files_of taken.read) in
      let between = some_range from to (length way.entries) (nat_le from to && nat_le to (length way.entries))
      taken.range
      taken.allowed in
      let start : taken.range.from ≡ from = between.0 in
      let none : all.last ≡ [] = sym (ok_same [] all.last all.ends.is) in
      let n : ℕ = length (sent files) in
      let same : take n (sent files) ≡ sent files = take_all n (sent files) (omega arith) in
      let blocks = blocks_for wrong (take n (sent files)) in
      let whole : take (length blocks) (sent files) ≡ sent files =
      ap (λ k. take k (sent files)) (length-map (take n (sent files)) (block_for wrong)
      ∙ length-take-le n (sent files) (omega arith)) ∙ same in
      let sent_for : AreSentFor (sent files) (blocks_for wrong (sent files)) =
      subst (λ fs. AreSentFor fs (blocks_for wrong (sent files))) whole
      (subst (λ fs. AreSentFor (take (length blocks) (sent files)) (blocks_for wrong fs)) same knows.blocks) in
      let put : List ℕ = concat taken.texts ++ all.last in
      let put_is : put ≡ sent_bytes line wrong files =
      ap (λ l. concat taken.texts ++ l) none ∙ append-nil (concat taken.texts)
      ∙ all_texts world.disk w.disk line wrong from to way taken.range.from taken.read taken.texts taken.are in
      record {
        put = put;
        got = all.put told;
        files = files;
        sent_as = put_is;
        received =
            subst (λ symbols. AreFilesOf (outcomes_of_symbols line symbols) files)
            (sym (ap symbols_of put_is ∙ symbols_read line wrong files))
            (sent_files_are_received line files (blocks_for wrong (sent files)) knows.files sent_for);
        are = λ t. (
          way,
          taken.is_way t,
          files_between (world.disk.contents w.disk) way (to - from) from taken.read
              (omega (arith, all.ends.all, between.0, between.1))
              (λ i h. subst (λ k. IsSeen no_image (world.disk.contents w.disk) (entry_at way (k + i))
              (slice_get taken.read i)) start ((taken.are.stand i h).stands t))
              (none_wrong world.disk w.disk line wrong from to way taken.range.from taken.read taken.texts taken.are),
        );
      }

  pub transmits : (cause : Cause) → GathersOver world gathers cause w w' query
      → Transmits world (sending from to wrong line) cause w w'
  transmits Done over done told = transmitted None over.runs.runs.takes over.gathered.0 over.gathered.1 told
  transmits (DoneWith note) over done told =
      transmitted (Some note) over.runs.runs.takes over.gathered.0 over.gathered.1 told
  transmits _ over done told = absurd done
