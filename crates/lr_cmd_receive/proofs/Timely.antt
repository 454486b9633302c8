-- Of the outcomes of the bytes taken all but the last few are worked through.
use Rattle.std.proofs.Common.{◌≡◌, ◌≤◌, ◌+◌, ℕ, List, ◌++◌, map, length, take, drop, sym, ◌∙◌, ap, subst}
use Rattle.std.proofs.Common.{arith, append_assoc, length-append}
use Rattle.std.proofs.lemmas.List.{length-map, length-take, map-append, take-append-drop, take-map}
use Rattle.lr_bits.specs.declared.outcome.Outcome.{Outcome}
use Rattle.lr_causes.specs.Outside.{Outlets, OutletsOf, Outside, World, outlets, outlets_in, world_outlets}
use Rattle.lr_forms.specs.declared.forms.Input.{Input}
use Rattle.lr_layers.specs.Layers.{frames_of_outcomes}
use Rattle.lr_layers.proofs.GoingOn.{first_frames, go_on}
use Rattle.lr_io.specs.declared.source.Source.{Ghosts as SourceOf}
use Rattle.lr_reading.specs.Arrivals.{arrivals_of, outcomes_of_arrivals}
use Rattle.lr_reading.specs.Inputs.{outcomes_of_bytes}
use Rattle.lr_reading.specs.Readers.{HaveCome, leeway_for}
use Rattle.lr_reading.specs.Reading.{WhenLastAsked}
use Rattle.lr_reading.specs.Runs.{ComeInTime}
use Rattle.lr_reading.specs.declared.arrival.Arrival.{Arrival}
use Rattle.lr_reading.proofs.Asking.{when_too}
use Rattle.lr_reading.proofs.Coming.{come_within, outcomes_are, outcomes_counted}
use Rattle.lr_reading.proofs.Fronts.{front_of}
use Rattle.lr_shelf.specs.InitialShelves.{InitialShelf}
use Rattle.lr_vc.specs.Runs.{AreChannelFrames}
use Rattle.lr_cmd_receive.specs.Noted.{NotedFile, noted_of_outcomes, noted_where}
use Rattle.lr_cmd_receive.proofs.Noted.{noted_more}
use Rattle.lr_cmd_receive.specs.Receive.{AreInTime, AreWorked, PutsNoFileOff, ReceiveQuery, files_asked}
use Rattle.lr_cmd_receive.specs.Reception.{FewWait, FilesComeInTime, run_of}
use Rattle.lr_cmd_receive.specs.Shelving.{AreAcknowledged}
use Rattle.lr_cmd_receive.proofs.Acknowledging.{acknowledged_first}
use Rattle.lr_cmd_receive.proofs.FirstFiles.{all_frames_whole, files_first}

module _ {D O : Type 0} (world : OutletsOf D O) (initial : InitialShelf) (asked : ReceiveQuery)
    (bytes : List ℕ) (w w' : Outlets D O) (few : FewWait world (run_of asked initial bytes) w w') where
  -- the first outcomes, where no more of them are worked through
  pub acknowledged_front : (worked others : List Outcome) → outcomes_of_bytes asked.input bytes ≡ worked ++ others
      → length worked ≤ length few.worked
      → AreAcknowledged world initial (files_asked asked bytes)
      (noted_of_outcomes asked.mend worked) w w'
  acknowledged_front worked others split le =
      let between = drop (length worked) few.worked in
      let front = front_of worked others few.worked few.late (sym split ∙ few.split) le in
      let frames : AreChannelFrames (frames_of_outcomes few.worked) =
      first_frames few.worked few.late
      (subst (λ (l : List Outcome). AreChannelFrames (frames_of_outcomes l)) few.split
      (all_frames_whole asked.input bytes)) in
      let more = go_on asked.mend worked between
      (subst (λ (l : List Outcome). AreChannelFrames (frames_of_outcomes l)) (sym front) frames) in
      acknowledged_first world initial (noted_of_outcomes asked.mend worked)
      (map (noted_where asked.mend) more.more_marked)
      (subst (λ (l : List NotedFile). AreAcknowledged world initial
      (files_asked asked bytes) l w w')
      (ap (noted_of_outcomes asked.mend) (sym front)
      ∙ noted_more asked.mend worked between more.more_marked more.marked)
      few.acknowledged)

  front_worked : (count : ℕ) → count ≤ length few.worked
      → AreWorked world (run_of asked initial bytes) w w' bytes count
  front_worked count le =
      acknowledged_front (take count (outcomes_of_bytes asked.input bytes))
      (drop count (outcomes_of_bytes asked.input bytes))
      (sym (take-append-drop count (outcomes_of_bytes asked.input bytes)))
      (omega (arith, length-take count (outcomes_of_bytes asked.input bytes), le))

  -- and where that many come after them
  pub acknowledged_before : (count : ℕ)
      → HaveCome asked.input 0 bytes (count + (leeway_for asked.input asked.workers).at_end)
      → AreWorked world (run_of asked initial bytes) w w' bytes count
  acknowledged_before count come = front_worked count (omega (
    arith,
    come_within asked.input 0 bytes (count + (leeway_for asked.input asked.workers).at_end) come,
    outcomes_counted asked.input bytes,
    ap (λ (l : List Outcome). length l) few.split,
    length-append few.worked few.late,
    few.few,
  ))

  -- and where as many symbols or bytes follow as `ahead` says
  pub acknowledged_long : (count : ℕ) → HaveCome asked.input (leeway_for asked.input asked.workers).ahead bytes count
      → AreWorked world (run_of asked initial bytes) w w' bytes count
  acknowledged_long count come = front_worked count (few.close count come)

-- ---- when the source was last asked

-- the first outcomes are those of the first arrivals
outcomes_first : (input : Input) (bytes : List ℕ) (count : ℕ)
    → outcomes_of_arrivals (take count (arrivals_of input bytes)) ≡ take count (outcomes_of_bytes input bytes)
outcomes_first input bytes count = sym (take-map (λ (a : Arrival). a.outcome) count (arrivals_of input bytes))
    ∙ ap (take count) (sym (outcomes_are input bytes))

module _ {S : Type 0} (source : SourceOf S) (asked : ReceiveQuery) (bytes : List ℕ)
    (s s' : S) where
  -- the files of what had been taken then come first
  pub all_come_first : WhenLastAsked source
      (ComeInTime asked.input (leeway_for asked.input asked.workers) 0 (arrivals_of asked.input bytes)) bytes s s'
      → WhenLastAsked source (FilesComeInTime asked (files_asked asked bytes)) bytes s s'
  all_come_first = when_too source
      (ComeInTime asked.input (leeway_for asked.input asked.workers) 0 (arrivals_of asked.input bytes))
      (FilesComeInTime asked (files_asked asked bytes)) bytes s s' come
    where
      come : (given : List ℕ) (pieces : List (List ℕ))
          → ComeInTime asked.input (leeway_for asked.input asked.workers) 0 (arrivals_of asked.input bytes) given pieces
          → FilesComeInTime asked (files_asked asked bytes) given pieces
      come given pieces due count few wait have =
          let then = due count few wait have in
          let files = files_first asked.mend asked.input bytes (take count (arrivals_of asked.input given)) then.0
          then.1 in (
            files.0,
            files.1 ∙ ap (λ (l : List Outcome). noted_of_outcomes asked.mend l ++ files.0)
                (outcomes_first asked.input given count),
          )

  module _ {D O : Type 0} (world : OutletsOf D O) (initial : InitialShelf) (w w' : Outlets D O) where
    -- they are acknowledged, where all files are
    pub all_in_time : AreAcknowledged world initial (files_asked asked bytes)
        (files_asked asked bytes) w w'
        → WhenLastAsked source (FilesComeInTime asked (files_asked asked bytes)) bytes s s'
        → WhenLastAsked source (AreInTime world (run_of asked initial bytes) w w')
        bytes s s'
    all_in_time all = when_too source (FilesComeInTime asked (files_asked asked bytes))
        (AreInTime world (run_of asked initial bytes) w w') bytes s s' known
      where
        known : (given : List ℕ) (pieces : List (List ℕ))
            → FilesComeInTime asked (files_asked asked bytes) given pieces
            → AreInTime world (run_of asked initial bytes) w w' given pieces
        known given pieces due count few wait have =
            let first = due count few wait have in
            acknowledged_first world initial (noted_of_outcomes asked.mend (take count
            (outcomes_of_bytes asked.input given))) first.0
            (subst (λ (l : List NotedFile). AreAcknowledged world initial
            (files_asked asked bytes) l w
            w') first.1 all)

    -- and where those of all arrivals passed are, but for the last one
    module _ (passed rest done late : List Arrival) (split : arrivals_of asked.input bytes ≡ passed ++ rest)
        (parts : passed ≡ done ++ late) (one : length late ≤ 1)
        (few_wait : FewWait world (run_of asked initial bytes) w w')
        (is : few_wait.worked ≡ outcomes_of_arrivals done) where
      known_before : (given : List ℕ) (pieces : List (List ℕ))
          → ComeInTime asked.input (leeway_for asked.input asked.workers) 1 passed given pieces
          → AreInTime world (run_of asked initial bytes) w w' given pieces
      known_before given pieces due count few wait have =
          let first : List Arrival = take count (arrivals_of asked.input given) in
          let then = due count few wait have in
          let all : outcomes_of_bytes asked.input bytes
          ≡ take count (outcomes_of_bytes asked.input given) ++ outcomes_of_arrivals (then.0 ++ rest) =
          outcomes_are asked.input bytes ∙ ap outcomes_of_arrivals (split ∙ ap (λ (l : List Arrival). l ++ rest) then.1
          ∙ append_assoc first then.0 rest) ∙ map-append (λ (a : Arrival). a.outcome) first (then.0 ++ rest)
          ∙ ap (λ (l : List Outcome). l ++ outcomes_of_arrivals (then.0 ++ rest))
          (outcomes_first asked.input given count) in
          acknowledged_front world initial asked bytes w w' few_wait
          (take count (outcomes_of_bytes asked.input given)) (outcomes_of_arrivals (then.0 ++ rest)) all (omega (
            arith,
            ap (λ (l : List Outcome). length l) (outcomes_first asked.input given count),
            length-map first (λ (a : Arrival). a.outcome),
            ap (λ (l : List Outcome). length l) is,
            length-map done (λ (a : Arrival). a.outcome),
            ap (λ (l : List Arrival). length l) (sym parts ∙ then.1),
            length-append done late,
            length-append first then.0,
            then.2,
            one,
          ))

      pub worked_in_time : WhenLastAsked source
          (ComeInTime asked.input (leeway_for asked.input asked.workers) 1 passed) bytes s s'
          → WhenLastAsked source (AreInTime world (run_of asked initial bytes) w w')
          bytes s s'
      worked_in_time = when_too source (ComeInTime asked.input (leeway_for asked.input asked.workers) 1 passed)
          (AreInTime world (run_of asked initial bytes) w w') bytes s s'
          known_before

-- ---- both

-- whatever the disk was before
module _ {S D O : Type 0} (world : World S D O) (asked : ReceiveQuery)
    (initial : InitialShelf) (bytes : List ℕ) (w w' : Outside S D O) (d : D) where
  from_there : {first files : List NotedFile}
      → AreAcknowledged (world_outlets world) initial files first (outlets d w.out) (outlets_in w')
      → AreAcknowledged (world_outlets world) initial files first (outlets_in w) (outlets_in w')
  from_there known =
      record { others = known.others; split = known.split; held = known.held; told = known.told }

  pub none_put_off : FewWait (world_outlets world) (run_of asked initial bytes)
      (outlets d w.out) (outlets_in w')
      → WhenLastAsked world.source (AreInTime (world_outlets world) (run_of asked initial bytes)
      (outlets d w.out) (outlets_in w')) bytes w.source w'.source
      → PutsNoFileOff world (run_of asked initial bytes) w w'
  none_put_off few in_time =
      record {
        timely = λ count come. from_there (acknowledged_before (world_outlets world) initial asked bytes
            (outlets d w.out) (outlets_in w') few count come);
        timely_in_bytes = λ count come. from_there (acknowledged_long
            (world_outlets world) initial asked bytes
            (outlets d w.out) (outlets_in w') few count come);
        in_time = when_too world.source
            (AreInTime (world_outlets world) (run_of asked initial bytes) (outlets d w.out)
            (outlets_in w'))
            (AreInTime (world_outlets world) (run_of asked initial bytes) (outlets_in w)
            (outlets_in w'))
            bytes w.source w'.source
            (λ given pieces due count few wait have. from_there (due count few wait have)) in_time;
      }
