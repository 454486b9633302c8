-- Files stay acknowledged where shelving stops after them.
use Rattle.std.proofs.Common.{◌≡◌, inl, inr, ℕ, ◌+◌, ◌≤◌, List, [], ◌∷◌, ◌++◌, length, refl, sym}
use Rattle.std.proofs.Common.{◌∙◌, ap, subst, arith, append_assoc, append-nil, length-append}
use Rattle.lr_bits.specs.declared.placed.Placed.{Placed}
use Rattle.lr_causes.specs.Outside.{Outlets, OutletsOf}
use Rattle.lr_reading.specs.Inputs.{outcomes_of_bytes}
use Rattle.lr_reading.specs.Readers.{leeway_for}
use Rattle.lr_reading.proofs.Coming.{come_within, outcomes_counted}
use Rattle.lr_shelf.specs.InitialShelves.{InitialShelf, HoldsStill, StandsForPrefix, StandsWith}
use Rattle.lr_shelf.specs.InitialShelves.{StandsWithEither}
use Rattle.lr_shelf.proofs.InitialPrefixes.{front_more}
use Rattle.lr_cmd_receive.specs.Inputs.{files_of_bytes}
use Rattle.lr_cmd_receive.specs.Noted.{NotedFile, placed_files}
use Rattle.lr_cmd_receive.proofs.Noted.{length-placed, placed-append}
use Rattle.lr_cmd_receive.specs.Reception.{FewWait, run_of}
use Rattle.lr_cmd_receive.specs.Receive.{ReceiveQuery, files_asked}
use Rattle.lr_cmd_receive.specs.Shelving.{AreAcknowledged, shelved_lines}
use Rattle.lr_cmd_receive.proofs.ShelvedLines.{shelved_lines-append}

module _ {D O : Type 0} (world : OutletsOf D O) (initial : InitialShelf) where
  -- they stand there still
  pub still_acknowledged : (first others : List NotedFile) (w w' : Outlets D O)
      → HoldsStill initial (placed_files first) world.disk w'.disk
      → (world.out.tells w.out → (text : List ℕ) × (world.out.contents w'.out
      ≡ world.out.contents w.out ++ (shelved_lines (length initial.way.entries) first ++ text)))
      → AreAcknowledged world initial (first ++ others) first w w'
  still_acknowledged first others w w' durable told = record {
    others = others;
    split = refl;
    held = record {
      contents = record {
        first = placed_files first;
        rest = placed_files others;
        split = placed-append first others;
        enough = omega (arith, length-placed first);
        stands = durable.stands;
      };
      images = λ c image. record {
        first = placed_files first;
        rest = placed_files others;
        split = placed-append first others;
        enough = omega (arith, length-placed first);
        stands = subst (StandsWith initial (placed_files first)) (sym (durable.durable c image)) durable.stands;
      };
    };
    told = told;
  }

  either_front : (done : List NotedFile) (noted : NotedFile) (bytes : List ℕ)
      → StandsWithEither initial (placed_files done) noted.placed bytes
      → StandsForPrefix initial (placed_files (done ++ noted ∷ [])) (length done) bytes
  either_front done noted bytes (inl s) = record {
    first = placed_files done;
    rest = noted.placed ∷ [];
    split = placed-append done (noted ∷ []);
    enough = omega (arith, length-placed done);
    stands = s;
  }
  either_front done noted bytes (inr s) = record {
    first = placed_files done ++ noted.placed ∷ [];
    rest = [];
    split = placed-append done (noted ∷ []) ∙ sym (append-nil (placed_files done ++ noted.placed ∷ []));
    enough = omega (arith, length-placed done, length-append (placed_files done) (noted.placed ∷ []));
    stands = s;
  }

  -- one file more may stand there
  pub either_acknowledged : (done : List NotedFile) (noted : NotedFile) (w w' : Outlets D O)
      → StandsWithEither initial (placed_files done) noted.placed (world.disk.contents w'.disk)
      → ((c : List ℕ) → world.disk.may_leave w'.disk c
      → StandsWithEither initial (placed_files done) noted.placed c)
      → (world.out.tells w.out → (text : List ℕ) × (world.out.contents w'.out
      ≡ world.out.contents w.out ++ (shelved_lines (length initial.way.entries) done ++ text)))
      → AreAcknowledged world initial (done ++ noted ∷ []) done w w'
  either_acknowledged done noted w w' now left told = record {
    others = noted ∷ [];
    split = refl;
    held = record {
      contents = either_front done noted (world.disk.contents w'.disk) now;
      images = λ c image. either_front done noted c (left c image);
    };
    told = told;
  }

  -- their lines were put, and nothing else
  pub lines_alone : (first : List NotedFile) (w w' : Outlets D O)
      → (world.out.tells w.out
      → world.out.contents w'.out ≡ world.out.contents w.out ++ shelved_lines (length initial.way.entries) first)
      → world.out.tells w.out → (text : List ℕ) × (world.out.contents w'.out
      ≡ world.out.contents w.out ++ (shelved_lines (length initial.way.entries) first ++ text))
  lines_alone first w w' put t = (
    [],
    put t ∙ ap (λ (l : List ℕ). world.out.contents w.out ++ l)
        (sym (append-nil (shelved_lines (length initial.way.entries) first))),
  )

  fewer : (n m : ℕ) (files : List Placed) (bytes : List ℕ) → n ≤ m → StandsForPrefix initial files m bytes
      → StandsForPrefix initial files n bytes
  fewer n m files bytes le s = record {
    first = s.first;
    rest = s.rest;
    split = s.split;
    enough = omega (arith, le, s.enough);
    stands = s.stands;
  }

  module _ {w w' : Outlets D O} where
    -- files that are still to come
    pub acknowledged_more : {first files : List NotedFile} (more : List NotedFile)
        → AreAcknowledged world initial files first w w'
        → AreAcknowledged world initial (files ++ more) first w w'
    acknowledged_more {first} {files} more known = record {
      others = known.others ++ more;
      split = ap (λ (l : List NotedFile). l ++ more) known.split ∙ append_assoc first known.others more;
      held = record {
        contents = front (world.disk.contents w'.disk) known.held.contents;
        images = λ c image. front c (known.held.images c image);
      };
      told = known.told;
    }
      where
        front : (bytes : List ℕ) → StandsForPrefix initial (placed_files files) (length first) bytes
            → StandsForPrefix initial (placed_files (files ++ more)) (length first) bytes
        front bytes s =
            subst (λ (l : List Placed). StandsForPrefix initial l (length first) bytes) (sym (placed-append files more))
            (front_more initial (placed_files files) (placed_files more) (length first) bytes s)

    -- the first ones of them
    pub acknowledged_first : (first others : List NotedFile) {files : List NotedFile}
        → AreAcknowledged world initial files (first ++ others) w w'
        → AreAcknowledged world initial files first w w'
    acknowledged_first first others {files} known =
        let le : length first ≤ length (first ++ others) = omega (arith, length-append first others) in
        let lines = shelved_lines (length initial.way.entries) first in
        let more = shelved_lines (length initial.way.entries + length first) others in
        record {
          others = others ++ known.others;
          split = known.split ∙ append_assoc first others known.others;
          held = record {
            contents = fewer (length first) (length (first ++ others)) (placed_files files)
                (world.disk.contents w'.disk) le
                known.held.contents;
            images = λ c image. fewer (length first) (length (first ++ others)) (placed_files files) c le
                (known.held.images c image);
          };
          told = λ t.
              let told = known.told t in (
                more ++ told.0,
                told.1 ∙ ap (λ (l : List ℕ). world.out.contents w.out ++ l)
                    (ap (λ (l : List ℕ). l ++ told.0) (shelved_lines-append (length initial.way.entries) first others)
                    ∙ append_assoc lines more told.0),
              );
        }

  -- all files are acknowledged
  pub all_acknowledged : (files : List NotedFile) (w w' : Outlets D O) → HoldsStill initial
      (placed_files files) world.disk w'.disk
      → (world.out.tells w.out → (text : List ℕ) × (world.out.contents w'.out
      ≡ world.out.contents w.out ++ (shelved_lines (length initial.way.entries) files ++ text)))
      → AreAcknowledged world initial files files w w'
  all_acknowledged files w w' durable told =
      subst (λ (l : List NotedFile). AreAcknowledged world initial l files w w') (append-nil files)
      (still_acknowledged files [] w w' durable told)

  -- all is worked through
  pub all_worked : (asked : ReceiveQuery) (bytes : List ℕ) (w w' : Outlets D O)
      → HoldsStill initial (placed_files (files_asked asked bytes)) world.disk w'.disk
      → (world.out.tells w.out → (text : List ℕ) × (world.out.contents w'.out
      ≡ world.out.contents w.out ++ (shelved_lines (length initial.way.entries) (files_asked asked bytes) ++ text)))
      → FewWait world (run_of asked initial bytes) w w'
  unfolding files_of_bytes
  all_worked asked bytes w w' durable told = record {
    worked = outcomes_of_bytes asked.input bytes;
    late = [];
    split = sym (append-nil (outcomes_of_bytes asked.input bytes));
    few = omega arith;
    close = λ count come. omega (
      arith,
      come_within asked.input (leeway_for asked.input asked.workers).ahead bytes count come,
      outcomes_counted asked.input bytes,
    );
    acknowledged = all_acknowledged (files_asked asked bytes) w w' durable told;
  }
