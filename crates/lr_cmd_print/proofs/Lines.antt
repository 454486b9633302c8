-- Lines that are put one after another, and how a command ends that prints them.
use Rattle.std.proofs.Common.{◌≡◌, ℕ, List, [], ◌∷◌, ◌++◌, length, ap, ◌∙◌, sym, subst, arith}
use Rattle.std.proofs.Common.{append_assoc, append-nil, refl, length-append, inl, inr, ◌≤◌, ◌<◌, ◌+◌}
use Rattle.std.proofs.Common.{⊎_elim, take, drop, Result, IfErr, IsErrAnd}
use Rattle.std.proofs.lemmas.Bool.{cases_lt}
use Rattle.std.proofs.lemmas.List.{take-append-drop, take-append-le}
use Rattle.std.proofs.lemmas.Result.{err_from_is_err_and}
use Rattle.lr_bits.specs.Faults.{Rose}
use Rattle.lr_bits.proofs.Telling.{tells_both, tells_still}
use Rattle.lr_io.specs.declared.source.Source.{Ghosts as SourceOf}
use Rattle.lr_io.specs.declared.sink.Sink.{Ghosts as SinkOf}
use Rattle.lr_forms.specs.declared.forms.Stop.{Stop}
use Rattle.lr_forms.specs.declared.forms.Stop.TheVariants.{End, Limit, Fault}
use Rattle.lr_causes.specs.Causes.{cause_at}
use Rattle.lr_causes.specs.declared.cause.Cause.{Cause}
use Rattle.lr_causes.specs.declared.cause.Cause.TheVariants.{Done, Failed, NoMemory}
use Rattle.lr_causes.specs.declared.cause.Party.TheVariants.{Output, Source}
use Rattle.lr_causes.proofs.Joining.{puts_both}
use Rattle.lr_causes.specs.Outside.{Pipe, PipeOf, pipe, pipe_of}
use Rattle.lr_forms.specs.declared.forms.Input.{Input}
use Rattle.lr_cmd_print.specs.Printing.{AreSoInTime, Printed, Prints, PrintsAll, PutsNoLineOff}
use Rattle.lr_causes.specs.Puts.{GotFirst, PutStops, Puts}
use Rattle.lr_cmd_print.specs.Progress.{IsFirstOf, LinesComeFirst, LinesStop, PutsButLast, PutsSome}
use Rattle.lr_reading.specs.Arrivals.{arrivals_of}
use Rattle.lr_reading.specs.Readers.{HaveCome, Leeway}
use Rattle.lr_reading.specs.Reading.{IsRead, WhenLastAsked}
use Rattle.lr_reading.specs.Runs.{ComeInTime, ReadsInput}
use Rattle.lr_reading.specs.declared.arrival.Arrival.{Arrival}
use Rattle.lr_reading.specs.declared.read_counts.ReadCounts.{ReadCounts}
use Rattle.lr_reading.proofs.Asking.{when_too}
use Rattle.lr_reading.proofs.Coming.{come_within}
use Rattle.lr_reading.proofs.Fronts.{front_of}
use Rattle.lr_reading.proofs.Leeways.{IsStricter, ahead_too, at_end_too, tail_too, wait_too}

-- what holds for an error holds where the answer is that error
pub err_so : {T E : Type 0} (P : E → Type 0) {e : E} (r : Result T E) → IsErrAnd r (λ y. y ≡ e) → P e → IfErr r P
err_so P r is holds = let found = err_from_is_err_and r is in rw (found.1, found.2) holds

-- some lines were put, and the next one wasn't
pub lines_stop : {O : Type 0} (out : SinkOf O) (front line : List ℕ) (o p o' : O) → Puts out front o p
    → (cause : Cause) → PutStops out line cause p o' → LinesStop out (front ++ line) cause o o'
lines_stop out front line o p o' put (Failed Output) stop = record {
  tell = tells_both put.tell stop.tell;
  part = λ tells.
      let cut = stop.part (put.tell.told tells) in
      record {
        part = front ++ cut.part;
        rest = cut.rest;
        split = ap (λ (l : List ℕ). front ++ l) cut.split ∙ sym (append_assoc front cut.part cut.rest);
        shorter = omega (arith, length-append front line, length-append front cut.part, cut.shorter);
        put = cut.put ∙ ap (λ l. l ++ cut.part) (put.put tells) ∙ append_assoc (out.contents o) front cut.part;
      };
  rose = subst (λ k. Rose k (out.faults o')) put.kept stop.rose;
}
lines_stop out front line o p o' put NoMemory stop = record {
  tell = record {
    told = λ tells. subst (λ x. out.tells x) (sym stop) (put.tell.told tells);
    untold = λ tells. put.tell.untold (subst (λ x. out.tells x) stop tells);
  };
  front = λ tells. record { front = front; rest = line; split = refl; put = ap out.contents stop ∙ put.put tells };
  kept = ap out.faults stop ∙ put.kept;
}
lines_stop out front line o p o' put _ stop = absurd stop

module _ {O : Type 0} (out : SinkOf O) (text : List Arrival → List ℕ) (arrivals : List Arrival) (o : O) where
  -- all text was put
  pub all_but_none : (o' : O) → Puts out (text arrivals) o o' → PutsButLast out text arrivals o o'
  all_but_none o' put = record {
    worked = arrivals;
    late = [];
    split = sym (append-nil arrivals);
    one = omega arith;
    got = λ tells. (
      [],
      put.put tells ∙ ap (λ (l : List ℕ). out.contents o ++ l) (sym (append-nil (text arrivals))),
    );
  }

  pub none_stopped : (o' : O) → Puts out (text arrivals) o o' → PutsSome out (text arrivals) o o'
  none_stopped o' put = record {
    tell = put.tell;
    front = λ tells. record {
      front = text arrivals;
      rest = [];
      split = sym (append-nil (text arrivals));
      put = put.put tells;
    };
    kept = put.kept;
  }

  -- all text was put, and then the line of one more wasn't
  pub all_but_one : (arrival : Arrival) (line : List ℕ) (p o' : O) → Puts out (text arrivals) o p → (cause : Cause)
      → PutStops out line cause p o' → PutsButLast out text (arrivals ++ arrival ∷ []) o o'
  all_but_one arrival line p o' put cause stops = record {
    worked = arrivals;
    late = arrival ∷ [];
    split = refl;
    one = omega arith;
    got = got cause stops;
  }
    where
      got : (cause : Cause) → PutStops out line cause p o' → GotFirst out (text arrivals) o o'
      got (Failed Output) stop = λ tells.
          let cut = stop.part (put.tell.told tells) in (
            cut.part,
            cut.put ∙ ap (λ (l : List ℕ). l ++ cut.part) (put.put tells)
                ∙ append_assoc (out.contents o) (text arrivals) cut.part,
          )
      got NoMemory stop = λ tells. (
        [],
        ap out.contents stop ∙ put.put tells
            ∙ ap (λ (l : List ℕ). out.contents o ++ l) (sym (append-nil (text arrivals))),
      )
      got _ stop = absurd stop

-- ---- the lines that are due

-- the text of some arrivals begins with that of others
abbrev IsFrontOf : (text : List Arrival → List ℕ) → List Arrival → List Arrival → Type 0
IsFrontOf text first arrivals = IsFirstOf (text first) (text arrivals)

-- the lines of the first arrivals, where what comes of arrivals is this text
module _ {S : Type 0} (source : SourceOf S) (printed : Printed) (text : List Arrival → List ℕ)
    (first_is : (given : List ℕ) (count : ℕ)
    → text (take count (arrivals_of printed.input given)) ≡ printed.first given count)
    (bytes : List ℕ) (s s' : S) (arrivals : List Arrival)
    (grows : (first rest : List Arrival) → arrivals ≡ first ++ rest → IsFrontOf text first arrivals) where
  -- where all was taken
  due_first : WhenLastAsked source (ComeInTime printed.input printed.leeway 0 arrivals) bytes s s'
      → WhenLastAsked source (AreSoInTime printed (λ first. IsFirstOf first (text arrivals))) bytes s
      s'
  due_first = when_too source (ComeInTime printed.input printed.leeway 0 arrivals)
      (AreSoInTime printed (λ first. IsFirstOf first (text arrivals))) bytes s s' come
    where
      come : (given : List ℕ) (pieces : List (List ℕ))
          → ComeInTime printed.input printed.leeway 0 arrivals given pieces
          → AreSoInTime printed (λ first. IsFirstOf first (text arrivals)) given pieces
      come given pieces due count few wait have =
          let later = due count few wait have in
          let front = grows (take count (arrivals_of printed.input given)) later.0 later.1 in
          (front.0, front.1 ∙ ap (λ (l : List ℕ). l ++ front.0) (first_is given count))

  pub come_first : arrivals ≡ arrivals_of printed.input bytes → text arrivals ≡ printed.lines bytes
      → WhenLastAsked source (ComeInTime printed.input printed.leeway 0 arrivals) bytes s s'
      → LinesComeFirst source printed bytes s s'
  come_first is lines in_time = record {
    of_bytes = λ count.
        let front = grows (take count arrivals) (drop count arrivals) (sym (take-append-drop count arrivals)) in (
          front.0,
          sym lines ∙ front.1 ∙ ap (λ (l : List ℕ). l ++ front.0)
              (ap (λ (l : List Arrival). text (take count l)) is ∙ first_is bytes count),
        );
    in_time = subst (λ (l : List ℕ). WhenLastAsked source (AreSoInTime printed (λ first. IsFirstOf first l)) bytes s
        s') lines (due_first in_time);
  }

  -- where it stopped at one more, at most
  module _ {O : Type 0} (out : SinkOf O) (o o' : O) (passed late rest : List Arrival)
      (parts : passed ≡ arrivals ++ late) (one : length late ≤ 1) (got : GotFirst out (text arrivals) o o') where
    -- the first ones of these
    put_first : (first rest' : List Arrival) → arrivals ≡ first ++ rest' → (lines : List ℕ) → text first ≡ lines
        → GotFirst out lines o o'
    put_first first rest' split lines is tells =
        let front = grows first rest' split in
        let put = got tells in (
          front.0 ++ put.0,
          put.1 ∙ ap (λ (l : List ℕ). out.contents o ++ l)
              (ap (λ (l : List ℕ). l ++ put.0) (front.1 ∙ ap (λ (l : List ℕ). l ++ front.0) is)
              ∙ append_assoc lines front.0 put.0),
        )

    come_put : (given : List ℕ) (pieces : List (List ℕ))
        → ComeInTime printed.input printed.leeway 1 passed given pieces
        → AreSoInTime printed (λ lines. GotFirst out lines o o') given pieces
    come_put given pieces due count few wait have =
        let these : List Arrival = take count (arrivals_of printed.input given) in
        let later = due count few wait have in
        let same : these ++ later.0 ≡ arrivals ++ late = sym later.1 ∙ parts in
        let le : length these ≤ length arrivals = omega (
          arith,
          ap (λ (l : List Arrival). length l) same,
          length-append these later.0,
          length-append arrivals late,
          later.2,
          one,
        ) in
        put_first these (drop (length these) arrivals) (sym (front_of these later.0 arrivals late same le))
        (printed.first given count) (first_is given count)

    -- of the bytes read
    module _ (split : arrivals_of printed.input bytes ≡ passed ++ rest) where
      within : (count : ℕ) → count ≤ length arrivals → GotFirst out (printed.first bytes count) o o'
      within count le =
          let all : arrivals_of printed.input bytes ≡ arrivals ++ (late ++ rest) =
          split ∙ ap (λ (l : List Arrival). l ++ rest) parts ∙ append_assoc arrivals late rest in
          let these : take count (arrivals_of printed.input bytes) ≡ take count arrivals =
          ap (take count) all ∙ take-append-le count arrivals (late ++ rest) le in
          put_first (take count arrivals) (drop count arrivals) (sym (take-append-drop count arrivals))
          (printed.first bytes count) (ap text (sym these) ∙ first_is bytes count)

      pub due_put : length rest < printed.leeway.at_end
          → ((count : ℕ) → 0 < count → HaveCome printed.input printed.leeway.ahead bytes count
          → count < length passed)
          → WhenLastAsked source (ComeInTime printed.input printed.leeway 1 passed) bytes s s'
          → PutsNoLineOff (pipe_of source out) printed bytes (pipe s o) (pipe s' o')
      due_put near close in_time = record {
        timely = λ count come. within count (omega (
          arith,
          come_within printed.input 0 bytes (count + printed.leeway.at_end) come,
          ap (λ (l : List Arrival). length l) split,
          length-append passed rest,
          near,
          ap (λ (l : List Arrival). length l) parts,
          length-append arrivals late,
          one,
        ));
        timely_in_bytes = λ count come. within count (⊎_elim (λ (none : count < 1). omega (arith, none))
            (λ (some : 1 ≤ count). omega (
              arith,
              close count (omega (arith, some)) come,
              ap (λ (l : List Arrival). length l) parts,
              length-append arrivals late,
              one,
            )) (cases_lt count 1));
        in_time = when_too source (ComeInTime printed.input printed.leeway 1 passed)
            (AreSoInTime printed (λ lines. GotFirst out lines o o')) bytes s s' come_put in_time;
      }

module _ {S O : Type 0} (source : SourceOf S) (out : SinkOf O) (printed : Printed) where
  -- the last line was put, whatever the input ended for
  pub all_printed : (stop : Stop) (s s' : S) (o o' : O)
      → PrintsAll (pipe_of source out) printed stop (pipe s o) (pipe s' o')
      → Prints (pipe_of source out) printed (cause_at stop) (pipe s o) (pipe s' o')
  all_printed End s s' o o' all = inl all
  all_printed Limit s s' o o' all = inr all
  all_printed Fault s s' o o' all = all

  -- no bytes have no lines that were put off
  none_put_off : ((count : ℕ) → printed.first [] count ≡ []) → (s : S) (o : O)
      → PutsNoLineOff (pipe_of source out) printed [] (pipe s o) (pipe s o)
  none_put_off none s o = record {
    timely = λ count come. nothing count;
    timely_in_bytes = λ count come. nothing count;
    in_time = inl (refl, refl);
  }
    where
      nothing : (count : ℕ) → GotFirst out (printed.first [] count) o o
      nothing count tells = (
        [],
        sym (append-nil (out.contents o)) ∙ ap (λ (l : List ℕ). out.contents o ++ (l ++ [])) (sym (none count)),
      )

  -- memory was refused before anything was read
  pub none_read : ((count : ℕ) → printed.first [] count ≡ []) → (s : S) (o : O)
      → Prints (pipe_of source out) printed NoMemory (pipe s o) (pipe s o)
  none_read none s o = record {
    bytes = [];
    read = record { tell = tells_still; moved = λ t. refl; few = omega arith; asked = inl (refl, refl) };
    tell = tells_still;
    front = λ t. record {
      front = [];
      rest = printed.lines [];
      split = refl;
      put = sym (append-nil (out.contents o));
    };
    keeps_up = none_put_off none s o;
    out_count = refl;
  }

  -- the lines of the bytes read begin with these, which were not all put
  pub lines_stopped : (bytes front later : List ℕ) (s s' : S) (o o' : O) → IsRead source printed.limit bytes s s'
      → printed.lines bytes ≡ front ++ later
      → PutsNoLineOff (pipe_of source out) printed bytes (pipe s o) (pipe s' o')
      → (cause : Cause) → LinesStop out front cause o o'
      → Prints (pipe_of source out) printed cause (pipe s o) (pipe s' o')
  lines_stopped bytes front later s s' o o' read all keeps_up (Failed Output) stop = inl (record {
    bytes = bytes;
    read = read;
    tell = stop.tell;
    part = λ tells.
        let cut = stop.part tells in
        record {
          part = cut.part;
          rest = cut.rest ++ later;
          split =
              all ∙ ap (λ (l : List ℕ). l ++ later) cut.split ∙ append_assoc cut.part cut.rest later;
          shorter = omega (arith, ap length all, length-append front later, cut.shorter);
          put = cut.put;
        };
    keeps_up = keeps_up;
    rose = stop.rose;
  })
  lines_stopped bytes front later s s' o o' read all keeps_up NoMemory stop = record {
    bytes = bytes;
    read = read;
    tell = stop.tell;
    front = λ tells.
        let some = stop.front tells in
        record {
          front = some.front;
          rest = some.rest ++ later;
          split = all ∙ ap (λ (l : List ℕ). l ++ later) some.split ∙ append_assoc some.front some.rest later;
          put = some.put;
        };
    keeps_up = keeps_up;
    out_count = stop.kept;
  }
  lines_stopped bytes front later s s' o o' read all keeps_up _ stop = absurd stop

  module _ {input : Input} {bytes : List ℕ} {totals : ReadCounts} {s s' : S} {o p : O}
      (ends : ReadsInput source input printed.limit bytes totals s s')
      (put : Puts out (printed.lines bytes) o p) {line : List ℕ} (is : printed.last bytes totals.stop ≡ line) where
    -- all lines and the last one were put
    pub all_put : {o' : O} → Puts out line p o'
        → PrintsAll (pipe_of source out) printed totals.stop (pipe s o) (pipe s' o')
    all_put {o'} more = record {
      bytes = bytes;
      read = ends.read;
      reason = ends.reason;
      tell = record {
        told = (puts_both out _ _ _ _ _ put more).tell.told;
        untold = (puts_both out _ _ _ _ _ put more).tell.untold;
      };
      put = λ tells. (puts_both out _ _ _ _ _ put more).put tells
          ∙ ap (λ l. out.contents o ++ (printed.lines bytes ++ l)) (sym is);
      out_count = more.kept ∙ put.kept;
    }

    -- the last line wasn't put
    pub last_stopped : LinesComeFirst source printed bytes s s' → (o' : O) (cause : Cause)
        → PutStops out line cause p o'
        → Prints (pipe_of source out) printed cause (pipe s o) (pipe s' o')
    last_stopped come o' (Failed Output) failed = inr (record {
      bytes = bytes;
      stop = totals.stop;
      read = ends.read;
      reason = ends.reason;
      tell = tells_both put.tell failed.tell;
      part = λ tells.
          let cut = failed.part (put.tell.told tells) in
          record {
            part = cut.part;
            rest = cut.rest;
            split = is ∙ cut.split;
            shorter = omega (arith, ap length is, cut.shorter);
            put = cut.put ∙ ap (λ l. l ++ cut.part) (put.put tells);
          };
      rose = subst (λ k. Rose k (out.faults o')) put.kept failed.rose;
    })
    last_stopped come o' NoMemory same = record {
      bytes = bytes;
      read = ends.read;
      tell = record {
        told = λ tells. subst (λ x. out.tells x) (sym same) (put.tell.told tells);
        untold = λ tells. put.tell.untold (subst (λ x. out.tells x) same tells);
      };
      front = λ tells. record {
        front = printed.lines bytes;
        rest = [];
        split = sym (append-nil (printed.lines bytes));
        put = ap out.contents same ∙ put.put tells;
      };
      keeps_up = record {
        timely = λ count enough. got_first (printed.first bytes count) (come.of_bytes count);
        timely_in_bytes = λ count enough. got_first (printed.first bytes count) (come.of_bytes count);
        in_time = when_too source (AreSoInTime printed (λ lines. IsFirstOf lines (printed.lines bytes)))
            (AreSoInTime printed (λ lines. GotFirst out lines o o')) bytes s s'
            (λ given pieces due count few wait have. got_first (printed.first given count)
            (due count few wait have)) come.in_time;
      };
      out_count = ap out.faults same ∙ put.kept;
    }
      where
        got_first : (lines : List ℕ) → IsFirstOf lines (printed.lines bytes) → GotFirst out lines o o'
        got_first lines begins tells = (
          begins.0,
          ap out.contents same ∙ put.put tells ∙ ap (λ (l : List ℕ). out.contents o ++ l) begins.1,
        )
    last_stopped come o' _ wrong = absurd wrong

-- ---- where more may wait

module _ {S O : Type 0} (world : PipeOf S O) (printed : Printed) (loose : Leeway)
    (is : IsStricter printed.leeway loose) (w w' : Pipe S O) where
  abbrev loosely : Printed
  loosely = record printed { leeway = loose }

  more_put_off : (bytes : List ℕ) → PutsNoLineOff world printed bytes w w' → PutsNoLineOff world loosely bytes w w'
  more_put_off bytes keeps = record {
    timely = λ count come. keeps.timely count (at_end_too printed.input is bytes count come);
    timely_in_bytes = λ count come. keeps.timely_in_bytes count (ahead_too printed.input is bytes count come);
    in_time = when_too world.source (AreSoInTime printed (λ lines. GotFirst world.out lines w.out w'.out))
        (AreSoInTime loosely (λ lines. GotFirst world.out lines w.out w'.out)) bytes w.source w'.source
        (λ given pieces due count few wait have. due count few (wait_too printed.input is given pieces few wait)
        (tail_too printed.input is given (count + few) have)) keeps.in_time;
  }

  all_loosely : {stop : Stop} → PrintsAll world printed stop w w' → PrintsAll world loosely stop w w'
  all_loosely all = record {
    bytes = all.bytes;
    read = all.read;
    reason = all.reason;
    tell = all.tell;
    put = all.put;
    out_count = all.out_count;
  }

  pub prints_loosely : (cause : Cause) → Prints world printed cause w w' → Prints world loosely cause w w'
  prints_loosely Done (inl all) = inl (all_loosely all)
  prints_loosely Done (inr all) = inr (all_loosely all)
  prints_loosely (Failed Source) all = all_loosely all
  prints_loosely (Failed Output) (inl cut) = inl (record {
    bytes = cut.bytes;
    read = cut.read;
    tell = cut.tell;
    part = cut.part;
    keeps_up = more_put_off cut.bytes cut.keeps_up;
    rose = cut.rose;
  })
  prints_loosely (Failed Output) (inr cut) = inr (record {
    bytes = cut.bytes;
    stop = cut.stop;
    read = cut.read;
    reason = cut.reason;
    tell = cut.tell;
    part = cut.part;
    rose = cut.rose;
  })
  prints_loosely NoMemory stops = record {
    bytes = stops.bytes;
    read = stops.read;
    tell = stops.tell;
    front = stops.front;
    keeps_up = more_put_off stops.bytes stops.keeps_up;
    out_count = stops.out_count;
  }
  prints_loosely _ wrong = absurd wrong
