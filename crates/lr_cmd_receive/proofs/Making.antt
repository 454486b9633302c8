-- The frames of a stream are put one after another.
use Rattle.std.proofs.Common.{◌≡◌, ℕ, zero, suc, ◌+◌, ◌-◌, ◌<◌, List, [], ◌++◌, length, refl, sym}
use Rattle.std.proofs.Common.{ap, ◌∙◌, subst, arith, append_assoc, append-nil, length-append}
use Rattle.std.proofs.Common.{Result, Ok, Err, IfOk, IfErr, OnOk, OnErr}
use Rattle.std.specs.Int.{cast_unsigned, w8}
use Rattle.std.proofs.lemmas.List.{map-append}
use Rattle.lr_make.specs.Stream.{symbol_stream}
use Rattle.lr_make.specs.Symbols.{symbols_at, bytes_of_symbols}
use Rattle.lr_make.proofs.Sending.{symbol_stream-more}
use Rattle.lr_bits.specs.Faults.{Rose}
use Rattle.lr_bits.proofs.Telling.{tells_both, tells_still}
use Rattle.lr_io.specs.declared.sink.Sink.{Ghosts as SinkOf}
use Rattle.lr_causes.specs.declared.cause.Cause.{Cause}
use Rattle.lr_causes.specs.declared.cause.Cause.TheVariants.{Done, Failed}
use Rattle.lr_causes.specs.declared.cause.Party.TheVariants.{Output}
use Rattle.lr_causes.specs.Causes.{counts, IsCaused}
use Rattle.lr_cmd_receive.specs.Made.{MakeEnds}
use Rattle.lr_causes.specs.Puts.{Puts, PutFails}
use Rattle.lr_causes.proofs.Joining.{puts_both}

pub symbols_more : (start wrong n : ℕ) → bytes_of_symbols (symbol_stream start wrong (n + 1))
    ≡ bytes_of_symbols (symbol_stream start wrong n) ++ bytes_of_symbols (symbols_at start wrong n)
symbols_more start wrong n = ap bytes_of_symbols (symbol_stream-more start wrong n)
    ∙ map-append (cast_unsigned w8) (symbol_stream start wrong n) (symbols_at start wrong n)

module _ (text item : ℕ → List ℕ) (grows : (n : ℕ) → text (n + 1) ≡ text n ++ item n) where
  -- what more frames put stands after it
  later : (n m : ℕ) → (rest : List ℕ) × (text (n + m) ≡ text n ++ rest)
  later n zero = ([], ap text (omega arith) ∙ sym (append-nil (text n)))
  later n (suc m) =
      let before = later n m in
      let there : n + suc m ≡ n + m + 1 = omega arith in (
        before.0 ++ item (n + m),
        ap text there ∙ grows (n + m) ∙ ap (λ (l : List ℕ). l ++ item (n + m)) before.1
            ∙ append_assoc (text n) before.0 (item (n + m)),
      )

  module _ {O : Type 0} (out : SinkOf O) where
    pub put_none : text 0 ≡ [] → (o : O) → Puts out (text 0) o o
    put_none none o = record {
      tell = tells_still;
      put =
          λ t. sym (ap (λ l. out.contents o ++ l) none ∙ append-nil (out.contents o));
      kept = refl;
    }

    pub put_next : (n : ℕ) (bytes : List ℕ) → bytes ≡ item n → (o p o' : O) → Puts out (text n) o p
        → Puts out bytes p o' → Puts out (text (n + 1)) o o'
    put_next n bytes is o p o' before more =
        subst (λ (l : List ℕ). Puts out l o o') (ap (λ (l : List ℕ). text n ++ l) is ∙ sym (grows n))
        (puts_both out _ _ _ _ _ before more)

    pub put_cut : (n m : ℕ) → n < m → (bytes : List ℕ) → bytes ≡ item n → (o p o' : O) → Puts out (text n) o p
        → PutFails out bytes p o' → PutFails out (text m) o o'
    put_cut n m less bytes is o p o' before fails =
        let all = later (n + 1) (m - (n + 1)) in
        let there : n + 1 + (m - (n + 1)) ≡ m = omega (arith, less) in
        let split : text m ≡ text n ++ (bytes ++ all.0) =
        ap text (sym there) ∙ all.1 ∙ ap (λ (l : List ℕ). l ++ all.0) (grows n
        ∙ ap (λ (l : List ℕ). text n ++ l) (sym is)) ∙ append_assoc (text n) bytes all.0 in
        record {
          tell = tells_both before.tell fails.tell;
          part = λ tells.
              let cut = fails.part (before.tell.told tells) in
              record {
                part = text n ++ cut.part;
                rest = cut.rest ++ all.0;
                split =
                    split ∙ ap (λ (l : List ℕ). text n ++ (l ++ all.0)) cut.split
                    ∙ ap (λ (l : List ℕ). text n ++ l) (append_assoc cut.part cut.rest all.0)
                    ∙ sym (append_assoc (text n) cut.part (cut.rest ++ all.0));
                shorter = omega (
                  arith,
                  ap length split,
                  length-append (text n) (bytes ++ all.0),
                  length-append bytes all.0,
                  length-append (text n) cut.part,
                  cut.shorter,
                );
                put = cut.put ∙ ap (λ l. l ++ cut.part) (before.put tells)
                    ∙ append_assoc (out.contents o) (text n) cut.part;
              };
          rose = subst (λ k. Rose k (out.faults o')) before.kept fails.rose;
        }

-- how the call ends, where the bytes were put or not
module _ {O : Type 0} (out : SinkOf O) (text : List ℕ) (o o' : O) where
  pub make_ends : (r : Result (Unit {0}) Cause) (cause : Cause) → IfOk r (λ _. Puts out text o o')
      → OnErr r (PutFails out text o o') → IfErr r (λ c. c ≡ Failed Output)
      → OnOk r (cause ≡ Done) → IfErr r (λ c. cause ≡ c) → MakeEnds out text cause o o'
  make_ends (Ok u) cause put failed only done stopped =
      subst (λ (c : Cause). MakeEnds out text c o o') (sym done) put
  make_ends (Err c) cause put failed only done stopped =
      subst (λ (x : Cause). MakeEnds out text x o o') (sym (stopped ∙ only)) failed

  pub make_caused : (r : Result (Unit {0}) Cause) (cause : Cause) → OnErr r (PutFails out text o o')
      → IfErr r (λ c. c ≡ Failed Output)
      → OnOk r (cause ≡ Done) → IfErr r (λ c. cause ≡ c)
      → IsCaused cause (counts 0 0 (out.faults o)) (counts 0 0 (out.faults o'))
  make_caused (Ok u) cause failed only done stopped =
      subst (λ (c : Cause). IsCaused c (counts 0 0 (out.faults o)) (counts 0 0 (out.faults o'))) (sym done) tt
  make_caused (Err c) cause failed only done stopped =
      subst (λ (x : Cause). IsCaused x (counts 0 0 (out.faults o)) (counts 0 0 (out.faults o')))
      (sym (stopped ∙ only)) failed.rose
