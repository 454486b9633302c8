-- Two texts that are put one after the other are their join.
use Rattle.std.proofs.Common.{◌≡◌, ℕ, List, [], ◌∷◌, ◌++◌, length, refl, sym, ap, ◌∙◌, subst, arith}
use Rattle.std.proofs.Common.{append-nil, append_assoc, length-append}
use Rattle.lr_bits.specs.Faults.{Rose}
use Rattle.lr_bits.proofs.Telling.{tells_both, tells_still}
use Rattle.lr_io.specs.Pieces.{PutsPart}
use Rattle.lr_io.specs.declared.sink.Sink.{Ghosts as SinkOf}
use Rattle.lr_causes.specs.Puts.{Puts, PutFails}

-- a part of a front is a part of the whole
part_before : (first second old new : List ℕ) → PutsPart first old new → PutsPart (first ++ second) old new
part_before first second old new got = record {
  part = got.part;
  rest = got.rest ++ second;
  split = ap (λ (l : List ℕ). l ++ second) got.split ∙ append_assoc got.part got.rest second;
  shorter = omega (arith, got.shorter, length-append first second);
  put = got.put;
}

-- so is a part of what comes after the front
part_after : (first second old old' new : List ℕ) → old' ≡ old ++ first → PutsPart second old' new
    → PutsPart (first ++ second) old new
part_after first second old old' new put got = record {
  part = first ++ got.part;
  rest = got.rest;
  split = ap (λ (l : List ℕ). first ++ l) got.split ∙ sym (append_assoc first got.part got.rest);
  shorter = omega (arith, got.shorter, length-append first second, length-append first got.part);
  put = got.put ∙ ap (λ (l : List ℕ). l ++ got.part) put ∙ append_assoc old first got.part;
}

module _ {O : Type 0} (out : SinkOf O) where
  pub puts_none : (o : O) → Puts out [] o o
  puts_none o = record {
    tell = tells_still;
    put = λ t. sym (append-nil (out.contents o));
    kept = refl;
  }

  module _ (first second : List ℕ) (o o1 o2 : O) where
    pub puts_both : Puts out first o o1 → Puts out second o1 o2 → Puts out (first ++ second) o o2
    puts_both a b = record {
      tell = tells_both a.tell b.tell;
      put = λ t. b.put (a.tell.told t) ∙ ap (λ (l : List ℕ). l ++ second) (a.put t)
          ∙ append_assoc (out.contents o) first second;
      kept = b.kept ∙ a.kept;
    }

    -- the second was cut
    pub fails_after : Puts out first o o1 → PutFails out second o1 o2 → PutFails out (first ++ second) o o2
    fails_after a b = record {
      tell = tells_both a.tell b.tell;
      part = λ t. part_after first second (out.contents o) (out.contents o1) (out.contents o2) (a.put t)
          (b.part (a.tell.told t));
      rose = subst (λ n. Rose n (out.faults o2)) a.kept b.rose;
    }

  -- the first was cut
  pub fails_before : (first second : List ℕ) (o o1 : O) → PutFails out first o o1 → PutFails out (first ++ second) o o1
  fails_before first second o o1 a = record {
    tell = a.tell;
    part = λ t. part_before first second (out.contents o) (out.contents o1) (a.part t);
    rose = a.rose;
  }

-- ---- a text that goes out piece by piece

module _ {X O : Type 0} (out : SinkOf O) (bytes_of : List X → List ℕ) (whole : List X) (o : O) where
  -- the bytes of a front were put, and the rest is left
  pub record PutSoFar (rest : List X) (o1 : O) : Type 0 where
    pub front : List X
    pub split : whole ≡ front ++ rest
    pub puts : Puts out (bytes_of front) o o1

  pub so_nothing : bytes_of [] ≡ [] → PutSoFar whole o
  so_nothing none = record {
    front = [];
    split = refl;
    puts = subst (λ (l : List ℕ). Puts out l o o) (sym none) (puts_none out o);
  }

  module _ (join : (xs ys : List X) → bytes_of (xs ++ ys) ≡ bytes_of xs ++ bytes_of ys) (rest piece back : List X)
      (o1 o2 : O) (so : PutSoFar rest o1) (is : rest ≡ piece ++ back) where
    splits : whole ≡ (so.front ++ piece) ++ back
    splits = so.split ∙ ap (λ (l : List X). so.front ++ l) is ∙ sym (append_assoc so.front piece back)

    pub so_more : Puts out (bytes_of piece) o1 o2 → PutSoFar back o2
    so_more puts = record {
      front = so.front ++ piece;
      split = splits;
      puts =
          subst (λ (l : List ℕ). Puts out l o o2) (sym (join so.front piece))
          (puts_both out (bytes_of so.front) (bytes_of piece) o o1 o2 so.puts puts);
    }

    -- this piece was cut
    pub so_fails : PutFails out (bytes_of piece) o1 o2 → PutFails out (bytes_of whole) o o2
    so_fails fails =
        let all : bytes_of whole ≡ (bytes_of so.front ++ bytes_of piece) ++ bytes_of back =
        ap bytes_of splits ∙ join (so.front ++ piece) back
        ∙ ap (λ (l : List ℕ). l ++ bytes_of back) (join so.front piece) in
        subst (λ (l : List ℕ). PutFails out l o o2) (sym all)
        (fails_before out (bytes_of so.front ++ bytes_of piece) (bytes_of back) o o2
        (fails_after out (bytes_of so.front) (bytes_of piece) o o1 o2 so.puts fails))

  pub so_all : (rest : List X) (o1 : O) → PutSoFar rest o1 → length rest ≡ 0 → Puts out (bytes_of whole) o o1
  so_all rest o1 so none =
      let empty : rest ≡ [] = nothing rest none in
      let all : whole ≡ so.front = so.split ∙ ap (λ (l : List X). so.front ++ l) empty ∙ append-nil so.front in
      subst (λ (l : List X). Puts out (bytes_of l) o o1) (sym all) so.puts
    where
      nothing : (xs : List X) → length xs ≡ 0 → xs ≡ []
      nothing [] h = refl
      nothing (x ∷ xs) h = absurd (omega (arith, h))
