-- Bits and bytes that are read back from a state, newest first.
use Rattle.std.proofs.Common.{refl, ap, sym, subst, ◌∙◌, ◌≡◌, ◌+◌, ◌*◌, ◌/◌, ◌<◌, ◌++◌, ℕ, zero, suc, Bool, List}
use Rattle.std.proofs.Common.{[], ◌∷◌, length, reverse, drop, take, arith, add-one, append_assoc, length-append}
use Rattle.std.proofs.Common.{slice_set, length-drop, length-take-le}
use Rattle.std.specs.Prelude.{map}
use Rattle.std.specs.Int.Digits.{number_from_digits}
use Rattle.std.proofs.lemmas.List.{drop-set, drop_at, take_at, take-append-drop, reverse-append}
use Rattle.std.proofs.Math.ListN.{length-set}
use Rattle.std.proofs.Math.Seq.{drop-length}
use Rattle.lr_conv.specs.Convolution.{bit}
use Rattle.lr_conv.specs.Levels.{bit_of_level, last_level, level_of, levels}
use Rattle.lr_conv.specs.declared.line.LineCode.{LineCode}
use Rattle.lr_conv.proofs.Lines.{length-levels, level_of_bit_of, levels-append, levels-cons, levels-nil}
use Rattle.lr_trellis.specs.Path.{bytes_of_bits, bytes_from}
use Rattle.lr_trellis.specs.Trellis.{is_odd, read_back, state_before}
use Rattle.lr_trellis.specs.Words.{IsReadBack, Stretch, decisions}
use Rattle.lr_trellis.proofs.Words.{odd_before, state_before_low}

-- ---- bits
-- the bits from place i on
pub record BitsRead (line : LineCode) (older : ℕ → ℕ → Bool) (first start i here : ℕ) (out : List Bool) : Type 0 where
  pub low : here < 64
  pub path : read_back older (first + length out) start ≡
      reverse (levels line (is_odd here) (drop i out)) ++ read_back older (first + i) here

push_front : (b : Bool) (d k : List Bool) → reverse d ++ (b ∷ k) ≡ reverse (b ∷ d) ++ k
push_front b d k =
    let e : reverse (b ∷ d) ≡ reverse d ++ (b ∷ []) = reverse-append (b ∷ []) d in
    sym (ap (λ z. z ++ k) e ∙ append_assoc (reverse d) (b ∷ []) k)

module _ (line : LineCode) (older : ℕ → ℕ → Bool) (first start : ℕ) where
  pub no_bits : (out : List Bool) → start < 64 → BitsRead line older first start (length out) start out
  no_bits out l =
      let none : levels line (is_odd start) (drop (length out) out) ≡ [] =
      ap (levels line (is_odd start)) (drop-length out) ∙ levels-nil line (is_odd start) in
      record { low = l; path = ap (λ z. reverse z ++ read_back older (first + length out) start) (sym none) }

  -- one level more in front
  more_levels : (j here next : ℕ) (out : List Bool) (b : Bool) → j < length out →
      b ≡ bit_of_level line (is_odd next) (is_odd here) →
      levels line (is_odd next) (drop j (slice_set out j b)) ≡
      is_odd here ∷ levels line (is_odd here) (drop (suc j) out)
  more_levels j here next out b room e =
      let level : level_of line (is_odd next) b ≡ is_odd here =
      ap (level_of line (is_odd next)) e ∙ level_of_bit_of line (is_odd next) (is_odd here) in
      let rest : drop j (slice_set out j b) ≡ b ∷ drop (suc j) out =
      drop-set out j b room ∙ ap (λ k. b ∷ drop k out) (add-one j) in
      ap (levels line (is_odd next)) rest ∙ levels-cons line (is_odd next) b (drop (suc j) out)
      ∙ ap (λ z. z ∷ levels line z (drop (suc j) out)) level

  pub one_bit_more : (j i k here next : ℕ) (out : List Bool) (b : Bool) → i ≡ suc j → k ≡ first + j → j < length out →
      next ≡ state_before (older k here) here → b ≡ bit_of_level line (is_odd (here / 2)) (is_odd here) →
      BitsRead line older first start i here out → BitsRead line older first start j next (slice_set out j b)
  one_bit_more j i k here next out b e at room n bit read =
      let tail = levels line (is_odd here) (drop (suc j) out) in
      let base : read_back older (first + length out) start ≡ reverse tail ++ read_back older (first + suc j) here =
      subst (λ x. read_back older (first + length out) start ≡
      reverse (levels line (is_odd here) (drop x out)) ++ read_back older (first + x) here) e read.path in
      let suc_at : first + suc j ≡ suc k = omega arith in
      let base2 : read_back older (first + length out) start ≡
      reverse tail ++ (is_odd here ∷ read_back older k (state_before (older k here) here)) =
      subst (λ x. read_back older (first + length out) start ≡
      reverse tail ++ read_back older x here) suc_at base in
      let level : is_odd next ≡ is_odd (here / 2) = ap is_odd n ∙ odd_before (older k here) here in
      let all = more_levels j here next out b room (bit ∙ ap (λ z. bit_of_level line z (is_odd here)) (sym level)) in
      let size : length (slice_set out j b) ≡ length out = length-set out j b in
      record {
        low = subst (λ x. x < 64) (sym n) (state_before_low (older k here) here read.low);
        path =
            ap (λ m. read_back older (first + m) start) size
            ∙ base2
            ∙ push_front (is_odd here) tail _
            ∙ ap (λ z. reverse z ++ read_back older k (state_before (older k here) here)) (sym all)
            ∙ ap (λ m. reverse (levels line (is_odd next) (drop j (slice_set out j b)))
            ++ read_back older m (state_before (older k here) here)) at
            ∙ ap (λ m. reverse (levels line (is_odd next) (drop j (slice_set out j b)))
            ++ read_back older (first + j) m) (sym n);
      }

-- ---- bytes
-- the bits from place 8 * k on, and their bytes
pub record BytesRead (line : LineCode) (older : ℕ → ℕ → Bool) (first start k here : ℕ) (out : List ℕ)
    (x : List Bool) : Type 0 where
  pub size : length x + 8 * k ≡ 8 * length out
  pub bytes : drop k out ≡ bytes_of_bits x
  pub path : read_back older (first + 8 * length out) start ≡ reverse (levels line (is_odd here) x)
      ++ read_back older (first + 8 * k) here

pub record StillRead (line : LineCode) (older : ℕ → ℕ → Bool) (first start k here : ℕ) (out : List ℕ) : Type 0 where
  pub low : here < 64
  pub read : (x : List Bool) × BytesRead line older first start k here out x

-- eight bits more in front
bytes_of-eight : (e x : List Bool) → length e ≡ 8
    → bytes_of_bits (e ++ x) ≡ number_from_digits 2 (map bit e) ∷ bytes_of_bits x
unfolding bytes_of_bits
bytes_of-eight e x eight =
    let size : length (e ++ x) / 8 ≡ suc (length x / 8) = omega (arith, length-append e x) in
    let front : take 8 (e ++ x) ≡ e = take_at e x 8 eight in
    let rest : drop 8 (e ++ x) ≡ x = drop_at e x 8 eight in
    ap (λ n. bytes_from n (e ++ x)) size ∙ ap (λ z. number_from_digits 2 (map bit z) ∷ bytes_from (length x / 8)
    (drop 8 (e ++ x))) front ∙ ap (λ z. number_from_digits 2 (map bit e) ∷ bytes_from (length x / 8) z) rest

-- what is read back from a state begins with its newest level
newest_first : (older : ℕ → ℕ → Bool) (n here : ℕ) → (g : List Bool) × (read_back older n here ≡ is_odd here ∷ g)
newest_first older zero here = (_, refl)
newest_first older (suc n) here = (_, refl)

reverse-some : (level : Bool) (y : List Bool) → 0 < length y → (g : List Bool) × (reverse y ≡ last_level level y ∷ g)
reverse-some level [] some = absurd (omega arith)
reverse-some level (a ∷ []) some = ([], refl)
reverse-some level (a ∷ b ∷ y) some =
    let rest = reverse-some a (b ∷ y) (omega arith) in
    (rest.0 ++ a ∷ [], reverse-append (a ∷ []) (b ∷ y) ∙ ap (λ z. z ++ a ∷ []) rest.1)

first_same : (a b : Bool) (g h k : List Bool) → a ∷ g ≡ (b ∷ h) ++ k → a ≡ b
first_same a b g h k e = cc

module _ (line : LineCode) (older : ℕ → ℕ → Bool) where
  -- the last of some levels read back is that of the state
  last_read : (n m here next : ℕ) (e : List Bool) → 0 < length e →
      read_back older n here ≡ reverse (levels line (is_odd next) e) ++ read_back older m next →
      last_level (is_odd next) (levels line (is_odd next) e) ≡ is_odd here
  last_read n m here next e some walk =
      let y = levels line (is_odd next) e in
      let backwards = reverse-some (is_odd next) y (omega (arith, length-levels line (is_odd next) e)) in
      let front = newest_first older n here in
      sym (first_same (is_odd here) (last_level (is_odd next) y) front.0 backwards.0 (read_back older m next)
      (sym front.1 ∙ walk ∙ ap (λ z. z ++ read_back older m next) backwards.1))

  -- two stretches that meet in a state are one
  two_stretches : (top n m start here next : ℕ) (x e : List Bool) → 0 < length e →
      read_back older top start ≡ reverse (levels line (is_odd here) x) ++ read_back older n here →
      read_back older n here ≡ reverse (levels line (is_odd next) e) ++ read_back older m next →
      read_back older top start ≡ reverse (levels line (is_odd next) (e ++ x)) ++ read_back older m next
  two_stretches top n m start here next x e some upper lower =
      let ys = levels line (is_odd here) x in
      let es = levels line (is_odd next) e in
      let last : last_level (is_odd next) es ≡ is_odd here = last_read n m here next e some lower in
      let both : levels line (is_odd next) (e ++ x) ≡ es ++ ys =
      levels-append line (is_odd next) e x ∙ ap (λ z. es ++ levels line z x) last in
      upper ∙ ap (λ z. reverse ys ++ z) lower
      ∙ sym (append_assoc (reverse ys) (reverse es) (read_back older m next))
      ∙ ap (λ z. z ++ read_back older m next) (sym (reverse-append es ys))
      ∙ ap (λ z. reverse z ++ read_back older m next) (sym both)

  module _ (first start : ℕ) where
    pub no_bytes : (out : List ℕ) → BytesRead line older first start (length out) start out []
    unfolding bytes_of_bits
    no_bytes out =
        record {
          size = omega arith;
          bytes = drop-length out;
          path = ap (λ z. reverse z ++ read_back older (first + 8 * length out) start)
              (sym (levels-nil line (is_odd start)));
        }

    pub one_byte_more : (j k here next byte : ℕ) (out : List ℕ) (x e : List Bool) → k ≡ suc j → j < length out →
        length e ≡ 8 → byte ≡ number_from_digits 2 (map bit e) → read_back older (first + 8 * j + 8) here ≡
        reverse (levels line (is_odd next) e) ++ read_back older (first + 8 * j) next →
        BytesRead line older first start k here out x →
        BytesRead line older first start j next (slice_set out j byte) (e ++ x)
    one_byte_more j k here next byte out x e at room eight packed walk read =
        let size : length (slice_set out j byte) ≡ length out = length-set out j byte in
        let steps : first + 8 * k ≡ first + 8 * j + 8 = omega arith in
        let rest : drop (suc j) out ≡ bytes_of_bits x = ap (λ n. drop n out) (sym at) ∙ read.bytes in
        record {
          size = omega (arith, read.size, size, length-append e x);
          bytes = drop-set out j byte room ∙ ap (λ b. b ∷ drop (j + 1) out) packed
              ∙ ap (λ z. number_from_digits 2 (map bit e) ∷ z) (ap (λ n. drop n out) (add-one j) ∙ rest)
              ∙ sym (bytes_of-eight e x eight);
          path = ap (λ n. read_back older (first + 8 * n) start) size
              ∙ two_stretches (first + 8 * length out) (first + 8 * k) (first + 8 * j) start here next x e
              (omega arith) read.path (ap (λ n. read_back older n here) steps ∙ walk);
        }

none_of : (e : List Bool) → length e ≡ 0 → e ≡ []
none_of [] h = refl
none_of (a ∷ e) h = absurd (omega arith)

no_eights : bytes_of_bits [] ≡ []
unfolding bytes_of_bits
no_eights = refl

-- the bytes of as many bits as n bytes have, and of more after them
bytes_of-append : (n : ℕ) (e x : List Bool) → length e ≡ 8 * n
    → bytes_of_bits (e ++ x) ≡ bytes_of_bits e ++ bytes_of_bits x
bytes_of-append zero e x size =
    let none : e ≡ [] = none_of e (omega arith) in
    ap (λ z. bytes_of_bits (z ++ x)) none ∙ ap (λ z. z ++ bytes_of_bits x) (sym (ap bytes_of_bits none ∙ no_eights))
bytes_of-append (suc n) e x size =
    let front : length (take 8 e) ≡ 8 = length-take-le 8 e (omega arith) in
    let rest : length (drop 8 e) ≡ 8 * n = omega (arith, length-drop 8 e) in
    let whole : take 8 e ++ drop 8 e ≡ e = take-append-drop 8 e in
    ap (λ z. bytes_of_bits (z ++ x)) (sym whole)
    ∙ ap bytes_of_bits (append_assoc (take 8 e) (drop 8 e) x)
    ∙ bytes_of-eight (take 8 e) (drop 8 e ++ x) front
    ∙ ap (λ z. number_from_digits 2 (map bit (take 8 e)) ∷ z) (bytes_of-append n (drop 8 e) x rest)
    ∙ ap (λ z. z ++ bytes_of_bits x) (sym (bytes_of-eight (take 8 e) (drop 8 e) front))
    ∙ ap (λ z. bytes_of_bits z ++ bytes_of_bits x) whole

abbrev pub stretch : ℕ → ℕ → ℕ → Stretch
stretch first after before = record { first = first; after = after; before = before }

module _ (line : LineCode) (words : List ℕ) where
  pub all_bytes : (first start k here : ℕ) (out : List ℕ) → k ≡ 0 →
      StillRead line (decisions words) first start k here out → IsReadBack line words (stretch first start here) out
  all_bytes first start k here out none still =
      let read = subst (λ m. BytesRead line (decisions words) first start m here out still.read.0) none still.read.1 in
      let down : first + 8 * 0 ≡ first = omega arith in
      record {
        bits = still.read.0;
        size = omega (arith, read.size);
        packed = read.bytes;
        path = read.path ∙ ap (λ n. reverse (levels line (is_odd here) still.read.0)
            ++ read_back (decisions words) n here) down;
      }

  -- two halves that meet in a state are one
  pub halves_joined : (start joint meeting here half : ℕ) (low high : List ℕ) → 0 < half → length low ≡ half →
      joint ≡ meeting → IsReadBack line words (stretch 0 meeting here) low
      → IsReadBack line words (stretch (8 * half) start joint) high →
      IsReadBack line words (stretch 0 start here) (low ++ high)
  halves_joined start joint meeting here half low high some long same lower above =
      let upper : IsReadBack line words (stretch (8 * half) start meeting) high =
      subst (λ s. IsReadBack line words (stretch (8 * half) start s) high) same above in
      let size : length (low ++ high) ≡ half + length high = length-append low high ∙ ap (λ n. n + length high) long in
      let bits : length (lower.bits ++ upper.bits) ≡ length lower.bits + length upper.bits =
      length-append lower.bits upper.bits in
      let top : 0 + 8 * length (low ++ high) ≡ 8 * half + 8 * length high = omega arith in
      let joint_at : 0 + 8 * length low ≡ 8 * half = omega arith in
      record {
        bits = lower.bits ++ upper.bits;
        size = omega (arith, lower.size, upper.size);
        packed = ap (λ z. z ++ high) lower.packed ∙ ap (λ z. bytes_of_bits lower.bits ++ z) upper.packed
            ∙ sym (bytes_of-append (length low) lower.bits upper.bits lower.size);
        path = ap (λ n. read_back (decisions words) n start) top
            ∙ two_stretches line (decisions words) (8 * half + 8 * length high) (8 * half) 0 start meeting here
            upper.bits lower.bits (omega (arith, lower.size)) upper.path
            (ap (λ n. read_back (decisions words) n meeting) (sym joint_at) ∙ lower.path);
      }
