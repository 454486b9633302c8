-- The fields and the body of a record read back, and the file that is read of a body.
use Rattle.std.proofs.Common.{◌≡◌, ◌<◌, ◌+◌, ◌*◌, ℕ, List, ◌++◌, length, take, drop, map, All, refl, sym, ap, ◌∙◌}
use Rattle.std.proofs.Common.{subst, arith, append_assoc, length-append, length-drop}
use Rattle.std.specs.List.{flat_map}
use Rattle.std.proofs.lemmas.List.{take_at, drop_at, length-map, length-take-le}
use Rattle.std.proofs.Math.Seq.{take-add}
use Rattle.byteorder.specs.Endian.{big_bytes, big_number}
use Rattle.byteorder.specs.Numbers.{big_number-reads_back}
use Rattle.lr_bits.specs.File.{File, IsFile, MakeFile, bytes_of, file_of}
use Rattle.lr_bits.specs.declared.placed.Origin.{Origin}
use Rattle.lr_bits.proofs.FileLemmas.{MakeFile-parts, file_of-parts, bytes_of-file_of, lengths_of-file_of}
use Rattle.lr_bits.proofs.FileLemmas.{length-pieces_of, IsFile-file_of}
use Rattle.lr_shelf_format.specs.Items.{HasBody, IsOrigin}
use Rattle.lr_shelf_format.specs.Record.{IsHead, body_of, file_of_body, bytes_of_head, head_of, head_of_file}
use Rattle.lr_shelf_format.specs.Record.{numbers_in, origin_bytes, origin_of_bytes}
use Rattle.lr_shelf_format.specs.declared.record.RecordHead.{RecordHead}
use Rattle.lr_shelf_format.proofs.NumberLemmas.{AreBytes, AreBytes-drop, length-numbers_in, length-pairs}
use Rattle.lr_shelf_format.proofs.NumberLemmas.{numbers_in-pairs, pairs-numbers_in}

-- ---- what was written is read

pub IsHead-file : (file : File) → IsFile file → IsHead (head_of_file file)
IsHead-file file is = record {
  channel = is.channel;
  application = is.application;
  some = is.some;
  few = is.few;
  least = is.least;
  most = is.most;
}

-- the fields read back
pub head_of-fields : (file : File) (more : List ℕ) → IsFile file
    → head_of (bytes_of_head (head_of_file file) ++ more) ≡ head_of_file file
head_of-fields file more is =
    let k = length file.bodies in
    let t = length (bytes_of file) in
    let apid : big_number 2 (big_bytes 2 file.apid ++ (big_bytes 4 k ++ (big_bytes 4 t ++ more))) ≡ file.apid =
    big_number-reads_back 2 file.apid (big_bytes 4 k ++ (big_bytes 4 t ++ more)) (omega (arith, is.application)) in
    let packets : big_number 4 (big_bytes 4 k ++ (big_bytes 4 t ++ more)) ≡ k =
    big_number-reads_back 4 k (big_bytes 4 t ++ more) (omega (arith, is.few)) in
    let bytes : big_number 4 (big_bytes 4 t ++ more) ≡ t = big_number-reads_back 4 t more (omega (arith, is.most)) in
    λ i. record { vc = file.vc; apid = apid i; packets = packets i; bytes = bytes i }

-- the origin reads back
pub origin_of_bytes-bytes : (origin : Origin) (more : List ℕ) → IsOrigin origin
    → origin_of_bytes (origin_bytes origin ++ more) ≡ origin
origin_of_bytes-bytes origin more is =
    let a = origin.first in
    let b = origin.last in
    let c = origin.corrected in
    let first : big_number 8 (big_bytes 8 a ++ (big_bytes 8 b ++ (big_bytes 8 c ++ more))) ≡ a =
    big_number-reads_back 8 a (big_bytes 8 b ++ (big_bytes 8 c ++ more)) (omega (arith, is.first)) in
    let last : big_number 8 (big_bytes 8 b ++ (big_bytes 8 c ++ more)) ≡ b =
    big_number-reads_back 8 b (big_bytes 8 c ++ more) (omega (arith, is.last)) in
    let corrected : big_number 8 (big_bytes 8 c ++ more) ≡ c =
    big_number-reads_back 8 c more (omega (arith, is.corrected)) in
    λ i. record { first = first i; last = last i; corrected = corrected i }

pub length-body_of : (file : File) → length (body_of file) ≡ 2 * length file.bodies + length (bytes_of file)
length-body_of file =
    let count : length (map (length {A = ℕ}) file.bodies) ≡ length file.bodies = length-map file.bodies length in
    omega (
      arith,
      length-append (flat_map (big_bytes 2) (map length file.bodies)) (bytes_of file),
      length-pairs (map length file.bodies),
      count,
    )

-- the file reads back
pub file_from-body : (file : File) (more : List ℕ) → IsFile file
    → file_of_body (head_of_file file) (body_of file ++ more) ≡ file
unfolding file_of_body
file_from-body file more is =
    let sizes : List ℕ = map length file.bodies in
    let lengths = flat_map (big_bytes 2) sizes in
    let rest = bytes_of file ++ more in
    let count : length sizes ≡ length file.bodies = length-map file.bodies length in
    let short : All (λ n. n < 65536) sizes = λ k d inside. omega (arith, (MakeFile-parts file is).short k d inside) in
    let split : body_of file ++ more ≡ lengths ++ rest = append_assoc lengths (bytes_of file) more in
    let numbers : numbers_in (length file.bodies) (lengths ++ rest) ≡ sizes =
    ap (λ n. numbers_in n (lengths ++ rest)) (sym count) ∙ numbers_in-pairs sizes rest short in
    let pairs : length lengths ≡ 2 * length file.bodies = length-pairs sizes ∙ ap (λ n. 2 * n) count in
    let bytes : take (length (bytes_of file)) (drop (2 * length file.bodies) (lengths ++ rest)) ≡ bytes_of file =
    ap (take (length (bytes_of file))) (drop_at lengths rest (2 * length file.bodies) pairs)
    ∙ take_at (bytes_of file) more (length (bytes_of file)) refl in
    ap (λ (l : List ℕ). file_of file.vc file.apid (numbers_in (length file.bodies) l)
    (take (length (bytes_of file)) (drop (2 * length file.bodies) l))) split
    ∙ ap (λ ns. file_of file.vc file.apid ns
    (take (length (bytes_of file)) (drop (2 * length file.bodies) (lengths ++ rest)))) numbers
    ∙ ap (file_of file.vc file.apid sizes) bytes
    ∙ file_of-parts file

-- ---- what is read was written

-- the body of a file that is made of parts
body_from : (vc apid k t : ℕ) (ns bs : List ℕ) → MakeFile vc apid ns bs
    → body_of (file_of vc apid ns bs) ≡ flat_map (big_bytes 2) ns ++ bs
body_from vc apid k t ns bs make =
    let file = file_of vc apid ns bs in
    ap (λ l. flat_map (big_bytes 2) l ++ bytes_of file) (lengths_of-file_of vc apid ns bs make)
    ∙ ap (λ l. flat_map (big_bytes 2) ns ++ l) (bytes_of-file_of vc apid ns bs make)

module _ (head : RecordHead) (place : ℕ) (bytes : List ℕ) (is : IsHead head) (has : HasBody head place bytes) where
  part : List ℕ
  part = take head.bytes (drop (2 * head.packets) (drop place bytes))

  size_of : length part ≡ head.bytes
  unfolding part
  size_of = length-take-le head.bytes (drop (2 * head.packets) (drop place bytes))
      (omega (arith, length-drop place bytes, length-drop (2 * head.packets) (drop place bytes), has.size))

  MakeFile-body : MakeFile head.vc head.apid (numbers_in head.packets (drop place bytes))
      (take head.bytes (drop (2 * head.packets) (drop place bytes)))
  unfolding part
  MakeFile-body =
      let count = length-numbers_in head.packets (drop place bytes) in
      record {
        channel = is.channel;
        application = is.application;
        some = omega (arith, count, is.some);
        few = omega (arith, count, is.few);
        short = has.short;
        whole = has.whole ∙ sym size_of;
        least = omega (arith, size_of, is.least);
        most = omega (arith, size_of, is.most);
      }

  pub IsFile-from : IsFile (file_of_body head (drop place bytes))
  unfolding file_of_body
  IsFile-from = IsFile-file_of _ _ _ _ MakeFile-body

  pub head_of_file-from : head_of_file (file_of_body head (drop place bytes)) ≡ head
  unfolding file_of_body part
  head_of_file-from =
      let joined = bytes_of-file_of head.vc head.apid (numbers_in head.packets (drop place bytes))
      (take head.bytes (drop (2 * head.packets) (drop place bytes))) MakeFile-body in
      let many : length (file_of head.vc head.apid (numbers_in head.packets (drop place bytes))
      (take head.bytes (drop (2 * head.packets) (drop place bytes)))).bodies ≡ head.packets =
      length-pieces_of (numbers_in head.packets (drop place bytes))
      (take head.bytes (drop (2 * head.packets) (drop place bytes)))
      ∙ length-numbers_in head.packets (drop place bytes) in
      let file = file_of head.vc head.apid (numbers_in head.packets (drop place bytes))
      (take head.bytes (drop (2 * head.packets) (drop place bytes))) in
      let size : length (bytes_of file) ≡ head.bytes = ap length joined ∙ size_of in
      λ i. record { vc = head.vc; apid = head.apid; packets = many i; bytes = size i }

  pub body_of-from : AreBytes bytes
      → body_of (file_of_body head (drop place bytes)) ≡ take (2 * head.packets + head.bytes) (drop place bytes)
  unfolding file_of_body
  body_of-from fit =
      let rest = drop place bytes in
      let pairs : flat_map (big_bytes 2) (numbers_in head.packets rest) ≡ take (2 * head.packets) rest =
      pairs-numbers_in head.packets rest (AreBytes-drop place bytes fit)
      (omega (arith, length-drop place bytes, has.size)) in
      body_from head.vc head.apid head.packets head.bytes (numbers_in head.packets rest)
      (take head.bytes (drop (2 * head.packets) rest)) MakeFile-body
      ∙ ap (λ (l : List ℕ). l ++ take head.bytes (drop (2 * head.packets) rest)) pairs
      ∙ sym (take-add (2 * head.packets) head.bytes rest)

-- ---- the file of a record that is read part by part

module _ (head : RecordHead) (place : ℕ) (bytes : List ℕ) (is : IsHead head) (has : HasBody head place bytes)
    (lengths body : List ℕ)
    (lengths_are : lengths ≡ numbers_in head.packets (drop place bytes))
    (body_is : body ≡ take head.bytes (drop (2 * head.packets) (drop place bytes))) where
  pub MakeFile-read : MakeFile head.vc head.apid lengths body
  MakeFile-read =
      subst (λ l. MakeFile head.vc head.apid l body) (sym lengths_are)
      (subst (λ b. MakeFile head.vc head.apid (numbers_in head.packets (drop place bytes)) b) (sym body_is)
      (MakeFile-body head place bytes is has))

  pub file_of-read : file_of head.vc head.apid lengths body ≡ file_of_body head (drop place bytes)
  unfolding file_of_body
  file_of-read =
      ap (λ l. file_of head.vc head.apid l body) lengths_are
      ∙ ap (λ b. file_of head.vc head.apid (numbers_in head.packets (drop place bytes)) b) body_is
