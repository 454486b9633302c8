-- What the first bytes of an item tell, and items read back.
use Rattle.std.proofs.Common.{◌≡◌, ◌<◌, ◌≤◌, ◌+◌, ◌-◌, ◌*◌, ℕ, List, [], ◌∷◌, ◌++◌, length, slice_index, take, drop}
use Rattle.std.proofs.Common.{refl, sym, ap, ◌∙◌, subst, arith, append_assoc, length-append, length-drop}
use Rattle.std.proofs.Common.{take-append-drop, ◌^◌}
use Rattle.std.proofs.lemmas.List.{take_at, drop_at, drop-drop, drop-take, take-take, take_all, get_or-take}
use Rattle.std.proofs.lemmas.List.{append_cancel_left}
use Rattle.std.proofs.Math.Seq.{take-add}
use Rattle.byteorder.specs.Endian.{big_bytes, big_number}
use Rattle.byteorder.specs.Numbers.{big_number-reads_back, big_from-take}
use Rattle.lr_bits.specs.Crc.{crc_of}
use Rattle.lr_bits.specs.File.{File, IsFile}
use Rattle.lr_bits.specs.declared.placed.Origin.{Origin}
use Rattle.std.proofs.Common.{Some, None}
use Rattle.lr_shelf_format.specs.Items.{Begins, HasBody, HasForm, Holds, IsItem, Item, old_item, add_item}
use Rattle.lr_shelf_format.specs.Items.{discard_item, old_bytes, add_bytes, discard_bytes, item_bytes, extent_of}
use Rattle.lr_shelf_format.specs.Items.{head_of_item, stored_checksum, computed_checksum, item_of}
use Rattle.lr_shelf_format.specs.Record.{file_of_body, IsHead, body_of, bytes_of_head, head_of, head_of_file}
use Rattle.lr_shelf_format.specs.Record.{origin_bytes, origin_of_bytes, with_checksum}
use Rattle.lr_shelf_format.specs.declared.item.ItemHead.{ItemHead}
use Rattle.lr_shelf_format.specs.declared.item.ItemHead.TheVariants.{Old, Add, Discard}
use Rattle.lr_shelf_format.specs.declared.record.RecordHead.{RecordHead}
use Rattle.lr_shelf_format.proofs.NumberLemmas.{AreBytes, AreBytes-drop, bytes_of_two, fields_back, first_one}
use Rattle.lr_shelf_format.proofs.NumberLemmas.{origin_back, eight_low}
use Rattle.lr_shelf_format.proofs.RecordLemmas.{IsFile-from, IsHead-file, body_of-from, file_from-body}
use Rattle.lr_shelf_format.proofs.RecordLemmas.{head_of-fields, head_of_file-from, length-body_of}
use Rattle.lr_shelf_format.proofs.RecordLemmas.{origin_of_bytes-bytes}

-- ---- heads

-- a head stands in its eleven bytes
pub head_of-take : (xs : List ℕ) → head_of (take 11 xs) ≡ head_of xs
head_of-take xs =
    let vc : slice_index (take 11 xs) 0 ≡ slice_index xs 0 = get_or-take 11 xs 0 0 (omega arith) in
    let apid : big_number 2 (drop 1 (take 11 xs)) ≡ big_number 2 (drop 1 xs) = ap (big_number 2) (drop-take 1 10 xs)
    ∙ big_from-take 0 2 10 (drop 1 xs) (omega arith) in
    let packets : big_number 4 (drop 3 (take 11 xs)) ≡ big_number 4 (drop 3 xs) =
    ap (big_number 4) (drop-take 3 8 xs) ∙ big_from-take 0 4 8 (drop 3 xs) (omega arith) in
    let size : big_number 4 (drop 7 (take 11 xs)) ≡ big_number 4 (drop 7 xs) = ap (big_number 4) (drop-take 7 4 xs)
    ∙ big_from-take 0 4 4 (drop 7 xs) (omega arith) in
    λ i. record { vc = vc i; apid = apid i; packets = packets i; bytes = size i }

-- the same first eleven bytes, or more of them, give the same head
pub head_of-same : (n : ℕ) (xs ys : List ℕ) → 11 ≤ n → take n xs ≡ take n ys → head_of xs ≡ head_of ys
head_of-same n xs ys long same =
    sym (head_of-take xs) ∙ ap head_of (sym (take-take 11 n xs long) ∙ ap (take 11) same ∙ take-take 11 n ys long)
    ∙ head_of-take ys

pub length-discard_bytes : (number : ℕ) → length (discard_bytes number) ≡ 11
unfolding discard_bytes
length-discard_bytes number = refl

first_of-discard : (number : ℕ) → slice_index (discard_bytes number) 0 ≡ 0x81
unfolding discard_bytes
first_of-discard number = refl

number_in-discard : (number : ℕ) → number < 2 ^ 64 → big_number 8 (drop 1 (discard_bytes number)) ≡ number
unfolding discard_bytes
number_in-discard number fits =
    big_number-reads_back 8 number (big_bytes 2 (crc_of (0x81 ∷ big_bytes 8 number))) (omega arith)

-- the number of a Discard
pub number_begun : (bytes : List ℕ) (number : ℕ) → number < 2 ^ 64
    → take 11 bytes ≡ discard_bytes number → big_number 8 (drop 1 bytes) ≡ number
number_begun bytes number fits same =
    sym (big_from-take 0 8 10 (drop 1 bytes) (omega arith)) ∙ ap (big_number 8) (sym (drop-take 1 10 bytes))
    ∙ ap (λ (l : List ℕ). big_number 8 (drop 1 l)) same ∙ number_in-discard number fits

first_begun : (bytes : List ℕ) (number : ℕ) → take 11 bytes ≡ discard_bytes number → slice_index bytes 0 ≡ 0x81
first_begun bytes number same = sym (get_or-take 11 bytes 0 0 (omega arith))
    ∙ ap (λ (l : List ℕ). slice_index l 0) same ∙ first_of-discard number

-- the first byte of each kind
pub begun_old : (bytes : List ℕ) (head : ItemHead) → Begins bytes head → (slice_index bytes 0 ≡ 0x80 → ⊥)
    → (slice_index bytes 0 ≡ 0x81 → ⊥) → IsHead (head_of bytes)
begun_old bytes (Old head) begins no_add no_discard = subst IsHead begins.1 begins.0
begun_old bytes (Add head) begins no_add no_discard = absurd (no_add begins.0)
begun_old bytes (Discard number) begins no_add no_discard = absurd (no_discard (first_begun bytes number begins.1))

pub begun_add : (bytes : List ℕ) (head : ItemHead) → Begins bytes head → slice_index bytes 0 ≡ 0x80
    → IsHead (head_of (drop 1 bytes))
begun_add bytes (Old head) begins first =
    absurd (omega (arith, begins.0.channel, ap (λ (h : RecordHead). h.vc) begins.1, first))
begun_add bytes (Add head) begins first = subst IsHead begins.2 begins.1
begun_add bytes (Discard number) begins first = absurd (omega (arith, first, first_begun bytes number begins.1))

pub begun_discard : (bytes : List ℕ) (head : ItemHead) → Begins bytes head → slice_index bytes 0 ≡ 0x81
    → take 11 bytes ≡ discard_bytes (big_number 8 (drop 1 bytes))
begun_discard bytes (Old head) begins first =
    absurd (omega (arith, begins.0.channel, ap (λ (h : RecordHead). h.vc) begins.1, first))
begun_discard bytes (Add head) begins first = absurd (omega (arith, first, begins.0))
begun_discard bytes (Discard number) begins first = begins.1
    ∙ ap discard_bytes (sym (number_begun bytes number begins.0 begins.1))

-- bytes begin one item
pub head_is : (bytes : List ℕ) (head head' : ItemHead) → Begins bytes head → Begins bytes head' → head ≡ head'
head_is bytes (Old head) (Old head') begins begins' = ap Old (begins.1 ∙ sym begins'.1)
head_is bytes (Old head) (Add head') begins begins' =
    absurd (omega (arith, begins.0.channel, ap (λ (h : RecordHead). h.vc) begins.1, begins'.0))
head_is bytes (Old head) (Discard n') begins begins' =
    absurd (omega (arith, begins.0.channel, ap (λ (h : RecordHead). h.vc) begins.1, first_begun bytes n' begins'.1))
head_is bytes (Add head) (Old head') begins begins' =
    absurd (omega (arith, begins'.0.channel, ap (λ (h : RecordHead). h.vc) begins'.1, begins.0))
head_is bytes (Add head) (Add head') begins begins' = ap Add (begins.2 ∙ sym begins'.2)
head_is bytes (Add head) (Discard n') begins begins' = absurd (omega (arith, begins.0, first_begun bytes n' begins'.1))
head_is bytes (Discard n) (Old head') begins begins' =
    absurd (omega (arith, begins'.0.channel, ap (λ (h : RecordHead). h.vc) begins'.1, first_begun bytes n begins.1))
head_is bytes (Discard n) (Add head') begins begins' = absurd (omega (arith, begins'.0, first_begun bytes n begins.1))
head_is bytes (Discard n) (Discard n') begins begins' =
    ap Discard (sym (number_begun bytes n begins.0 begins.1) ∙ number_begun bytes n' begins'.0 begins'.1)

-- what an item begins with is told by its own bytes
pub extent_least : (bytes : List ℕ) (head : ItemHead) → Begins bytes head → 11 ≤ extent_of head
extent_least bytes (Old head) begins = omega arith
extent_least bytes (Add head) begins = omega arith
extent_least bytes (Discard number) begins = omega arith

pub Begins-same : (n : ℕ) (xs ys : List ℕ) (head : ItemHead) → extent_of head ≤ n → take n xs ≡ take n ys
    → Begins xs head → Begins ys head
Begins-same n xs ys (Old head) within same begins =
    (begins.0, begins.1 ∙ head_of-same n xs ys (omega (arith, begins.0.least)) same)
Begins-same n xs ys (Add head) within same begins =
    let first : slice_index xs 0 ≡ slice_index ys 0 =
    sym (get_or-take n xs 0 0 (omega arith)) ∙ ap (λ (l : List ℕ). slice_index l 0) same
    ∙ get_or-take n ys 0 0 (omega arith) in
    let size : 1 + (n - 1) ≡ n = omega arith in
    let rest : take (n - 1) (drop 1 xs) ≡ take (n - 1) (drop 1 ys) =
    sym (drop-take 1 (n - 1) xs) ∙ ap (λ k. drop 1 (take k xs)) size ∙ ap (drop 1) same
    ∙ ap (λ k. drop 1 (take k ys)) (sym size) ∙ drop-take 1 (n - 1) ys in
    (sym first ∙ begins.0, begins.1, begins.2 ∙ head_of-same (n - 1) (drop 1 xs) (drop 1 ys) (omega arith) rest)
Begins-same n xs ys (Discard number) within same begins =
    (begins.0, sym (sym (take-take 11 n xs within) ∙ ap (take 11) same ∙ take-take 11 n ys within) ∙ begins.1)

-- twelve bytes tell what they begin
pub Begins-twelve : (xs ys : List ℕ) (head : ItemHead) → take 12 xs ≡ take 12 ys → Begins xs head → Begins ys head
Begins-twelve xs ys (Old head) same begins = (begins.0, begins.1 ∙ head_of-same 12 xs ys (omega arith) same)
Begins-twelve xs ys (Add head) same begins =
    let first : slice_index xs 0 ≡ slice_index ys 0 =
    sym (get_or-take 12 xs 0 0 (omega arith)) ∙ ap (λ (l : List ℕ). slice_index l 0) same
    ∙ get_or-take 12 ys 0 0 (omega arith) in
    let rest : take 11 (drop 1 xs) ≡ take 11 (drop 1 ys) = sym (drop-take 1 11 xs) ∙ ap (drop 1) same
    ∙ drop-take 1 11 ys in
    (sym first ∙ begins.0, begins.1, begins.2 ∙ head_of-same 11 (drop 1 xs) (drop 1 ys) (omega arith) rest)
Begins-twelve xs ys (Discard number) same begins = (
  begins.0,
  sym (sym (take-take 11 12 xs (omega arith)) ∙ ap (take 11) same ∙ take-take 11 12 ys (omega arith))
      ∙ begins.1,
)

-- ---- items

pub length-item_bytes : (item : Item) → length (item_bytes item) ≡ extent_of (head_of_item item)
unfolding old_bytes add_bytes discard_bytes
length-item_bytes (old_item file) =
    omega (
      arith,
      length-append (bytes_of_head (head_of_file file) ++ body_of file)
          (big_bytes 2 (crc_of (bytes_of_head (head_of_file file) ++ body_of file))),
      length-append (bytes_of_head (head_of_file file)) (body_of file),
      length-body_of file,
    )
length-item_bytes (add_item file origin) =
    let content : List ℕ = 0x80 ∷ (bytes_of_head (head_of_file file) ++ (origin_bytes origin ++ body_of file)) in
    omega (
      arith,
      length-append content (big_bytes 2 (crc_of content)),
      length-append (bytes_of_head (head_of_file file)) (origin_bytes origin ++ body_of file),
      length-append (origin_bytes origin) (body_of file),
      length-body_of file,
    )
length-item_bytes (discard_item number) = refl

-- the parts of an item's bytes
seal_of : List ℕ → List ℕ → List ℕ
seal_of content rest = big_bytes 2 (crc_of content) ++ rest

split_old : (file : File) (rest : List ℕ)
    → old_bytes file ++ rest ≡ bytes_of_head (head_of_file file)
    ++ (body_of file ++ seal_of (bytes_of_head (head_of_file file) ++ body_of file) rest)
unfolding old_bytes seal_of
split_old file rest =
    let fields = bytes_of_head (head_of_file file) in
    append_assoc (fields ++ body_of file) (big_bytes 2 (crc_of (fields ++ body_of file))) rest
    ∙ append_assoc fields (body_of file) (big_bytes 2 (crc_of (fields ++ body_of file)) ++ rest)

add_tail : File → Origin → List ℕ → List ℕ
add_tail file origin rest = body_of file
    ++ seal_of (0x80 ∷ (bytes_of_head (head_of_file file) ++ (origin_bytes origin ++ body_of file))) rest

split_add : (file : File) (origin : Origin) (rest : List ℕ)
    → add_bytes file origin
    ++ rest ≡ 0x80 ∷ (bytes_of_head (head_of_file file) ++ (origin_bytes origin ++ add_tail file origin rest))
unfolding add_bytes seal_of add_tail
split_add file origin rest =
    let fields = bytes_of_head (head_of_file file) in
    let content : List ℕ = 0x80 ∷ (fields ++ (origin_bytes origin ++ body_of file)) in
    let end : List ℕ = big_bytes 2 (crc_of content) ++ rest in
    append_assoc content (big_bytes 2 (crc_of content)) rest
    ∙ ap (λ (l : List ℕ). 0x80 ∷ l)
    (append_assoc fields (origin_bytes origin ++ body_of file) end
    ∙ ap (λ (l : List ℕ). fields ++ l) (append_assoc (origin_bytes origin) (body_of file) end))

pub begins_item : (item : Item) (rest : List ℕ) → IsItem item → Begins (item_bytes item ++ rest) (head_of_item item)
begins_item (old_item file) rest is = (
  IsHead-file file is,
  sym (ap head_of (split_old file rest)
      ∙ head_of-fields file (body_of file ++ seal_of (bytes_of_head (head_of_file file) ++ body_of file) rest) is),
)
begins_item (add_item file origin) rest is = (
  ap (λ (l : List ℕ). slice_index l 0) (split_add file origin rest),
  IsHead-file file is.0,
  sym (ap (λ (l : List ℕ). head_of (drop 1 l)) (split_add file origin rest)
      ∙ head_of-fields file (origin_bytes origin ++ add_tail file origin rest) is.0),
)
begins_item (discard_item number) rest is = (is, take_at (discard_bytes number) rest 11 (length-discard_bytes number))

file_of_tail : (file : File) (origin : Origin) (rest : List ℕ) → IsFile file
    → file_of_body (head_of_file file) (add_tail file origin rest) ≡ file
unfolding add_tail
file_of_tail file origin rest is = file_from-body file _ is

pub item_of-item : (item : Item) (rest : List ℕ) → IsItem item
    → item_of (head_of_item item) (item_bytes item ++ rest) ≡ item
unfolding item_of
item_of-item (old_item file) rest is =
    ap old_item (ap (λ (l : List ℕ). file_of_body (head_of_file file) (drop 11 l)) (split_old file rest)
    ∙ file_from-body file _ is)
item_of-item (add_item file origin) rest is =
    let tail = add_tail file origin rest in
    let more : drop 12 (add_bytes file origin ++ rest) ≡ origin_bytes origin
    ++ tail = ap (drop 12) (split_add file origin rest) in
    let body : drop 36 (add_bytes file origin ++ rest) ≡ tail = ap (drop 36) (split_add file origin rest) in
    let files : file_of_body (head_of_file file) (drop 36 (add_bytes file origin ++ rest)) ≡ file =
    ap (file_of_body (head_of_file file)) body ∙ file_of_tail file origin rest is.0 in
    ap (λ f. add_item f (origin_of_bytes (drop 12 (add_bytes file origin ++ rest)))) files
    ∙ ap (add_item file) (ap origin_of_bytes more ∙ origin_of_bytes-bytes origin tail is.1)
item_of-item (discard_item number) rest is = refl

-- no item begins as another does
pub item_is : (item item' : Item) (rest rest' : List ℕ) → IsItem item → IsItem item'
    → item_bytes item ++ rest ≡ item_bytes item' ++ rest' → (item ≡ item') × (rest ≡ rest')
item_is item item' rest rest' is is' same =
    let heads : head_of_item item ≡ head_of_item item' =
    head_is (item_bytes item ++ rest) (head_of_item item) (head_of_item item') (begins_item item rest is)
    (subst (λ (l : List ℕ). Begins l (head_of_item item')) (sym same) (begins_item item' rest' is')) in
    let items : item ≡ item' =
    sym (item_of-item item rest is) ∙ ap (item_of (head_of_item item)) same
    ∙ ap (λ h. item_of h (item_bytes item' ++ rest')) heads ∙ item_of-item item' rest' is' in (
      items,
      append_cancel_left (item_bytes item) rest rest' (same ∙ ap (λ i. item_bytes i ++ rest') (sym items)),
    )

-- ---- items written part by part

pub put_sealed : (before front body first second new : List ℕ) (start : ℕ) → first ≡ before ++ front
    → second ≡ first ++ body → start ≡ length before
    → new ≡ second ++ (big_bytes 2 (crc_of (drop start second)) ++ 0 ∷ [])
    → new ≡ before ++ (with_checksum (front ++ body) ++ 0 ∷ [])
put_sealed before front body first second new start first_is second_is start_is end =
    let all : second ≡ before ++ (front ++ body) = second_is ∙ ap (λ (l : List ℕ). l ++ body) first_is
    ∙ append_assoc before front body in
    let tail_is : drop start second ≡ front ++ body = ap (drop start) all
    ∙ drop_at before (front ++ body) start (sym start_is) in
    let seal : List ℕ → List ℕ = λ content. big_bytes 2 (crc_of content) ++ 0 ∷ [] in
    end ∙ ap (λ (l : List ℕ). l ++ seal (drop start second)) all
    ∙ ap (λ (l : List ℕ). (before ++ (front ++ body)) ++ seal l) tail_is
    ∙ append_assoc before (front ++ body) (seal (front ++ body))
    ∙ ap (λ (l : List ℕ). before ++ l)
    (sym (append_assoc (front ++ body) (big_bytes 2 (crc_of (front ++ body))) (0 ∷ [])))

pub put_old_item : (file : File) (before first second new : List ℕ) (start : ℕ)
    → first ≡ before ++ bytes_of_head (head_of_file file) → second ≡ first ++ body_of file → start ≡ length before
    → new ≡ second ++ (big_bytes 2 (crc_of (drop start second)) ++ 0 ∷ []) → new ≡ before ++ (old_bytes file ++ 0 ∷ [])
unfolding old_bytes
put_old_item file before first second new start first_is second_is start_is end =
    put_sealed before (bytes_of_head (head_of_file file))
    (body_of file) first second new start first_is second_is start_is end

pub put_add_item : (file : File) (origin : Origin) (before first second new : List ℕ) (start : ℕ)
    → first ≡ before ++ (0x80 ∷ (bytes_of_head (head_of_file file) ++ origin_bytes origin))
    → second ≡ first ++ body_of file → start ≡ length before
    → new ≡ second ++ (big_bytes 2 (crc_of (drop start second)) ++ 0 ∷ [])
    → new ≡ before ++ (add_bytes file origin ++ 0 ∷ [])
unfolding add_bytes
put_add_item file origin before first second new start first_is second_is start_is end =
    let fields = bytes_of_head (head_of_file file) in
    let turn : (fields ++ origin_bytes origin) ++ body_of file ≡ fields
    ++ (origin_bytes origin ++ body_of file) = append_assoc fields (origin_bytes origin) (body_of file) in
    put_sealed before (0x80 ∷ (fields ++ origin_bytes origin))
    (body_of file) first second new start first_is second_is start_is end
    ∙ ap (λ (l : List ℕ). before ++ (with_checksum (0x80 ∷ l) ++ 0 ∷ [])) turn

-- ---- bytes of the form of a record, with the right checksum, are an item

-- their parts
whole_of : (content : List ℕ) (bytes : List ℕ) → AreBytes bytes → 2 ≤ length bytes
    → content ≡ take (length bytes - 2) bytes → stored_checksum bytes ≡ computed_checksum bytes
    → with_checksum content ≡ bytes
whole_of content bytes fit long same right =
    let front = length bytes - 2 in
    let sum : crc_of content ≡ big_number 2 (drop front bytes) = ap crc_of same ∙ sym right in
    let two : length (drop front bytes) ≡ 2 = omega (arith, length-drop front bytes) in
    ap (λ (l : List ℕ). l ++ big_bytes 2 (crc_of content)) same
    ∙ ap (λ n. take front bytes ++ big_bytes 2 n) sum
    ∙ ap (λ (end : List ℕ). take front bytes ++ end)
    (bytes_of_two (drop front bytes) (AreBytes-drop front bytes fit) (omega arith)
    ∙ take_all 2 (drop front bytes) (omega arith))
    ∙ take-append-drop front bytes

module _ (bytes : List ℕ) (fit : AreBytes bytes) where
  old_content : (head : RecordHead) → IsHead head → head ≡ head_of bytes → HasBody head 11 bytes
      → bytes_of_head (head_of_file (file_of_body head (drop 11 bytes)))
      ++ body_of (file_of_body head (drop 11 bytes)) ≡ take (length bytes - 2) bytes
  old_content head is same has =
      let size : length bytes - 2 ≡ 11 + (2 * head.packets + head.bytes) = omega (arith, has.size) in
      ap (λ h. bytes_of_head h ++ body_of (file_of_body head (drop 11 bytes))) (head_of_file-from head 11 bytes is has)
      ∙ ap (λ (l : List ℕ). bytes_of_head head ++ l) (body_of-from head 11 bytes is has fit)
      ∙ ap (λ (l : List ℕ). l ++ take (2 * head.packets + head.bytes) (drop 11 bytes))
      (ap bytes_of_head same ∙ fields_back bytes fit (omega (arith, has.size)))
      ∙ sym (take-add 11 (2 * head.packets + head.bytes) bytes) ∙ ap (λ n. take n bytes) (sym size)

  add_content : (head : RecordHead) → slice_index bytes 0 ≡ 0x80 → IsHead head → head ≡ head_of (drop 1 bytes)
      → HasBody head 36 bytes
      → 0x80 ∷ (bytes_of_head (head_of_file (file_of_body head (drop 36 bytes)))
      ++ (origin_bytes (origin_of_bytes (drop 12 bytes)) ++ body_of (file_of_body head (drop 36 bytes)))) ≡ take
      (length bytes - 2) bytes
  add_content head first is same has =
      let t = 2 * head.packets + head.bytes in
      let rest = drop 1 bytes in
      let back = AreBytes-drop 1 bytes fit in
      let long : 35 ≤ length rest = omega (arith, length-drop 1 bytes, has.size) in
      let size : length bytes - 2 ≡ 1 + (11 + (24 + t)) = omega (arith, has.size) in
      let twelve : drop 11 rest ≡ drop 12 bytes = drop-drop 11 1 bytes in
      let body : drop 24 (drop 12 bytes) ≡ drop 36 bytes = drop-drop 24 12 bytes in
      let origins : origin_bytes (origin_of_bytes (drop 12 bytes)) ≡ take 24 (drop 12 bytes) =
      origin_back (drop 12 bytes) (AreBytes-drop 12 bytes fit) (omega (arith, length-drop 12 bytes, has.size)) in
      let tail : origin_bytes (origin_of_bytes (drop 12 bytes))
      ++ body_of (file_of_body head (drop 36 bytes)) ≡ take (24 + t) (drop 11 rest) =
      ap (λ (l : List ℕ). l ++ body_of (file_of_body head (drop 36 bytes))) origins
      ∙ ap (λ (l : List ℕ). take 24 (drop 12 bytes) ++ l)
      (body_of-from head 36 bytes is has fit ∙ ap (take t) (sym body))
      ∙ sym (take-add 24 t (drop 12 bytes)) ∙ ap (take (24 + t)) (sym twelve) in
      let fields : bytes_of_head (head_of_file (file_of_body head (drop 36 bytes))) ≡ take 11 rest =
      ap bytes_of_head (head_of_file-from head 36 bytes is has ∙ same) ∙ fields_back rest back (omega arith) in
      ap (λ (l : List ℕ). 0x80 ∷
      (l ++ (origin_bytes (origin_of_bytes (drop 12 bytes)) ++ body_of (file_of_body head (drop 36 bytes))))) fields
      ∙ ap (λ (l : List ℕ). 0x80 ∷ (take 11 rest ++ l)) tail
      ∙ ap (λ (l : List ℕ). 0x80 ∷ l) (sym (take-add 11 (24 + t) rest))
      ∙ ap (λ n. n ∷ take (11 + (24 + t)) rest) (sym first)
      ∙ ap (λ (l : List ℕ). l ++ take (11 + (24 + t)) rest) (sym (first_one bytes (omega (arith, has.size))))
      ∙ sym (take-add 1 (11 + (24 + t)) bytes) ∙ ap (λ n. take n bytes) (sym size)

  pub item_back : (head : ItemHead) → Begins bytes head → HasForm bytes head
      → stored_checksum bytes ≡ computed_checksum bytes → item_bytes (item_of head bytes) ≡ bytes
  unfolding item_of old_bytes add_bytes
  item_back (Old head) begins form right =
      whole_of _ bytes fit (omega (arith, form.size)) (old_content head begins.0 begins.1 form) right
  item_back (Add head) begins form right =
      whole_of _ bytes fit (omega (arith, form.size)) (add_content head begins.0 begins.1 begins.2 form) right
  item_back (Discard number) begins form right = absurd form

  pub IsItem-back : (head : ItemHead) → Begins bytes head → HasForm bytes head → IsItem (item_of head bytes)
  unfolding item_of
  IsItem-back (Old head) begins form = IsFile-from head 11 bytes begins.0 form
  IsItem-back (Add head) begins form =
      let long = length-drop 12 bytes in
      let origin = drop 12 bytes in
      let back = AreBytes-drop 12 bytes fit in (
        IsFile-from head 36 bytes begins.1 form,
        record {
          first = eight_low origin back (omega (arith, long, form.size));
          last = eight_low (drop 8 origin) (AreBytes-drop 8 origin back)
              (omega (arith, long, length-drop 8 origin, form.size));
          corrected = eight_low (drop 16 origin) (AreBytes-drop 16 origin back)
              (omega (arith, long, length-drop 16 origin, form.size));
        },
      )
  IsItem-back (Discard number) begins form = absurd form

pub put_front_of : (file : File) (origin : Origin) (before first second new fields bytes : List ℕ)
    → first ≡ before ++ 0x80 ∷ [] → second ≡ first ++ fields → new ≡ second ++ bytes
    → fields ≡ bytes_of_head (head_of_file file) → bytes ≡ origin_bytes origin
    → new ≡ before ++ (0x80 ∷ (bytes_of_head (head_of_file file) ++ origin_bytes origin))
put_front_of file origin before first second new fields bytes first_is second_is new_is fields_are bytes_are =
    new_is ∙ ap (λ (l : List ℕ). l ++ bytes) second_is ∙ ap (λ (l : List ℕ). (l ++ fields) ++ bytes) first_is
    ∙ ap (λ (l : List ℕ). ((before ++ 0x80 ∷ []) ++ fields) ++ l) bytes_are
    ∙ ap (λ (l : List ℕ). ((before ++ 0x80 ∷ []) ++ l) ++ origin_bytes origin) fields_are
    ∙ append_assoc (before ++ 0x80 ∷ []) (bytes_of_head (head_of_file file)) (origin_bytes origin)
    ∙ append_assoc before (0x80 ∷ []) (bytes_of_head (head_of_file file) ++ origin_bytes origin)

-- ---- what an item that is read holds

module _ (bytes : List ℕ) (fit : AreBytes bytes) (right : stored_checksum bytes ≡ computed_checksum bytes) where
  pub holds_old : (head : RecordHead) (file : File) → Begins bytes (Old head) → HasForm bytes (Old head)
      → file ≡ file_of_body head (drop 11 bytes)
      → Holds bytes (record { file = file; origin = None })
  unfolding item_of
  holds_old head file begins form same =
      let items : old_item file ≡ item_of (Old head) bytes = ap old_item same in
      record {
        is_item = subst IsItem (sym items) (IsItem-back bytes fit (Old head) begins form);
        bytes_are =
            ap item_bytes items ∙ item_back bytes fit (Old head) begins form right;
      }

  pub holds_add : (head : RecordHead) (file : File) → Begins bytes (Add head) → HasForm bytes (Add head)
      → file ≡ file_of_body head (drop 36 bytes)
      → Holds bytes (record { file = file; origin = Some (origin_of_bytes (drop 12 bytes)) })
  unfolding item_of
  holds_add head file begins form same =
      let items : add_item file (origin_of_bytes (drop 12 bytes)) ≡ item_of (Add head) bytes =
      ap (λ f. add_item f (origin_of_bytes (drop 12 bytes))) same in
      record {
        is_item = subst IsItem (sym items) (IsItem-back bytes fit (Add head) begins form);
        bytes_are =
            ap item_bytes items ∙ item_back bytes fit (Add head) begins form right;
      }
