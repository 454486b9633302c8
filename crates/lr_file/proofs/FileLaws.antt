-- Laws of files: what one packet more adds, prefixes, and that at most one file ends with a packet.
use Rattle.std.proofs.Common.{◌≡◌, suc, ◌-◌, ◌≤◌, Bool, true, false, cond, eqb, leb, ◌&&◌, List, [], ◌∷◌, ◌++◌, length}
use Rattle.std.proofs.Common.{filter, refl, sym, ap, ◌∙◌, arith, append_assoc}
use Rattle.std.specs.Option.{option_to_list}
use Rattle.std.specs.Str.{bytes_eq}
use Rattle.std.proofs.lemmas.Bool.Decides.{nat_tests}
use Rattle.std.proofs.lemmas.List.{append-nil}
use Rattle.lr_bits.specs.File.{File}
use Rattle.lr_bits.specs.Sizes.{most_file_bodies, most_file_bytes}
use Rattle.lr_packet.specs.Verdict.{Good}
use Rattle.lr_file.specs.Files.{last_stretches, flags_of_file, are_counted_on, size_of, is_file, file_at, files_after}
use Rattle.lr_file.specs.Files.{files_of_packets}
use Rattle.lr_file.specs.Standing.{is_open}
use Rattle.lr_file.proofs.Stretches.{flags, counts, zeros, are_zeros, and_left, and_right, not_open, zeros_behind}
use Rattle.lr_file.proofs.Stretches.{begun_by_one, is_file-one}

-- the files of lists in a row
pub files_after-append : (before xs ys : List Good) →
    files_after before (xs ++ ys) ≡ files_after before xs ++ files_after (before ++ xs) ys
files_after-append before [] ys = ap (λ b. files_after b ys) (sym (append-nil before))
files_after-append before (x ∷ xs) ys =
    ap (λ fs. option_to_list (file_at before x) ++ fs)
    (files_after-append (before ++ x ∷ []) xs ys
    ∙ ap (λ b. files_after (before ++ x ∷ []) xs ++ files_after b ys) (append_assoc before (x ∷ []) xs))
    ∙ sym (append_assoc (option_to_list (file_at before x)) (files_after (before ++ x ∷ []) xs)
    (files_after (before ++ x ∷ xs) ys))

-- one packet more adds the file that ends with it
pub files_of-more : (packets : List Good) (packet : Good) →
    files_of_packets (packets ++ packet ∷ []) ≡ files_of_packets packets ++ option_to_list (file_at packets packet)
unfolding files_of_packets
files_of-more packets packet =
    files_after-append [] packets (packet ∷ []) ∙ ap (λ fs. files_after [] packets ++ fs)
    (append-nil (option_to_list (file_at packets packet)))

-- the files of a prefix are a prefix
pub files_of-append : (packets later : List Good) →
    (more : List File) × (files_of_packets (packets ++ later) ≡ files_of_packets packets ++ more)
unfolding files_of_packets
files_of-append packets later = (files_after packets later, files_after-append [] packets later)

-- where the flags are 0 no stretch is open
none_open : (qs : List Good) → are_zeros qs ≡ true → filter is_open (last_stretches qs) ≡ []
none_open [] h = refl
none_open (q ∷ qs) h =
    rw (not_open q qs (begun_by_one q (and_left _ _ h))) (none_open qs (and_right _ _ h))

one_open : (q : Good) (qs : List Good) (o : Bool) → is_open (q ∷ qs) ≡ o →
    length (filter is_open (last_stretches qs)) ≤ 1 → length (filter is_open (last_stretches (q ∷ qs))) ≤ 1
one_open q qs true o h = rw (o, none_open qs (zeros_behind q qs o)) (omega arith)
one_open q qs false o h = rw o h

-- of the stretches that end with the same packet at most one is open
pub length-open-le-one : (packets : List Good) → length (filter is_open (last_stretches packets)) ≤ 1
length-open-le-one [] = omega arith
length-open-le-one (q ∷ qs) = one_open q qs (is_open (q ∷ qs)) refl (length-open-le-one qs)

-- the flags are 0, and 2 at the end
abbrev pub end_with_two : Good → List Good → Bool
end_with_two q qs = bytes_eq (flags (q ∷ qs)) (zeros (length qs) ++ 2 ∷ [])

-- the flags of a file of several packets
pub several_flags : (q r : Good) (rs : List Good) →
    bytes_eq (flags (q ∷ r ∷ rs)) (flags_of_file (length (q ∷ r ∷ rs))) ≡ (eqb q.flags 1 && end_with_two r rs)
several_flags q r rs =
    let not_one : eqb (suc (suc (length rs))) 1 ≡ false = grind (arith, nat_tests) in
    let less : suc (suc (length rs)) - 2 ≡ length rs = omega arith in
    ap (λ (b : Bool). bytes_eq (flags (q ∷ r ∷ rs)) (cond b (3 ∷ [])
    ((1 ∷ zeros (suc (suc (length rs)) - 2)) ++ (2 ∷ [])))) not_one
    ∙ ap (λ n. bytes_eq (flags (q ∷ r ∷ rs)) ((1 ∷ zeros n) ++ (2 ∷ []))) less

not_file_of_several : (q r : Good) (rs : List Good) → eqb q.flags 1 ≡ false → is_file (q ∷ r ∷ rs) ≡ false
unfolding is_file
not_file_of_several q r rs h =
    let stretch = q ∷ r ∷ rs in
    ap (λ (b : Bool). (((b && are_counted_on (counts stretch)) && leb (length stretch) most_file_bodies) && leb 10
    (size_of stretch)) && leb (size_of stretch) most_file_bytes)
    (several_flags q r rs ∙ ap (λ (b : Bool). b && end_with_two r rs) h)

not_file_of_one : (q : Good) → (eqb q.flags 2 && true) ≡ true → is_file (q ∷ []) ≡ false
not_file_of_one q h =
    let two = and_left (eqb q.flags 2) true h in
    let other : eqb q.flags 3 ≡ false = grind (arith, nat_tests, two) in
    is_file-one q ∙ ap (λ (b : Bool). (b && leb 10 (length q.body)) && leb (length q.body) most_file_bytes) other

-- after the first packet of a file no other begins
none_files : (q : Good) (qs : List Good) → end_with_two q qs ≡ true → filter is_file (last_stretches (q ∷ qs)) ≡ []
none_files q [] h = rw (not_file_of_one q h) refl
none_files q (r ∷ rs) h =
    rw (not_file_of_several q r rs (begun_by_one q (and_left _ _ h))) (none_files r rs (and_right _ _ h))

none_behind : (q : Good) (qs : List Good) → is_file (q ∷ qs) ≡ true → filter is_file (last_stretches qs) ≡ []
unfolding is_file
none_behind q [] h = refl
none_behind q (r ∷ rs) h =
    none_files r rs (and_right (eqb q.flags 1) (end_with_two r rs)
    (sym (several_flags q r rs) ∙ and_left _ _ (and_left _ _ (and_left _ _ (and_left _ _ h)))))

one_file : (q : Good) (qs : List Good) (o : Bool) → is_file (q ∷ qs) ≡ o →
    length (filter is_file (last_stretches qs)) ≤ 1 → length (filter is_file (last_stretches (q ∷ qs))) ≤ 1
one_file q qs true o h = rw (o, none_behind q qs o) (omega arith)
one_file q qs false o h = rw o h

-- of the stretches that end with the same packet at most one is a file
pub length-files-le-one : (packets : List Good) → length (filter is_file (last_stretches packets)) ≤ 1
length-files-le-one [] = omega arith
length-files-le-one (q ∷ qs) = one_file q qs (is_file (q ∷ qs)) refl (length-files-le-one qs)
