-- A file is coded anew in one way, or has one first refusal, and not both.
use Rattle.std.proofs.Common.{◌≡◌, ℕ, ◌+◌, ◌*◌, ◌<◌, ◌≤◌, List, [], ◌∷◌, length, Result, Ok, Err}
use Rattle.std.proofs.Common.{refl, sym, ap, ◌∙◌, subst, arith, inl, inr, length-append}
use Rattle.std.specs.List.{AllZip, concat}
use Rattle.std.proofs.lemmas.Bool.{cases_lt}
use Rattle.lr_bits.specs.File.{File, IsFile, counter_of, proper_of}
use Rattle.lr_bits.specs.Sizes.{most_body_bytes, most_file_bytes}
use Rattle.lr_bits.specs.Written.{transport_header}
use Rattle.lr_headers.specs.Tiling.{Header}
use Rattle.lr_headers.proofs.Tilings.{headers_are_one}
use Rattle.lr_rice.specs.CodedLines.{Form}
use Rattle.lr_image.specs.Picture.{Picture}
use Rattle.lr_image.specs.Images.{HasImageFault, IsImageOf}
use Rattle.lr_image.specs.declared.fault.ImageFault.{ImageFault}
use Rattle.lr_image.proofs.OneReading.{outcomes_are_one}
use Rattle.lr_rice_coder.specs.Coded.{IsCodedLine}
use Rattle.lr_rice_coder.specs.Laws.{RepacksAreOne}
use Rattle.lr_rice_coder.specs.Refusals.{AreShort, HasLongLine, HasLongLineAt, HasRepackFault}
use Rattle.lr_rice_coder.specs.Repacked.{AreCodedLines, IsRepacked, IsSource, file_size, first_body, first_size}
use Rattle.lr_rice_coder.specs.Repacked.{form_with, new_records, records_size, repacked_file, rows_of}
use Rattle.lr_rice_coder.specs.declared.fault.RepackFault.{RepackFault}
use Rattle.lr_rice_coder.specs.declared.fault.RepackFault.TheVariants as fault
use Rattle.lr_rice_coder.proofs.LawLemmas.{coded_lines_are_one}
use Rattle.lr_rice_coder.proofs.MakingLemmas.{lines_size, short_so_far}
use Rattle.lr_rice_coder.proofs.NewFiles.{new_size}

-- ---- one image, one header

pictures_one : (file : File) (p q : Picture) → IsImageOf file p → IsImageOf file q → p ≡ q
pictures_one file p q one other =
    let same : ◌≡◌ {A = Result Picture ImageFault} (Ok p) (Ok q) = outcomes_are_one file (Ok p) (Ok q) one other in
    cc

no_fault : {A : Type 0} (file : File) (p : Picture) (f : ImageFault) → IsImageOf file p → HasImageFault file f → A
no_fault file p f one other =
    let same : ◌≡◌ {A = Result Picture ImageFault} (Ok p) (Err f) = outcomes_are_one file (Ok p) (Err f) one other in
    absurd (cc)

-- ---- lines

lines_one : (form : Form) (rows lines others : List (List ℕ)) → AllZip (IsCodedLine form) rows lines
    → AllZip (IsCodedLine form) rows others → lines ≡ others
lines_one form [] [] [] one other = refl
lines_one form [] [] (b ∷ others) one other = absurd other
lines_one form [] (a ∷ lines) others one other = absurd one
lines_one form (row ∷ rows) [] others one other = absurd one
lines_one form (row ∷ rows) (a ∷ lines) [] one other = absurd other
lines_one form (row ∷ rows) (a ∷ lines) (b ∷ others) one other =
    ap (λ (l : List ℕ). l ∷ lines) (coded_lines_are_one form row a b one.0 other.0)
    ∙ ap (λ (l : List (List ℕ)). b ∷ l) (lines_one form rows lines others one.1 other.1)

-- the first long line is one
first_long : (picture : Picture) (block line other : ℕ) → HasLongLine picture block line
    → HasLongLine picture block other
    → line ≡ other
first_long picture block line other one two =
    elim (cases_lt line other) [
      | inl before ↦ absurd (two.first line before one.long)
      | inr after ↦ elim (cases_lt other line) [
        | inl before ↦ absurd (one.first other before two.long)
        | inr not_before ↦ omega arith
      ]
    ]

-- ---- what is known of a file that has come so far

-- where all lines of its image are short enough, no line is refused
no_long_line : {A : Type 0} (file : File) (block line : ℕ) (p : Picture) (header : Header) → IsSource file p header
    → AreShort p block p.lines → HasLongLineAt file block line → A
no_long_line file block line p header source short at =
    let same = pictures_one file at.picture p at.source.is_image source.is_image in
    let has : HasLongLine p block line = subst (λ (x : Picture). HasLongLine x block line) same at.has in
    absurd (short line has.inside has.long)

same_header : (file : File) (p q : Picture) (h k : Header) → IsSource file p h → IsSource file q k → h ≡ k
same_header file p q h k one other = headers_are_one (proper_of file) h k one.is_header other.is_header

deep_enough : {A : Type 0} (file : File) (p q : Picture) → IsImageOf file p → 5 ≤ p.bits → IsImageOf file q
    → q.bits < 5 → A
deep_enough file p q one deep other few =
    absurd (omega (arith, ap (λ (x : Picture). x.bits) (pictures_one file p q one other), deep, few))

-- the sizes of a file that is coded anew
body_size : (file : File) (header : Header) (picture : Picture) (block size : ℕ)
    → length (first_body file header picture block size) ≡ first_size header
body_size file header picture block size =
    omega (
      arith,
      length-append (transport_header (counter_of file) (8 * (records_size header + size)))
          (new_records header picture block (8 * size)),
      new_size header picture block (8 * size),
    )

fits_body : (file new : File) (block : ℕ) (re : IsRepacked file block new) → first_size re.header ≤ most_body_bytes
fits_body file new block re =
    let is_file = subst IsFile re.is_new re.is_file in
    let short = is_file.short 0 [] (omega arith) in
    omega (arith, short, body_size file re.header re.picture block (length (concat re.lines)))

fits_file : (file new : File) (block : ℕ) (re : IsRepacked file block new)
    → file_size re.header re.picture block ≤ most_file_bytes
fits_file file new block re =
    let is_file = subst IsFile re.is_new re.is_file in
    let body = first_body file re.header re.picture block (length (concat re.lines)) in
    omega (
      arith,
      is_file.most,
      length-append body (concat re.lines),
      body_size file re.header re.picture block (length (concat re.lines)),
      lines_size re.picture block re.lines re.coded,
    )

-- ---- both ways

news_one : (file new other : File) (block : ℕ) → IsRepacked file block new → IsRepacked file block other → new ≡ other
news_one file new other block re also =
    let p = re.picture in
    let q = also.picture in
    let same = pictures_one file p q re.source.is_image also.source.is_image in
    let header = same_header file p q re.header also.header re.source also.source in
    let coded : AreCodedLines q block re.lines =
    subst (λ (x : Picture). AreCodedLines x block re.lines) same re.coded in
    let lines = lines_one (form_with q block) (rows_of q) re.lines also.lines coded also.coded in
    re.is_new ∙ ap (λ (h : Header). repacked_file file h p block re.lines) header
    ∙ ap (λ (x : Picture). repacked_file file also.header x block re.lines) same
    ∙ ap (λ (l : List (List ℕ)). repacked_file file also.header q block l) lines ∙ sym also.is_new

-- a file that is coded anew has no refusal
not_both : {A : Type 0} (file new : File) (block : ℕ) (f : RepackFault) → IsRepacked file block new
    → HasRepackFault file block f → A
not_both file new block (fault.Image cause) re has = no_fault file re.picture cause re.source.is_image has
not_both file new block (fault.Depth bits) re has =
    deep_enough file re.picture has.picture re.source.is_image re.source.deep has.is_image has.few
not_both file new block (fault.Line line) re has =
    no_long_line file block line re.picture re.header re.source
    (short_so_far re.picture block re.picture.lines re.lines re.coded) has
not_both file new block (fault.Header size) re has =
    let same = same_header file re.picture has.picture re.header has.header re.source has.source in
    absurd (omega (arith, fits_body file new block re, has.long, has.size_is, ap first_size same))
not_both file new block (fault.File size) re has =
    let same = same_header file re.picture has.picture re.header has.header re.source has.source in
    let image = pictures_one file re.picture has.picture re.source.is_image has.source.is_image in
    absurd (omega (
      arith,
      fits_file file new block re,
      has.long,
      has.size_is,
      ap (λ (h : Header). file_size h re.picture block) same,
      ap (λ (x : Picture). file_size has.header x block) image,
    ))
not_both file new block fault.NoMemory re has = absurd has

refusals_one : (file : File) (block : ℕ) (f g : RepackFault) → HasRepackFault file block f → HasRepackFault file block g
    → f ≡ g
refusals_one file block fault.NoMemory g h k = absurd h
refusals_one file block f fault.NoMemory h k = absurd k
refusals_one file block (fault.Image a) (fault.Image b) h k =
    let same : ◌≡◌ {A = Result Picture ImageFault} (Err a) (Err b) = outcomes_are_one file (Err a) (Err b) h k in
    let one : a ≡ b = cc in
    ap fault.Image one
refusals_one file block (fault.Image a) (fault.Depth b) h k = no_fault file k.picture a k.is_image h
refusals_one file block (fault.Image a) (fault.Line b) h k = no_fault file k.picture a k.source.is_image h
refusals_one file block (fault.Image a) (fault.Header b) h k = no_fault file k.picture a k.source.is_image h
refusals_one file block (fault.Image a) (fault.File b) h k = no_fault file k.picture a k.source.is_image h
refusals_one file block (fault.Depth a) (fault.Image b) h k = no_fault file h.picture b h.is_image k
refusals_one file block (fault.Line a) (fault.Image b) h k = no_fault file h.picture b h.source.is_image k
refusals_one file block (fault.Header a) (fault.Image b) h k = no_fault file h.picture b h.source.is_image k
refusals_one file block (fault.File a) (fault.Image b) h k = no_fault file h.picture b h.source.is_image k
refusals_one file block (fault.Depth a) (fault.Depth b) h k =
    ap fault.Depth (h.are_bits
    ∙ ap (λ (x : Picture). x.bits) (pictures_one file h.picture k.picture h.is_image k.is_image)
    ∙ sym k.are_bits)
refusals_one file block (fault.Depth a) (fault.Line b) h k =
    deep_enough file k.picture h.picture k.source.is_image k.source.deep h.is_image h.few
refusals_one file block (fault.Depth a) (fault.Header b) h k =
    deep_enough file k.picture h.picture k.source.is_image k.source.deep h.is_image h.few
refusals_one file block (fault.Depth a) (fault.File b) h k =
    deep_enough file k.picture h.picture k.source.is_image k.source.deep h.is_image h.few
refusals_one file block (fault.Line a) (fault.Depth b) h k =
    deep_enough file h.picture k.picture h.source.is_image h.source.deep k.is_image k.few
refusals_one file block (fault.Header a) (fault.Depth b) h k =
    deep_enough file h.picture k.picture h.source.is_image h.source.deep k.is_image k.few
refusals_one file block (fault.File a) (fault.Depth b) h k =
    deep_enough file h.picture k.picture h.source.is_image h.source.deep k.is_image k.few
refusals_one file block (fault.Line a) (fault.Line b) h k =
    let same = pictures_one file h.picture k.picture h.source.is_image k.source.is_image in
    ap fault.Line (first_long k.picture block a b (subst (λ (x : Picture). HasLongLine x block a) same h.has) k.has)
refusals_one file block (fault.Line a) (fault.Header b) h k =
    no_long_line file block a k.picture k.header k.source k.short h
refusals_one file block (fault.Line a) (fault.File b) h k =
    no_long_line file block a k.picture k.header k.source k.short h
refusals_one file block (fault.Header a) (fault.Line b) h k =
    no_long_line file block b h.picture h.header h.source h.short k
refusals_one file block (fault.File a) (fault.Line b) h k =
    no_long_line file block b h.picture h.header h.source h.short k
refusals_one file block (fault.Header a) (fault.Header b) h k =
    let same = same_header file h.picture k.picture h.header k.header h.source k.source in
    ap fault.Header (h.size_is ∙ ap first_size same ∙ sym k.size_is)
refusals_one file block (fault.Header a) (fault.File b) h k =
    let same = same_header file h.picture k.picture h.header k.header h.source k.source in
    absurd (omega (arith, h.long, h.size_is, k.fits, ap first_size same))
refusals_one file block (fault.File a) (fault.Header b) h k =
    let same = same_header file h.picture k.picture h.header k.header h.source k.source in
    absurd (omega (arith, k.long, k.size_is, h.fits, ap first_size same))
refusals_one file block (fault.File a) (fault.File b) h k =
    let same = same_header file h.picture k.picture h.header k.header h.source k.source in
    let image = pictures_one file h.picture k.picture h.source.is_image k.source.is_image in
    ap fault.File (h.size_is ∙ ap (λ (x : Header). file_size x h.picture block) same
    ∙ ap (λ (x : Picture). file_size k.header x block) image ∙ sym k.size_is)

pub repacks_are_one : RepacksAreOne
repacks_are_one file block (Ok new) (Ok other) h k = ap (λ (f : File). Ok f) (news_one file new other block h k)
repacks_are_one file block (Ok new) (Err f) h k = not_both file new block f h k
repacks_are_one file block (Err f) (Ok new) h k = not_both file new block f k h
repacks_are_one file block (Err f) (Err g) h k = ap (λ (x : RepackFault). Err x) (refusals_one file block f g h k)
