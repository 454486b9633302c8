use Rattle.std.proofs.Common.{◌≡◌, ℕ, ◌<◌, ◌∙◌, sym, slice_index, take}
use Rattle.lr_rs.specs.Words.{IsWord, IsCodeword}
use Rattle.lr_rs.proofs.CheckBytes.{encoded_is_codeword, encoded_is_only, encoded_is_word, begins_with}
use Rattle.lr_rs.proofs.encoding.encode.Goals as goal
use Rattle.lr_rs.specs.declared.sizes.TheConstants.{INFORMATION_BYTES}

begins : (c : goal.After-put_check) → (i : ℕ) → i < INFORMATION_BYTES → slice_index c.put_check.new.word i
    ≡ slice_index c.args.information.now i
begins c i h = c.put_check.ensures.kept i h ∙ c.put_information.ensures.begins i h

starts : (c : goal.After-put_check) → take INFORMATION_BYTES c.put_check.new.word ≡ c.args.information.now
starts c = begins_with c.args.information.now c.put_check.new.word c.told-information c.put_check.array_long (begins c)

word : (c : goal.After-put_check) → IsWord c.put_check.new.word
word c =
    encoded_is_word c.args.information.now c.put_check.new.word c.put_check.array_long c.fits-information
    (begins c) c.put_check.ensures.bytes

codeword : (c : goal.After-put_check) → IsCodeword c.put_check.new.word
codeword c =
    encoded_is_codeword c.put_information.new.word c.put_check.new.word c.remainder_of.new.remainder
    c.remainder_of.ensures.remainder
    (record {
      kept = c.put_check.ensures.kept;
      zeros = c.put_information.ensures.zeros;
      check =
          c.put_check.ensures.check;
    })

pub returns-clause-begins : goal.returns-clause-begins
returns-clause-begins c = starts c

pub returns-clause-word : goal.returns-clause-word
returns-clause-word c = word c

pub returns-clause-codeword : goal.returns-clause-codeword
returns-clause-codeword c = codeword c

pub returns-clause-only : goal.returns-clause-only
returns-clause-only c c' p f e = encoded_is_only c' c.put_check.new.word p (word c) f (codeword c) (e ∙ sym (starts c))
