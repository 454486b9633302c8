use Rattle.std.proofs.Common.{length, ◌∙◌, refl, arith}
use Rattle.lr_rice.specs.CodedLines.{form_of}
use Rattle.lr_rice_coder.specs.Laws.{IsRow}
use Rattle.lr_rice_coder.proofs.LawLemmas.{block-even, block-most, block-wide, places_are}
use Rattle.lr_rice_coder.proofs.line.line_bytes.Goals as goal

pub write_line-requires : goal.write_line-requires
write_line-requires c =
    let samples = c.args.samples.now in
    let form = form_of c.args.bits c.args.block (length samples) in
    let row : IsRow form samples = record {
      codable = record { least_bits = c.requires.bits.0; most_bits = c.requires.bits.1; block = c.requires.block };
      columns = refl;
      small = c.requires.small;
    } in
    let wide = block-wide form row.codable in
    record {
      form = record {
        least_bits = c.requires.bits.0;
        most_bits = c.requires.bits.1;
        least_block = omega (arith, wide);
        most_block = block-most form row.codable;
        even = block-even form row.codable;
        some = c.requires.columns.0;
      };
      few = c.requires.columns.1;
      reference = omega (arith, c.from.ensures, c.requires.small 0 0 c.requires.columns.0);
      places = places_are form samples c.deref.result.now row c.requires.columns.0
          (c.deref.ensures.value ∙ c.in_ok-places.ensures);
    }
