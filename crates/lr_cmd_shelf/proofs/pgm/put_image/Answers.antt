use Rattle.std.proofs.Common.{◌≡◌, ◌++◌}
use Rattle.std.specs.List.{flat_map}
use Rattle.lr_image.specs.Pgm.{pgm_text, pixel_bytes, rows_bytes}
use Rattle.lr_cmd_shelf.proofs.Exporting.{head_and_rest, pgm_some, text_of}
use Rattle.lr_causes.proofs.Joining.{puts_both, fails_after, fails_before}
use Rattle.lr_cmd_shelf.proofs.Texts.{on_ok, on_failed, always_failed}
use Rattle.lr_cmd_shelf.proofs.pgm.put_image.Goals as goal
use Rattle.lr_cmd_shelf.proofs.pgm.put_image.Goals.{After-bits}

pub returns-in-Err-clause-failed : goal.returns-in-Err-clause-failed
returns-in-Err-clause-failed g c =
    rw (← head_and_rest c.args.image.now c.args.head.now c.requires)
    (fails_before g.O.Sink c.args.head.now (rows_bytes c.args.image.now) c.args.out.now c.put_text.new.out
    c.in-Err.ensures.failed)

pub returns-in-Err-clause-some : goal.returns-in-Err-clause-some
returns-in-Err-clause-some g c = pgm_some c.args.image.now

-- the head and the pixels are the whole text
text_is : (g : _) (c : After-bits g)
    → c.args.head.now ++ flat_map (pixel_bytes c.bits.result) c.pixels.result.now ≡ pgm_text c.args.image.now
text_is g c =
    text_of c.args.image.now c.args.head.now c.pixels.result.now c.bits.result c.bits.ensures.picture c.requires
    c.pixels.ensures.value c.bits.ensures.value

pub returns-clause-put : goal.returns-clause-put
returns-clause-put g c =
    rw (← text_is g (goal.at.returns-clause-put g c).After-bits)
    (on_ok c.put_pixels.result
    (puts_both g.O.Sink c.args.head.now (flat_map (pixel_bytes c.bits.result) c.pixels.result.now) c.args.out.now
    c.put_text.new.out c.put_pixels.new.out c.in_default.ensures.put)
    c.put_pixels.ensures.put)

pub returns-clause-failed : goal.returns-clause-failed
returns-clause-failed g c =
    rw (← text_is g (goal.at.returns-clause-failed g c).After-bits)
    (on_failed c.put_pixels.result
    (fails_after g.O.Sink c.args.head.now (flat_map (pixel_bytes c.bits.result) c.pixels.result.now) c.args.out.now
    c.put_text.new.out c.put_pixels.new.out c.in_default.ensures.put)
    c.put_pixels.ensures.failed)

pub returns-clause-some : goal.returns-clause-some
returns-clause-some g c = always_failed c.put_pixels.result (pgm_some c.args.image.now)
