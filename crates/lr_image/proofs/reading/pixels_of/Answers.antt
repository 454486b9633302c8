use Rattle.lr_image.proofs.reading.pixels_of.Goals as goal

pub returns-in-Some-clause-ok : goal.returns-in-Some-clause-ok
returns-in-Some-clause-ok c = rw c.in-Some.is c.coded_pixels.ensures.ok
