use Rattle.lr_render.proofs.Steps.{fewer_left}
use Rattle.lr_render.proofs.alone.keep_all.Goals as goal

pub loop-strip-smaller : goal.loop-strip-smaller
loop-strip-smaller c =
    let gives = rw c.in-Some.is at c.in_ok-strip.ensures.ok in
    fewer_left c.loop-strip.plan c.next_strip.new.self c.keep.new.self c.in-Some.strip gives.0 gives.1
    c.in_ok-keep.ensures.ok
