use Rattle.std.proofs.Common.{◌≡◌, ◌*◌, ℕ, false, replicate, ap, ◌∙◌, refl, rules, arith}
use Rattle.lr_segment.proofs.CanvasLemmas.{new_canvas, no_members}
use Rattle.lr_segment.proofs.assembly.Assembly.new.Goals as goal

pub invariant_of-result : goal.invariant_of-result
invariant_of-result c =
    let s = c.args.segment.now in
    let size : c.from.result * c.from-2.result ≡ s.columns * s.lines = rw (c.from.ensures, c.from-2.ensures) refl in
    let noted : c.in-Ok-vec.covered.items ≡ replicate (c.from.result * c.from-2.result) false = search rules in
    new_canvas c.args.bits s.columns s.lines c.in-Ok.pixels c.in-Ok-vec.covered.items c.requires.0 c.requires.1
    c.in_default.ensures.some c.in_default.ensures.few
    (c.in-Ok.ensures ∙ ap (λ (n : ℕ). replicate n 0) size) (noted ∙ ap (λ (n : ℕ). replicate n false) size)

pub returns-clause-stands : goal.returns-clause-stands
returns-clause-stands c =
    let s = c.args.segment.now in
    let size : c.from.result * c.from-2.result ≡ s.columns * s.lines = rw (c.from.ensures, c.from-2.ensures) refl in
    let noted : c.in-Ok-vec.covered.items ≡ replicate (c.from.result * c.from-2.result) false = search rules in
    no_members c.args.bits s.columns s.lines c.in-Ok.pixels c.in-Ok-vec.covered.items
    (c.in-Ok.ensures ∙ ap (λ (n : ℕ). replicate n 0) size) (noted ∙ ap (λ (n : ℕ). replicate n false) size)

pub returns-in-Some-clause-first : goal.returns-in-Some-clause-first
returns-in-Some-clause-first c = search (rules, arith)
