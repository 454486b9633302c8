use Rattle.std.proofs.Common.{◌≡◌, ◌*◌, None, length, ap, refl, subst, sym, arith, rules}
use Rattle.lr_image.specs.declared.fault.ImageFault.TheVariants.{Short}
use Rattle.lr_image.specs.Images.{HasImageFault, IsImageOf}
use Rattle.lr_bits.specs.File.{File}
use Rattle.lr_render.specs.Plans.{PlanView, planned_strips}
use Rattle.lr_render.specs.Tiling.{strips_of}
use Rattle.lr_render.proofs.Planning.{is_image, is_picture, known_fault, short_is}
use Rattle.lr_render.proofs.plan.Plan.finish.Goals as goal

pub whole_image-requires : goal.whole_image-requires
whole_image-requires c =
    let in' = c.self.inside in
    let all : in'.keeping.strips ≡ length (strips_of in'.file in'.layout) =
    subst (λ (v : PlanView). v.kept ≡ length (planned_strips v)) (sym c.self.view_is) c.requires in
    let none : in'.keeping.fault ≡ None = search rules in
    rw (c.from-columns.ensures, c.from-all.ensures)
    (is_picture c.self.invariant all none (omega (arith, c.from-all.ensures, c.if-lines-all.false)))

pub returns : goal.returns
returns c =
    let in' = c.self.inside in
    let all : in'.keeping.strips ≡ length (strips_of in'.file in'.layout) =
    subst (λ (v : PlanView). v.kept ≡ length (planned_strips v)) (sym c.self.view_is) c.requires in
    let none : in'.keeping.fault ≡ None = search rules in
    subst (λ (f : File). IsImageOf f c.whole_image.result) (ap (λ (v : PlanView). v.file) c.self.view_is)
    (rw c.whole_image.ensures
    (is_image c.self.invariant all none (omega (arith, c.from-all.ensures, c.if-lines-all.false)) c.from-columns.result
    c.from-all.result c.from-columns.ensures c.from-all.ensures))

pub returns-in-Some : goal.returns-in-Some
returns-in-Some c =
    subst (λ (f : File). HasImageFault f c.in-Some.fault) (ap (λ (v : PlanView). v.file) c.self.view_is)
    (known_fault c.self.invariant c.in-Some.fault c.in-Some.is)

pub returns-then-lines-all : goal.returns-then-lines-all
returns-then-lines-all c =
    let in' = c.self.inside in
    let all : in'.keeping.strips ≡ length (strips_of in'.file in'.layout) =
    subst (λ (v : PlanView). v.kept ≡ length (planned_strips v)) (sym c.self.view_is) c.requires in
    let none : in'.keeping.fault ≡ None = search rules in
    let count = c.from.result * c.from-then-lines-all.result in
    subst (λ (f : File). HasImageFault f (Short count)) (ap (λ (v : PlanView). v.file) c.self.view_is)
    (short_is c.self.invariant all none (omega (arith, c.from-all.ensures, c.if-lines-all.true)) count
    (rw (c.from.ensures, c.from-then-lines-all.ensures, c.from-columns.ensures) refl))
