use Rattle.std.proofs.Common.{◌≡◌, ◌==◌, not, ℕ, [], rules, refl, sym, ap, subst}
use Rattle.std.proofs.lemmas.Result.{err_from_is_err_and}
use Rattle.lr_layers.specs.Standing.{MendingLayersStandFor}
use Rattle.lr_cmd_receive.proofs.Taking.{shelver_begun, shelver_ready, read_all, read_some}
use Rattle.lr_cmd_receive.proofs.reception.receive_all.Goals as goal

pub read-requires : goal.read-requires
read-requires g c =
    let ready = c.requires.ready in
    let kept = c.mending-layers.result in
    let most = c.mending-layers.ensures.most in
    let stands : MendingLayersStandFor kept.files.images.most kept [] =
    subst (λ (n : ℕ). MendingLayersStandFor n kept []) (sym most) c.mending-layers.ensures in
    let counted = c.counts.ensures.value in
    let mends : not (c.args.mend == 0) ≡ not (kept.files.images.most == 0) =
    ap (λ (n : ℕ). not (n == 0)) (sym most) in
    search (rules, shelver_ready)

pub returns-in_err-totals-clause-some : goal.returns-in_err-totals-clause-some
returns-in_err-totals-clause-some g c input workers limit leads =
    let p = err_from_is_err_and c.from_residual.result c.from_residual.ensures.1 in
    let kept = c.mending-layers.result in
    let most = c.mending-layers.ensures.most in
    let begun = shelver_begun g.D.Disk g.O.Sink _
    (subst (λ (n : ℕ). MendingLayersStandFor n kept []) (sym most) c.mending-layers.ensures) c.counts.ensures.value
    (ap (λ (n : ℕ). not (n == 0)) (sym most)) in
    let some = leads _ _ _ _ _ c.in_err-totals.ensures in
    let stopped = some.stops _ begun in
    let same_disk = stopped.on_same.same_disk in
    let same_out = stopped.on_same.same_out in
    let received = read_some g.S.Source g.D.Disk g.O.Sink input limit begun c.args.mend most workers _ some in
    rw (p.1, p.2) (search rules)

pub returns-clause-all : goal.returns-clause-all
returns-clause-all g c input workers limit leads =
    let kept = c.mending-layers.result in
    let most = c.mending-layers.ensures.most in
    let begun = shelver_begun g.D.Disk g.O.Sink _
    (subst (λ (n : ℕ). MendingLayersStandFor n kept []) (sym most) c.mending-layers.ensures) c.counts.ensures.value
    (ap (λ (n : ℕ). not (n == 0)) (sym most)) in
    let all = leads _ _ _ _ _ c.in_ok-totals.ensures in
    let took = all.taken _ begun in
    let same_shelf = took.on_same.same_shelf in
    let same_disk = took.on_same.same_disk in
    let same_out = took.on_same.same_out in
    let received = read_all g.S.Source g.D.Disk g.O.Sink input limit begun c.args.mend most workers
    (record { totals = c.in_ok-totals.totals; counts = _ }) all refl in
    search rules
