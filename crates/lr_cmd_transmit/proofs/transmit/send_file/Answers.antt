use Rattle.std.proofs.Common.{◌≡◌, ◌++◌, ◌∷◌, [], ℕ, Result, Ok, Err, refl, sym, ◌∙◌, length}
use Rattle.lr_bits.specs.declared.sizes.TheConstants.{FILL_CHANNEL}
use Rattle.lr_cmd_shelf.proofs.Texts.{on_ok}
use Rattle.lr_uplink.specs.declared.uplink.UplinkFault.{UplinkFault}
use Rattle.lr_uplink.specs.declared.uplink.UplinkFault.TheVariants.{Fill}
use Rattle.lr_uplink.specs.Sent.{sent}
use Rattle.lr_cmd_transmit.specs.Standing.{history_at}
use Rattle.lr_cmd_transmit.proofs.Transmitting.{loaded_at, on_stop, puts_file, stops_file}
use Rattle.lr_cmd_transmit.proofs.transmit.send_file.Goals as goal

ok_or_fill : {A : Type 0} (a : A) → ◌≡◌ {A = Result A UplinkFault} (Ok a) (Err Fill) → ⊥
ok_or_fill a is = cc (is)

pub returns-in-Ok-clause-puts : goal.returns-in-Ok-clause-puts
returns-in-Ok-clause-puts g c = λ line files sends.
    let wrong = c.args.wrong in
    let file = c.args.file in
    let all : ℕ = length (sent files) in
    let other : file.vc ≡ FILL_CHANNEL → ⊥ =
    λ fill. ok_or_fill c.in-Ok.field-0 (sym c.in-Ok.is ∙ c.load.ensures.fill.1 fill) in
    let loaded = loaded_at line wrong files file c.load.new.self
    (c.in-Ok.ensures.loaded line (history_at wrong files all) sends refl) in
    on_ok c.put_frames.result
    (puts_file line wrong files file g.O.Sink c.args.out.now c.put_frames.new.out other)
    (c.put_frames.ensures.put line (files ++ file ∷ []) all loaded)

pub returns-in-Ok-clause-sent : goal.returns-in-Ok-clause-sent
returns-in-Ok-clause-sent g c = λ line files sends.
    let all : ℕ = length (sent files) in
    c.put_frames.ensures.sent line (files ++ c.args.file ∷ []) all
    (loaded_at line c.args.wrong files c.args.file c.load.new.self
    (c.in-Ok.ensures.loaded line (history_at c.args.wrong files all) sends refl))

pub returns-in-Ok-clause-stops : goal.returns-in-Ok-clause-stops
returns-in-Ok-clause-stops g c = λ line files sends.
    let wrong = c.args.wrong in
    let file = c.args.file in
    let all : ℕ = length (sent files) in
    let other : file.vc ≡ FILL_CHANNEL → ⊥ =
    λ fill. ok_or_fill c.in-Ok.field-0 (sym c.in-Ok.is ∙ c.load.ensures.fill.1 fill) in
    let loaded = loaded_at line wrong files file c.load.new.self
    (c.in-Ok.ensures.loaded line (history_at wrong files all) sends refl) in
    on_stop c.put_frames.result
    (stops_file line wrong files file g.O.Sink c.args.out.now c.put_frames.new.out other)
    c.put_frames.ensures.cause (c.put_frames.ensures.failed line (files ++ file ∷ []) all loaded)
    (c.put_frames.ensures.some line (files ++ file ∷ []) all loaded)

pub returns-in-Err-Fill-clause-channel : goal.returns-in-Err-Fill-clause-channel
returns-in-Err-Fill-clause-channel g c = λ fill. refl
