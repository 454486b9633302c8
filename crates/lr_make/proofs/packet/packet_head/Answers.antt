use Rattle.std.proofs.Common.{◌≡◌, ◌<◌, ◌+◌, ◌*◌, ◌/◌, ◌%◌, ℕ, List, [], ◌∷◌, arith, ◌^◌}
use Rattle.lr_bits.specs.declared.sizes.TheConstants.{FRAME_COUNTS, FRAME_SYMBOLS, SEQUENCE_COUNTS}
use Rattle.lr_make.specs.Packets.{head_with}
use Rattle.lr_make.proofs.packet.packet_head.Goals as goal

-- the six bytes, two for each pair of fields
head_bytes : (apid flags count one_less : ℕ) → apid < 2048 → flags < 4 → count < SEQUENCE_COUNTS → one_less < 65536 →
    ◌≡◌ {A = List ℕ} (apid / 256 ∷ apid % 256 ∷ (FRAME_SYMBOLS * flags + count) / 256 ∷
    (FRAME_SYMBOLS * flags + count) % 256
    ∷ one_less / 256 ∷ one_less % 256 ∷ []) (head_with apid flags count one_less)
unfolding head_with
head_bytes apid flags count one_less a f c l =
    let e0 : apid / 256 ≡ ((((0 + apid) * 4 + flags) * 16384 + count) * 65536 + one_less) / 1099511627776 % 256 =
    omega arith in
    let e1 : apid % 256 ≡ ((((0 + apid) * 4 + flags) * 16384 + count) * 65536 + one_less) / 2 ^ 32 % 256 =
    omega arith in
    let e2 : (FRAME_SYMBOLS * flags + count) / 256 ≡ ((((0 + apid) * 4 + flags) * 16384 + count) * 65536
    + one_less) / FRAME_COUNTS % 256 = omega arith in
    let e3 : (FRAME_SYMBOLS * flags + count) % 256 ≡ ((((0 + apid) * 4 + flags) * 16384 + count) * 65536
    + one_less) / 65536 % 256 = omega arith in
    let e4 : one_less / 256 ≡ ((((0 + apid) * 4 + flags) * 16384 + count) * 65536 + one_less) / 256 % 256 =
    omega arith in
    let e5 : one_less % 256 ≡ ((((0 + apid) * 4 + flags) * 16384 + count) * 65536 + one_less) % 256 = omega arith in
    cc

pub returns : goal.returns
returns c =
    head_bytes c.args.apid c.args.flags c.args.count c.args.length c.requires.apid c.requires.flags c.requires.count
    (omega arith)
